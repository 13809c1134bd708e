use Rattle.par_inputs.proofs.Standing.{IsFrom-line_of_entry}
use Rattle.par_inputs.proofs.laws.entries_stand_on_their_lines.Goals as goal

pub returns : goal.returns
returns c = IsFrom-line_of_entry
