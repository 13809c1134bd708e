use Rattle.par_instr.proofs.Standing.{decoded_stands}
use Rattle.par_instr.proofs.laws.decoded_is_what_stands.Goals as goal

pub returns : goal.returns
returns c = decoded_stands
