use Rattle.par_place.proofs.Standing.{placed_stand}
use Rattle.par_place.proofs.laws.placed_instructions_stand.Goals as goal

pub returns : goal.returns
returns c = placed_stand
