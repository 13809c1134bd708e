use Rattle.par_match_laws.proofs.Bridge.{turn-same}
use Rattle.par_match_laws.proofs.engine_laws.files_turn_as_a_program.Goals as goal

pub returns : goal.returns
returns c = turn-same
