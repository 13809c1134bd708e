use Rattle.par_match_laws.proofs.Bridge.{run-same}
use Rattle.par_match_laws.proofs.engine_laws.files_run_as_a_program.Goals as goal

pub returns : goal.returns
returns c = run-same
