use Rattle.par_file_run_laws.proofs.Start.{begins}
use Rattle.par_file_run_laws.proofs.layout_laws.states_begin_alike.Goals as goal

pub returns : goal.returns
returns c = begins
