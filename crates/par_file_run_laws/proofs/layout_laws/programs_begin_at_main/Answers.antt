use Rattle.par_file_run_laws.proofs.Begun.{begins_at_main}
use Rattle.par_file_run_laws.proofs.layout_laws.programs_begin_at_main.Goals as goal

pub returns : goal.returns
returns c = begins_at_main
