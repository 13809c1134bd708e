use Rattle.par_file_run_laws.proofs.Placed.{code_is_placed}
use Rattle.par_file_run_laws.proofs.layout_laws.code_is_placed.Goals as goal

pub returns : goal.returns
returns c = code_is_placed
