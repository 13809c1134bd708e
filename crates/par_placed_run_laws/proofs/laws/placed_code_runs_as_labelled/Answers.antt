use Rattle.par_placed_run_laws.proofs.Runs.{placed_runs}
use Rattle.par_placed_run_laws.proofs.laws.placed_code_runs_as_labelled.Goals as goal

pub returns : goal.returns
returns c = placed_runs
