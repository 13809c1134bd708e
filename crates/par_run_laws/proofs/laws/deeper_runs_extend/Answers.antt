use Rattle.par_run_laws.proofs.Longer as longer
use Rattle.par_run_laws.proofs.laws.deeper_runs_extend.Goals as goal

pub returns : goal.returns
returns c = longer.deeper_runs_extend
