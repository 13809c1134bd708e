use Rattle.par_run_laws.proofs.Longer as longer
use Rattle.par_run_laws.proofs.laws.source_runs_extend.Goals as goal

pub returns : goal.returns
returns c = longer.source_runs_extend c.args.program.now
