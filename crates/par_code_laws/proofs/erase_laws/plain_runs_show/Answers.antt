use Rattle.par_code_laws.proofs.ErasedRuns as whole
use Rattle.par_code_laws.proofs.erase_laws.plain_runs_show.Goals as goal

pub returns : goal.returns
returns c = whole.plain_runs_show
