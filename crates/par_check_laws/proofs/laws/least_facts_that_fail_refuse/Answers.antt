use Rattle.par_check_laws.proofs.Failed.{fail_refuse}
use Rattle.par_check_laws.proofs.laws.least_facts_that_fail_refuse.Goals as goal

pub returns : goal.returns
returns c = fail_refuse
