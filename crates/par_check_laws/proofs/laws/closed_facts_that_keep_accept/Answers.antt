use Rattle.par_check_laws.proofs.Kept.{keep_accept}
use Rattle.par_check_laws.proofs.laws.closed_facts_that_keep_accept.Goals as goal

pub returns : goal.returns
returns c = keep_accept
