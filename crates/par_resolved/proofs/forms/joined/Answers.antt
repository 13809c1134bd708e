use Rattle.par_resolved.proofs.Normal.{one_join}
use Rattle.par_resolved.proofs.forms.joined.Goals as goal

pub returns : goal.returns
returns c = one_join _ _ _ c.in_ok-policy.ensures.normal c.in_ok-policy.ensures.seen
