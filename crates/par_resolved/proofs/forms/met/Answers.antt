use Rattle.par_resolved.proofs.Normal.{one_meet}
use Rattle.par_resolved.proofs.forms.met.Goals as goal

pub returns : goal.returns
returns c = one_meet _ _ _ c.in_ok-policy.ensures.normal c.in_ok-policy.ensures.seen
