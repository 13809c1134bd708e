use Rattle.par_resolved.proofs.Normal.{one_join}
use Rattle.par_resolved.proofs.forms.front.Goals as goal

pub returns-clause-whole : goal.returns-clause-whole
returns-clause-whole c = λ few.
    one_join _ _ _ c.in_ok-policy.ensures.normal (c.in_ok-policy.ensures.whole few)
