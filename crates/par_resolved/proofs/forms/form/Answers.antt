use Rattle.par_resolved.proofs.Normal.{one_normal}
use Rattle.par_resolved.proofs.forms.form.Goals as goal

pub returns : goal.returns
returns c = one_normal _ _ c.in_ok-policy.ensures.normal c.in_ok-policy.ensures.alike
