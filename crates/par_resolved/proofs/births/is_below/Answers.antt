use Rattle.par_typed.proofs.par_policy.Seen.{same_tests}
use Rattle.par_typed.proofs.par_policy.Below.{below_iff}
use Rattle.par_resolved.specs.Births.{is_below}
use Rattle.par_resolved.proofs.births.is_below.Goals as goal

pub returns : goal.returns
returns c =
    let iff = below_iff c.args.p.now c.args.q.now in
    same_tests c.leq.result (is_below c.args.p.now c.args.q.now) (λ h. iff.1 (c.leq.ensures.0 h))
    (λ h. c.leq.ensures.1 (iff.0 h))
