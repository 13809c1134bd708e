use Rattle.std.proofs.Common.{◌∙◌, sym}
use Rattle.par_resolved.specs.Numbered.{same_policy}
use Rattle.par_limits.proofs.Alike.{any_here, any_later, any_none}
use Rattle.par_limits.proofs.same.is_there.Goals as goal

pub returns-then-same_policy : goal.returns-then-same_policy
returns-then-same_policy c =
    any_here (λ f. same_policy c.args.policy.now f.policy) c.args.found.now c.loop-entry.entry-index
    c.entry-item.result _ c.loop-entry-test.true c.entry-item.is
    (sym c.same_policy.ensures ∙ c.if-same_policy.true) c.loop-entry.invariant

pub loop-entry-preserved : goal.loop-entry-preserved
loop-entry-preserved c =
    any_later (λ f. same_policy c.args.policy.now f.policy) c.args.found.now
    c.loop-entry.entry-index c.entry-item.result _ c.loop-entry-test.true c.entry-item.is
    (sym c.same_policy.ensures ∙ c.if-same_policy.false) c.loop-entry.invariant

pub returns : goal.returns
returns c =
    any_none (λ f. same_policy c.args.policy.now f.policy) c.args.found.now c.loop-entry.entry-index
    _ c.loop-entry-test.false c.loop-entry.invariant
