use Rattle.std.proofs.Common.{◌∙◌, sym, ap}
use Rattle.par_single.proofs.Following.{follow, ends, behind_of, behind-before}
use Rattle.par_single.specs.Descriptors.{kind_of, kinds_at}
use Rattle.par_single.proofs.descriptor.behind_kinds.Goals as goal

pub loop-behind-smaller : goal.loop-behind-smaller
loop-behind-smaller c =
    (follow c.loop-behind.rest.now
    (kind_of c.in-Some.field-0-0) c.in-Some.behind.now c.in-Some.ensures.found).shorter

pub loop-behind-preserved : goal.loop-behind-preserved
loop-behind-preserved c =
    let next =
    follow c.loop-behind.rest.now
    (kind_of c.in-Some.field-0-0) c.in-Some.behind.now c.in-Some.ensures.found in
    sym (ap behind_of next.kinds
    ∙ behind-before (kind_of c.in-Some.field-0-0) (kinds_at c.in-Some.behind.now))
    ∙ c.loop-behind.invariant

pub returns : goal.returns
returns c =
    c.behind_end.ensures
    ∙ sym (ap behind_of (ends c.loop-behind.rest.now c.in_default.ensures.found))
    ∙ c.loop-behind.invariant
