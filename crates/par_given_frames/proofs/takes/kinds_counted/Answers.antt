use Rattle.std.proofs.Common.{sym, ap, arith, ◌∙◌}
use Rattle.par_single.specs.Descriptors.{kind_of, kinds_at}
use Rattle.par_single.proofs.Following.{follow, ends}
use Rattle.par_given_frames.proofs.Taking.{joined_many, joined-one, joined-last}
use Rattle.par_given_frames.proofs.takes.kinds_counted.Goals as goal

pub loop-behind-smaller : goal.loop-behind-smaller
loop-behind-smaller c =
    (follow c.loop-behind.rest.now
    (kind_of c.in-Some.field-0-0) c.in-Some.behind.now c.in-Some.ensures.found).shorter

pub loop-behind-preserved : goal.loop-behind-preserved
loop-behind-preserved c =
    let many = c.loop-behind.many in
    let kind = kind_of c.in-Some.field-0-0 in
    let behind = c.in-Some.behind.now in
    let next = follow c.loop-behind.rest.now kind behind c.in-Some.ensures.found in (
      sym (joined-one many kind (kinds_at behind)) ∙ ap (joined_many many) (sym next.kinds)
          ∙ c.loop-behind.invariant.0,
      omega (arith, next.shorter, c.loop-behind.invariant.1),
    )

pub returns-clause-many : goal.returns-clause-many
returns-clause-many c =
    joined-last c.loop-behind.many c.loop-behind.rest.now (kinds_at c.args.text.now)
    (ap (joined_many c.loop-behind.many)
    (sym (ends c.loop-behind.rest.now c.in_default.ensures.found)) ∙ c.loop-behind.invariant.0)
