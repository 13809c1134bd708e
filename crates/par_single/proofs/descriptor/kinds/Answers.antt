use Rattle.std.proofs.Common.{◌≡◌, List, Option, arith, sym, ap, subst, ◌∙◌}
use Rattle.std.specs.Prelude.{IfSome}
use Rattle.par_values.specs.declared.kind.Kind.{Kind}
use Rattle.std.proofs.lemmas.Grind.{common_steps}
use Rattle.par_single.proofs.Following.{follow, ends, joined, joined-before, joined-no_kinds}
use Rattle.par_single.specs.Descriptors.{Text, kind_of, no_kinds, kinds_at}
use Rattle.par_single.proofs.descriptor.kinds.Goals as goal

pub loop-said-smaller : goal.loop-said-smaller
loop-said-smaller c =
    (follow c.loop-said.rest.now
    (kind_of c.in-Some.said) c.in-Some.behind.now c.in-Some.ensures.found).shorter

pub loop-said-preserved : goal.loop-said-preserved
loop-said-preserved c =
    let next =
    follow c.loop-said.rest.now (kind_of c.in-Some.said) c.in-Some.behind.now
    c.in-Some.ensures.found in
    grind (
      arith,
      common_steps,
      ap (joined c.loop-said.kinds) next.kinds,
      joined-before c.loop-said.kinds (kind_of c.in-Some.said) (kinds_at c.in-Some.behind.now),
      c.loop-said.invariant,
      c.in_ok-to_kind.ensures,
      c.in_ok-push.ensures.ok,
    )

pub returns : goal.returns
returns c =
    let kinds = c.loop-said.kinds in
    let all : joined kinds (no_kinds c.loop-said.rest.now) ≡ kinds_at c.args.text.now =
    ap (joined kinds) (sym (ends c.loop-said.rest.now c.in_default.ensures.found))
    ∙ c.loop-said.invariant in
    subst (λ (o : Option (List Kind × Text)). IfSome o (λ found. kinds ≡ found.0)) all
    (joined-no_kinds kinds c.loop-said.rest.now)
