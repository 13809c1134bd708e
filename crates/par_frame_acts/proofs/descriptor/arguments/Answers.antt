use Rattle.std.proofs.Common.{◌≡◌, List, Option, map, sym, ap, subst, ◌∙◌}
use Rattle.std.specs.Prelude.{IfSome}
use Rattle.par_values.specs.declared.kind.Kind.{Kind}
use Rattle.par_single.proofs.Following.{follow, ends, joined, joined-before, joined-no_kinds}
use Rattle.par_single.specs.Descriptors.{Text, kind_of, no_kinds, kinds_at}
use Rattle.par_frame_steps.specs.Marks.{asked_of}
use Rattle.par_frame_acts.proofs.Arguments.{joined-more}
use Rattle.par_frame_acts.proofs.descriptor.arguments.Goals as goal

pub loop-said-smaller : goal.loop-said-smaller
loop-said-smaller c =
    (follow c.loop-said.rest.now
    (kind_of c.in-Some.said) c.in-Some.behind.now c.in-Some.ensures.found).shorter

pub loop-said-preserved : goal.loop-said-preserved
loop-said-preserved c =
    let kinds = map asked_of c.loop-said.all.items in
    let kind = kind_of c.in-Some.said in
    let behind = kinds_at c.in-Some.behind.now in
    let next =
    follow c.loop-said.rest.now kind c.in-Some.behind.now c.in-Some.ensures.found in
    joined-more c.loop-said.all.items _ _ kind behind c.in_ok-push.ensures.items c.asked.ensures
    ∙ sym (joined-before kinds kind behind) ∙ ap (joined kinds) (sym next.kinds)
    ∙ c.loop-said.invariant

pub returns : goal.returns
returns c =
    let kinds = map asked_of c.loop-said.all.items in
    let all : joined kinds (no_kinds c.loop-said.rest.now) ≡ kinds_at c.args.text.now =
    ap (joined kinds) (sym (ends c.loop-said.rest.now c.in_default.ensures.found))
    ∙ c.loop-said.invariant in
    subst (λ (o : Option (List Kind × Text)). IfSome o (λ found. kinds ≡ found.0)) all
    (joined-no_kinds kinds c.loop-said.rest.now)
