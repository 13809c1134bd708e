use Rattle.std.proofs.Common.{◌≡◌, sym, arith, ap, ◌∙◌, subst, length}
use Rattle.par_nodes.specs.Seen.{seen_kind}
use Rattle.par_pass_laws.specs.par_except.Joins.{join}
use Rattle.par_pass_laws.specs.par_except.Seen.{seen}
use Rattle.par_ways.specs.Places.{IsPlace, HasNoPlace}
use Rattle.par_ways.specs.Seen.{seen_exits, AreWide}
use Rattle.par_ways.proofs.Lists.{no_place_add, place_add, place_within, same_read}
use Rattle.par_ways.proofs.exits.add.Goals as goal

pub index-requires : goal.index-requires
index-requires c =
    let n =
    place_within (seen_kind c.args.exit.kind) c.deref.result.now c.in-Some.place
    c.in-Some.ensures in omega (arith, ap length c.deref.ensures.value)

pub joined-requires-clause-ways : goal.joined-requires-clause-ways
joined-requires-clause-ways c =
    let n =
    place_within (seen_kind c.args.exit.kind) c.deref.result.now c.in-Some.place
    c.in-Some.ensures in
    subst (λ x. length x.way.env ≡ length c.args.exit.way.env) (sym c.index.ensures)
    (c.requires c.in-Some.place c.index.result.now (omega (arith, ap length c.deref.ensures.value)))

pub joined-requires-clause-exits : goal.joined-requires-clause-exits
joined-requires-clause-exits c =
    let n =
    place_within (seen_kind c.args.exit.kind) c.deref.result.now c.in-Some.place
    c.in-Some.ensures in
    let m : length c.index.result.now.way.env ≡ length c.args.exit.way.env =
    subst (λ x. length x.way.env ≡ length c.args.exit.way.env) (sym c.index.ensures)
    (c.requires c.in-Some.place c.index.result.now
    (omega (arith, ap length c.deref.ensures.value))) in
    subst (λ k. AreWide k c.deref-in-Some.result.now) (sym m)
    (subst (AreWide (length c.args.exit.way.env)) (sym c.deref-in-Some.ensures.value) c.requires)

pub index_mut-requires : goal.index_mut-requires
index_mut-requires c =
    let n =
    place_within (seen_kind c.args.exit.kind) c.deref.result.now c.in-Some.place
    c.in-Some.ensures in omega (arith, ap length c.deref.ensures.value)

pub returns-in_ok-way-in-Some-clause-exits : goal.returns-in_ok-way-in-Some-clause-exits
returns-in_ok-way-in-Some-clause-exits c =
    let xs = c.args.exits.now.items in let i = c.in-Some.place in let x = c.index.result.now in
    let k = seen_kind c.args.exit.kind in
    let p = subst (λ l. IsPlace k (seen_exits l) i) c.deref.ensures.value c.in-Some.ensures in
    let lt = place_within k xs i p in
    let e = same_read xs i c.index_mut.result.now x lt c.index_mut.ensures.value c.index.ensures in
    place_add c.args.exit xs i x _ p (ap (λ x. x.kind) (e ∙ c.index.ensures))
    (c.in_ok-way-in-Some.ensures.way
    ∙ ap (λ x. join (seen x.way) (seen c.args.exit.way)) c.index.ensures)

pub returns-in_ok-push-in-None-clause-exits : goal.returns-in_ok-push-in-None-clause-exits
returns-in_ok-push-in-None-clause-exits c =
    ap seen_exits c.in_ok-push-in-None.ensures.items
    ∙ no_place_add c.args.exit c.args.exits.now.items
    (subst (λ l. HasNoPlace (seen_kind c.args.exit.kind) (seen_exits l)) c.deref.ensures.value
    c.in-None.ensures)
