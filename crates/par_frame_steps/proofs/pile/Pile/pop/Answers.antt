use Rattle.std.proofs.Common.{◌≡◌, suc, ◌++◌, ◌∙◌, ◌-◌, List, length, take, ap, sym}
use Rattle.std.proofs.Common.{subst, arith}
use Rattle.par_place_kinds.specs.declared.kind.PlaceKind.{PlaceKind}
use Rattle.par_frame_steps.specs.Piled.{joined, IsPiled}
use Rattle.par_frame_steps.proofs.Piled.{opened-piled, opened, last_piece}
use Rattle.par_frame_steps.proofs.pile.Pile.pop.Goals as goal

abbrev Kinds : Type 0
Kinds = List PlaceKind

pub invariant_of-self-2 : goal.invariant_of-self-2
invariant_of-self-2 c =
    let ps = c.self.inside.pieces in
    let rest = c.self.inside.rest in
    let p = c.index-as_slice-many.result in
    let many : length ps ≡ suc (c.len-many.result - 1) =
    omega (arith, c.len-many.ensures, c.if-many-eq0.false) in
    let here = rw c.as_slice.ensures at c.index-as_slice-many.is in
    let split = last_piece ps (c.len-many.result - 1) p many here in
    let kinds = c.in_ok-rest.ensures ∙ c.kinds.ensures in
    rw (c.change_to.ensures, c.in_ok-pieces.ensures, kinds) (opened-piled
    (take (c.len-many.result - 1) ps) p rest.items
    (subst (λ (qs : List Kinds). IsPiled qs rest.items) (sym split) c.self.invariant))

pub returns : goal.returns
returns c =
    let ps = c.self.inside.pieces in
    let rest = c.self.inside.rest in
    let p = c.index-as_slice-many.result in
    let many : length ps ≡ suc (c.len-many.result - 1) =
    omega (arith, c.len-many.ensures, c.if-many-eq0.false) in
    let here = rw c.as_slice.ensures at c.index-as_slice-many.is in
    let split = last_piece ps (c.len-many.result - 1) p many here in
    let kinds = c.in_ok-rest.ensures ∙ c.kinds.ensures in
    let some = c.self.invariant.behind (omega (arith, many)) in
    let one : length rest.items ≡ 1 =
    omega (arith, c.if-len-gt1.false, c.len.ensures, rest.ok.0, some) in
    rw (c.change_to.ensures, c.in_ok-pieces.ensures, kinds) (opened
    (take (c.len-many.result - 1) ps) p rest.items one
    ∙ ap (λ (qs : List Kinds). take (length (joined qs ++ rest.items) - 1)
    (joined qs ++ rest.items)) split
    ∙ ap (λ (ks : Kinds). take (length ks - 1) ks) c.self.view_is)
