use Rattle.std.proofs.Common.{◌≡◌, ℕ, ◌+◌, ◌-◌, ◌*◌, ◌/◌, ◌%◌, ◌++◌, ◌∙◌, List, length, set}
use Rattle.std.proofs.Common.{[], get_or, refl, ap, sym, arith}
use Rattle.std.proofs.lemmas.List.{length-set}
use Rattle.std.proofs.lemmas.Nat.{div-add-mod'}
use Rattle.par_place_kinds.specs.declared.kind.PlaceKind.{PlaceKind}
use Rattle.par_frame_steps.specs.declared.pile.TheConstants.{PIECE}
use Rattle.par_frame_steps.specs.Piled.{joined}
use Rattle.par_frame_steps.proofs.Piled.{many_piled}
use Rattle.par_frame_steps.proofs.Parts.{piece_set, piece_size, set_piled, rest_set}
use Rattle.par_frame_steps.proofs.pile.Pile.set.Goals as goal

pub index_mut-requires : goal.index_mut-requires
index_mut-requires c =
    let pieces = c.self.inside.pieces in
    let rest = c.self.inside.rest in
    let all : length pieces * PIECE + length rest.items ≡ length c.args.self.now =
    sym (many_piled pieces rest.items c.self.invariant.whole)
    ∙ ap (λ (ks : List PlaceKind). length ks) c.self.view_is in
    let inside = c.requires in
    omega (
      arith,
      all,
      inside,
      c.if-place-whole.true,
      c.len-whole.ensures,
      rest.ok.0,
    )

pub returns-then-place-whole : goal.returns-then-place-whole
returns-then-place-whole c =
    let pieces = c.self.inside.pieces in
    let rest = c.self.inside.rest in
    let many : c.len-whole.result ≡ length pieces = c.len-whole.ensures in
    ap (λ (n : ℕ). joined pieces ++ set rest.items (c.args.place - n * PIECE) c.args.kind)
    many
    ∙ rest_set pieces rest.items c.args.place c.args.kind c.self.invariant.whole
    (omega (arith, c.if-place-whole.true, many))
    ∙ ap (λ (ks : List PlaceKind). set ks c.args.place c.args.kind) c.self.view_is

pub with-requires-clause-place : goal.with-requires-clause-place
with-requires-clause-place c =
    let pieces = c.self.inside.pieces in
    let many : c.len-whole.result ≡ length pieces = c.len-whole.ensures in
    let size = piece_size pieces [] (c.args.place / PIECE) c.self.invariant.whole
    (omega (arith, c.if-place-whole.false, many)) in
    omega (arith, size)

pub invariant_of-self-2 : goal.invariant_of-self-2
invariant_of-self-2 c =
    let pieces = c.self.inside.pieces in
    let q : List PlaceKind = get_or pieces (c.args.place / PIECE) [] in
    let many : c.len-whole.result ≡ length pieces = c.len-whole.ensures in
    rw (c.change_to.ensures, c.in_ok-pieces.ensures) (set_piled pieces
    c.self.inside.rest.items (set q (c.args.place % PIECE) c.args.kind) []
    (c.args.place / PIECE) c.self.invariant (omega (arith, c.if-place-whole.false, many))
    (length-set q (c.args.place % PIECE) c.args.kind))

pub returns : goal.returns
returns c =
    let pieces = c.self.inside.pieces in
    let rest = c.self.inside.rest in
    let q : List PlaceKind = get_or pieces (c.args.place / PIECE) [] in
    let many : c.len-whole.result ≡ length pieces = c.len-whole.ensures in
    rw (c.change_to.ensures, c.in_ok-pieces.ensures) (piece_set pieces rest.items q
    (set q (c.args.place % PIECE) c.args.kind) [] (c.args.place / PIECE)
    (c.args.place % PIECE) c.args.kind c.self.invariant.whole
    (omega (arith, c.if-place-whole.false, many)) (omega arith) refl refl
    ∙ ap (λ (n : ℕ). set (joined pieces ++ rest.items) n c.args.kind)
    (div-add-mod' c.args.place PIECE)
    ∙ ap (λ (ks : List PlaceKind). set ks c.args.place c.args.kind) c.self.view_is)
