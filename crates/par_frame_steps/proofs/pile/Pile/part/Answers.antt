use Rattle.std.proofs.Common.{◌≡◌, ℕ, ◌*◌, ◌++◌, ◌∙◌, ◌<◌, List, length, take, drop, ap, arith}
use Rattle.par_place_kinds.specs.declared.kind.PlaceKind.{PlaceKind}
use Rattle.par_frame_steps.specs.declared.pile.TheConstants.{PIECE}
use Rattle.par_frame_steps.specs.Piled.{joined}
use Rattle.par_frame_steps.proofs.Parts.{part_piece, part_rest, part_none}
use Rattle.par_frame_steps.proofs.pile.Pile.part.Goals as goal

pub returns-then-place-len : goal.returns-then-place-len
returns-then-place-len c =
    let pieces = c.self.inside.pieces in
    let inside : c.args.place < length pieces =
    omega (arith, c.if-place-len.true, c.len.ensures) in
    let here = rw c.as_slice.ensures at c.index-as_slice-place.is in
    c.kinds.ensures
    ∙ part_piece pieces c.self.inside.rest.items c.args.place c.index-as_slice-place.result
    c.self.invariant.whole inside here
    ∙ ap (λ (ks : List PlaceKind). take PIECE (drop (c.args.place * PIECE) ks)) c.self.view_is

pub returns-then-place-len-2 : goal.returns-then-place-len-2
returns-then-place-len-2 c =
    let pieces = c.self.inside.pieces in
    let past : length pieces < c.args.place =
    omega (arith, c.if-place-len-2.true, c.len-2.ensures) in
    part_none pieces c.self.inside.rest.items c.args.place c.self.invariant.whole
    c.self.invariant.short past
    ∙ ap (λ (ks : List PlaceKind). take PIECE (drop (c.args.place * PIECE) ks)) c.self.view_is

pub returns : goal.returns
returns c =
    let pieces = c.self.inside.pieces in
    let rest = c.self.inside.rest in
    let many : length pieces ≡ c.args.place =
    omega (
      arith,
      c.if-place-len.false,
      c.if-place-len-2.false,
      c.len.ensures,
      c.len-2.ensures,
    ) in
    c.as_slice-2.ensures.value
    ∙ part_rest pieces rest.items c.self.invariant.whole c.self.invariant.short
    ∙ ap (λ (n : ℕ). take PIECE (drop (n * PIECE) (joined pieces ++ rest.items))) many
    ∙ ap (λ (ks : List PlaceKind). take PIECE (drop (c.args.place * PIECE) ks)) c.self.view_is
