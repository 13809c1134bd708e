use Rattle.std.proofs.Common.{◌≡◌, ◌*◌, ◌∙◌, ◌<◌, List, length, take, drop, ap, arith}
use Rattle.par_place_kinds.specs.declared.kind.PlaceKind.{PlaceKind}
use Rattle.par_frame_steps.specs.declared.pile.TheConstants.{PIECE}
use Rattle.par_place_kinds.specs.Listed.{listed_into}
use Rattle.par_frame_steps.specs.Marks.{names, kinds_of}
use Rattle.par_frame_steps.proofs.Parts.{part_piece}
use Rattle.par_frame_steps.proofs.pile.Pile.part_into.Goals as goal

abbrev Kinds : Type 0
Kinds = List PlaceKind

pub returns-then-place-len-2 : goal.returns-then-place-len-2
returns-then-place-len-2 c =
    let exc = names c.args.exceptions.now in
    let place = c.args.place in
    let mine = c.self.inside in
    let its = c.other.inside in
    let p = c.index-mine-place.result in
    let q = c.index-its-place.result in
    let first : place < length mine.pieces =
    omega (arith, c.if-place-len.true, c.len.ensures) in
    let second : place < length its.pieces =
    omega (arith, c.if-place-len-2.true, c.len-then-place-len.ensures) in
    let here = rw c.as_slice-mine.ensures at c.index-mine-place.is in
    let there = rw c.as_slice-its.ensures at c.index-its-place.is in
    let one : p ≡ take PIECE (drop (place * PIECE) c.args.self.now) =
    part_piece mine.pieces mine.rest.items place p c.self.invariant.whole first here
    ∙ ap (λ (ks : Kinds). take PIECE (drop (place * PIECE) ks)) c.self.view_is in
    let other : q ≡ take PIECE (drop (place * PIECE) c.args.other.now) =
    part_piece its.pieces its.rest.items place q c.other.invariant.whole second there
    ∙ ap (λ (ks : Kinds). take PIECE (drop (place * PIECE) ks)) c.other.view_is in
    c.listed_into.ensures
    ∙ ap (λ (ks : Kinds). listed_into exc (kinds_of ks) (kinds_of q)) one
    ∙ ap (λ (ks : Kinds). listed_into exc
    (kinds_of (take PIECE (drop (place * PIECE) c.args.self.now))) (kinds_of ks)) other
