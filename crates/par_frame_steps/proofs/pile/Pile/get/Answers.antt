use Rattle.std.proofs.Common.{◌≡◌, ℕ, ◌-◌, ◌*◌, ◌%◌, ◌∙◌, List, length, ap}
use Rattle.std.specs.List.{slice_get}
use Rattle.par_place_kinds.specs.declared.kind.PlaceKind.{PlaceKind}
use Rattle.par_frame_steps.proofs.Piled.{get_piece, get_rest}
use Rattle.par_frame_steps.proofs.pile.Pile.get.Goals as goal

pub returns-in-Some : goal.returns-in-Some
returns-in-Some c =
    let found = rw c.as_slice.ensures at c.in-Some.ensures.lookup in
    c.at.ensures
    ∙ ap (λ (ks : List PlaceKind). slice_get ks (c.args.place % 256)) c.kinds.ensures
    ∙ get_piece c.self.inside.pieces c.self.inside.rest.items c.args.place c.in-Some.piece.now
    c.self.invariant.whole found.3.0 found.1
    ∙ ap (λ (ks : List PlaceKind). slice_get ks c.args.place) c.self.view_is

pub returns-in-None : goal.returns-in-None
returns-in-None c =
    let none = rw c.as_slice.ensures at c.in-None.ensures.lookup in
    let pieces = c.self.inside.pieces in
    let many : c.len.result ≡ length pieces = c.len.ensures in
    c.at-in-None.ensures
    ∙ ap (λ (ks : List PlaceKind). slice_get ks (c.args.place - c.len.result * 256))
    c.deref.ensures.value
    ∙ ap (λ (n : ℕ). slice_get c.self.inside.rest.items (c.args.place - n * 256)) many
    ∙ get_rest pieces c.self.inside.rest.items c.args.place c.self.invariant.whole none.3
    ∙ ap (λ (ks : List PlaceKind). slice_get ks c.args.place) c.self.view_is
