use Rattle.std.proofs.Common.{◌++◌, ◌∷◌, [], ◌∙◌, List, ap, arith}
use Rattle.par_place_kinds.specs.declared.kind.PlaceKind.{PlaceKind}
use Rattle.par_frame_steps.proofs.Piled.{stacked-piled, stacked}
use Rattle.par_frame_steps.proofs.pile.Pile.push.Goals as goal

pub invariant_of-self-2 : goal.invariant_of-self-2
invariant_of-self-2 c =
    let pieces = c.self.inside.pieces in
    let rest = c.self.inside.rest in
    let piece = c.in_ok-piece.ensures ∙ c.in_ok-kinds.ensures ∙ c.deref.ensures.value in
    let first = c.new-rest.ensures.items in
    rw (c.change_to.ensures, c.in_ok-pieces.ensures, c.in_ok-push-2.ensures.items, first, piece)
    (stacked-piled pieces rest.items c.args.kind c.self.invariant
    (omega (arith, c.if-len-lt-PIECE.false, c.len.ensures, rest.ok.0))
    (omega (arith, c.if-len-ge-MOST_PIECES.false, c.len-2.ensures)))

pub returns : goal.returns
returns c =
    let pieces = c.self.inside.pieces in
    let rest = c.self.inside.rest in
    let piece = c.in_ok-piece.ensures ∙ c.in_ok-kinds.ensures ∙ c.deref.ensures.value in
    let first = c.new-rest.ensures.items in
    rw (c.change_to.ensures, c.in_ok-pieces.ensures, c.in_ok-push-2.ensures.items, first, piece)
    (stacked pieces rest.items c.args.kind
    ∙ ap (λ (ks : List PlaceKind). ks ++ c.args.kind ∷ []) c.self.view_is)
