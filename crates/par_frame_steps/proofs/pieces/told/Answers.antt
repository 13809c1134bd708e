use Rattle.std.proofs.Common.{◌++◌, ◌∙◌, List, sym, ap}
use Rattle.std.proofs.lemmas.List.{take_all}
use Rattle.par_kinds.specs.declared.frame.VKind.{VKind}
use Rattle.par_place_kinds.specs.declared.kind.PlaceKind.{PlaceKind}
use Rattle.par_frame_steps.specs.Marks.{kinds_of}
use Rattle.par_frame_steps.specs.Piled.{joined}
use Rattle.par_frame_steps.proofs.Piled.{told_next}
use Rattle.par_frame_steps.proofs.pieces.told.Goals as goal

pub loop-piece-preserved : goal.loop-piece-preserved
loop-piece-preserved c =
    let piece = c.piece-item.result in
    c.in_ok-add.ensures c.if-not-branch.false
    ∙ ap (λ (ks : List VKind). c.loop-piece.telling ++ ks) c.in-Some-few-2.ensures
    ∙ ap (λ (ks : List VKind). ks ++ kinds_of piece) c.loop-piece.invariant
    ∙ sym (told_next c.args.pieces.now c.loop-piece.piece-index piece piece c.loop-piece-test.true
    c.piece-item.is)

pub returns : goal.returns
returns c =
    c.in_ok-told.ensures
    ∙ c.loop-piece.invariant
    ∙ ap (λ (ps : List (List PlaceKind)). kinds_of (joined ps))
    (take_all c.loop-piece.piece-index c.args.pieces.now c.loop-piece-test.false)
