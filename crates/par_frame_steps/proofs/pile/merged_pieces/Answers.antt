use Rattle.std.proofs.Common.{◌≡◌, ◌+◌, ◌++◌, ◌∷◌, ◌∙◌, [], length, arith}
use Rattle.par_frame_steps.specs.Marks.{names}
use Rattle.par_frame_steps.proofs.Piled.{piece_merged, merged_whole, length-more}
use Rattle.par_frame_steps.proofs.pile.merged_pieces.Goals as goal

pub loop-place-preserved : goal.loop-place-preserved
loop-place-preserved c =
    let all = c.loop-place.all.items in
    let m = c.in_ok-least.least in
    let more = c.in_ok-push.ensures.items in
    let before = c.loop-place.invariant in
    let one : length (all ++ m ∷ []) ≡ c.loop-place.place + 1 =
    omega (arith, length-more all m, before.0) in (
      rw more one,
      c.in_ok-least.ensures.same ∙ before.1,
      rw more (merged_whole (names c.args.exceptions.now) c.args.pieces.now c.args.others.now
          c.loop-place.place c.index-pieces-place.result c.index-others-place.result
          c.requires.whole c.requires.others c.requires.many c.loop-place-test.true
          c.index-pieces-place.is c.index-others-place.is
          all m before.2 c.in_ok-least.ensures.least),
      rw more (piece_merged (names c.args.exceptions.now) c.args.pieces.now c.args.others.now
          c.loop-place.place c.index-pieces-place.result c.index-others-place.result
          c.requires.whole c.requires.others c.requires.many c.loop-place-test.true
          c.index-pieces-place.is c.index-others-place.is
          all m _ c.in_ok-least.ensures.least before.3),
    )
