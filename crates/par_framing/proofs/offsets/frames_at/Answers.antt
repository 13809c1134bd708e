use Rattle.std.proofs.Common.{◌∙◌, arith}
use Rattle.std.specs.Prelude.{slice_index}
use Rattle.par_compile_laws.specs.Framed.{frame_of}
use Rattle.par_framing.proofs.Joining.{added_more, all_added}
use Rattle.par_framing.proofs.offsets.frames_at.Goals as goal

pub loop-item-preserved : goal.loop-item-preserved
loop-item-preserved c =
    added_more (frame_of (slice_index c.args.offsets.now) c.as_slice-frames.result.now) _ _ _ _ _
    c.loop-item-test.true c.item-item.is c.in_ok-put_item.ensures c.loop-item.invariant

pub returns : goal.returns
returns c =
    c.wrap.ensures
    ∙ all_added c.args.code.now (slice_index c.args.offsets.now) _ _ _ _ c.as_slice-frames.ensures
    c.as_slice-items.ensures (omega (arith, c.loop-item-test.false)) c.loop-item.invariant
