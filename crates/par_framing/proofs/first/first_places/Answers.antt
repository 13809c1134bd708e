use Rattle.std.proofs.Common.{refl}
use Rattle.par_framing.proofs.Firsts.{marked_none, marked_back}
use Rattle.par_framing.proofs.first.first_places.Goals as goal

pub loop-place-init : goal.loop-place-init
loop-place-init c = marked_none _ _ _ refl c.new-places.ensures.items

pub loop-place-preserved : goal.loop-place-preserved
loop-place-preserved c =
    marked_back _ _ c.index-frames-place.result _ _ c.loop-place-test.true c.index-frames-place.is
    c.in_ok-mark.ensures.marked c.in_ok-mark.ensures.kept c.loop-place.invariant
