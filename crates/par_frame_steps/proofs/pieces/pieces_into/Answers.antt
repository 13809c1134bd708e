use Rattle.par_frame_steps.specs.Marks.{names}
use Rattle.par_frame_steps.proofs.Piled.{piece_unfit, piece_fits}
use Rattle.par_frame_steps.proofs.pieces.pieces_into.Goals as goal

pub returns-then-not-fits_into : goal.returns-then-not-fits_into
returns-then-not-fits_into c =
    piece_unfit (names c.args.exceptions.now) c.args.pieces.now c.args.others.now
    c.loop-place.place c.index-pieces-place.result c.index-others-place.result c.requires.whole
    c.requires.others c.requires.many c.loop-place-test.true c.index-pieces-place.is
    c.index-others-place.is c.fits_into.result _ c.fits_into.ensures c.if-not-fits_into.true
    c.loop-place.invariant

pub loop-place-preserved : goal.loop-place-preserved
loop-place-preserved c =
    piece_fits (names c.args.exceptions.now) c.args.pieces.now c.args.others.now
    c.loop-place.place c.index-pieces-place.result c.index-others-place.result c.requires.whole
    c.requires.others c.requires.many c.loop-place-test.true c.index-pieces-place.is
    c.index-others-place.is c.fits_into.result _ c.fits_into.ensures c.if-not-fits_into.false
    c.loop-place.invariant
