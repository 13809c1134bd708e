use Rattle.par_place_kinds.specs.Marks.{names}
use Rattle.par_place_kinds.proofs.Lists.{listed-ends, listed-goes}
use Rattle.par_place_kinds.proofs.kinds.listed_into.Goals as goal

pub returns-then-not-fits_into : goal.returns-then-not-fits_into
returns-then-not-fits_into c =
    listed-ends (names c.args.exceptions.now) c.args.kinds.now c.args.others.now
    c.loop-place.place _ _ c.fits_into.result _ c.loop-place-test.true c.kind_at.ensures
    c.fits_into.ensures c.loop-place.invariant c.if-not-fits_into.true

pub loop-place-preserved : goal.loop-place-preserved
loop-place-preserved c =
    listed-goes (names c.args.exceptions.now) c.args.kinds.now c.args.others.now
    c.loop-place.place _ _ c.fits_into.result _ c.loop-place-test.true c.kind_at.ensures
    c.fits_into.ensures c.loop-place.invariant c.if-not-fits_into.false
