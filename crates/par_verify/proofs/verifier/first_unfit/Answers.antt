use Rattle.std.proofs.Common.{sym, arith}
use Rattle.par_verify.proofs.Counting.{one-more, first-one, no-more}
use Rattle.par_verify.proofs.verifier.first_unfit.Goals as goal

pub loop-place-preserved : goal.loop-place-preserved
loop-place-preserved c = λ all of.
    one-more c.args.program.linked.now all c.args.class c.loop-place.place c.in_ok-fits.fits
    c.if-not-fits.false (c.in_ok-fits.ensures all of) (c.loop-place.invariant all of)

pub returns-then-not-fits : goal.returns-then-not-fits
returns-then-not-fits c = λ all of.
    first-one c.args.program.linked.now all c.args.class c.loop-place.place c.in_ok-fits.fits
    c.if-not-fits.true (c.in_ok-fits.ensures all of) (c.loop-place.invariant all of)

pub returns : goal.returns
returns c = λ all of.
    let past = c.loop-place-test.false in
    let many = c.len-place-end.ensures in
    no-more c.args.program.linked.now all c.args.class c.loop-place.place c.in-Some.file.now
    (sym c.in-Some.ensures.item) (omega (arith, past, many)) (c.loop-place.invariant all of)
