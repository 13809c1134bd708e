use Rattle.std.proofs.Common.{arith}
use Rattle.par_verify.proofs.Counting.{file-more, all-files}
use Rattle.par_verify.proofs.verifier.first_misfit.Goals as goal

pub loop-class-preserved : goal.loop-class-preserved
loop-class-preserved c = λ all of.
    file-more c.args.linked.now all c.loop-class.class c.in_ok-first.first c.in_default.is
    (c.in_ok-first.ensures all of) (c.loop-class.invariant all of)

pub returns : goal.returns
returns c = λ all of.
    let past = c.loop-class-test.false in
    let many = c.count-class-end.ensures.many in
    all-files c.args.linked.now all c.loop-class.class (omega (arith, past, many))
    (c.loop-class.invariant all of)
