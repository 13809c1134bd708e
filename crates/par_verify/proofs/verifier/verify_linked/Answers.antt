use Rattle.par_verify.proofs.Counting.{verdict_so}
use Rattle.par_verify.proofs.verifier.verify_linked.Goals as goal

pub returns : goal.returns
returns c = λ all of.
    verdict_so c.args.linked.now all c.in_ok-first.first c.verdict.result
    (c.in_ok-first.ensures all of) c.verdict.ensures
