use Rattle.par_verify.specs.Answers.{OfFrames, VerifiedTo}
use Rattle.par_verify.proofs.verifier.first_unfit.Given as goal

abbrev pub invariant-loop-place : goal.invariant-loop-place
invariant-loop-place l =
    OfFrames l.program.linked.now (λ all. VerifiedTo l.program.linked.now all l.class l.place)
