use Rattle.std.proofs.Common.{◌≡◌, ℕ, ◌<◌, true}
use Rattle.par_kinds.specs.Linked.{coded_at}
use Rattle.par_verify_laws.specs.Verified.{IsVerified}
use Rattle.par_verify.specs.Answers.{OfFrames}
use Rattle.par_verify.proofs.verifier.first_misfit.Given as goal

-- the files before are verified
abbrev pub invariant-loop-class : goal.invariant-loop-class
invariant-loop-class l =
    OfFrames l.linked
    (λ all. (c m : ℕ) → c < l.class → coded_at l.linked c m ≡ true → IsVerified l.linked all c m)
