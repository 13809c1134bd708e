-- The frames that verify each method fit all methods.
use Rattle.std.proofs.Common.{◌≡◌, ℕ, Bool, true, false, None, refl, sym, ◌∙◌}
use Rattle.std.proofs.Common.{List}
use Rattle.par_class.specs.declared.file.ClassFile.{ClassFile}
use Rattle.par_frames.specs.par_kinds.Fits.{Given, Fitting}
use Rattle.par_frames.specs.par_kinds.Linked.{exception_names, act_at, caught_kind, first_frame}
use Rattle.par_frames.specs.par_kinds.Linked.{coded_at}
use Rattle.par_frames.specs.par_kinds.Linked.{AllGiven, AllFit}
use Rattle.par_frames.specs.par_step_laws.Methods.{method_code}
use Rattle.par_verify_laws.proofs.Mains.{frames_keep_programs_from_bad_code}
use Rattle.par_verify_laws.specs.Verified.{AllFrames, AreVerified}
use Rattle.par_verify_laws.specs.Laws.{VerifiedProgramsAreNeverBad}

module _ (files : List ClassFile) (all : AllFrames) (verified : AreVerified files all) where
  -- of a method without code there are none
  pub pick : (class method : ℕ) (b : Bool) → coded_at files class method ≡ b → Given
  pick class method true is = (verified class method is).0
  pick class method false is = λ at. None

  pub picked : AllGiven
  picked class method = pick class method (coded_at files class method) refl

  pick-fits : (class method : ℕ) (b : Bool) (is : coded_at files class method ≡ b)
      → coded_at files class method ≡ true
      → Fitting (exception_names files) (act_at files class method) (caught_kind files class)
      (method_code files class method) (pick class method b is) (first_frame files class method)
  unfolding pick
  pick-fits class method true is coded = ((verified class method is).1).0
  pick-fits class method false is coded =
      let both : true ≡ false = sym coded ∙ is in absurd (cc both)

  pub all-fit : AllFit files picked
  unfolding picked
  all-fit class method coded = pick-fits class method (coded_at files class method) refl coded

pub verified_programs_are_never_bad : VerifiedProgramsAreNeverBad
verified_programs_are_never_bad files all main file inputs m linked coded verified first named
    begun =
    frames_keep_programs_from_bad_code files (picked files all verified) main file inputs m linked
    coded (all-fit files all verified) first named begun
