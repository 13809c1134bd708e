-- The methods of files, one after another.
use Rattle.std.proofs.Common.{◌≡◌, ℕ, ◌+◌, ◌<◌, ◌≤◌, Bool, true, false, List, length, Option, Some}
use Rattle.std.proofs.Common.{None, Result, Ok, Err, sym, subst, ◌∙◌, arith, ⊎_elim, ◌⊎◌}
use Rattle.std.specs.List.{slice_get}
use Rattle.std.proofs.lemmas.Bool.{cases_lt}
use Rattle.std.proofs.lemmas.Option.{slice_get_past}
use Rattle.par_class.specs.declared.file.ClassFile.{ClassFile}
use Rattle.par_kinds.specs.Linked.{coded_at}
use Rattle.par_verify_laws.specs.Verified.{AllFrames, AreVerified, IsVerified}
use Rattle.par_verify.specs.Answers.{IsFirstIn, Passes, VerifiedTo, Verified}
use Rattle.par_verify.specs.Told.{IsFirst, IsVerdictOn}
use Rattle.par_verify.specs.declared.error.Unfit.{Unfit}
use Rattle.par_verify.specs.declared.error.VerifyError.{VerifyError}
use Rattle.par_verify.proofs.Methods.{not-listed, not-there}

module _ (files : List ClassFile) (all : AllFrames) where
  never : (class m : ℕ) → coded_at files class m ≡ false → coded_at files class m ≡ true
      → IsVerified files all class m
  never class m none some = let both : false ≡ true = sym none ∙ some in absurd (cc both)

  -- ---- the methods of a file

  pub one-more : (class place : ℕ) (fits : Bool) → fits ≡ true → Passes files all class place fits
      → VerifiedTo files all class place → VerifiedTo files all class (place + 1)
  one-more class place false is passes before = absurd (cc is)
  one-more class place true is passes before = λ m below coded.
      ⊎_elim (λ earlier. before m earlier coded)
      (λ late. let same : place ≡ m = omega (arith, late, below) in
      subst (IsVerified files all class) same
      (passes (subst (λ n. coded_at files class n ≡ true) (sym same) coded)))
      (cases_lt m place)

  pub first-one : (class place : ℕ) (fits : Bool) → fits ≡ false
      → Passes files all class place fits → VerifiedTo files all class place
      → IsFirstIn files all class (Some place)
  first-one class place false is passes before = (passes.0, passes.1, before)
  first-one class place true is passes before = absurd (cc is)

  pub no-more : (class place : ℕ) (file : ClassFile) → slice_get files class ≡ Some file
      → length file.methods ≤ place → VerifiedTo files all class place
      → IsFirstIn files all class None
  no-more class place file listed past before = λ m coded.
      ⊎_elim (λ earlier. before m earlier coded)
      (λ late. never class m
      (not-there files class m file listed
      (slice_get_past file.methods m (omega (arith, late, past)))) coded)
      (cases_lt m place)

  -- ---- the files

  abbrev pub VerifiedBelow : ℕ → Type 0
  VerifiedBelow class =
      (c m : ℕ) → c < class → coded_at files c m ≡ true → IsVerified files all c m

  pub file-more : (class : ℕ) (first : Option ℕ) → first ≡ None → IsFirstIn files all class first
      → VerifiedBelow class → VerifiedBelow (class + 1)
  file-more class (Some method) is one before = absurd (cc is)
  file-more class None is fit before = λ c m below coded.
      ⊎_elim (λ earlier. before c m earlier coded)
      (λ late. let same : class ≡ c = omega (arith, late, below) in
      subst (λ n. IsVerified files all n m) same
      (fit m (subst (λ n. coded_at files n m ≡ true) (sym same) coded)))
      (cases_lt c class)

  pub all-files : (class : ℕ) → length files ≤ class → VerifiedBelow class
      → AreVerified files all
  all-files class past before = λ c m coded.
      ⊎_elim (λ earlier. before c m earlier coded)
      (λ late. never c m
      (not-listed files c m (slice_get_past files c (omega (arith, late, past)))) coded)
      (cases_lt c class)

  -- ---- the verdict

  pub verdict_so : {A : Type 0} (first : Option Unfit) (r : Result A VerifyError)
      → IsFirst files all first → IsVerdictOn first r → Verified files all r
  verdict_so None (Ok done) are is = are
  verdict_so None (Err e) are is = absurd (cc is)
  verdict_so (Some unfit) r one is = subst (Verified files all) (sym is) one
