-- What the verifier answers.
use Rattle.std.specs.Prelude.{◌≡◌, ℕ, ◌<◌, Bool, true, false, List, Option, Some, None}
use Rattle.std.specs.Prelude.{Result, Ok, Err}
use Rattle.std.specs.List.{slice_get}
use Rattle.par_class.specs.declared.file.MethodFile.{MethodFile}
use Rattle.par_class.specs.declared.file.ClassFile.{ClassFile}
use Rattle.par_kinds.specs.Linked.{coded_at}
use Rattle.par_verify_laws.specs.Verified.{AllFrames, AreFramesOf, IsVerified, AreVerified}
use Rattle.par_verify_laws.specs.Verified.{IsUnverified}
use Rattle.par_verify.specs.declared.error.VerifyError.{VerifyError}
use Rattle.par_verify.specs.declared.error.VerifyError.TheVariants as error

-- each method of files has its frames
abbrev pub HaveFrames : List ClassFile → Type 0
HaveFrames files = (all : AllFrames) × AreFramesOf files all

-- this holds of the frames of files
abbrev pub OfFrames : List ClassFile → (AllFrames → Type 0) → Type 0
OfFrames files P = (all : AllFrames) → AreFramesOf files all → P all

-- a method of a file of a program
pub record IsMethod (files : List ClassFile) (class : ℕ) (file : ClassFile) (place : ℕ)
    (m : MethodFile) : Type 0 where
  pub listed : slice_get files class ≡ Some file
  pub there : slice_get file.methods place ≡ Some m

-- whether a method is verified
abbrev pub Says : List ClassFile → AllFrames → (class method : ℕ) → Bool → Type 0
Says files all class method true = IsVerified files all class method
Says files all class method false = IsVerified files all class method → ⊥

-- whether a method is verified, if it has code
abbrev pub Passes : List ClassFile → AllFrames → (class method : ℕ) → Bool → Type 0
Passes files all class method true =
    coded_at files class method ≡ true → IsVerified files all class method
Passes files all class method false =
    (coded_at files class method ≡ true) × (IsVerified files all class method → ⊥)

-- the methods with code of a file that stand before a place are verified
abbrev pub VerifiedTo : List ClassFile → AllFrames → (class place : ℕ) → Type 0
VerifiedTo files all class place =
    (m : ℕ) → m < place → coded_at files class m ≡ true → IsVerified files all class m

-- the first method of a file that is not verified, or none
abbrev pub IsFirstIn : List ClassFile → AllFrames → ℕ → Option ℕ → Type 0
IsFirstIn files all class None =
    (m : ℕ) → coded_at files class m ≡ true → IsVerified files all class m
IsFirstIn files all class (Some method) =
    (coded_at files class method ≡ true) × (IsVerified files all class method → ⊥)
    × VerifiedTo files all class method

-- all are verified, or this is the first that is not
abbrev pub Verified : {A : Type 0} → List ClassFile → AllFrames → Result A VerifyError → Type 0
Verified files all (Ok done) = AreVerified files all
Verified files all (Err (error.Broken class method)) = IsUnverified files all class method
Verified files all (Err error.Memory) = Unit {0}
