-- What is told of files that are not verified.
use Rattle.std.specs.Prelude.{◌≡◌, List, Option, Some, None, Result, Ok, Err}
use Rattle.std.specs.Result.{IsOk}
use Rattle.par_base.specs.declared.memory.NoMemory.{NoMemory}
use Rattle.par_class.specs.declared.file.ClassFile.{ClassFile}
use Rattle.par_verify_laws.specs.Verified.{AllFrames, AreVerified, IsUnverified}
use Rattle.par_verify.specs.declared.error.Unfit.{Unfit}
use Rattle.par_verify.specs.declared.error.VerifyError.{VerifyError}
use Rattle.par_verify.specs.declared.error.VerifyError.TheVariants as error

-- what an error tells: a method, or nothing but that memory was wanting
abbrev pub Tells : VerifyError → Result Unfit NoMemory → Type 0
Tells (error.Broken class method) (Ok unfit) = (unfit.class ≡ class) × (unfit.method ≡ method)
Tells (error.Broken class method) (Err e) = ⊥
Tells error.Memory (Ok unfit) = ⊥
Tells error.Memory (Err e) = Unit {0}

-- the first method that is not verified, where all are not
abbrev pub IsFirst : List ClassFile → AllFrames → Option Unfit → Type 0
IsFirst files all None = AreVerified files all
IsFirst files all (Some unfit) = IsUnverified files all unfit.class unfit.method

-- what is answered where this is the first method that is not verified
abbrev pub IsVerdictOn : {A : Type 0} → Option Unfit → Result A VerifyError → Type 0
IsVerdictOn None r = IsOk r
IsVerdictOn (Some unfit) r = r ≡ Err (error.Broken unfit.class unfit.method)
