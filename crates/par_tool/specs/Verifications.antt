-- What is said of class files that are verified.
use Rattle.std.specs.Prelude.{◌≡◌, ℕ, ◌⊎◌, List, length, Option, Some}
use Rattle.std.specs.List.{slice_get}
use Rattle.par_io.specs.Causes.{FolderCounts, Makes, Files}
use Rattle.par_values.specs.declared.inputs.Inputs.{Inputs}
use Rattle.par_class.specs.declared.file.ClassFile.{ClassFile}
use Rattle.par_single.specs.Members.{own_name}
use Rattle.par_step_laws.specs.Run.{machine_run}
use Rattle.par_verify.specs.par_verify_laws.SoundLaws.{IsFine}
use Rattle.par_verify.specs.par_verify_laws.Verified.{AllFrames, AreFramesOf, AreVerified}
use Rattle.par_verify.specs.par_verify_laws.Verified.{IsUnverified}
use Rattle.par_verify.specs.declared.error.VerifyError.{VerifyError}
use Rattle.par_verify.specs.declared.error.VerifyError.TheVariants as error
use Rattle.par_framed_program.specs.Framed.{IsUnframed}
use Rattle.par_loader.specs.declared.error.Unloaded.TheVariants as unloaded
use Rattle.par_tool.specs.declared.answer.Answer.{Answer}
use Rattle.par_tool.specs.declared.answer.Answer.TheVariants.{Absent, ReadFault, TooLong, BadClass}
use Rattle.par_tool.specs.declared.answer.Answer.TheVariants.{Verified}
use Rattle.par_tool.specs.declared.verifications.TheConstants.{UNFIT}
use Rattle.par_tool.specs.Outside.{Text}
use Rattle.par_tool.specs.Classes.{IsUnlinked, AreLinked}

-- Each method has the frames that it needs, and frames fit each method with code, which are those
-- that the files tell where they tell some.
pub record AreFit (all : List ClassFile) : Type 0 where
  pub frames : AllFrames
  pub of : AreFramesOf all frames
  pub verified : AreVerified all frames

-- whatever the inputs and the bound on instructions, a run of these files comes to no bad code
abbrev pub AreNeverBad : Text → List ClassFile → Type 0
AreNeverBad main all = (inputs : Inputs) (m : ℕ) → IsFine (machine_run all main inputs m).ending

-- this is the name of the class at a place of the list
abbrev pub IsNameAt : List ClassFile → (place : ℕ) → Text → Type 0
IsNameAt all place class =
    (file : ClassFile) × (slice_get all place ≡ Some file) × (own_name file ≡ class)

-- why files are not verified that have the frames that they need; memory may be wanting
abbrev pub IsUnverifiedBy : List ClassFile → VerifyError → Type 0
IsUnverifiedBy all (error.Broken class method) =
    (frames : AllFrames) × AreFramesOf all frames × IsUnverified all frames class method
IsUnverifiedBy all error.Memory = Unit {0}

-- a method of the class of this name is the first that no frames fit, files in list order
pub record IsFirstUnfit (all : List ClassFile) (class : Text) (number value : ℕ) : Type 0 where
  pub frames : AllFrames
  pub of : AreFramesOf all frames
  pub place : ℕ
  pub unfit : IsUnverified all frames place value
  pub file : ClassFile
  pub there : slice_get all place ≡ Some file
  pub own : own_name file ≡ class
  pub number_is : number ≡ UNFIT

-- Why linked files are not verified: a method lacks frames that it needs, or no frames fit one.
abbrev pub IsUnverifiable : List ClassFile → Answer → Type 0
IsUnverifiable all (BadClass class number value) =
    IsUnframed all class number value ⊎ IsFirstUnfit all class number value
IsUnverifiable all answer = ⊥

-- what is answered of linked files that are verified: how many there are
abbrev pub IsAnsweredFor : List ClassFile → Answer → Type 0
IsAnsweredFor all (Verified many) = (many ≡ length all) × AreFit all
IsAnsweredFor all answer = ⊥

-- What the verification of a class comes to, and how many files were read.
module _ (files : Option Files) (before after : FolderCounts) (main : Text) where
  -- the class files link, and this holds of them
  abbrev pub HasAll : (List ClassFile → Type 0) → Type 0
  HasAll P =
      (reads : ℕ) × Makes reads 0 before after
      × ((all : List ClassFile) × AreLinked files main reads all × P all)

  abbrev pub VerifiedSo : Answer → Type 0
  VerifiedSo (Verified many) =
      HasAll (λ all. IsAnsweredFor all (Verified many) × AreNeverBad main all)
  VerifiedSo Absent = IsUnlinked files before after main unloaded.Absent
  VerifiedSo TooLong = IsUnlinked files before after main unloaded.TooLong
  VerifiedSo ReadFault = IsUnlinked files before after main unloaded.Failed
  VerifiedSo (BadClass class number value) =
      IsUnlinked files before after main (unloaded.BadClass class number value)
      ⊎ HasAll (λ all. IsUnverifiable all (BadClass class number value))
  VerifiedSo answer = ⊥

-- The class files of a class, as the folder has them, come to no bad code.
abbrev pub IsSafe : Option Files → Text → Type 0
IsSafe files main =
    (reads : ℕ) × (all : List ClassFile) × AreLinked files main reads all × AreNeverBad main all
