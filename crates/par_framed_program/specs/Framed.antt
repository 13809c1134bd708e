-- Which linked class files have frames.
use Rattle.std.specs.Prelude.{◌≡◌, ℕ, ◌<◌, List, Some, Result, Ok, Err, slice_get}
use Rattle.std.specs.List.{AllZip}
use Rattle.par_class.specs.declared.file.MethodFile.{MethodFile}
use Rattle.par_class.specs.declared.file.ClassFile.{ClassFile}
use Rattle.par_single.specs.Members.{own_name}
use Rattle.par_single.specs.Descriptors.{Text}
use Rattle.par_loader.specs.declared.error.Unloaded.{Unloaded}
use Rattle.par_loader.specs.declared.error.Unloaded.TheVariants.{BadClass, Memory}
use Rattle.par_given_frames.specs.par_kinds.declared.frame.MethodFrames.{MethodFrames}
use Rattle.par_frames.specs.Broken.{AreFrames, HasFrames, IsBroken}

-- each method of a file has frames
abbrev pub IsFramed : ClassFile → Type 0
IsFramed file =
    (place : ℕ) (m : MethodFile) → slice_get file.methods place ≡ Some m → HasFrames file m

-- and so has each of the files before one
abbrev pub AreFramedBefore : List ClassFile → ℕ → Type 0
AreFramedBefore files class =
    (earlier : ℕ) (file : ClassFile) → earlier < class → slice_get files earlier ≡ Some file
    → IsFramed file

abbrev pub AreFramed : List ClassFile → Type 0
AreFramed files =
    (class : ℕ) (file : ClassFile) → slice_get files class ≡ Some file → IsFramed file

-- a method of the class of this name is the first that has no frames, files in list order
pub record IsUnframed (files : List ClassFile) (class : Text) (number value : ℕ) : Type 0 where
  pub place : ℕ
  pub file : ClassFile
  pub there : slice_get files place ≡ Some file
  pub own : own_name file ≡ class
  pub broken : IsBroken file number value
  pub before : AreFramedBefore files place

-- what a call gives where all methods have frames, or why they have none
abbrev pub Framed : {A : Type 0} → (A → Type 0) → List ClassFile → Result A Unloaded → Type 0
Framed P files (Ok x) = P x
Framed P files (Err (BadClass class number value)) = IsUnframed files class number value
Framed P files (Err Memory) = Unit {0}
Framed P files (Err _) = ⊥

-- the frames of each method of each file
abbrev pub AreFramesOf : List ClassFile → List (List MethodFrames) → Type 0
AreFramesOf files frames =
    AllZip (λ file of_file. AllZip (AreFrames file) file.methods of_file) files frames
