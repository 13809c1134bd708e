-- When the methods of linked class files are verified.
use Rattle.std.specs.Prelude.{◌≡◌, ℕ, ◌<◌, true, List, [], Option, Some, None, ◌⊎◌}
use Rattle.std.specs.List.{slice_get, AllZip}
use Rattle.std.specs.Option.{option_map}
use Rattle.par_class.specs.declared.file.ClassFile.{ClassFile}
use Rattle.par_frames.specs.par_kinds.declared.frame.PlacedFrame.{PlacedFrame}
use Rattle.par_frames.specs.par_kinds.declared.frame.MethodFrames.{MethodFrames}
use Rattle.par_frames.specs.par_kinds.Kinds.{KFrame}
use Rattle.par_frames.specs.par_kinds.Fits.{Given}
use Rattle.par_frames.specs.par_kinds.Told.{told}
use Rattle.par_frames.specs.par_kinds.Linked.{exception_names, act_at, caught_kind, first_frame}
use Rattle.par_frames.specs.par_kinds.Linked.{padded}
use Rattle.par_frames.specs.par_kinds.Linked.{coded_at}
use Rattle.par_frames.specs.par_step_laws.Methods.{method_code}
use Rattle.par_kinds.specs.Laws.{FitsAsTold}
use Rattle.par_frames.specs.Broken.{AreFrames}

-- the frames of each method of each file
abbrev pub AllFrames : Type 0
AllFrames = List (List MethodFrames)

-- they are those of these files, in their order
abbrev pub AreFramesOf : List ClassFile → AllFrames → Type 0
AreFramesOf files all =
    AllZip (λ file frames. AllZip (AreFrames file) file.methods frames) files all

abbrev pub methods_told : Option (List MethodFrames) → List MethodFrames
methods_told None = []
methods_told (Some frames) = frames

abbrev pub frames_told : Option MethodFrames → List PlacedFrame
frames_told None = []
frames_told (Some frames) = frames.at

-- the frames of a method
abbrev pub frames_in : AllFrames → (class method : ℕ) → List PlacedFrame
frames_in all class method = frames_told (slice_get (methods_told (slice_get all class)) method)

-- a frame of so many locals: those that are not listed hold anything
abbrev pub whole : ℕ → KFrame → KFrame
whole many k = record { locals = padded many k.locals; stack = k.stack }

-- what is told of a method, by the offsets of its code
abbrev pub told_at : List ClassFile → AllFrames → (class method : ℕ) → Given
told_at files all class method at =
    option_map (whole (method_code files class method).max_locals)
    (told (frames_in all class method) at)

-- frames fit a method, and are those that are told where some are
abbrev pub FitsMethod : List ClassFile → AllFrames → (class method : ℕ) → Given → Type 0
FitsMethod files all class method u =
    FitsAsTold (exception_names files) (act_at files class method) (caught_kind files class)
    (method_code files class method) (first_frame files class method)
    (told_at files all class method) u

abbrev pub IsVerified : List ClassFile → AllFrames → (class method : ℕ) → Type 0
IsVerified files all class method = (u : Given) × FitsMethod files all class method u

-- each method with code is verified
abbrev pub AreVerified : List ClassFile → AllFrames → Type 0
AreVerified files all =
    (class method : ℕ) → coded_at files class method ≡ true → IsVerified files all class method

-- a method stands before another one, files in their order and methods in that of their tables
abbrev pub Precedes : (c m class method : ℕ) → Type 0
Precedes c m class method = (c < class) ⊎ ((c ≡ class) × (m < method))

-- this is the first method that is not verified
pub record IsUnverified (files : List ClassFile) (all : AllFrames) (class method : ℕ) : Type 0 where
  pub coded : coded_at files class method ≡ true
  pub unfit : IsVerified files all class method → ⊥
  pub first : (c m : ℕ) → Precedes c m class method → coded_at files c m ≡ true
      → IsVerified files all c m
