-- What is told of a method, and of a file.
use Rattle.std.specs.Prelude.{◌≡◌, ◌↔◌, ℕ, ℤ, Bool, true, List, Option, Some, None, slice_get}
use Rattle.std.specs.Prelude.{Result, Ok, Err}
use Rattle.std.specs.List.{AllZip}
use Rattle.par_pool.specs.declared.constant.Constant.{Constant}
use Rattle.par_class.specs.declared.file.CodeAttr.{CodeAttr}
use Rattle.par_class.specs.declared.file.MethodFile.{MethodFile}
use Rattle.par_class.specs.declared.file.ClassFile.{ClassFile}
use Rattle.par_frame_forms.specs.declared.form.FrameForm.{FrameForm}
use Rattle.par_kinds.specs.declared.frame.MethodFrames.{MethodFrames}
use Rattle.par_frames.specs.declared.error.FrameError.{FrameError}
use Rattle.par_frames.specs.declared.error.FrameError.TheVariants as error
use Rattle.par_frames.specs.Needed.{IsNeeded}
use Rattle.par_frames.specs.Given.{frames_said, start_of}
use Rattle.par_frames.specs.Broken.{AreFrames, HasFrames, IsBroken}
use Rattle.par_given_frames.specs.Sizes.{placed, framed}
use Rattle.par_given_frames.specs.Met.{told_at}
use Rattle.par_given_frames.specs.declared.error.Unread.{Unread}
use Rattle.par_given_frames.specs.declared.error.Unread.TheVariants.{Refused, Memory}

-- all forms say frames that are placed, and each needed offset has one
pub record AreRight (code : CodeAttr) (pool : List Constant) (listed : ℕ) (forms : List FrameForm)
    : Type 0 where
  pub placed_ : placed code pool 0 listed forms ≡ true
  pub needed : (to : ℤ) → IsNeeded code to → told_at (framed pool 0 listed forms) to ≡ true

-- the frames of a method, or that it has none
abbrev pub AnswersFor : ClassFile → MethodFile → Result MethodFrames Unread → Type 0
AnswersFor file m (Ok fs) = AreFrames file m fs
AnswersFor file m (Err Refused) = HasFrames file m → ⊥
AnswersFor file m (Err Memory) = Unit {0}

-- whether a fact holds, which does not where reading is refused, unless memory ran out
abbrev pub Tells : Type 0 → Result Bool Unread → Type 0
Tells Fact (Ok b) = (b ≡ true) ↔ Fact
Tells Fact (Err Refused) = Fact → ⊥
Tells Fact (Err Memory) = Unit {0}

-- all methods have frames, or this is the first that has none
abbrev pub IsFirstBroken : ClassFile → Option ℕ → Type 0
IsFirstBroken file None =
    (i : ℕ) (m : MethodFile) → slice_get file.methods i ≡ Some m → HasFrames file m
IsFirstBroken file (Some method) = IsBroken file 46 method

-- the frames of each method in the order of the table, or the first method that has none
abbrev pub FramesOf : ClassFile → Result (List MethodFrames) FrameError → Type 0
FramesOf file (Ok fs) = AllZip (AreFrames file) file.methods fs
FramesOf file (Err (error.Broken number method)) = IsBroken file number method
FramesOf file (Err error.Memory) = Unit {0}

-- what is told of the method at a place: its frames, that it is broken, or that memory is wanting
abbrev pub told_as : ℕ → Result MethodFrames Unread → Result MethodFrames FrameError
told_as method (Ok frames) = Ok frames
told_as method (Err Refused) = Err (error.Broken 46 method)
told_as method (Err Memory) = Err error.Memory

-- forms say the frames of a method, if it has frames
abbrev pub AreFormsOf : ClassFile → MethodFile → List FrameForm → Type 0
AreFormsOf file m forms =
    (frames : MethodFrames) → AreFrames file m frames
    → frames_said file.pool.entries 0 (start_of file m) forms ≡ Some frames.at
