-- The frames of a method of a class file, and the number 46 where it has none.
use Rattle.std.specs.Prelude.{◌≡◌, ℕ, ◌<◌, ◌≤◌, ℤ, pos, ◌==◌, Bool, true, false, List, []}
use Rattle.std.specs.Prelude.{length, Option, Some, None, Contains}
use Rattle.std.specs.List.{All, slice_get}
use Rattle.par_kinds.specs.par_class.declared.file.CodeAttr.{CodeAttr}
use Rattle.par_kinds.specs.par_class.declared.file.MethodFile.{MethodFile}
use Rattle.par_kinds.specs.par_class.declared.file.ClassFile.{ClassFile}
use Rattle.par_kinds.specs.par_single.Walk.{starts_at}
use Rattle.par_kinds.specs.declared.frame.PlacedFrame.{PlacedFrame}
use Rattle.par_kinds.specs.declared.frame.MethodFrames.{MethodFrames}
use Rattle.par_frames.specs.Given.{frames_given}
use Rattle.par_frames.specs.Needed.{IsNeeded}

-- a frame at an offset of the walk, of no more locals and operands than the code has
pub record IsPlacedIn (code : CodeAttr) (f : PlacedFrame) : Type 0 where
  pub starts : starts_at code.code f.offset ≡ true
  pub locals : length f.frame.locals ≤ code.max_locals
  pub stack : length f.frame.stack ≤ code.max_stack

pub record HasFrame (fs : List PlacedFrame) (to : ℤ) : Type 0 where
  pub frame : PlacedFrame
  pub there : Contains fs frame
  pub at : to ≡ pos frame.offset

-- what the attributes of code give
pub record AreGiven (file : ClassFile) (m : MethodFile) (code : CodeAttr) (fs : List PlacedFrame)
    : Type 0 where
  pub given : frames_given file m code.attributes ≡ Some fs
  pub placed : All (IsPlacedIn code) fs
  pub needed : (to : ℤ) → IsNeeded code to → HasFrame fs to

abbrev pub AreGivenIn : ClassFile → MethodFile → Option CodeAttr → List PlacedFrame → Type 0
AreGivenIn file m None fs = fs ≡ []
AreGivenIn file m (Some code) fs = AreGiven file m code fs

-- the frames of a method: none in a file of another version
abbrev pub AreFramesIf : Bool → ClassFile → MethodFile → MethodFrames → Type 0
AreFramesIf true file m fs = AreGivenIn file m m.code fs.at
AreFramesIf false file m fs = fs.at ≡ []

abbrev pub AreFrames : ClassFile → MethodFile → MethodFrames → Type 0
AreFrames file m fs = AreFramesIf (file.major == 51) file m fs

abbrev pub HasFrames : ClassFile → MethodFile → Type 0
HasFrames file m = (fs : MethodFrames) × AreFrames file m fs

-- 46 holds, and this is the first method of which it does
pub record IsBroken (file : ClassFile) (number method : ℕ) : Type 0 where
  pub number_ : number ≡ 46
  pub broken : MethodFile
  pub there : slice_get file.methods method ≡ Some broken
  pub has_none : HasFrames file broken → ⊥
  pub first : (i : ℕ) (m : MethodFile) → i < method → slice_get file.methods i ≡ Some m
      → HasFrames file m
