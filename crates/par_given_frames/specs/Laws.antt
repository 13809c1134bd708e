-- What is written as the frames of a method is read as frames that tell the same.
use Rattle.std.specs.Prelude.{◌≡◌, ℕ, ◌<◌, ◌≤◌, ◌^◌, List, length, Option, Some}
use Rattle.std.specs.List.{AllByRecursion, AllZip}
use Rattle.par_pool.specs.declared.constant.Constant.{Constant}
use Rattle.par_kinds.specs.declared.frame.VKind.{VKind}
use Rattle.par_kinds.specs.declared.frame.PlacedFrame.{PlacedFrame}
use Rattle.par_kinds.specs.Kinds.{kind_at}
use Rattle.par_frames.specs.Attribute.{IsAttribute}
use Rattle.par_frames.specs.Given.{frames_in}
use Rattle.par_frames.specs.Laws.{IsNamed}

abbrev pub AreNamedKinds : List VKind → Type 0
AreNamedKinds ks = AllByRecursion IsNamed ks

-- the classes of a frame have names of programs
pub record IsNamedFrame (f : PlacedFrame) : Type 0 where
  pub locals : AreNamedKinds f.frame.locals
  pub stack : AreNamedKinds f.frame.stack

-- a frame tells the same as another one: a local that is not listed is not known
pub record TellsSame (f g : PlacedFrame) : Type 0 where
  pub offset : g.offset ≡ f.offset
  pub locals : (n : ℕ) → kind_at g.frame.locals n ≡ kind_at f.frame.locals n
  pub stack : g.frame.stack ≡ f.frame.stack

abbrev pub AreWithin : ℕ → List PlacedFrame → Type 0
AreWithin most fs = AllByRecursion (λ f. length f.frame.locals ≤ most) fs

-- What is read where frames were written, of a method with this receiver and these arguments: no
-- frame lists more locals than the written ones have.
pub record AreReadAs (start : List VKind) (fs : List PlacedFrame)
    (read : Option (List PlacedFrame)) : Type 0 where
  pub frames : List PlacedFrame
  pub is : read ≡ Some frames
  pub same : AllZip TellsSame fs frames
  pub within : (most : ℕ) → length start ≤ most → AreWithin most fs → AreWithin most frames

abbrev pub WrittenFramesAreRead : Type 0
WrittenFramesAreRead =
    (pool : List Constant) (start : List VKind) (fs : List PlacedFrame) (bytes : List ℕ)
    → AreNamedKinds start → AllByRecursion IsNamedFrame fs → length fs < 2 ^ 16
    → IsAttribute pool start fs bytes → AreReadAs start fs (frames_in pool start bytes)
