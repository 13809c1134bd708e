-- What the attribute of a method's frames is.
use Rattle.std.specs.Prelude.{◌≡◌, ℕ, ◌+◌, ◌⊎◌, List, [], ◌∷◌, ◌++◌, length, Contains}
use Rattle.std.specs.List.{AllZip, All}
use Rattle.par_frame_forms.specs.par_pool.declared.constant.Constant.{Constant}
use Rattle.par_frame_forms.specs.par_pool.Spelling.{u2}
use Rattle.par_frame_forms.specs.par_pool.Growth.{IsClassPart}
use Rattle.par_kinds.specs.par_values.Areas.{Name}
use Rattle.par_frame_forms.specs.declared.form.PlaceType.{PlaceType}
use Rattle.par_frame_forms.specs.declared.form.PlaceType.TheVariants as place
use Rattle.par_frame_forms.specs.declared.form.FrameForm.{FrameForm}
use Rattle.par_frame_forms.specs.Spelled.{Said, says, IsWritten, spelled_all}
use Rattle.par_kinds.specs.declared.frame.VKind.{VKind}
use Rattle.par_kinds.specs.declared.frame.PlacedFrame.{PlacedFrame}
use Rattle.par_frames.specs.Names.{StandsFor}

-- a frame as it is said, its distance counted from an offset
pub record IsSaid (pool : List Constant) (from : ℕ) (f : PlacedFrame) (said : Said) : Type 0 where
  pub delta : f.offset ≡ from + said.delta
  pub locals : AllZip (StandsFor pool) f.frame.locals said.locals
  pub stack : AllZip (StandsFor pool) f.frame.stack said.stack

-- Frames, each in its shortest form, behind one that lists these locals: the distance of the first
-- counts from an offset, that of a later one from the offset behind the frame before. Each stands
-- behind those locals that the form before lists.
abbrev pub AreSaid :
    List Constant → ℕ → List PlaceType → List PlacedFrame → List FrameForm → Type 0
AreSaid pool from listed [] forms = forms ≡ []
AreSaid pool from listed (f ∷ fs) [] = ⊥
AreSaid pool from listed (f ∷ fs) (form ∷ forms) =
    (said : Said) × IsSaid pool from f said × IsWritten listed said form
    × AreSaid pool (f.offset + 1) (says listed form).locals fs forms

-- the locals of the first frame
abbrev pub first_locals : List PlacedFrame → List VKind
first_locals [] = []
first_locals (f ∷ fs) = f.frame.locals

-- The receiver or an argument, as it is listed before the first frame: index 0, which names
-- nothing, stands for a kind that no local of this frame has.
abbrev pub IsListed : List Constant → List VKind → VKind → PlaceType → Type 0
IsListed pool first k t = StandsFor pool k t ⊎ ((t ≡ place.Class 0) × (Contains first k → ⊥))

-- the inside of the attribute, of a method with this receiver and these arguments
pub record IsAttribute (pool : List Constant) (start : List VKind) (fs : List PlacedFrame)
    (bytes : List ℕ) : Type 0 where
  pub listed : List PlaceType
  pub forms : List FrameForm
  pub begins : AllZip (IsListed pool (first_locals fs)) start listed
  pub said : AreSaid pool 0 listed fs forms
  pub spelled : bytes ≡ u2 (length forms) ++ spelled_all forms

-- a pool grows by these classes alone
pub record AddsClasses (old new : List Constant) (names : List Name) : Type 0 where
  pub more : List Constant
  pub behind : new ≡ old ++ more
  pub parts : All (λ c. (name : Name) × Contains names name × IsClassPart new name c) more
