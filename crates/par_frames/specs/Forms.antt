-- The forms of frames whose classes have their indices.
use Rattle.std.specs.Prelude.{◌≡◌, ℕ, ◌+◌, ◌-◌, ◌<◌, ◌^◌, List, [], ◌∷◌, length, nat_lt}
use Rattle.std.specs.Prelude.{if◌then◌else◌}
use Rattle.std.specs.List.{AllZip}
use Rattle.par_frame_forms.specs.par_pool.declared.constant.Constant.{Constant}
use Rattle.par_frame_forms.specs.declared.form.PlaceType.{PlaceType}
use Rattle.par_frame_forms.specs.declared.form.FrameForm.{FrameForm}
use Rattle.par_frame_forms.specs.declared.form.FrameForm.TheVariants.{OneOperand, OneOperandFar}
use Rattle.par_frame_forms.specs.Spelled.{Said, TypesFit, says}
use Rattle.par_frame_forms.specs.Written.{written}
use Rattle.par_kinds.specs.declared.frame.PlacedFrame.{PlacedFrame}
use Rattle.par_frames.specs.declared.indexed.IndexedFrame.{IndexedFrame}
use Rattle.par_frames.specs.Names.{StandsFor}

-- a frame with an index for each class
pub record IsIndexed (pool : List Constant) (f : PlacedFrame) (i : IndexedFrame) : Type 0 where
  pub offset : i.offset ≡ f.offset
  pub locals : AllZip (StandsFor pool) f.frame.locals i.locals
  pub stack : AllZip (StandsFor pool) f.frame.stack i.stack

-- which has room in an attribute
pub record IndexedFits (i : IndexedFrame) : Type 0 where
  pub few : length i.locals < 2 ^ 16
  pub locals : TypesFit i.locals
  pub low : length i.stack < 2 ^ 16
  pub stack : TypesFit i.stack

abbrev pub said_from : ℕ → IndexedFrame → Said
said_from from i = record { delta = i.offset - from; locals = i.locals; stack = i.stack }

-- a frame with the listed locals and one operand
abbrev pub operand : ℕ → PlaceType → FrameForm
operand delta t = if nat_lt delta 64 then OneOperand delta t else OneOperandFar delta t

-- what a written form lists, for the next one
abbrev pub listed_by : List PlaceType → Said → List PlaceType
listed_by listed said = (says listed (written listed said)).locals

-- the forms that are written, from an offset on, behind a frame that lists these locals
unfoldable pub forms_from : ℕ → List PlaceType → List IndexedFrame → List FrameForm
forms_from from listed [] = []
forms_from from listed (i ∷ fs) =
    written listed (said_from from i)
    ∷ forms_from (i.offset + 1) (listed_by listed (said_from from i)) fs

-- the locals of the last frame
abbrev pub last_behind : IndexedFrame → List IndexedFrame → List PlaceType
last_behind i [] = i.locals
last_behind i (j ∷ js) = last_behind j js

abbrev pub last_locals : List IndexedFrame → List PlaceType
last_locals [] = []
last_locals (i ∷ is) = last_behind i is
