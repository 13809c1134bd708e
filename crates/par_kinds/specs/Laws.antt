-- What passes over the code of a method find.
use Rattle.std.specs.Prelude.{◌≡◌, ℕ, ◌<◌, List, length, Some, true}
use Rattle.par_instr.specs.declared.instr.Instr.{Instr}
use Rattle.par_step_laws.specs.par_class.declared.file.Catch.{Catch}
use Rattle.par_step_laws.specs.par_class.declared.file.CodeAttr.{CodeAttr}
use Rattle.par_values.specs.Areas.{Name}
use Rattle.par_kinds.specs.declared.frame.VKind.{VKind}
use Rattle.par_kinds.specs.Kinds.{KFrame, into}
use Rattle.par_kinds.specs.Acts.{Act}
use Rattle.par_kinds.specs.Fits.{Given, Fitting}
use Rattle.par_kinds.specs.Passes.{Judged, StartsWith, merge, frames_as_told}
use Rattle.par_kinds.specs.Passes.{least_frames}

-- frames that fit and are those that are told, where some are
abbrev pub FitsAsTold :
    List Name → (Instr → Act) → (Catch → VKind) → CodeAttr → KFrame → Given → Given → Type 0
FitsAsTold exc act handler_kind code first told u =
    Fitting exc act handler_kind code u first × StartsWith told u

-- the passes find the least frames that fit and are those that are told, or nothing if none do
abbrev pub FramesAsToldAreLeast : Type 0
FramesAsToldAreLeast =
    (exc : List Name) (act : Instr → Act) (handler_kind : Catch → VKind) (code : CodeAttr)
    (first : KFrame) (told : Given)
    → ((at : ℕ) (k : KFrame) → told at ≡ Some k → at < length code.code)
    → Judged exc (FitsAsTold exc act handler_kind code first told)
    (frames_as_told exc act handler_kind code first told)

-- they find the least frames that fit where none are told, or nothing if none fit
abbrev pub LeastFramesAreLeast : Type 0
LeastFramesAreLeast =
    (exc : List Name) (act : Instr → Act) (handler_kind : Catch → VKind) (code : CodeAttr)
    (first : KFrame)
    → Judged exc (λ u. Fitting exc act handler_kind code u first)
    (least_frames exc act handler_kind code first)

-- a merge is the least kind into which two fit
pub record IsLeastAbove (exc : List Name) (k l m : VKind) : Type 0 where
  pub left : into exc k m ≡ true
  pub right : into exc l m ≡ true
  pub least : (u : VKind) → into exc k u ≡ true → into exc l u ≡ true → into exc m u ≡ true

abbrev pub MergesAreLeast : Type 0
MergesAreLeast = (exc : List Name) (k l : VKind) → IsLeastAbove exc k l (merge exc k l)
