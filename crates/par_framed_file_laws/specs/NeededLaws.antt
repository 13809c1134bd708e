-- The frames of bodies, at labels and at offsets.
use Rattle.std.specs.Prelude.{false, List, [], ℤ, All}
use Rattle.par_typed.specs.declared.table.MethodInfo.{MethodInfo}
use Rattle.par_typed.specs.Plain.{TSta}
use Rattle.par_pool.specs.declared.constant.Constant.{Constant}
use Rattle.par_class.specs.declared.file.CodeAttr.{CodeAttr}
use Rattle.par_code_form.specs.declared.labelled.Labelled.{Labelled}
use Rattle.par_code_form.specs.Code.{Words}
use Rattle.par_code_form.specs.Method.{labelled}
use Rattle.par_typed_laws.specs.Control.{StaReached}
use Rattle.par_code_form.specs.Placed.{IsPlaced}
use Rattle.par_code_form.specs.Placeable.{FitsItem}
use Rattle.par_code_form.specs.PlaceableFrames.{AreFramesPlaceable}
use Rattle.par_framing.specs.par_kinds.declared.frame.PlacedFrame.{PlacedFrame}
use Rattle.par_framing.specs.par_frames.Needed.{IsNeeded}
use Rattle.par_framing.specs.par_frames.Broken.{IsPlacedIn, HasFrame}
use Rattle.par_framing.specs.par_compile_laws.Framed.{frames_of}
use Rattle.par_framed_file_laws.specs.Met.{HasNeededFrames}

abbrev pub BodiesHaveFrames : Type 0
BodiesHaveFrames =
    (w : Words) (m : MethodInfo) (body : TSta) → StaReached false body
    → HasNeededFrames (labelled w m body)

-- frames at instructions, and at each offset that needs one
pub record AreFramesIn (attr : CodeAttr) (fs : List PlacedFrame) : Type 0 where
  pub placed : All (IsPlacedIn attr) fs
  pub needed : (to : ℤ) → IsNeeded attr to → HasFrame fs to

abbrev pub PlacedCodeIsFramed : Type 0
PlacedCodeIsFramed =
    (pool : List Constant) (code : Labelled) (attr : CodeAttr)
    → (placed : IsPlaced pool code (record attr { attributes = [] })) → All FitsItem code.items
    → AreFramesPlaceable code → HasNeededFrames code
    → AreFramesIn attr (frames_of code placed.indices)
