-- Frames that fit labelled code fit it where it is placed.
use Rattle.std.specs.Prelude.{◌≡◌, ℕ, ℤ, List, [], Some}
use Rattle.std.specs.List.{AllByRecursion, AllZip}
use Rattle.par_instr.specs.declared.instr.Instr.{Instr}
use Rattle.par_pool.specs.declared.constant.Constant.{Constant}
use Rattle.par_class.specs.declared.file.Catch.{Catch}
use Rattle.par_class.specs.declared.file.CodeAttr.{CodeAttr}
use Rattle.par_values.specs.Areas.{Name}
use Rattle.par_code_form.specs.declared.item.Item.{Item}
use Rattle.par_code_form.specs.declared.labelled.Handler.{Handler}
use Rattle.par_code_form.specs.declared.labelled.Labelled.{Labelled}
use Rattle.par_code_form.specs.Instructions.{instruction}
use Rattle.par_code_form.specs.PoolNames.{Names}
use Rattle.par_code_form.specs.Placed.{IsPlaced}
use Rattle.par_code_form.specs.Placeable.{FitsItem, IsPlaceable}
use Rattle.par_code_form.specs.PlaceableFrames.{AreFramesPlaceable}
use Rattle.par_kinds.specs.declared.frame.PlacedFrame.{PlacedFrame}
use Rattle.par_kinds.specs.declared.frame.VKind.{VKind}
use Rattle.par_kinds.specs.declared.frame.VKind.TheVariants.{Object as AnObject}
use Rattle.par_kinds.specs.Kinds.{KFrame}
use Rattle.par_kinds.specs.Acts.{Act}
use Rattle.par_kinds.specs.Fits.{Given, Fitting}
use Rattle.par_kinds.specs.Told.{as_met}
use Rattle.par_compile_laws.specs.Framed.{frames_of}
use Rattle.par_placed_fit_laws.specs.Walks.{Sign}
use Rattle.par_placed_fit_laws.specs.Fits.{Fits}
use Rattle.par_placed_fit_laws.specs.Given.{aimed, given_from}

-- what instructions and handlers of placed code are is what its items and handlers are
pub record Means (act : Item → Act) (pool : List Constant) (code : Labelled) (attr : CodeAttr)
    (real : Instr → Act) (handler_kind : Catch → VKind) : Type 0 where
  pub acts : (item : Item) (index : ℕ) (to : ℤ) (i : Instr) → Names pool item index
      → FitsItem item → instruction index to item ≡ Some i → real i ≡ aimed to (act item)
  pub catches : AllZip (λ (h : Handler) (c : Catch). handler_kind c ≡ AnObject h.class)
      code.handlers attr.catches

-- whatever stands for the items of the code in a constant pool
abbrev pub PlacedCodeFits : Type 0
PlacedCodeFits =
    (exc : List Name) (act : Item → Act) (at : ℕ → Sign) (code : Labelled) (first : KFrame)
    → Fits exc act at code first → (pool : List Constant) (attr : CodeAttr)
    → (placed : IsPlaced pool code (record attr { attributes = [] })) → IsPlaceable code
    → (real : Instr → Act) (handler_kind : Catch → VKind)
    → Means act pool code attr real handler_kind
    → Fitting exc real handler_kind attr
    (given_from at act code.items placed.indices 0 (Some first)) first

-- a frame is the one that is given for its offset
abbrev pub IsGivenAt : Given → PlacedFrame → Type 0
IsGivenAt given f = given f.offset ≡ Some (as_met f.frame)

-- the frames that are written of placed code are a part of those that fit it
abbrev pub WrittenFramesAreGiven : Type 0
WrittenFramesAreGiven =
    (exc : List Name) (act : Item → Act) (at : ℕ → Sign) (code : Labelled) (first : KFrame)
    → Fits exc act at code first → (pool : List Constant) (attr : CodeAttr)
    → (placed : IsPlaced pool code (record attr { attributes = [] })) → IsPlaceable code
    → AreFramesPlaceable code
    → AllByRecursion (IsGivenAt (given_from at act code.items placed.indices 0 (Some first)))
    (frames_of code placed.indices)
