-- What holds of all placed code.
use Rattle.std.specs.Prelude.{◌≡◌, ℕ, suc, List, Some, slice_get}
use Rattle.par_instr.specs.declared.instr.Instr.{Instr}
use Rattle.par_instr.specs.Spelling.{Stands}
use Rattle.par_pool.specs.declared.constant.Constant.{Constant}
use Rattle.par_class.specs.declared.file.CodeAttr.{CodeAttr}
use Rattle.par_code_form.specs.declared.item.Item.{Item}
use Rattle.par_code_form.specs.declared.labelled.Labelled.{Labelled}
use Rattle.par_code_form.specs.Instructions.{instruction}
use Rattle.par_code_form.specs.Placed.{offset_of, offset_at, distance, IsPlaced}

-- the instruction of the item at a place, by the indices of what the items name
pub record IsInstructionOf (items : List Item) (indices : List ℕ) (place : ℕ) (i : Instr)
    : Type 0 where
  pub item : Item
  pub index : ℕ
  pub stands : slice_get items place ≡ Some item
  pub named : slice_get indices place ≡ Some index
  pub is :
      instruction index
      (distance (offset_of items indices) (offset_at place items indices) item) item
      ≡ Some i

-- the instruction of an item stands in the bytes from the item's offset to that of the next
abbrev pub PlacedInstructionsStand : Type 0
PlacedInstructionsStand =
    (pool : List Constant) (code : Labelled) (attr : CodeAttr) (placed : IsPlaced pool code attr)
    (place : ℕ) (i : Instr) → IsInstructionOf code.items placed.indices place i
    → Stands attr.code (offset_at place code.items placed.indices) i
    (offset_at (suc place) code.items placed.indices)
