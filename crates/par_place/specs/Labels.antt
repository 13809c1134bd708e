-- Placed code beside the offsets of its labels.
use Rattle.std.specs.Prelude.{ℕ, List}
use Rattle.par_pool.specs.declared.constant.Constant.{Constant}
use Rattle.par_class.specs.declared.file.CodeAttr.{CodeAttr}
use Rattle.par_code_form.specs.declared.labelled.Labelled.{Labelled}
use Rattle.par_code_form.specs.Placed.{IsPlaced}
use Rattle.par_place.specs.Offsets.{HasOffsets, AreSmall}

-- code whose labels stand at these offsets
pub record IsPlacedAt (pool : List Constant) (code : Labelled) (attr : CodeAttr)
    (offsets : List ℕ) : Type 0 where
  pub placed_ : IsPlaced pool code attr
  pub labels : HasOffsets code.items placed_.indices offsets
  pub small : AreSmall offsets
