-- The classes that frames name are those of a program.
use Rattle.std.specs.Prelude.{◌≡◌, ℕ, ◌<◌}
use Rattle.std.specs.List.{AllByRecursion}
use Rattle.par_code_form.specs.declared.labelled.LabelFrame.{LabelFrame}
use Rattle.par_code_form.specs.declared.labelled.Slot.{Slot}
use Rattle.par_code_form.specs.declared.labelled.Slot.TheVariants as slot
use Rattle.par_code_form.specs.Code.{Words}

module _ (w : Words) (classes : ℕ) where
  -- what it holds is no object, or one of a class of a number below this
  abbrev pub IsOfClass : Slot → Type 0
  IsOfClass slot.Unset = Unit {0}
  IsOfClass slot.Int = Unit {0}
  IsOfClass slot.Null = Unit {0}
  IsOfClass (slot.Class name) = (c : ℕ) × (c < classes) × (name ≡ w.class c)

  pub record IsOfClasses (f : LabelFrame) : Type 0 where
    pub locals : AllByRecursion IsOfClass f.locals
    pub stack : AllByRecursion IsOfClass f.stack
