-- The inferred fields of a table, in source order, with sets by the numbers of their policies.
use Rattle.std.specs.Prelude.{ℕ, ◌+◌, cond, List, [], ◌∷◌, ◌++◌, slice_index_or}
use Rattle.par_typed.specs.declared.table.FieldInfo.{FieldInfo}
use Rattle.par_typed.specs.declared.table.ClassInfo.{ClassInfo}
use Rattle.par_infer.specs.declared.filling.FilledField.{FilledField}

module _ (sets : List ℕ) where
  abbrev pub filled_field : ℕ → ℕ → FieldInfo → List FilledField
  filled_field class field f =
      cond f.inferred
      (record { class = class; field = field; policies = slice_index_or sets f.policy 0 } ∷ []) []

  abbrev pub filled_among : ℕ → ℕ → List FieldInfo → List FilledField
  filled_among class field [] = []
  filled_among class field (f ∷ fs) =
      filled_field class field f ++ filled_among class (field + 1) fs

  abbrev pub filled_in : ℕ → List ClassInfo → List FilledField
  filled_in class [] = []
  filled_in class (c ∷ cs) = filled_among class 0 c.fields ++ filled_in (class + 1) cs
