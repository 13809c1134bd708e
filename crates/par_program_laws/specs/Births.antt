-- Who sees a field of an object may learn that the object is made.
use Rattle.std.specs.Prelude.{◌≡◌, ℕ, false, slice_get}
use Rattle.std.specs.List.{AllByRecursion}
use Rattle.par_typed.specs.declared.table.FieldInfo.{FieldInfo}
use Rattle.par_typed.specs.declared.table.ClassInfo.{ClassInfo}
use Rattle.par_typed.specs.declared.table.Table.{Table}
use Rattle.par_program_laws.specs.Lattice.{Seen, IsSeenBelow, seen_by}

module _ (table : Table) where
  -- who sees what has the policy of this number
  abbrev pub seen_at : ℕ → Seen
  seen_at n = seen_by (slice_get table.policies n)

  -- the birth policy is below that of the field, if this is a field of objects and not inferred
  abbrev pub IsBornBelow : ℕ → FieldInfo → Type 0
  IsBornBelow birth f =
      f.is_static ≡ false → f.inferred ≡ false → IsSeenBelow (seen_at birth) (seen_at f.policy)

  abbrev pub HasBirthBelow : ClassInfo → Type 0
  HasBirthBelow c = AllByRecursion (IsBornBelow c.birth) c.fields

  -- so is that of each class
  abbrev pub AreBirthsBelow : Type 0
  AreBirthsBelow = AllByRecursion HasBirthBelow table.classes

-- the policy of each field is written or omitted, and none is inferred
abbrev pub AreFieldsWritten : Table → Type 0
AreFieldsWritten table =
    AllByRecursion (λ c. AllByRecursion (λ f. f.inferred ≡ false) c.fields) table.classes
