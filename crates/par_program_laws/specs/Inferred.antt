-- The numbers of inferred fields.
use Rattle.std.specs.Prelude.{◌≡◌, ◌<◌, ℕ, false, ◌||◌, ◌&&◌, nat_eq, IsTrue, List, [], ◌∷◌, length}
use Rattle.par_bits.specs.Sets.{Set}
use Rattle.par_typed.specs.declared.table.FieldInfo.{FieldInfo}
use Rattle.par_typed.specs.declared.table.ClassInfo.{ClassInfo}
use Rattle.par_typed.specs.declared.table.Table.{Table}
use Rattle.par_program_laws.specs.Declares.{declares}

abbrev pub inferred_among : List FieldInfo → Set
inferred_among [] n = false
inferred_among (f ∷ fs) n = (f.inferred && nat_eq f.policy n) || inferred_among fs n

abbrev pub inferred_in : List ClassInfo → Set
inferred_in [] n = false
inferred_in (c ∷ cs) n = inferred_among c.fields n || inferred_in cs n

-- the numbers of inferred fields
abbrev pub inferred : Table → Set
inferred table = inferred_in table.classes

-- they are those of policies, and of fields alone: no write effect is one
pub record AreOfFields (table : Table) : Type 0 where
  pub ranges : (n : ℕ) → IsTrue (inferred table n) → n < length table.policies
  pub effects : (class method : ℕ)
      → inferred table ((declares table).method class method).effect ≡ false
