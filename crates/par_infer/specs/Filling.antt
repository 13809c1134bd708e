-- Policies for inferred fields, and when they are accepted.
use Rattle.std.specs.Prelude.{◌≡◌, ℕ, false, List, Contains, IsTrue}
use Rattle.par_bits.specs.Sets.{Set}
use Rattle.par_typed.specs.declared.table.Table.{Table}
use Rattle.par_typed.specs.declared.table.ClassInfo.{ClassInfo}
use Rattle.par_typed.specs.declared.table.FieldInfo.{FieldInfo}
use Rattle.par_typed.specs.Plain.{Body}
use Rattle.par_program_laws.specs.Lattice.{Seen, IsSeenBelow, joined}
use Rattle.par_program_laws.specs.Facts.{Facts}
use Rattle.par_program_laws.specs.Declares.{declares}
use Rattle.par_program_laws.specs.Closed.{IsClosed}
use Rattle.par_check.specs.par_check_laws.Asked.{Check}
use Rattle.par_check.specs.par_check_laws.Checks.{checks}
use Rattle.par_pass_laws.specs.Seens.{seen_as, given_of}
use Rattle.par_infer.specs.Seens.{filled, IsPolicy}
use Rattle.par_check.specs.par_check_laws.Keeps.{Keeps}
use Rattle.par_infer.specs.Keeps.{strict}
use Rattle.par_program_laws.specs.Inferred.{inferred}

-- a policy for each number of an inferred field
abbrev pub Filling : Type 0
Filling = ℕ → Seen

-- the policies of the table, with the filling in place
abbrev pub with_filling : Table → Filling → List Seen
with_filling table φ = filled (inferred table) φ table.policies

-- it gives policies
abbrev pub ArePolicies : Table → Filling → Type 0
ArePolicies table φ = (i : ℕ) → IsTrue (inferred table i) → IsPolicy (φ i)

-- the birth policy of each class is below those of the inferred fields of its objects
abbrev pub AreBirthsBelow : Table → Filling → Type 0
AreBirthsBelow table φ =
    (c : ClassInfo) (f : FieldInfo) → Contains table.classes c → Contains c.fields f
    → IsTrue f.inferred → f.is_static ≡ false
    → IsSeenBelow (given_of (with_filling table φ) c.birth)
    (given_of (with_filling table φ) f.policy)

-- some closed facts of the body, with the filling in place, keep all rules; a value is written to
-- an inferred field as if no lock were open
pub record IsBodyAccepted (table : Table) (φ : Filling) (b : Body) : Type 0 where
  pub facts : Facts (seen_as (with_filling table φ))
  pub closed : IsClosed (seen_as (with_filling table φ)) (declares table) b facts
  pub kept : (c : Check) → Contains (checks table b) c
      → Keeps (seen_as (with_filling table φ)) (λ p. p) (given_of (with_filling table φ)) facts
      (strict (inferred table) c)

pub record IsAccepted (table : Table) (bs : List Body) (φ : Filling) : Type 0 where
  pub policies : ArePolicies table φ
  pub births : AreBirthsBelow table φ
  pub bodies : (b : Body) → Contains bs b → IsBodyAccepted table φ b

-- the first filling is below the second, field by field
abbrev pub IsFillingBelow : Table → Filling → Filling → Type 0
IsFillingBelow table φ ψ = (i : ℕ) → IsTrue (inferred table i) → IsSeenBelow (φ i) (ψ i)

-- sets of numbers stand for joins
abbrev pub join_filling : Table → (ℕ → Set) → Filling
join_filling table σ i = joined table.policies (σ i)
