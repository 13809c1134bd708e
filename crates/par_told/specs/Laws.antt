-- The law of what is told.
use Rattle.std.specs.Prelude.{◌≤◌, ℕ, List, length}
use Rattle.par_bits.specs.Sets.{Set}
use Rattle.par_typed.specs.declared.table.Table.{Table}
use Rattle.par_typed.specs.Plain.{Body}
use Rattle.par_program_laws.specs.WellDeclared.{IsWellDeclared}
use Rattle.par_infer.specs.Inferred.{AreLeastAccepted}
use Rattle.par_told.specs.Told.{told}

-- where the joins of some sets are the least accepted filling, those of what is told of them are
abbrev pub ToldIsLeast : Type 0
ToldIsLeast =
    (table : Table) (bs : List Body) (σ : ℕ → Set) → IsWellDeclared table
    → length table.policies ≤ 256 → AreLeastAccepted table bs σ
    → AreLeastAccepted table bs (λ i. told table.policies (σ i))
