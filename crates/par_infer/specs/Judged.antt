-- The verdict on the rules that are no lower bounds.
use Rattle.std.specs.Prelude.{◌≡◌, ℕ, Option, Some, None, List, [], ◌∷◌, ◌++◌}
use Rattle.par_bits.specs.Sets.{Set}
use Rattle.par_typed.specs.declared.table.Table.{Table}
use Rattle.par_refusals.specs.declared.refusal.Refusal.{Refusal}
use Rattle.par_typed.specs.Plain.{Body}
use Rattle.par_program_laws.specs.Lattice.{numbers}
use Rattle.par_program_laws.specs.Facts.{Facts}
use Rattle.par_infer.specs.par_check_laws.Checks.{checks}
use Rattle.par_check.specs.Told.{AreBroken}
use Rattle.par_infer.specs.Laws.{AreAll, KeepOthers, KeepsOther}
use Rattle.par_infer.specs.First.{IsFirstFailed}

-- these are the other rules of all bodies that fail, each body over its facts
unfoldable pub AreAllFailed : Table → (ℕ → Set) → List Body → List (Facts numbers) → List Refusal
    → Type 0
AreAllFailed table σ [] fs told = told ≡ []
AreAllFailed table σ (b ∷ bs) [] told = told ≡ []
AreAllFailed table σ (b ∷ bs) (f ∷ fs) told =
    (own : List Refusal) × AreBroken (KeepsOther table σ f) (checks table b) own
    × ((rest : List Refusal) × AreAllFailed table σ bs fs rest × (told ≡ own ++ rest))

-- all other rules are kept, or this is the first that fails
abbrev pub IsJudged : Table → List Body → List (Facts numbers) → (ℕ → Set) → Option Refusal → Type 0
IsJudged table bs fs σ None = AreAll (KeepOthers table σ) bs fs
IsJudged table bs fs σ (Some r) = IsFirstFailed table bs fs σ r
