-- The first rule that no filling can keep.
use Rattle.std.specs.Prelude.{◌≡◌, ◌⊎◌, ℕ, ◌≤◌, false, length, List, Contains}
use Rattle.par_bits.specs.Sets.{Set}
use Rattle.par_typed.specs.declared.table.Table.{Table}
use Rattle.par_refusals.specs.declared.refusal.Refusal.{Refusal}
use Rattle.par_refusals.specs.First.{broken, comes_before}
use Rattle.par_typed.specs.Plain.{Body}
use Rattle.par_program_laws.specs.Lattice.{numbers}
use Rattle.par_program_laws.specs.Facts.{Facts}
use Rattle.par_program_laws.specs.Declares.{declares}
use Rattle.par_program_laws.specs.Closed.{IsClosed}
use Rattle.par_check.specs.par_check_laws.Asked.{Check}
use Rattle.par_check.specs.par_check_laws.Checks.{checks}
use Rattle.par_check.specs.par_check_laws.Right.{AreRight, AreAllRight}
use Rattle.par_reached.specs.Reached.{AreLeastSets}
use Rattle.par_pass_laws.specs.Seens.{given_of, seen_as}
use Rattle.par_check.specs.par_check_laws.Keeps.{Keeps}
use Rattle.par_infer.specs.Keeps.{strict}
use Rattle.par_program_laws.specs.Inferred.{inferred, AreOfFields}
use Rattle.par_infer.specs.Bounds.{bounds}
use Rattle.par_infer.specs.Filling.{Filling, with_filling, IsAccepted}
use Rattle.par_infer.specs.Laws.{AreAll, KeepsReplaced, MeetsBounds, is_bound}

-- with the filling the facts do not keep the rule at some node with this place
pub record Fails (table : Table) (ψ : Filling) (b : Body) (rule at : ℕ)
    (a : Facts (seen_as (with_filling table ψ))) : Type 0 where
  pub check : Check
  pub asked : Contains (checks table b) check
  pub rule_is : check.rule ≡ rule
  pub at_is : check.at ≡ at
  pub broken : Keeps (seen_as (with_filling table ψ)) (λ p. p) (given_of (with_filling table ψ)) a
      (strict (inferred table) check) → ⊥

-- with the filling all closed facts of some body fail the rule at the place
pub record IsBrokenWith (table : Table) (bs : List Body) (ψ : Filling) (rule at : ℕ) : Type 0 where
  pub body : Body
  pub there : Contains bs body
  pub fails : (a : Facts (seen_as (with_filling table ψ)))
      → IsClosed (seen_as (with_filling table ψ)) (declares table) body a
      → Fails table ψ body rule at a

-- so it is with every filling that meets the bounds
abbrev pub IsBrokenAlways : Table → List Body → List (Facts numbers) → ℕ → ℕ → Type 0
IsBrokenAlways table bs fs rule at =
    (ψ : Filling) → MeetsBounds table bs fs ψ → IsBrokenWith table bs ψ rule at

-- the rule is broken so at its place, and none that is comes before it
pub record IsFirstAlways (table : Table) (bs : List Body) (fs : List (Facts numbers)) (r : Refusal)
    : Type 0 where
  pub breaks : IsBrokenAlways table bs fs r.rule r.at
  pub first : (rule at : ℕ) → IsBrokenAlways table bs fs rule at
      → comes_before (broken rule at) r ≡ false
  pub none : (ψ : Filling) → IsAccepted table bs ψ → ⊥

-- some other rule that fails, which no other rule that fails comes before
pub record IsFirstFailed (table : Table) (bs : List Body) (fs : List (Facts numbers))
    (σ : ℕ → Set) (r : Refusal) : Type 0 where
  pub body : Body
  pub facts : Facts numbers
  pub there : Contains bs body
  pub right : AreRight table body facts
  pub check : Check
  pub asked : Contains (checks table body) check
  pub other : is_bound table check ≡ false
  pub fails : KeepsReplaced table σ facts check → ⊥
  pub is : r ≡ broken check.rule check.at
  pub before : AreAll (λ b f. (c : Check) → Contains (checks table b) c → is_bound table c ≡ false
      → (comes_before (broken c.rule c.at) r ≡ false) ⊎ KeepsReplaced table σ f c) bs fs

abbrev pub FirstFailedIsFirstAlways : Type 0
FirstFailedIsFirstAlways =
    (table : Table) (bs : List Body) (fs : List (Facts numbers)) (σ : ℕ → Set) (r : Refusal)
    → AreOfFields table → length table.policies ≤ 256 → AreAllRight table bs fs
    → AreLeastSets (inferred table) (bounds table bs fs) σ
    → IsFirstFailed table bs fs σ r → IsFirstAlways table bs fs r
