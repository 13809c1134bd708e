-- The laws of fillings.
use Rattle.std.specs.Prelude.{◌≡◌, ◌≤◌, ℕ, Bool, true, false, Option, Some, None, List, [], ◌∷◌}
use Rattle.std.specs.Prelude.{Contains, IsTrue, length}
use Rattle.par_bits.specs.Sets.{Set, IsWithin}
use Rattle.par_typed.specs.declared.table.Table.{Table}
use Rattle.par_typed.specs.Plain.{Body}
use Rattle.par_program_laws.specs.Lattice.{numbers, joined}
use Rattle.par_program_laws.specs.Facts.{Facts}
use Rattle.par_program_laws.specs.Declares.{declares}
use Rattle.par_program_laws.specs.Closed.{IsClosed}
use Rattle.par_check.specs.par_check_laws.Asked.{Check}
use Rattle.par_check.specs.par_check_laws.Checks.{checks}
use Rattle.par_check.specs.par_check_laws.Verdict.{given}
use Rattle.par_check.specs.par_check_laws.Right.{AreRight, AreAllRight}
use Rattle.par_reached.specs.Reached.{AreLeastSets}
use Rattle.par_pass_laws.specs.Seens.{given_of, seen_as, join_of}
use Rattle.par_check.specs.par_check_laws.Keeps.{Keeps}
use Rattle.par_infer.specs.Keeps.{limit, strict}
use Rattle.par_program_laws.specs.Inferred.{inferred, AreOfFields}
use Rattle.par_infer.specs.Bounds.{bounds, Cover, replaced}
use Rattle.par_infer.specs.Filling.{Filling, with_filling, ArePolicies, AreBirthsBelow, IsAccepted}
use Rattle.par_infer.specs.Filling.{IsFillingBelow, join_filling}

-- ---- facts

-- what is said of each body with its facts
abbrev pub AreAll : (Body → Facts numbers → Type 0) → List Body → List (Facts numbers) → Type 0
AreAll P [] fs = Unit {0}
AreAll P (b ∷ bs) [] = ⊥
AreAll P (b ∷ bs) (f ∷ fs) = P b f × AreAll P bs fs

-- ---- rules

abbrev pub is_in : Set → Option ℕ → Bool
is_in is None = false
is_in is (Some p) = is p

-- the rule is a lower bound of an inferred field
abbrev pub is_bound : Table → Check → Bool
is_bound table c = is_in (inferred table) (limit c.condition)

-- facts keep a rule with each inferred number replaced by the set of its field
abbrev pub KeepsReplaced : (table : Table) → (ℕ → Set) → Facts numbers → Check → Type 0
KeepsReplaced table σ f c =
    Keeps numbers (λ s. joined table.policies (replaced (inferred table) σ s)) (given table) f c

-- they do, or the rule is a lower bound
abbrev pub KeepsOther : (table : Table) → (ℕ → Set) → Facts numbers → Check → Type 0
KeepsOther table σ f c = is_bound table c ≡ false → KeepsReplaced table σ f c

-- all other rules are kept by the facts with numbers replaced
abbrev pub KeepOthers : Table → (ℕ → Set) → Body → Facts numbers → Type 0
KeepOthers table σ b f =
    (c : Check) → Contains (checks table b) c → is_bound table c ≡ false
    → KeepsReplaced table σ f c

-- the filling meets the lower bounds, over the least facts
pub record MeetsBounds (table : Table) (bs : List Body) (fs : List (Facts numbers)) (ψ : Filling)
    : Type 0 where
  pub policies : ArePolicies table ψ
  pub births : AreBirthsBelow table ψ
  pub writes : AreAll (λ b f. (c : Check) → Contains (checks table b) c → is_bound table c ≡ true
      → Keeps numbers (join_of (with_filling table ψ)) (given_of (with_filling table ψ)) f
      (strict (inferred table) c)) bs fs

-- ---- laws

-- sets that are reached meet the bounds, hold no inferred number, and lie within all that meet them
abbrev pub ReachedSetsAreLeast : Type 0
ReachedSetsAreLeast =
    (is : Set) (b σ : ℕ → Set) → AreLeastSets is b σ
    → Cover is b σ
    × ((i n : ℕ) → IsTrue (is i) → IsTrue (σ i n) → is n ≡ false)
    × ((τ : ℕ → Set) → Cover is b τ → (i : ℕ) → IsTrue (is i) → IsWithin (σ i) (τ i))

-- the least sets are below each filling that meets the bounds, and each that is accepted does
abbrev pub LeastSetsAreBelow : Type 0
LeastSetsAreBelow =
    (table : Table) (bs : List Body) (fs : List (Facts numbers)) (σ : ℕ → Set)
    → AreOfFields table → length table.policies ≤ 256 → AreAllRight table bs fs
    → AreLeastSets (inferred table) (bounds table bs fs) σ
    → MeetsBounds table bs fs (join_filling table σ)
    × ((ψ : Filling) → IsAccepted table bs ψ → MeetsBounds table bs fs ψ)
    × ((ψ : Filling) → MeetsBounds table bs fs ψ → IsFillingBelow table (join_filling table σ) ψ)

-- where the facts keep all other rules, the least sets are accepted
abbrev pub KeptSetsAreAccepted : Type 0
KeptSetsAreAccepted =
    (table : Table) (bs : List Body) (fs : List (Facts numbers)) (σ : ℕ → Set)
    → AreOfFields table → length table.policies ≤ 256 → AreAllRight table bs fs
    → AreLeastSets (inferred table) (bounds table bs fs) σ
    → AreAll (KeepOthers table σ) bs fs
    → IsAccepted table bs (join_filling table σ)

-- a rule that they fail is failed by all closed facts with any filling that meets the bounds
abbrev pub FailedRuleRefuses : Type 0
FailedRuleRefuses =
    (table : Table) (bs : List Body) (fs : List (Facts numbers)) (σ : ℕ → Set)
    → AreOfFields table → length table.policies ≤ 256 → AreAllRight table bs fs
    → AreLeastSets (inferred table) (bounds table bs fs) σ
    → (b : Body) (f : Facts numbers) (c : Check) → Contains bs b → AreRight table b f
    → Contains (checks table b) c → is_bound table c ≡ false
    → (KeepsReplaced table σ f c → ⊥)
    → ((ψ : Filling) → MeetsBounds table bs fs ψ
    → (a : Facts (seen_as (with_filling table ψ)))
    → IsClosed (seen_as (with_filling table ψ)) (declares table) b a
    → Keeps (seen_as (with_filling table ψ)) (λ p. p) (given_of (with_filling table ψ)) a
    (strict (inferred table) c) → ⊥)
    × ((ψ : Filling) → IsAccepted table bs ψ → ⊥)
