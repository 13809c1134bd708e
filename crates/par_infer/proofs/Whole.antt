-- What the table of a program gives, and what the laws say of its sets.
use Rattle.std.proofs.Common.{ℕ, zero, suc, ◌<◌, ◌≤◌, arith, List, [], ◌∷◌}
use Rattle.std.proofs.Common.{length}
use Rattle.std.specs.Prelude.{IsTrue, slice_get}
use Rattle.std.specs.List.{AllByRecursion}
use Rattle.par_bits.specs.Sets.{Set}
use Rattle.par_typed.specs.declared.table.Table.{Table}
use Rattle.par_typed.specs.declared.table.ClassInfo.{ClassInfo}
use Rattle.par_typed.specs.declared.table.MethodInfo.{MethodInfo}
use Rattle.par_typed.specs.Plain.{Body}
use Rattle.par_program_laws.specs.Lattice.{numbers}
use Rattle.par_program_laws.specs.Facts.{Facts}
use Rattle.par_program_laws.specs.Declares.{declares, method_of, methods_of}
use Rattle.par_program_laws.specs.WellDeclared.{IsWellDeclared}
use Rattle.par_program_laws.specs.Inferred.{inferred}
use Rattle.par_program_laws.specs.Policies.{ClassShares, MethodShares}
use Rattle.par_reached.specs.Reached.{AreLeastSets}
use Rattle.par_check.specs.par_check_laws.Right.{AreAllRight}
use Rattle.par_infer.specs.Bounds.{bounds}
use Rattle.par_infer.specs.Laws.{AreAll, KeepOthers}
use Rattle.par_infer.proofs.Reached.{reached_least}
use Rattle.par_infer.proofs.Fillings.{sets_are_below, kept_accepted}
use Rattle.par_infer.specs.Inferred.{AreLeastAccepted}
use Rattle.par_infer.specs.Least.{HaveFewEffects}

-- ---- numbers of the table

births_below : (k : ℕ) (cs : List ClassInfo) → k ≤ 256 → AllByRecursion (ClassShares k) cs
    → AllByRecursion (λ c. c.birth < 256) cs
births_below k [] few h = tt
births_below k (c ∷ cs) few h =
    let l = h.0.birth in (omega (arith, l, few), births_below k cs few h.1)

method_below : (k : ℕ) (ms : List MethodInfo) (m : ℕ) → 0 < k → AllByRecursion (MethodShares k) ms
    → (method_of (slice_get ms m)).effect < k
method_below k [] m some h = some
method_below k (x ∷ ms) zero some h = h.0.effect
method_below k (x ∷ ms) (suc m) some h = method_below k ms m some h.1

class_below : (k : ℕ) (cs : List ClassInfo) (c m : ℕ) → 0 < k → AllByRecursion (ClassShares k) cs
    → (methods_of (slice_get cs c) m).effect < k
class_below k [] c m some h = some
class_below k (x ∷ cs) zero m some h = method_below k x.methods m some h.0.methods
class_below k (x ∷ cs) (suc c) m some h = class_below k cs c m some h.1

module _ (table : Table) (declared : IsWellDeclared table) (few : length table.policies ≤ 256) where
  few_shared : declared.policies.shared ≤ 256
  few_shared = let count = declared.policies.count in omega (arith, count, few)

  pub few_births : AllByRecursion (λ c. c.birth < 256) table.classes
  few_births =
      births_below declared.policies.shared table.classes few_shared declared.policies.classes

  pub few_effects : HaveFewEffects table
  unfolding declares
  few_effects class method =
      let l = class_below declared.policies.shared table.classes class method
      declared.policies.some declared.policies.classes in
      let most = few_shared in omega (arith, l, most)

  pub few_numbers : (n : ℕ) → IsTrue (inferred table n) → n < 256
  few_numbers n h = let l = declared.inferred.ranges n h in omega (arith, l, few)

  -- where all other rules are kept, the sets are the least accepted filling
  pub least_accepted : (bs : List Body) (fs : List (Facts numbers)) (σ : ℕ → Set)
      → AreAllRight table bs fs → AreLeastSets (inferred table) (bounds table bs fs) σ
      → AreAll (KeepOthers table σ) bs fs → AreLeastAccepted table bs σ
  least_accepted bs fs σ right least others =
      let laws = sets_are_below table bs fs σ declared.inferred few right least in record {
        accepted = kept_accepted table bs fs σ declared.inferred few right least others;
        least = λ ψ a. laws.2 ψ (laws.1 ψ a);
        known = (reached_least (inferred table) (bounds table bs fs) σ least).1;
      }
