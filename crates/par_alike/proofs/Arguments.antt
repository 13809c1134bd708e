-- Arguments as the method finds them.
use Rattle.std.proofs.Common.{◌≡◌, ℕ, zero, suc, Bool, true, false, List, [], ◌∷◌, refl}
use Rattle.std.specs.Prelude.{IsTrue, slice_get}
use Rattle.par_program_laws.specs.Closed as closed
use Rattle.par_values.specs.Areas.{value_or_null}
use Rattle.par_run_laws.specs.Values.{truth}
use Rattle.par_values.specs.declared.value.MVal.{MVal}
use Rattle.par_alike.proofs.States.{Watch, IsMade, Sees, lattice}
use Rattle.par_alike.proofs.Calls.{AreMade}

module _ (on : Watch) where
  -- arguments
  abbrev pub AllMade : List MVal → Type 0
  AllMade [] = Unit {0}
  AllMade (v ∷ vs) = IsMade on v × AllMade vs

  -- each of them is
  pub all_made : (vs : List MVal) → AllMade vs → AreMade on vs
  all_made [] h zero = tt
  all_made [] h (suc i) = tt
  all_made (v ∷ vs) h zero = h.0
  all_made (v ∷ vs) h (suc i) = all_made vs h.1 i

  -- two lists of arguments for parameters of these policies
  abbrev pub AreGiven : List ℕ → List MVal → List MVal → Type 0
  AreGiven [] [] [] = Unit {0}
  AreGiven [] [] (v ∷ vs) = ⊥
  AreGiven [] (u ∷ us) vs = ⊥
  AreGiven (p ∷ ps) [] vs = ⊥
  AreGiven (p ∷ ps) (u ∷ us) [] = ⊥
  AreGiven (p ∷ ps) (u ∷ us) (v ∷ vs) = (Sees on p → u ≡ v) × AreGiven ps us vs

  -- the locals that the arguments set are alike
  pub given_env : (ps : List ℕ) (us vs : List MVal) → AreGiven ps us vs → (i : ℕ)
      → IsTrue (closed.arriving (lattice on) ps i)
      → value_or_null (slice_get us i) ≡ value_or_null (slice_get vs i)
  given_env [] [] [] h i p = refl
  given_env [] [] (v ∷ vs) h i p = absurd h
  given_env [] (u ∷ us) vs h i p = absurd h
  given_env (q ∷ ps) [] vs h i p = absurd h
  given_env (q ∷ ps) (u ∷ us) [] h i p = absurd h
  given_env (q ∷ ps) (u ∷ us) (v ∷ vs) h zero p = h.0 p
  given_env (q ∷ ps) (u ∷ us) (v ∷ vs) h (suc i) p = given_env ps us vs h.1 i p

  -- a truth value is no object
  pub truth_made : (b : Bool) → IsMade on (truth b)
  truth_made true = tt
  truth_made false = tt
