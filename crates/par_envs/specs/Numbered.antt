-- Environments by their numbers, and how they are found.
use Rattle.std.specs.Prelude.{◌≡◌, ℕ, suc, Bool, ◌&&◌, not, cond, nat_eq, Some}
use Rattle.std.specs.Prelude.{◌⊎◌, List, [], ◌∷◌, ◌++◌, map, slice_get}
use Rattle.par_envs.specs.declared.envs.Entry.{Entry}
use Rattle.par_envs.specs.Same.{policy, AreSame}

abbrev pub envs : List Entry → List (List ℕ)
envs xs = map (λ x. x.env) xs

-- the question of a later one leads there from the one before that it was told from
abbrev pub leads : Entry → List ℕ → ℕ → Bool
leads x env k = nat_eq k x.near && not (nat_eq (policy env x.local) x.policy)

-- where all questions lead from a number, the first of them being that of the number n
abbrev pub reached : List Entry → ℕ → List ℕ → ℕ → ℕ
reached [] n env k = k
reached (x ∷ xs) n env k = reached xs (suc n) env (cond (leads x env k) n k)

-- each environment leads to its own number
abbrev pub AreFound : List Entry → Type 0
AreFound xs = (i : ℕ) (x : Entry) → slice_get xs i ≡ Some x → reached xs 0 x.env 0 ≡ i

-- the number names an environment that is the same
abbrev pub Names : List (List ℕ) → ℕ → List ℕ → Type 0
Names es n env = (e : List ℕ) × (slice_get es n ≡ Some e) × AreSame e env

-- each number of the first names the same environment in the second
abbrev pub Extends : List (List ℕ) → List (List ℕ) → Type 0
Extends es fs = (i : ℕ) (e : List ℕ) → slice_get es i ≡ Some e → slice_get fs i ≡ Some e

-- no environment is added, or this one behind the others
abbrev pub Adds : List (List ℕ) → List (List ℕ) → List ℕ → Type 0
Adds es fs env = (fs ≡ es) ⊎ (fs ≡ es ++ env ∷ [])

-- different numbers name different environments
abbrev pub AreDifferent : List (List ℕ) → Type 0
AreDifferent es =
    (i j : ℕ) (d e : List ℕ) → slice_get es i ≡ Some d → slice_get es j ≡ Some e → AreSame d e
    → i ≡ j
