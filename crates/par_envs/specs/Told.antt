-- Which locals have the same policies.
use Rattle.std.specs.Prelude.{◌≡◌, ℕ, zero, suc, false, cond, Option, Some, None, List, [], ◌∷◌}
use Rattle.par_bits.specs.Sets.{has}
use Rattle.par_envs.specs.declared.env.Held.{Held}
use Rattle.par_envs.specs.Same.{policy}

-- the policies of a local are those of the first that hold it
abbrev pub told : List Held → ℕ → ℕ
told [] i = 0
told (h ∷ hs) i = cond (has h.locals i) h.policy (told hs i)

-- none holds the local
abbrev pub IsFree : List Held → ℕ → Type 0
IsFree [] i = Unit {0}
IsFree (h ∷ hs) i = (has h.locals i ≡ false) × IsFree hs i

-- these policies stand at the place
abbrev pub StandsAt : List Held → ℕ → ℕ → Type 0
StandsAt [] place p = ⊥
StandsAt (h ∷ hs) zero p = h.policy ≡ p
StandsAt (h ∷ hs) (suc place) p = StandsAt hs place p

-- what is kept, if anything is, tells the policies of each local
abbrev pub MayTell : List ℕ → Option (List Held) → Type 0
MayTell env None = Unit {0}
MayTell env (Some hs) = (i : ℕ) → policy env i ≡ told hs i
