-- The places of a program whose flow needs an open lock for an actor.
use Rattle.std.specs.Prelude.{ℕ, Bool, false, List, [], ◌∷◌, ◌++◌, map}
use Rattle.std.specs.List.{filter}
use Rattle.std.specs.List.Sorted.{IsPermutation, IsNonDecreasingBy}
use Rattle.par_typed.specs.declared.table.Table.{Table}
use Rattle.par_typed.specs.Plain.{Body}
use Rattle.par_program_laws.specs.Lattice.{numbers}
use Rattle.par_program_laws.specs.Facts.{Facts}
use Rattle.par_check_laws.specs.Asked.{Condition, Released, Check}
use Rattle.par_check_laws.specs.Checks.{checks}
use Rattle.par_alike.specs.Subject.{policy_at}
use Rattle.par_audit.specs.Released.{is_released}
use Rattle.par_audit.specs.declared.release.Release.{Release}

abbrev pub as_release : Check → Release
as_release c = record { rule = c.rule; at = c.at }

module _ (table : Table) (actor : ℕ) where
  -- a value that goes where the policy says, and that the actor sees only with an open lock; rules
  -- 401, 402 and 403 alone ask for such
  abbrev pub is_release : Facts numbers → Condition → Bool
  is_release f (Released v p) =
      is_released table.policies (f v).value (policy_at table p) actor
  is_release f _ = false

  -- those of a list of rules
  abbrev pub releases : Facts numbers → List Check → List Release
  releases f cs = map as_release (filter (λ c. is_release f c.condition) cs)

  -- and of all bodies, each with its facts
  abbrev pub all_releases : List Body → List (Facts numbers) → List Release
  all_releases [] fs = []
  all_releases (b ∷ bs) [] = []
  all_releases (b ∷ bs) (f ∷ fs) = releases f (checks table b) ++ all_releases bs fs

-- these are all of them, by ascending place
pub record AreReleases (all found : List Release) : Type 0 where
  pub same : IsPermutation all found
  pub ascending : IsNonDecreasingBy (λ (r : Release). r.at) found
