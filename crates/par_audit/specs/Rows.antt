-- What is known of releases from the policies of a table to one of them.
use Rattle.std.specs.Prelude.{◌≡◌, ℕ, ◌<◌, Bool, true, false, ◌&&◌, not, nat_eq, IsTrue, List, []}
use Rattle.std.specs.Prelude.{length, slice_index_or}
use Rattle.std.specs.List.{list_any}
use Rattle.par_policy.specs.declared.clauses.Clause.{Clause}
use Rattle.par_policy.specs.Sees.{sees}
use Rattle.par_bits.specs.Sets.{has}
use Rattle.par_audit.specs.declared.row.Row.{Row}

-- the actor does not see the policy with the locks of some clause of its own
abbrev pub is_one_released : List Clause → List Clause → ℕ → Bool
is_one_released p q actor =
    list_any (λ c. nat_eq c.actor actor && not (sees p actor c.locks)) q

-- what the row knows of releases to the policy q is so
pub record IsRow (table : List (List Clause)) (actor : ℕ) (q : List Clause) (row : Row)
    : Type 0 where
  pub released : (n : ℕ) → n < length table → IsTrue (has row.released n)
      → is_one_released (slice_index_or table n []) q actor ≡ true
  pub kept : (n : ℕ) → n < length table → IsTrue (has row.kept n)
      → is_one_released (slice_index_or table n []) q actor ≡ false

-- each policy of the table has a row, which is right
pub record AreRows (table : List (List Clause)) (actor : ℕ) (rows : List Row) : Type 0 where
  pub many : length rows ≡ length table
  pub right : (n : ℕ) (none : Row) → n < length table
      → IsRow table actor (slice_index_or table n []) (slice_index_or rows n none)
