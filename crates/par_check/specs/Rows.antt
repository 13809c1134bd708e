-- What is known of the order of a table's policies at open locks.
use Rattle.std.specs.Prelude.{◌≡◌, ℕ, ◌<◌, Bool, ◌==◌, ◌&&◌, nat_eq, IsTrue, List, []}
use Rattle.std.specs.Prelude.{length, slice_index_or, Some, Vec}
use Rattle.std.specs.Cmp.Lexicographic.{pointwise}
use Rattle.std.specs.HashMap.{HashMap, get}
use Rattle.std.specs.declared.alloc.Global.{Global}
use Rattle.std.specs.declared.hash.FoldHasher.{FoldHasher}
use Rattle.std.specs.declared.hash.BuildHasherDefault.{BuildHasherDefault}
use Rattle.par_policy.specs.declared.clauses.Clause.{Clause}
use Rattle.par_policy.specs.Order.{IsBelowAt}
use Rattle.par_bits.specs.Sets.{Set, has}
use Rattle.par_check.specs.declared.row.Row.{Row}

-- each policy of the table whose number is in the set, specialised to the open locks, is below q
abbrev pub AreBelowAt : List (List Clause) → Set → List ℕ → List Clause → Type 0
AreBelowAt table set opened q =
    (n : ℕ) → n < length table → IsTrue (set n)
    → IsBelowAt (slice_index_or table n []) opened q

-- and none of those is
abbrev pub AreNotBelowAt : List (List Clause) → Set → List ℕ → List Clause → Type 0
AreNotBelowAt table set opened q =
    (n : ℕ) → n < length table → IsTrue (set n)
    → IsBelowAt (slice_index_or table n []) opened q → ⊥

-- what the row knows of the policy q is so
pub record IsRow (table : List (List Clause)) (opened : List ℕ) (q : List Clause) (row : Row)
    : Type 0 where
  pub below : AreBelowAt table (has row.below) opened q
  pub apart : AreNotBelowAt table (has row.apart) opened q

-- the number of a policy, and the locks that are open
abbrev pub Key : Type 0
Key = ℕ × Vec ℕ Global

abbrev pub same_key : Key → Key → Bool
same_key a b = a.0 == b.0 && pointwise nat_eq a.1.items b.1.items

abbrev pub Rows : Type 0
Rows = HashMap Key Row (BuildHasherDefault FoldHasher)

-- each row of the map is right
abbrev pub AreRows : List (List Clause) → Rows → Type 0
AreRows table rows =
    (key : Key) (row : Row) → get same_key rows key ≡ Some row
    → IsRow table key.1.items (slice_index_or table key.0 []) row
