-- Sets of numbers below 256, such as those of policies and of ground locks.
use Rattle.std.specs.Prelude.{ℕ, List}
use Rattle.std.specs.List.{filter, range_with_len}
use Rattle.par_policy.specs.declared.clauses.Clause.{Clause}
use Rattle.par_policy.specs.Order.{IsJoinBelowAt, policies_of}
use Rattle.par_policy.specs.par_bits.Sets.{has}

-- the members of the set, ascending
unfoldable pub members : ℕ → List ℕ
members set = filter (has set) (range_with_len 0 256)

-- the join of the policies of a table whose numbers are in the set, specialised to the locks whose
-- numbers are in the other set, is below q
abbrev pub IsSetBelowAt : List (List Clause) → ℕ → ℕ → List Clause → Type 0
IsSetBelowAt table set locks q = IsJoinBelowAt (policies_of table (members set)) (members locks) q
