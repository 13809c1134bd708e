-- Which policies of a set are told.
use Rattle.std.specs.Prelude.{ℕ, Bool, ◌&&◌, not, nat_lt, List, [], length, slice_index_or}
use Rattle.std.specs.List.{list_all, filter, range_with_len}
use Rattle.par_policy.specs.declared.clauses.Clause.{Clause}
use Rattle.par_policy.specs.Sees.{sees}
use Rattle.par_bits.specs.Sets.{Set}
use Rattle.par_infer.specs.Bounds.{any_below}
use Rattle.par_infer.specs.Printed.{above}

module _ (policies : List (List Clause)) where
  -- whether the policy of the first number is below that of the second
  abbrev pub is_below : ℕ → ℕ → Bool
  is_below m n =
      list_all (λ d. sees (slice_index_or policies m []) d.actor d.locks)
      (slice_index_or policies n [])

  -- those of the set that are numbers of policies
  abbrev pub having : Set → Set
  having s n = s n && nat_lt n (length policies)

  -- none of the first so many numbers is one of the set whose policy that of the number is below
  unfoldable pub none_above : Set → (number count : ℕ) → Bool
  none_above s number count = not (any_below count (above is_below (having s) number))

  -- those whose policies are below no other of the set
  unfoldable pub told : Set → Set
  told s n = having s n && none_above s n 256

  -- in the order of the table
  abbrev pub told_numbers : Set → List ℕ
  told_numbers s = filter (told s) (range_with_len 0 (length policies))
