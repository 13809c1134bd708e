-- The first item of a list that stands there again.
use Rattle.std.specs.Prelude.{ℕ, Bool, if◌then◌else◌, List, [], ◌∷◌, ◌++◌, length, Option}
use Rattle.std.specs.Prelude.{Some, None}
use Rattle.std.specs.List.{list_any}

module _ {A : Type 0} (same : A → A → Bool) where
  -- the place of the first item that is the same as an earlier one, where some stand before all
  unfoldable pub repeated_after : List A → List A → Option ℕ
  repeated_after before [] = None
  repeated_after before (x ∷ xs) =
      if list_any (same x) before then Some (length before)
      else repeated_after (before ++ x ∷ []) xs

  abbrev pub first_repeated : List A → Option ℕ
  first_repeated xs = repeated_after [] xs
