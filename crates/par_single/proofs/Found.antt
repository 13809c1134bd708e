-- What stands at the place at which an item is found.
use Rattle.std.proofs.Common.{◌≡◌, ℕ, Bool, true, List, [], ◌∷◌, Some, slice_get}
use Rattle.std.proofs.lemmas.List.Quantifiers.{position-Some}
use Rattle.std.proofs.lemmas.Option.{slice_get-get_or}
use Rattle.std.specs.List.{position}

-- An item stands at a place of a list, and passes a test.
pub record FoundAt {X : Type 0} (test : X → Bool) (xs : List X) (place : ℕ) : Type 0 where
  pub item : X
  pub stands : slice_get xs place ≡ Some item
  pub passes : test item ≡ true

pub found_at : {X : Type 0} (test : X → Bool) (xs : List X) (place : ℕ)
    → position test xs ≡ Some place → FoundAt test xs place
found_at test [] place is = absurd (cc is)
found_at test (x ∷ xs) place is =
    let first = position-Some test (x ∷ xs) place x is in
    record {
      item = _;
      stands = slice_get-get_or (x ∷ xs) place x first.0;
      passes = first.1;
    }
