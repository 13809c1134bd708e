-- A list cut into pieces.
use Rattle.std.specs.Prelude.{◌≡◌, ℕ, zero, suc, ◌+◌, ◌*◌, ◌<◌, List, [], ◌∷◌, take, drop}

-- so many pieces, each of so many items
unfoldable pub cut : {A : Type 0} → ℕ → ℕ → List A → List (List A)
cut zero width xs = []
cut (suc count) width xs = take width xs ∷ cut count width (drop width xs)

-- the place of an item of a piece in the whole list
pub record IsPlace (count width n item place : ℕ) : Type 0 where
  pub piece_there : n < count
  pub item_there : item < width
  pub is : place ≡ n * width + item
