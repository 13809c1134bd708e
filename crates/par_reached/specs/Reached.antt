-- Which numbers come to a number over others, where sets say what comes to each at once.
use Rattle.std.specs.Prelude.{◌≡◌, ◌↔◌, ℕ, false, ◌||◌, ◌&&◌, IsTrue, List, slice_index_or}
use Rattle.par_bits.specs.Sets.{Set, has}

-- what comes to a number over those of a set
pub data Reaches (is : Set) (b : ℕ → Set) : ℕ → ℕ → Type 0 where
  Straight : (i n : ℕ) → IsTrue (b i n) → is n ≡ false → Reaches is b i n
  Through : (i j n : ℕ) → IsTrue (b i j) → IsTrue (is j) → Reaches is b j n → Reaches is b i n

-- each set is what its number is reached by
pub record AreLeastSets (is : Set) (b : ℕ → Set) (σ : ℕ → Set) : Type 0 where
  pub exact : (i n : ℕ) → IsTrue (is i) → IsTrue (σ i n) ↔ Reaches is b i n

-- the sets of a list, by their places
abbrev pub set_at : List ℕ → ℕ → Set
set_at sets i = has (slice_index_or sets i 0)

-- what comes to a number comes to each that it comes to
abbrev pub Passed : (ℕ → Set) → ℕ → (ℕ → Set) → Type 0
Passed b over c = (i n : ℕ) → c i n ≡ (b i n || (b i over && b over n))
