-- Policies of locals, as sets that are kept as numbers.
use Rattle.std.specs.Prelude.{◌≡◌, ℕ, List, slice_index_or}

-- that of a local; behind the end the set is empty
abbrev pub policy : List ℕ → ℕ → ℕ
policy env i = slice_index_or env i 0

abbrev pub AreSame : List ℕ → List ℕ → Type 0
AreSame d e = (i : ℕ) → policy d i ≡ policy e i
