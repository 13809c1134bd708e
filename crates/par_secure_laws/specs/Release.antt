-- The rules on releases.
use Rattle.std.specs.Prelude.{◌≡◌, ◌⊎◌, ℕ}

-- The rules on a value that is written to a static field, written to a field of an object, and put
-- out. They alone ask of a value no more than the open locks do.
abbrev pub IsRelease : ℕ → Type 0
IsRelease rule = (rule ≡ 401) ⊎ ((rule ≡ 402) ⊎ (rule ≡ 403))
