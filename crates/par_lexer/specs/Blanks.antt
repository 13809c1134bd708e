-- Blanks, and what some bytes begin with.
use Rattle.std.specs.Prelude.{ℕ, List, [], ◌∷◌, Bool, false, ◌||◌, ◌==◌}

-- a tab, the end of a line, a form feed, a carriage return or a space
abbrev pub is_blank : ℕ → Bool
is_blank byte = byte == 9 || byte == 10 || byte == 12 || byte == 13 || byte == 32

-- whether there is a first byte, and it passes
abbrev pub first_is : (ℕ → Bool) → List ℕ → Bool
first_is test [] = false
first_is test (byte ∷ rest) = test byte
