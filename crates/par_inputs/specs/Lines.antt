-- The lines of a file.
use Rattle.std.specs.Prelude.{ℕ, List, [], ◌∷◌, ◌==◌, length, if◌then◌else◌}
use Rattle.std.specs.List.{slice_split}

-- some bytes that stand behind one another
abbrev pub Text : Type 0
Text = List ℕ

-- the parts, without the last one where that is empty
abbrev pub without_empty_last : List Text → List Text
without_empty_last [] = []
without_empty_last (part ∷ []) = if length part == 0 then [] else part ∷ []
without_empty_last (part ∷ next ∷ parts) = part ∷ without_empty_last (next ∷ parts)

-- Each line ends at a byte 10, which the last line may lack.
unfoldable pub lines_of : Text → List Text
lines_of bytes = without_empty_last (slice_split (λ byte. byte == 10) bytes)
