-- Lines and columns, both counted from 1.
use Rattle.std.specs.Prelude.{ℕ, ◌+◌, List, not, ◌==◌, take, count_by}
use Rattle.std.specs.List.{suffix_len}

-- one more than the number of ends of lines before a place
abbrev pub line_at : List ℕ → ℕ → ℕ
line_at source at = 1 + count_by (λ byte. byte == 10) (take at source)

-- one more than the number of bytes behind the last of them
abbrev pub column_at : List ℕ → ℕ → ℕ
column_at source at = 1 + suffix_len (λ byte. not (byte == 10)) (take at source)
