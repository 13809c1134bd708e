-- Distinct entries, up to the first that is one too many.
use Rattle.std.specs.Prelude.{ℕ, nat_lt, if◌then◌else◌, List, length}
use Rattle.par_resolved.specs.declared.entries.Entry.{Entry}
use Rattle.par_resolved.specs.Numbered.{with_new}

-- one more, unless its policy is there, or more are there than may be
unfoldable pub with_new_within : ℕ → List Entry → Entry → List Entry
with_new_within most es e = if nat_lt most (length es) then es else with_new es e
