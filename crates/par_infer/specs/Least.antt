-- What the collected bounds rest on.
use Rattle.std.specs.Prelude.{ℕ, ◌<◌}
use Rattle.par_typed.specs.declared.table.Table.{Table}
use Rattle.par_program_laws.specs.Declares.{declares}

-- write effects are numbers of sets
abbrev pub HaveFewEffects : Table → Type 0
HaveFewEffects table = (class method : ℕ) → ((declares table).method class method).effect < 256
