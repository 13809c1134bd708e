-- What is asked of a call, by its receiver.
use Rattle.std.specs.Prelude.{ℕ, Option, Some, None, List, ◌++◌}
use Rattle.par_typed.specs.declared.table.Table.{Table}
use Rattle.par_typed.specs.Plain.{MayTExp, Absent, Present, TExps, mark}
use Rattle.par_nodes.specs.par_program_laws.Declares.{Method}
use Rattle.par_check_laws.specs.Asked.{Check}
use Rattle.par_check_laws.specs.Checks.{arguments, called}
use Rattle.par_asked.specs.Seen.{called_at}

-- the point of the receiver, if there is one
abbrev pub of_point : MayTExp → Option ℕ
of_point Absent = None
of_point (Present e) = Some (mark e).point

-- what is asked behind the arguments
abbrev pub calls : Table → Method → ℕ → ℕ → MayTExp → TExps → Method → List Check
calls table own at p o es m =
    arguments table own m.params es ++ called table own at (called_at p (of_point o) es) m
