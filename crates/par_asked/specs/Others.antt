-- Classes that are not declared to be thrown.
use Rattle.std.specs.Prelude.{ℕ, not, List}
use Rattle.std.specs.List.{filter}
use Rattle.par_nodes.specs.par_program_laws.Declares.{Thrown}
use Rattle.par_check_laws.specs.Checks.{is_thrown}

abbrev pub unless_thrown : List Thrown → List ℕ → List ℕ
unless_thrown ts classes = filter (λ class. not (is_thrown ts class)) classes
