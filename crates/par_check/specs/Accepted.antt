-- Facts that keep all rules of a body, and why a program is refused.
use Rattle.std.specs.Prelude.{Contains}
use Rattle.par_typed.specs.declared.table.Table.{Table}
use Rattle.par_typed.specs.declared.program.Typed.{Typed}
use Rattle.par_typed.specs.Plain.{Body}
use Rattle.par_typed.specs.Shown.{bodies}
use Rattle.par_asked.specs.par_program_laws.Lattice.{numbers}
use Rattle.par_asked.specs.par_program_laws.Facts.{Facts}
use Rattle.par_asked.specs.par_check_laws.Asked.{Check}
use Rattle.par_asked.specs.par_check_laws.Checks.{checks}
use Rattle.par_asked.specs.par_check_laws.Verdict.{KeepsNumbered}
use Rattle.par_asked.specs.par_check_laws.Right.{AreRight}
use Rattle.par_check.specs.Judged.{IsFirstBroken}
use Rattle.par_check.specs.declared.error.CheckError.{CheckError}
use Rattle.par_check.specs.declared.error.CheckError.TheVariants.{Broken, Memory}

-- closed and least facts of one body, which keep all of its rules
pub record AreKept (table : Table) (b : Body) (f : Facts numbers) : Type 0 where
  pub right : AreRight table b f
  pub kept : (c : Check) → Contains (checks table b) c → KeepsNumbered table f c

-- the first broken rule, or want of memory
abbrev pub IsRefused : Typed → CheckError → Type 0
IsRefused typed (Broken r) = IsFirstBroken typed.table (bodies typed.bodies) r
IsRefused typed Memory = Unit {0}
