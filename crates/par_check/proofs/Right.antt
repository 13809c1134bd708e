-- Closed and least facts are right.
use Rattle.par_typed.specs.declared.table.Table.{Table}
use Rattle.par_typed.specs.Plain.{Body}
use Rattle.par_asked.specs.par_program_laws.Lattice.{numbers}
use Rattle.par_asked.specs.par_program_laws.Facts.{Facts}
use Rattle.par_rounds.specs.Bodies.{AreLeastClosed}
use Rattle.par_asked.specs.par_check_laws.Right.{AreRight}

pub least_right : (t : Table) (b : Body) (f : Facts numbers) → AreLeastClosed t b f → AreRight t b f
least_right t b f h = record {
  closed = h.closed;
  least = h.policies;
  whichever = h.whichever;
  possible = h.possible;
}
