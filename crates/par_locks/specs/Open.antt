-- The locks that are open at the points of a body.
use Rattle.std.specs.Prelude.{◌≡◌, ℕ, Option, Some, None, slice_index_or}
use Rattle.par_typed.specs.declared.table.Table.{Table}
use Rattle.par_typed.specs.Plain.{Body}
use Rattle.par_bits.specs.Sets.{Set}
use Rattle.par_program_laws.specs.Lattice.{numbers}
use Rattle.par_program_laws.specs.Ways.{Way}
use Rattle.par_program_laws.specs.Facts.{Facts}
use Rattle.par_rounds.specs.par_ways.Changes.{may_have}
use Rattle.par_rounds.specs.Bodies.{AreLeastClosed}
use Rattle.par_locks.specs.declared.locks.LockFacts.{LockFacts}

-- the locks of a way, if there is one
abbrev pub entering : Option (Way numbers) → Option Set
entering None = None
entering (Some w) = Some w.locks

-- those that are kept for the point
abbrev pub open_at : LockFacts → ℕ → Option Set
open_at l point = may_have (slice_index_or l.locks.items point None)

-- these are the locks with which the least closed facts of the body enter its points: none where
-- the rules give the point no entry
pub record AreOpenOf (t : Table) (b : Body) (open_locks : ℕ → Option Set) : Type 0 where
  pub facts : Facts numbers
  pub least : AreLeastClosed t b facts
  pub same : (point : ℕ) → open_locks point ≡ entering (facts point).entry
