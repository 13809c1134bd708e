-- What is asked of locals that are set and of locks that a `when` asks for.
use Rattle.std.specs.Prelude.{◌≡◌, ℕ, Bool, Some, slice_get}
use Rattle.par_typed.specs.declared.table.Table.{Table}
use Rattle.par_typed.specs.Plain.{TSta, TStas, TCatches}
use Rattle.par_alike.specs.par_check_laws.Checks.{lock_written}
use Rattle.par_program_laws.specs.Uses.{StaUses, StasUse, CatchesUse, IsNotThis}

module _ (table : Table) (is_static : Bool) where
  -- who learns whether the lock is open is written
  abbrev pub IsAsked : ℕ → Type 0
  IsAsked lock = (policy : ℕ) × (lock_written (slice_get table.locks lock) ≡ Some policy)

  -- `this` stays, and each lock that is asked for is such a lock
  abbrev pub StaReady : TSta → Type 0
  StaReady s = StaUses (IsNotThis is_static) IsAsked s

  abbrev pub StasReady : TStas → Type 0
  StasReady ss = StasUse (IsNotThis is_static) IsAsked ss

  abbrev pub CatchesReady : TCatches → Type 0
  CatchesReady cs = CatchesUse (IsNotThis is_static) IsAsked cs
