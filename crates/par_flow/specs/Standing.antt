-- What is asked of a way: its context and its locks.
use Rattle.std.specs.Prelude.{Option, Some, None}
use Rattle.par_bits.specs.Sets.{Set, has}
use Rattle.par_program_laws.specs.Lattice.{numbers}
use Rattle.par_program_laws.specs.Ways.{Way}
use Rattle.par_flow.specs.declared.known.Known.{Known}

pub record Standing : Type 0 where
  pub context : Set
  pub locks : Set

-- that of a way, if there is one
abbrev pub standing : Option (Way numbers) → Option Standing
standing None = None
standing (Some w) = Some (record { context = w.context; locks = w.locks })

abbrev pub stand : Known → Standing
stand k = record { context = has k.context; locks = has k.locks }

abbrev pub stands : Option Known → Option Standing
stands None = None
stands (Some k) = Some (stand k)
