-- What the kept ways mean.
use Rattle.std.specs.Prelude.{◌≡◌, ℕ, Option, Some, None, List, [], ◌∷◌, zero, suc, length}
use Rattle.par_bits.specs.Sets.{Set, none, has}
use Rattle.par_program_laws.specs.Lattice.{numbers}
use Rattle.par_program_laws.specs.Ways as rules
use Rattle.par_except.specs.declared.way.Way.{Way}

-- the sets that a list has for the locals; a local behind its end has none
unfoldable pub locals : List ℕ → ℕ → Set
locals [] i = none
locals (s ∷ ss) zero = has s
locals (s ∷ ss) (suc i) = locals ss i

abbrev pub seen : Way → rules.Way numbers
seen w = record { context = has w.context; env = locals w.env; locks = has w.locks }

abbrev pub may_see : Option Way → Option (rules.Way numbers)
may_see None = None
may_see (Some w) = Some (seen w)

-- the way keeps policies for so many locals
abbrev pub HasLocals : ℕ → Way → Type 0
HasLocals n w = length w.env ≡ n

abbrev pub MayHaveLocals : ℕ → Option Way → Type 0
MayHaveLocals n None = Unit {0}
MayHaveLocals n (Some w) = HasLocals n w
