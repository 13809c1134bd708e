-- When a condition holds of what is known at a spot.
use Rattle.std.specs.Prelude.{Option, Some, None}
use Rattle.par_bits.specs.Sets.{Set, none, union}
use Rattle.par_typed.specs.declared.table.Table.{Table}
use Rattle.par_asked.specs.par_program_laws.Lattice.{numbers, joined}
use Rattle.par_asked.specs.par_program_laws.Ways.{Way}
use Rattle.par_asked.specs.par_program_laws.Facts.{Facts}
use Rattle.par_asked.specs.par_check_laws.Asked.{Condition, Open, Released, Worth, Joined, Context}
use Rattle.par_asked.specs.par_check_laws.Asked.{Effect, Among}
use Rattle.par_asked.specs.par_check_laws.Asked.{Never}
use Rattle.par_asked.specs.par_check_laws.Keeps.{Satisfies}
use Rattle.par_asked.specs.par_check_laws.Verdict.{given}
use Rattle.par_flow.specs.Standing.{Standing}

-- with these policies in the context
abbrev pub heightened : Set → Option Standing → Option Standing
heightened by None = None
heightened by (Some s) = Some (record s { context = union s.context by })

-- a way that stands so
abbrev pub as_way : Standing → Way numbers
as_way s = record { context = s.context; env = λ i. none; locks = s.locks }

-- the value that the condition speaks of; none where it speaks of no value
abbrev pub value_of : Facts numbers → Condition → Set
value_of f (Released v p) = (f v).value
value_of f (Worth v p) = (f v).value
value_of f (Joined v p) = (f v).value
value_of f (Open locks) = none
value_of f (Context p) = none
value_of f (Effect e p) = none
value_of f (Among locks those) = none
value_of f Never = none

-- facts in which each value is this one
abbrev pub valued : Set → Facts numbers
valued value point = record { entry = None; value = value; exit = λ k. None }

-- the condition holds of this value, and of what is known at its spot
abbrev pub Meets : Table → Set → Standing → Condition → Type 0
Meets table value s c =
    Satisfies numbers (joined table.policies) (given table) (valued value) (as_way s) c

abbrev pub MeetsThere : Table → Facts numbers → Option Standing → Condition → Type 0
MeetsThere table f None c = Unit {0}
MeetsThere table f (Some s) c = Meets table (value_of f c) s c
