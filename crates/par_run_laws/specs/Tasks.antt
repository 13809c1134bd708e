-- A run by what follows each way to complete: a task is given that, and is the run from here on.
use Rattle.std.specs.Prelude.{ℕ, zero, suc, Bool, if◌then◌else◌, List, Option, Some, None}
use Rattle.par_secrecy.specs.par_values.declared.run.Event.{Event}
use Rattle.par_secrecy.specs.par_values.declared.value.MVal.{MVal}
use Rattle.par_secrecy.specs.par_values.declared.value.MVal.TheVariants.{Int, Null, Ref}
use Rattle.par_secrecy.specs.Runs.{Run, stopped, with_first}
use Rattle.par_run_laws.specs.State.{State, entered, restored}

-- how an expression or a statement completes
pub data Exit : Type 0 where
  Normal : Exit
  Broken : Exit
  Continued : Exit
  Returned : Exit
  Thrown : (class : ℕ) → Exit

-- the run from a state on, with at most so many steps
abbrev pub Rest : Type 0
Rest = State → ℕ → Run

-- what follows each way to complete, with the value of an expression; a statement hands on nothing
abbrev pub Rests : Type 0
Rests = Exit → MVal → Rest

abbrev pub Task : Type 0
Task = Rests → Rest

-- what stands for a value where there is none
abbrev pub nothing : MVal
nothing = Null

abbrev pub done : Exit → MVal → Task
done exit v rest = rest exit v

abbrev pub gives : MVal → Task
gives v = done Normal v

-- nothing is left to do here
abbrev pub fine : Task
fine = done Normal nothing

-- at the price of a step; where none is left, the run is stopped
abbrev pub paid : Task → Task
paid c rest s zero = stopped
paid c rest s (suc n) = c rest s n

abbrev pub change : (State → State) → Task → Task
change h c rest s n = c rest (h s) n

abbrev pub read : (State → MVal) → Task
read h rest s n = rest Normal (h s) s n

-- an event, with the locks that are open now
abbrev pub happens : Event → Task → Task
happens e c rest s n = with_first (record { event = e; locks = s.locks }) (c rest s n)

-- the first where the test holds now, and else the second
abbrev pub asked : (State → Bool) → Task → Task → Task
asked test a b rest s n = (if test s then a else b) rest s n

-- with what a number names; where it names nothing, nothing happens
abbrev pub named : {A : Type 0} → Option A → (A → Task) → Task
named None next = fine
named (Some a) next = next a

abbrev pub follow : (MVal → Task) → Rests → Rests
follow next rest Normal v = next v rest
follow next rest Broken v = rest Broken v
follow next rest Continued v = rest Continued v
follow next rest Returned v = rest Returned v
follow next rest (Thrown c) v = rest (Thrown c) v

-- a task, and then the next one with its value
abbrev pub and_then : Task → (MVal → Task) → Task
and_then c next rest = c (follow next rest)

-- the exception of a zero divisor, and that of a null receiver
abbrev pub ARITHMETIC : ℕ
ARITHMETIC = 0

abbrev pub NULL_POINTER : ℕ
NULL_POINTER = 1

-- an object goes on; anything else is as null, and throws
abbrev pub unless_null : MVal → Task → Task
unless_null (Int n) c = done (Thrown NULL_POINTER) nothing
unless_null Null c = done (Thrown NULL_POINTER) nothing
unless_null (Ref k n) c = c

-- the null test of a receiver, which one that is never null does not need
abbrev pub tested : Bool → MVal → Task → Task
tested sure r c = if sure then c else unless_null r c

-- A method is left with what it is to return, or with what it throws; its caller has these locals,
-- and is to return this.
abbrev pub leave : (ℕ → MVal) → MVal → Rests → Rests
leave locals result rest Normal v s n = rest Normal s.result (restored locals result s) n
leave locals result rest Broken v s n = rest Normal s.result (restored locals result s) n
leave locals result rest Continued v s n = rest Normal s.result (restored locals result s) n
leave locals result rest Returned v s n = rest Normal s.result (restored locals result s) n
leave locals result rest (Thrown c) v s n = rest (Thrown c) nothing (restored locals result s) n

-- a method's body with these values in its first locals
abbrev pub enter : Task → List MVal → Task
enter body values rest s n = body (leave s.locals s.result rest) (entered values s) n

-- A loop goes on behind its block and behind `continue`; `break` ends it.
abbrev pub looped : Task → Rests → Rests
looped again rest Normal v = again rest
looped again rest Broken v = rest Normal nothing
looped again rest Continued v = again rest
looped again rest Returned v = rest Returned v
looped again rest (Thrown c) v = rest (Thrown c) v

-- a turn of a loop with this test and this block
abbrev pub turn : (MVal → Bool) → Task → Task → Task → Task
turn holds test block again =
    paid (and_then test (λ v. if holds v then (λ rest. block (looped again rest)) else fine))

-- at most so many turns
abbrev pub turns : ℕ → (Task → Task) → Task
turns zero body rest s n = stopped
turns (suc m) body rest s n = body (turns m body) rest s n

-- what a `try` does with an exception, by its class
abbrev pub caught : (ℕ → Task) → Rests → Rests
caught handle rest Normal v = rest Normal v
caught handle rest Broken v = rest Broken v
caught handle rest Continued v = rest Continued v
caught handle rest Returned v = rest Returned v
caught handle rest (Thrown c) v = handle c rest
