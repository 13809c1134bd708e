-- What a function that reads bytes gives.
use Rattle.std.specs.Prelude.{◌≡◌, ℕ, List, Option, Some, None, Result, Ok, Err}
use Rattle.par_base.specs.declared.memory.NoMemory.{NoMemory}
use Rattle.par_frame_forms.specs.Reading.{Read}
use Rattle.par_given_frames.specs.declared.error.Unread.{Unread}
use Rattle.par_given_frames.specs.declared.error.Unread.TheVariants.{Refused, Memory}

abbrev pub seen : {A : Type 0} → A → List ℕ → Read A
seen x rest = record { value = x; rest = rest }

abbrev pub Fails : {Y : Type 0} → Unread → Option Y → Type 0
Fails Refused read = read ≡ None
Fails Memory read = Unit {0}

-- what was returned, seen by view, is what reading gives, unless memory ran out
abbrev pub Gives : {X Y : Type 0} → (X → Y) → Result X Unread → Option Y → Type 0
Gives view (Ok x) read = read ≡ Some (view x)
Gives view (Err e) read = Fails e read

-- what was read, or something else where that was refused
abbrev pub read_or : {T : Type 0} → Result T Unread → T → Result T NoMemory
read_or (Ok x) otherwise = Ok x
read_or (Err Refused) otherwise = Ok otherwise
read_or (Err Memory) otherwise = Err (record {})
