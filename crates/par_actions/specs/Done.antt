-- What an instruction came to, against its reason and its effect.
use Rattle.std.specs.Prelude.{◌≡◌, ℕ, ◌+◌, ℤ, pos, Bool, true, false, if◌then◌else◌, min, List, []}
use Rattle.std.specs.Prelude.{length, Option, Some, None, codes}
use Rattle.par_values.specs.declared.value.MVal.{MVal}
use Rattle.par_values.specs.declared.run.Event.{Event}
use Rattle.par_values.specs.declared.run.Event.TheVariants.{Set, Put, Born, Out}
use Rattle.par_values.specs.declared.link.Target.{Target}
use Rattle.par_values.specs.declared.link.Target.TheVariants.{Output, Nothing}
use Rattle.par_values.specs.Areas.{Name, Areas, shown_value}
use Rattle.par_values.specs.Operations.{Operation, PutStatic, PutField, InvokeStatic, InvokeSpecial}
use Rattle.par_values.specs.Operations.{InvokeVirtual, Create, Jump, JumpIf, JumpIfBoth, JumpIfSame}
use Rattle.par_values.specs.Operations.{JumpIfNull}
use Rattle.par_values.specs.Effects.{Effect, Goes, Happens, Jumps, Throws, ThrowsObject, Returns}
use Rattle.par_values.specs.Effects.{ReturnsWith, throws_null, effect}
use Rattle.par_values.specs.Reasons.{Spot, reason}
use Rattle.par_stack.specs.Frames.{Frame, running, waiting}
use Rattle.par_actions.specs.declared.done.Done.{Done}
use Rattle.par_actions.specs.declared.done.Done.TheVariants as done
use Rattle.par_actions.specs.declared.done.Ways.{Ways}

-- the areas of a frame, beside those of its program
abbrev pub areas_in : Areas → Frame → Areas
areas_in program f = record program { locals = f.locals; operands = f.operands }

-- The spot has the room of the frame that runs.
abbrev pub IsRoomy : Spot → List Frame → Type 0
IsRoomy spot frames = spot.room ≡ length (running frames).operands + (running frames).free

-- The same, and an instruction stands behind it or does not.
pub record IsAt (spot : Spot) (ahead : Bool) (frames : List Frame) : Type 0 where
  pub room : IsRoomy spot frames
  pub stands : spot.stands ≡ ahead

-- whether an instruction stands where an effect goes on
abbrev pub way_of : Ways → Effect → Bool
way_of ways (Jumps to a) = ways.aside
way_of ways _ = ways.ahead

-- The same, of an instruction that goes on at one of two places.
abbrev pub IsAtFork : Spot → Ways → List Name → Operation → Areas → List Frame → Type 0
IsAtFork spot ways classes o program frames =
    IsAt spot (way_of ways (effect classes o (areas_in program (running frames)))) frames

-- the distance at which an operation may go on
abbrev pub distance : Operation → ℤ
distance (Jump to) = to
distance (JumpIf test to) = to
distance (JumpIfBoth test to) = to
distance (JumpIfSame same to) = to
distance (JumpIfNull null to) = to
distance _ = pos 0

-- the lesser of two reasons
abbrev pub lesser : Option ℕ → Option ℕ → Option ℕ
lesser None r = r
lesser (Some n) None = Some n
lesser (Some n) (Some k) = Some (min n k)

-- the least reason against a throw that comes of its handler
abbrev pub handler_reason : Spot → Option ℕ
handler_reason spot =
    if spot.is_roomless then Some 3 else (if spot.is_lost then Some 5 else None)

-- the least reason against a throw against which this one stands too
abbrev pub thrown_reason : Option ℕ → Spot → Option ℕ
thrown_reason other spot = lesser (handler_reason spot) other

-- the event of an operation that writes a static field
abbrev pub set_event : List Name → Operation → MVal → Event
set_event classes (PutStatic f) v = Set f.class f.name (shown_value classes v)
set_event classes _ v = Set [] [] (shown_value classes v)

-- the event of an operation that writes a field of the object of this number
abbrev pub put_event : List Name → Operation → ℕ → MVal → Event
put_event classes (PutField f) n v = Put f.class n f.name (shown_value classes v)
put_event classes _ n v = Put [] n [] (shown_value classes v)

-- the event of an operation that makes the object of this number
abbrev pub born_event : Operation → ℕ → Event
born_event (Create c) n = Born c.name n
born_event _ n = Born [] n

-- what the method does that an operation calls
abbrev pub target_of : Operation → Target
target_of (InvokeStatic m) = m.target
target_of (InvokeSpecial m) = m.target
target_of (InvokeVirtual m) = m.target
target_of _ = Nothing

abbrev pub out_by : Target → ℤ → Event
out_by (Output class name) n = Out class name n
out_by _ n = Out [] [] n

-- the event of an operation that puts this number out
abbrev pub out_event : Operation → ℤ → Event
out_event o n = out_by (target_of o) n

-- It came to this, where the reason and the effect are these, and these the areas after it.
abbrev pub IsDone : Done → List Name → Operation → Spot → Option ℕ → Effect → Areas → Type 0
IsDone done.Goes classes o spot r e after = (r ≡ None) × (e ≡ Goes after)
IsDone done.Jumps classes o spot r e after = (r ≡ None) × (e ≡ Jumps (distance o) after)
IsDone done.ThrowsArithmetic classes o spot r e after =
    (r ≡ thrown_reason None spot) × (e ≡ Throws (codes "ArithmeticException"))
IsDone (done.ThrowsNull later) classes o spot r e after =
    (r ≡ thrown_reason later spot) × (e ≡ throws_null)
IsDone (done.Throws v later) classes o spot r e after =
    (r ≡ thrown_reason later spot) × (e ≡ ThrowsObject v)
IsDone done.Returns classes o spot r e after = (r ≡ None) × (e ≡ Returns)
IsDone (done.ReturnsWith v) classes o spot r e after = (r ≡ None) × (e ≡ ReturnsWith v)
IsDone (done.Sets v) classes o spot r e after =
    (r ≡ None) × (e ≡ Happens (set_event classes o v) after)
IsDone (done.Puts n v) classes o spot r e after =
    (r ≡ None) × (e ≡ Happens (put_event classes o n v) after)
IsDone (done.Born n) classes o spot r e after =
    (r ≡ None) × (e ≡ Happens (born_event o n) after)
IsDone (done.Outs n) classes o spot r e after =
    (r ≡ None) × (e ≡ Happens (out_event o n) after)
-- that of a call is told beside its frame
IsDone done.Calls classes o spot r e after = ⊥
IsDone (done.Bad n) classes o spot r e after = r ≡ Some n

-- whether nothing is changed where it came to this
abbrev pub is_still : Done → Bool
is_still done.ThrowsArithmetic = true
is_still (done.ThrowsNull later) = true
is_still (done.Throws v later) = true
is_still done.Returns = true
is_still (done.ReturnsWith v) = true
is_still (done.Bad n) = true
is_still _ = false

-- An operation came to this, where these are the areas before it and after it.
abbrev pub ComesTo : Done → List Name → Spot → Operation → (before after : Areas) → Type 0
ComesTo done classes spot o before after =
    IsDone done classes o spot (reason classes spot o before) (effect classes o before) after

-- The same, where it changes only the frame that runs.
abbrev pub Comes : Done → List Name → Spot → Operation → Areas → (old new : List Frame) → Type 0
Comes done classes spot o program old new =
    ComesTo done classes spot o (areas_in program (running old)) (areas_in program (running new))

-- The running frame stands where it stood with the room that it had, and the others stay.
pub record Keeps (old new : List Frame) : Type 0 where
  pub point : (running new).point ≡ (running old).point
  pub room :
      length (running new).operands + (running new).free
      ≡ length (running old).operands + (running old).free
  pub waiting : waiting new ≡ waiting old
