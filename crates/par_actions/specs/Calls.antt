-- What a call came to.
use Rattle.std.specs.Prelude.{◌≡◌, ℕ, Bool, true, false, not, ◌&&◌, if◌then◌else◌, List, Option}
use Rattle.std.specs.Prelude.{Some, None}
use Rattle.par_values.specs.declared.value.MVal.{MVal}
use Rattle.par_values.specs.declared.link.MethodLink.{MethodLink}
use Rattle.par_values.specs.declared.inputs.ChannelInput.{ChannelInput}
use Rattle.par_values.specs.Areas.{Name, Areas, InputLists}
use Rattle.par_values.specs.Operations.{Operation, InvokeSpecial, InvokeVirtual}
use Rattle.par_values.specs.Effects.{Effect, Calls, effect}
use Rattle.par_values.specs.Reasons.{Spot, is_of, reason}
use Rattle.par_stack.specs.Frames.{Frame, running, waiting, entered}
use Rattle.par_actions.specs.declared.done.Done.{Done}
use Rattle.par_actions.specs.declared.done.Done.TheVariants as done
use Rattle.par_actions.specs.declared.callee.Target.{Target}
use Rattle.par_actions.specs.declared.callee.Target.TheVariants.{Code}
use Rattle.par_actions.specs.Done.{areas_in, lesser, IsDone}
use Rattle.par_lines.specs.Lines.{AreLeft}

-- the operation that calls a method on an object, by `invokespecial` or by `invokevirtual`
abbrev pub call_on : (special : Bool) → MethodLink → Operation
call_on true m = InvokeSpecial m
call_on false m = InvokeVirtual m

-- whether a method that takes no object but one of an exception is given another
abbrev pub is_misreceived : (only_exceptions : Bool) → (exceptions : List ℕ) → MVal → Bool
is_misreceived only exceptions v = only && not (is_of exceptions v)

-- the least of a reason and 2 where that applies
abbrev pub or_2 : Bool → Option ℕ → Option ℕ
or_2 applies r = if applies then lesser (Some 2) r else r

-- The effect is a call of the method of these numbers, whose frame is this one, and these are the
-- areas after it.
pub record IsCalled (e : Effect) (target : Target) (after : Areas) (called : Frame) : Type 0 where
  pub class : ℕ
  pub method : ℕ
  pub locals : ℕ
  pub room : ℕ
  pub arguments : List MVal
  pub is : target ≡ Code class method locals room
  pub effect : e ≡ Calls class method locals arguments after
  pub frame :
      called ≡ entered (record { class = class; method = method; at = 0 }) arguments locals room

-- the frame of the instruction comes first
abbrev pub acting : Done → List Frame → List Frame
acting done.Calls frames = waiting frames
acting _ frames = frames

-- It came to this, where the reason and the effect are these, this the program after it and these
-- the frames.
abbrev pub IsInvoked : Done → Target → List Name → Operation → Spot → Option ℕ → Effect → Areas
    → List Frame → Type 0
IsInvoked done.Calls target classes o spot r e program new =
    (r ≡ None) × IsCalled e target (areas_in program (running (waiting new))) (running new)
IsInvoked done target classes o spot r e program new =
    IsDone done classes o spot r e (areas_in program (running new))

-- the program with these input lists
abbrev pub with_inputs : InputLists → Areas → Areas
with_inputs inputs program = record program { inputs = inputs }

-- The same, where the lines are these after it.
pub record Invokes (done : Done) (target : Target) (classes : List Name) (o : Operation)
    (spot : Spot) (r : Option ℕ) (e : Effect) (program : Areas) (new : List Frame)
    (lines : List ChannelInput) : Type 0 where
  pub inputs : InputLists
  pub left : AreLeft lines inputs
  pub comes : IsInvoked done target classes o spot r e (with_inputs inputs program) new

-- A call came to this, where 2 stands against it or does not, beside its own reasons.
abbrev pub Invoked : Done → Target → List Name → Operation → Spot → (misreceived : Bool) → Areas
    → (old new : List Frame) → List ChannelInput → Type 0
Invoked done target classes o spot misreceived program old new lines =
    let before = areas_in program (running old) in
    Invokes done target classes o spot (or_2 misreceived (reason classes spot o before))
    (effect classes o before) program new lines
