-- One machine for labelled code and for bytes: what par_step_laws defines, over what it asks of
-- files.
use Rattle.std.specs.Prelude.{ℕ, zero, suc, ◌+◌, ℤ, pos, ◌+ℤ◌, Bool, true, false, not}
use Rattle.std.specs.Prelude.{if◌then◌else◌}
use Rattle.std.specs.Prelude.{List, [], ◌∷◌, Option, Some, None, is_none, ◌==◌}
use Rattle.par_values.specs.declared.kind.Kind.{Kind}
use Rattle.par_values.specs.declared.value.MVal.{MVal}
use Rattle.par_values.specs.declared.value.MVal.TheVariants.{Ref}
use Rattle.par_values.specs.declared.run.Ending.TheVariants.{End, Uncaught}
use Rattle.par_values.specs.Areas.{Name, Areas, class_named, first_locals, operand, next_number}
use Rattle.par_values.specs.Areas.{with_object}
use Rattle.par_values.specs.Operations.{Operation}
use Rattle.par_values.specs.Reasons.{Spot, reason, is_of}
use Rattle.par_values.specs.Effects.{Effect, Goes, Happens, Jumps, Calls, Throws, ThrowsObject}
use Rattle.par_values.specs.Effects.{Returns, ReturnsWith, effect}
use Rattle.par_values.specs.Ran.{Ran, stopped}
use Rattle.par_step_laws.specs.par_single.Links.{kind_or_any}
use Rattle.par_step_laws.specs.State.{Frame, State, entered}
use Rattle.par_step_laws.specs.Handlers.{caught_by}
use Rattle.par_step_laws.specs.Step.{Turn, Silent, Shows, Ends, IsBad, areas_of, without_locks}
use Rattle.par_step_laws.specs.Step.{number_of_class, next_of, or_2, moved, state_with, offset}
use Rattle.par_step_laws.specs.Step.{thrown_to}
use Rattle.par_step_laws.specs.Run.{followed}

-- what stands at a place of some code: what it does, how far the next place is, and whether it is
-- the initializer of all exceptions, which takes no other object
pub record Found : Type 0 where
  pub op : Operation
  pub size : ℕ
  pub wants_exception : Bool

-- what a machine asks of a program; a place is an offset in bytes, or a position in labelled code
pub record Program : Type 0 where
  pub names : List Name
  pub exceptions : List ℕ
  pub exception_named : Name → ℕ
  -- where a method begins
  pub entry : (class method : ℕ) → ℕ
  pub found : (class method at : ℕ) → Option Found
  pub stands : (class method : ℕ) → ℤ → Bool
  pub handler : (thrown class method at : ℕ) → Option ℕ
  pub room : (class method : ℕ) → ℕ
  pub gives : (class method : ℕ) → Option Kind
  pub method_name : (class method : ℕ) → Name

abbrev pub size_found : Option Found → ℕ
size_found None = 0
size_found (Some x) = x.size

module _ (p : Program) where
  unfoldable pub caught : ℕ → List Frame → List Frame
  caught class [] = []
  caught class (f ∷ frames) =
      caught_by (p.handler class f.class f.method f.at) f frames (caught class frames)

  abbrev pub is_lost : List Frame → Bool
  is_lost [] = false
  is_lost (f ∷ frames) = not (p.stands f.class f.method (pos f.at))

  abbrev pub is_roomless : List Frame → Bool
  is_roomless [] = false
  is_roomless (f ∷ frames) = p.room f.class f.method == 0

  abbrev pub done_by : Operation → Areas → Effect
  done_by o a = without_locks (effect p.names o a)

  abbrev pub thrown_class : Effect → Option ℕ
  thrown_class (Throws name) = Some (p.exception_named name)
  thrown_class (ThrowsObject v) = if is_of p.exceptions v then number_of_class v else None
  thrown_class _ = None

  abbrev pub handlers : Option ℕ → List Frame → List Frame
  handlers None frames = []
  handlers (Some class) frames = caught class frames

  abbrev pub spot : Frame → List Frame → (size : ℕ) → Effect → Spot
  spot f frames size done =
      let left = handlers (thrown_class done) (f ∷ frames) in
      record {
        room = p.room f.class f.method;
        stands = p.stands f.class f.method (next_of done f.at size);
        gives_nothing = is_none (p.gives f.class f.method);
        result = kind_or_any (p.gives f.class f.method);
        exceptions = p.exceptions;
        is_lost = is_lost left;
        is_roomless = is_roomless left;
      }

  abbrev pub is_misreceived : Bool → Areas → Bool
  is_misreceived false a = false
  is_misreceived true a = not (is_of p.exceptions (operand 0 a))

  abbrev pub reason_against : Found → Frame → List Frame → Areas → Option ℕ
  reason_against x f frames a =
      let done = done_by x.op a in
      or_2 (is_misreceived x.wants_exception a)
      (reason p.names (spot f frames x.size done) x.op a)

  abbrev pub past : Frame → Frame
  past f = record f { at = f.at + size_found (p.found f.class f.method f.at) }

  abbrev pub returned : List Frame → State → Turn
  returned [] s = Ends End
  returned (f ∷ frames) s = Silent (record s { frames = past f ∷ frames })

  abbrev pub returned_with : MVal → List Frame → State → Turn
  returned_with v [] s = Ends End
  returned_with v (f ∷ frames) s =
      let receiver = record (past f) { operands = v ∷ f.operands } in
      Silent (record s { frames = receiver ∷ frames })

  abbrev pub throws : MVal → Option ℕ → List Frame → Areas → Turn
  throws v None frames a = Ends (Uncaught [])
  throws v (Some class) frames a = thrown_to p.names v class (caught class frames) a

  abbrev pub throws_next : (class : ℕ) → List Frame → Areas → Turn
  throws_next class frames a =
      throws (Ref class (next_number class a)) (Some class) frames (with_object class [] a)

  abbrev pub applied : Effect → (size : ℕ) → Frame → List Frame → State → Turn
  applied (Goes a) size f frames s = Silent (state_with (moved (f.at + size) a f ∷ frames) a)
  applied (Happens e a) size f frames s =
      Shows e (state_with (moved (f.at + size) a f ∷ frames) a)
  applied (Jumps to a) size f frames s =
      Silent (state_with (moved (offset (pos f.at +ℤ to)) a f ∷ frames) a)
  applied (Calls class method locals arguments a) size f frames s =
      let called = record (entered class method (first_locals locals arguments)) {
        at = p.entry class method;
      } in
      Silent (state_with (called ∷ moved f.at a f ∷ frames) a)
  applied (Throws name) size f frames s =
      throws_next (p.exception_named name) (f ∷ frames) (areas_of f s)
  applied (ThrowsObject v) size f frames s =
      throws v (number_of_class v) (f ∷ frames) (areas_of f s)
  applied Returns size f frames s = returned frames s
  applied (ReturnsWith v) size f frames s = returned_with v frames s

  abbrev pub bad : Frame → ℕ → Turn
  bad f r = IsBad (class_named p.names f.class) (p.method_name f.class f.method) f.at r

  abbrev pub decided : Option ℕ → Found → Frame → List Frame → State → Turn
  decided (Some r) x f frames s = bad f r
  decided None x f frames s = applied (done_by x.op (areas_of f s)) x.size f frames s

  abbrev pub turn_at : Option Found → Frame → List Frame → State → Turn
  turn_at None f frames s = bad f 5
  turn_at (Some x) f frames s = decided (reason_against x f frames (areas_of f s)) x f frames s

  abbrev pub turn_of : List Frame → State → Turn
  turn_of [] s = Ends End
  turn_of (f ∷ frames) s = turn_at (p.found f.class f.method f.at) f frames s

  unfoldable pub turn : State → Turn
  turn s = turn_of s.frames s

  abbrev pub run : ℕ → State → Ran
  run zero s = stopped
  run (suc m) s = followed (turn s) (run m)
