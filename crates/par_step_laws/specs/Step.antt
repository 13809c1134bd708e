-- One instruction of a machine.
use Rattle.std.specs.Prelude.{ℕ, ◌+◌, ℤ, pos, negsuc, ◌+ℤ◌, Bool, true, false, not, if◌then◌else◌}
use Rattle.std.specs.Prelude.{min, List, [], ◌∷◌, Option, Some, None, is_none, codes}
use Rattle.std.specs.Str.{bytes_eq}
use Rattle.par_secrecy.specs.par_instr.declared.instr.Instr.{Instr}
use Rattle.par_secrecy.specs.par_instr.declared.instr.Instr.TheVariants.{Invokevirtual}
use Rattle.par_secrecy.specs.par_instr.declared.instr.Instr.TheVariants.{Invokespecial}
use Rattle.par_secrecy.specs.par_instr.Decoding.{Decoded, decoded_at}
use Rattle.par_link.specs.par_class.declared.file.ClassFile.{ClassFile}
use Rattle.par_secrecy.specs.par_values.declared.value.MVal.{MVal}
use Rattle.par_secrecy.specs.par_values.declared.value.MVal.TheVariants.{Int, Null, Ref}
use Rattle.par_secrecy.specs.par_values.declared.run.Event.{Event}
use Rattle.par_secrecy.specs.par_values.declared.run.Event.TheVariants.{Set}
use Rattle.par_secrecy.specs.par_values.declared.run.Ending.{Ending}
use Rattle.par_secrecy.specs.par_values.declared.run.Ending.TheVariants.{End, Uncaught}
use Rattle.par_secrecy.specs.par_values.Areas.{Name, Areas, class_named, first_locals, operand}
use Rattle.par_secrecy.specs.par_values.Areas.{next_number}
use Rattle.par_secrecy.specs.par_values.Areas.{with_object}
use Rattle.par_secrecy.specs.par_values.Operations.{operation}
use Rattle.par_secrecy.specs.par_values.Reasons.{Spot, reason, is_of}
use Rattle.par_secrecy.specs.par_values.Effects.{Effect, Goes, Happens, Jumps, Calls, Throws}
use Rattle.par_secrecy.specs.par_values.Effects.{ThrowsObject}
use Rattle.par_secrecy.specs.par_values.Effects.{Returns, ReturnsWith, effect}
use Rattle.par_link.specs.entry.Builtin.TheVariants.{Exception}
use Rattle.par_link.specs.entry.Named.{Named}
use Rattle.par_link.specs.entry.Named.TheVariants.{Initializer}
use Rattle.par_link.specs.Linked.{named_at}
use Rattle.par_link.specs.par_single.Links.{kind_or_any, signature_said}
use Rattle.par_link.specs.par_single.Walk.{stands_at}
use Rattle.par_step_laws.specs.Classes.{class_names, exception_named, exceptions}
use Rattle.par_step_laws.specs.Methods.{method_code, method_name, method_descriptor}
use Rattle.par_step_laws.specs.Links.{link_at}
use Rattle.par_step_laws.specs.State.{Frame, State, entered}
use Rattle.par_step_laws.specs.Handlers.{caught, is_lost, is_roomless}

-- what one instruction comes to
pub data Turn : Type 0 where
  Silent : State → Turn
  Shows : Event → State → Turn
  Ends : Ending → Turn
  -- it cannot be run: the class and the method, the offset and the reason
  IsBad : (class method : Name) → (offset reason : ℕ) → Turn

-- the areas that the first frame's instruction works on
abbrev pub areas_of : Frame → State → Areas
areas_of f s =
    record {
      locals = f.locals;
      operands = f.operands;
      statics = s.statics;
      objects = s.objects;
      inputs = s.inputs;
    }

-- ---- what is done

-- What is written to a lock's field is no event.
abbrev pub unless_lock : Event → Areas → Effect
unless_lock (Set class name v) a =
    if bytes_eq class (codes "paragon/Locks") then Goes a else Happens (Set class name v) a
unless_lock e a = Happens e a

abbrev pub without_locks : Effect → Effect
without_locks (Happens e a) = unless_lock e a
without_locks done = done

-- what an instruction of a class does
abbrev pub done_by : List ClassFile → ℕ → Instr → Areas → Effect
done_by files class i a =
    without_locks (effect (class_names files) (operation (link_at files class) i) a)

-- ---- what is thrown

-- the class of an object
abbrev pub number_of_class : MVal → Option ℕ
number_of_class (Ref c n) = Some c
number_of_class Null = None
number_of_class (Int v) = None

-- The class of what is thrown, where something is: an object that is no exception is not thrown.
abbrev pub thrown_class : List ClassFile → Effect → Option ℕ
thrown_class files (Throws name) = Some (exception_named files name)
thrown_class files (ThrowsObject v) =
    if is_of (exceptions files) v then number_of_class v else None
thrown_class files _ = None

-- the frames that go on where an exception of this class is thrown
abbrev pub handlers : List ClassFile → Option ℕ → List Frame → List Frame
handlers files None frames = []
handlers files (Some class) frames = caught files class frames

-- ---- why it cannot be done

-- the offset at which the frame goes on where nothing is thrown
abbrev pub next_of : Effect → (at size : ℕ) → ℤ
next_of (Jumps to a) at size = pos at +ℤ to
next_of _ at size = pos (at + size)

-- What the place of an instruction decides, where it does this.
abbrev pub spot : List ClassFile → Frame → List Frame → (size : ℕ) → Effect → Spot
spot files f frames size done =
    let code = method_code files f.class f.method in
    let gives = (signature_said (method_descriptor files f.class f.method)).gives in
    let left = handlers files (thrown_class files done) (f ∷ frames) in
    record {
      room = code.max_stack;
      stands = stands_at code.code (next_of done f.at size);
      gives_nothing = is_none gives;
      result = kind_or_any gives;
      exceptions = exceptions files;
      is_lost = is_lost files left;
      is_roomless = is_roomless files left;
    }

-- the index of a method that is called on an object
abbrev pub called_on_object : Instr → Option ℕ
called_on_object (Invokevirtual index) = Some index
called_on_object (Invokespecial index) = Some index
called_on_object _ = None

-- 2, too: the initializer of all exceptions takes no other object
abbrev pub is_no_exception : List ℕ → Named → MVal → Bool
is_no_exception exceptions (Initializer Exception) v = not (is_of exceptions v)
is_no_exception exceptions _ v = false

abbrev pub is_misreceived : List ClassFile → ℕ → Option ℕ → Areas → Bool
is_misreceived files class None a = false
is_misreceived files class (Some index) a =
    is_no_exception (exceptions files) (named_at files class index) (operand 0 a)

-- the least of a reason and 2 where that applies
abbrev pub or_2 : Bool → Option ℕ → Option ℕ
or_2 false r = r
or_2 true None = Some 2
or_2 true (Some r) = Some (min 2 r)

-- the least reason against the instruction at which the first frame stands, none where it is run
abbrev pub reason_against : List ClassFile → Decoded → Frame → List Frame → Areas → Option ℕ
reason_against files d f frames a =
    let done = done_by files f.class d.instr a in
    let o = operation (link_at files f.class) d.instr in
    or_2 (is_misreceived files f.class (called_on_object d.instr) a)
    (reason (class_names files) (spot files f frames d.size done) o a)

-- ---- what it comes to

-- the frame with these areas, at another offset
abbrev pub moved : ℕ → Areas → Frame → Frame
moved at a f = record f { at = at; locals = a.locals; operands = a.operands }

abbrev pub state_with : List Frame → Areas → State
state_with frames a =
    record { frames = frames; statics = a.statics; objects = a.objects; inputs = a.inputs }

-- the number of bytes of an instruction
abbrev pub size_of : Option Decoded → ℕ
size_of None = 0
size_of (Some d) = d.size

-- the frame goes on behind the instruction at which it stands
abbrev pub past : List ClassFile → Frame → Frame
past files f =
    record f { at = f.at + size_of (decoded_at (method_code files f.class f.method).code f.at) }

-- A return from the last frame ends the run.
abbrev pub returned : List ClassFile → List Frame → State → Turn
returned files [] s = Ends End
returned files (f ∷ frames) s = Silent (record s { frames = past files f ∷ frames })

-- A return with a result leaves it to the frame below.
abbrev pub returned_with : List ClassFile → MVal → List Frame → State → Turn
returned_with files v [] s = Ends End
returned_with files v (f ∷ frames) s =
    let receiver = record (past files f) { operands = v ∷ f.operands } in
    Silent (record s { frames = receiver ∷ frames })

-- the offset of a number that is none below 0
abbrev pub offset : ℤ → ℕ
offset (pos n) = n
offset (negsuc n) = 0

-- An exception that no frame takes ends the run. One that is taken is the only operand left.
abbrev pub thrown_to : List Name → MVal → (class : ℕ) → List Frame → Areas → Turn
thrown_to classes v class [] a = Ends (Uncaught (class_named classes class))
thrown_to classes v class (f ∷ frames) a =
    Silent (state_with (record f { operands = v ∷ [] } ∷ frames) a)

-- An object is thrown from the first frame.
abbrev pub throws : List ClassFile → MVal → Option ℕ → List Frame → Areas → Turn
throws files v None frames a = Ends (Uncaught [])
throws files v (Some class) frames a =
    thrown_to (class_names files) v class (caught files class frames) a

-- The next object of an exception that every program has is made, and thrown.
abbrev pub throws_next : List ClassFile → (class : ℕ) → List Frame → Areas → Turn
throws_next files class frames a =
    throws files (Ref class (next_number class a)) (Some class) frames (with_object class [] a)

-- what an effect makes of the first frame, the frames below it and the program
abbrev pub applied : List ClassFile → Effect → (size : ℕ) → Frame → List Frame → State → Turn
applied files (Goes a) size f frames s = Silent (state_with (moved (f.at + size) a f ∷ frames) a)
applied files (Happens e a) size f frames s =
    Shows e (state_with (moved (f.at + size) a f ∷ frames) a)
applied files (Jumps to a) size f frames s =
    Silent (state_with (moved (offset (pos f.at +ℤ to)) a f ∷ frames) a)
applied files (Calls class method locals arguments a) size f frames s =
    let called = entered class method (first_locals locals arguments) in
    Silent (state_with (called ∷ moved f.at a f ∷ frames) a)
applied files (Throws name) size f frames s =
    throws_next files (exception_named files name) (f ∷ frames) (areas_of f s)
applied files (ThrowsObject v) size f frames s =
    throws files v (number_of_class v) (f ∷ frames) (areas_of f s)
applied files Returns size f frames s = returned files frames s
applied files (ReturnsWith v) size f frames s = returned_with files v frames s

-- bad code at which a frame stands
abbrev pub bad : List ClassFile → Frame → ℕ → Turn
bad files f r =
    IsBad (class_named (class_names files) f.class) (method_name files f.class f.method) f.at r

-- The instruction is run where no reason stands against it.
abbrev pub decided : List ClassFile → Option ℕ → Decoded → Frame → List Frame → State → Turn
decided files (Some r) d f frames s = bad files f r
decided files None d f frames s =
    applied files (done_by files f.class d.instr (areas_of f s)) d.size f frames s

-- No instruction starts where none is found.
abbrev pub turn_at : List ClassFile → Option Decoded → Frame → List Frame → State → Turn
turn_at files None f frames s = bad files f 5
turn_at files (Some d) f frames s =
    decided files (reason_against files d f frames (areas_of f s)) d f frames s

-- one instruction of the first frame
abbrev pub turn_of : List ClassFile → List Frame → State → Turn
turn_of files [] s = Ends End
turn_of files (f ∷ frames) s =
    turn_at files (decoded_at (method_code files f.class f.method).code f.at) f frames s

unfoldable pub turn : List ClassFile → State → Turn
turn files s = turn_of files s.frames s
