-- Instructions that go on in their frame and show nothing.
use Rattle.std.specs.Prelude.{◌≡◌, ℕ, zero, suc, ◌+◌, ◌≤◌, Bool, true, false, List, length, Option}
use Rattle.std.specs.Prelude.{None, slice_index_or}
use Rattle.par_class.specs.declared.file.ClassFile.{ClassFile}
use Rattle.par_heap.specs.Heap.{objects_of}
use Rattle.par_instr.specs.declared.instr.Instr.{Instr}
use Rattle.par_instr.specs.declared.instr.Instr.TheVariants as instr
use Rattle.par_starts.specs.declared.instructions.Standing.{Standing}
use Rattle.par_starts.specs.Standing.{KnowsStanding}
use Rattle.par_stack.specs.declared.point.Point.{Point}
use Rattle.par_stack.specs.Frames.{running}
use Rattle.par_method_area.specs.par_step_laws.State.{State}
use Rattle.par_method_area.specs.par_step_laws.Step as plain
use Rattle.par_method_area.specs.par_step_laws.Step.{turn}
use Rattle.par_method_area.specs.Area.{Area}
use Rattle.par_machine.specs.Frames.{code_of}
use Rattle.par_machine.specs.Running.{state_in, IsSound}
use Rattle.par_machine.specs.declared.run.Running.{Running}

-- So many turns from a state show nothing, and come to this state.
abbrev pub GoesOn : List ClassFile → ℕ → (s t : State) → Type 0
GoesOn files zero s t = t ≡ s
GoesOn files (suc n) s t = (mid : State) × (turn files s ≡ plain.Silent mid) × GoesOn files n mid t

-- whether an instruction may make an event or call a method
abbrev pub is_loud : Instr → Bool
is_loud (instr.Putstatic index) = true
is_loud (instr.Putfield index) = true
is_loud (instr.Invokevirtual index) = true
is_loud (instr.Invokespecial index) = true
is_loud (instr.Invokestatic index) = true
is_loud (instr.New index) = true
is_loud _ = false

-- They are the instructions of the method at a point, by their offsets.
abbrev pub AreRows : List ClassFile → List (Option Standing) → Point → Type 0
AreRows files rows p =
    (at : ℕ) → KnowsStanding (code_of files p).code at (slice_index_or rows at None)

-- A run went on to the state after this turn, or it did not and stands where it stood.
abbrev pub Went : Area → plain.Turn → (old : Running) → Bool → (new : Running) → Type 0
Went area t old true new = t ≡ plain.Silent (state_in area.files new)
Went area t old false new = state_in area.files new ≡ state_in area.files old

abbrev pub IsSameMethod : (p q : Point) → Type 0
IsSameMethod p q = (q.class ≡ p.class) × (q.method ≡ p.method)

abbrev pub count : Bool → ℕ
count true = 1
count false = 0

-- The same, and what holds of it from one instruction to the next.
pub record IsTried (area : Area) (t : plain.Turn) (old : Running) (went : Bool) (new : Running) :
    Type 0 where
  pub is : Went area t old went new
  pub sound : IsSound area new
  pub method : went ≡ true → IsSameMethod (running old.stack).point (running new.stack).point
  pub grown : (class : ℕ) →
      length (objects_of new.heap class) ≤ length (objects_of old.heap class) + count went
