-- An instruction where it stands, and what it comes to there.
use Rattle.std.specs.Prelude.{◌≡◌, ℕ, suc, ◌-◌, ◌≤◌, ◌<◌, pos, ◌+ℤ◌, Bool, true, false}
use Rattle.std.specs.Prelude.{if◌then◌else◌, ◌⊎◌, List, ◌∷◌, length, Option, None, IsTrue, codes}
use Rattle.std.specs.Str.{bytes_eq}
use Rattle.par_instr.specs.declared.instr.Instr.TheVariants as instr
use Rattle.par_instr.specs.Decoding.{Decoded}
use Rattle.par_class.specs.declared.file.ClassFile.{ClassFile}
use Rattle.par_values.specs.declared.value.MVal.{MVal}
use Rattle.par_values.specs.declared.value.MVal.TheVariants.{Ref}
use Rattle.par_values.specs.declared.link.Link.{Link}
use Rattle.par_values.specs.declared.link.Link.TheVariants as link
use Rattle.par_values.specs.declared.link.Target.TheVariants.{Output}
use Rattle.par_values.specs.Areas.{Name, Areas, first_locals}
use Rattle.par_values.specs.Effects.{Effect, Calls}
use Rattle.par_values.specs.Operations.{Operation, operation}
use Rattle.par_values.specs.Reasons.{Spot, is_of}
use Rattle.par_stack.specs.Frames.{running}
use Rattle.par_method_area.specs.par_step_laws.Classes.{class_names, exceptions}
use Rattle.par_method_area.specs.par_step_laws.Links.{link_at}
use Rattle.par_method_area.specs.par_step_laws.State.{entered}
use Rattle.par_method_area.specs.par_step_laws.Step.{areas_of, done_by, spot, reason_against, moved}
use Rattle.par_method_area.specs.par_step_laws.Step.{state_with, offset}
use Rattle.par_method_area.specs.par_actions.declared.done.Done.{Done}
use Rattle.par_method_area.specs.par_actions.declared.done.Done.TheVariants as done
use Rattle.par_method_area.specs.par_actions.Done.{IsDone, is_still}
use Rattle.par_machine.specs.Frames.{code_of, gives, Stands}
use Rattle.par_single.specs.Walk.{starts_at, stands_at}
use Rattle.par_starts.specs.Standing.{reach_of}
use Rattle.par_machine.specs.Instructions.{index_of}
use Rattle.par_machine.specs.Objects.{count_classes}
use Rattle.par_machine.specs.Running.{here, below, state_in, IsSound}
use Rattle.par_machine.specs.declared.run.Running.{Running}
use Rattle.par_machine.specs.declared.site.Site.{Site}
use Rattle.par_heap.specs.Heap.{objects_of}
use Rattle.par_method_area.specs.Area.{Area}

-- the instruction of a site, with the number of its bytes
abbrev pub decoded : Site → Decoded
decoded s = record { instr = s.instr; size = s.next - s.point.at }

-- what its index names
abbrev pub named_by : List ClassFile → Site → Link
named_by files s = link_at files s.point.class (index_of s.instr)

-- ---- where a run stands at it

abbrev pub areas_at : List ClassFile → Running → Areas
areas_at files r = areas_of (here r) (state_in files r)

abbrev pub operation_at : List ClassFile → Running → Site → Operation
operation_at files r s = operation (link_at files (here r).class) s.instr

abbrev pub does : List ClassFile → Running → Site → Effect
does files r s = done_by files (here r).class s.instr (areas_at files r)

abbrev pub spot_of : List ClassFile → Running → Site → Spot
spot_of files r s = spot files (here r) (below r) (decoded s).size (does files r s)

abbrev pub against : List ClassFile → Running → Site → Option ℕ
against files r s = reason_against files (decoded s) (here r) (below r) (areas_at files r)

-- A run stands at a site; it is known whether instructions start behind it and at its distance.
pub record IsThere (files : List ClassFile) (r : Running) (s : Site) (ahead : Bool) : Type 0 where
  pub point : (running r.stack).point ≡ s.point
  pub stands : Stands files (running r.stack)
  pub forward : s.point.at < s.next
  pub is_ahead : starts_at (code_of files s.point).code s.next ≡ ahead
  pub is_aside : stands_at (code_of files s.point).code
      (pos s.point.at +ℤ reach_of s.instr) ≡ s.aside

-- The instruction came to this where the run stood so, and left the run so: it stands still at its
-- offset, with these areas.
pub record IsCome (files : List ClassFile) (old : Running) (s : Site) (done : Done)
    (new : Running) : Type 0 where
  pub after : Areas
  pub point : (running old.stack).point ≡ s.point
  pub state : state_in files new ≡ state_with (moved (here old).at after (here old) ∷ below old)
      after
  pub is : IsDone done (class_names files) (operation_at files old s) (spot_of files old s)
      (against files old s) (does files old s) after
  pub still : IsTrue (is_still done) → state_in files new ≡ state_in files old

-- It came to a call.
pub record HasCalled (files : List ClassFile) (old : Running) (s : Site) (new : Running) :
    Type 0 where
  pub class : ℕ
  pub method : ℕ
  pub locals : ℕ
  pub arguments : List MVal
  pub after : Areas
  pub point : (running old.stack).point ≡ s.point
  pub state : state_in files new ≡ state_with (entered class method (first_locals locals arguments)
      ∷ moved (here old).at after (here old) ∷ below old) after
  pub free : against files old s ≡ None
  pub effect : does files old s ≡ Calls class method locals arguments after

abbrev pub is_call : Done → Bool
is_call done.Calls = true
is_call d = false

abbrev pub CameTo : List ClassFile → Running → Site → Done → Running → Type 0
CameTo files old s done.Calls new = HasCalled files old s new
CameTo files old s done new = IsCome files old s done new

-- ---- what is told

-- a field that is no lock's
abbrev pub IsTellable : Link → Type 0
IsTellable (link.Field f) = bytes_eq f.class (codes "paragon/Locks") ≡ false
IsTellable _ = ⊥

-- a class of which objects are made
abbrev pub IsMade : Link → Type 0
IsMade (link.Class c) = c.is_made ≡ true
IsMade _ = ⊥

-- an output channel
abbrev pub IsOutput : Link → Type 0
IsOutput (link.Method m) = (class : Name) × (name : Name) × (m.target ≡ Output class name)
IsOutput _ = ⊥

-- the class of a value has a name
abbrev pub HasName : List ClassFile → MVal → Type 0
HasName files (Ref class n) = class < count_classes files
HasName files v = Unit {0}

abbrev pub is_object : MVal → Bool
is_object (Ref class n) = true
is_object v = false

-- What an instruction that came to this is known by.
abbrev pub IsKnown : List ClassFile → Site → Done → Type 0
IsKnown files s done.Jumps =
    offset (pos s.point.at +ℤ reach_of s.instr) ≤ length (code_of files s.point).code
IsKnown files s (done.Throws v later) =
    (is_object v ≡ true) × (later ≡ None → is_of (exceptions files) v ≡ true)
IsKnown files s (done.ReturnsWith v) = gives files s.point ≡ true
IsKnown files s (done.Sets v) = IsTellable (named_by files s) × HasName files v
IsKnown files s (done.Puts n v) = IsTellable (named_by files s) × HasName files v
IsKnown files s (done.Born n) = IsMade (named_by files s)
IsKnown files s (done.Outs n) = IsOutput (named_by files s)
IsKnown files s _ = Unit {0}

-- What an instruction that came to this has done.
pub record IsPerformed (area : Area) (old : Running) (s : Site) (done : Done) (new : Running) :
    Type 0 where
  pub came : CameTo area.files old s done new
  pub stays : IsTrue (is_call done) ⊎ ((running new.stack).point ≡ s.point)
  pub known : IsKnown area.files s done
  pub sound : IsSound area new
  pub grown : (class : ℕ) →
      length (objects_of new.heap class) ≤ suc (length (objects_of old.heap class))
  pub still : IsTrue (is_still done) → new.heap ≡ old.heap

-- what a write to a static field came to, where a lock's is not told
abbrev pub unless_lock : (is_lock : Bool) → Done → Done
unless_lock is_lock (done.Sets v) = if is_lock then done.Goes else done.Sets v
unless_lock is_lock d = d

-- an instruction pushes the number that an index is
abbrev pub IsNumberSite : Site → ℕ → Type 0
IsNumberSite s index = (s.instr ≡ instr.Ldc index) ⊎ (s.instr ≡ instr.LdcW index)
