-- What an effect tells of its operation.
use Rattle.std.proofs.Common.{◌≡◌, ℕ, ◌+◌, Bool, true, false, if◌then◌else◌, List, length, Option}
use Rattle.std.proofs.Common.{Some, None, refl}
use Rattle.par_values.specs.declared.value.MVal.{MVal}
use Rattle.par_values.specs.declared.value.MVal.TheVariants.{Int, Null, Ref}
use Rattle.par_values.specs.declared.kind.Kind.{Kind}
use Rattle.par_values.specs.declared.run.Event.{Event}
use Rattle.par_values.specs.declared.run.Event.TheVariants.{Out, Set, Put, Born}
use Rattle.par_values.specs.declared.link.FieldLink.{FieldLink}
use Rattle.par_values.specs.declared.link.ClassLink.{ClassLink}
use Rattle.par_values.specs.declared.link.MethodLink.{MethodLink}
use Rattle.par_values.specs.declared.link.Target.{Target}
use Rattle.par_values.specs.declared.link.Target.TheVariants as target
use Rattle.par_values.specs.Areas.{Name, Areas, operand, number_of, pop}
use Rattle.par_values.specs.Arithmetic.{divides_by_zero}
use Rattle.par_values.specs.Operations.{Operation, Push, PushNull, Load, Store, Discard, Copy}
use Rattle.par_values.specs.Operations.{Combine, Negate, Increase, Jump, JumpIf, JumpIfBoth}
use Rattle.par_values.specs.Operations.{JumpIfSame, JumpIfNull, GetStatic, PutStatic, GetField}
use Rattle.par_values.specs.Operations.{PutField, InvokeStatic, InvokeSpecial, InvokeVirtual}
use Rattle.par_values.specs.Operations.{Create, Throw, Leave, LeaveWith, Misnamed}
use Rattle.par_values.specs.Effects.{Effect, Goes, Happens, Jumps, Calls, Throws, ThrowsObject}
use Rattle.par_values.specs.Effects.{Returns, ReturnsWith, effect, called, called_on, jumps_if}
use Rattle.par_values.specs.Effects.{field_read, field_written, thrown}
use Rattle.par_method_area.specs.par_actions.Done.{distance}

-- the method that an operation calls
abbrev pub callee_of : Operation → Option MethodLink
callee_of (InvokeStatic m) = Some m
callee_of (InvokeSpecial m) = Some m
callee_of (InvokeVirtual m) = Some m
callee_of _ = None

-- whether an operation may go on at its distance
abbrev pub is_fork : Operation → Bool
is_fork (Jump to) = true
is_fork (JumpIf test to) = true
is_fork (JumpIfBoth test to) = true
is_fork (JumpIfSame same to) = true
is_fork (JumpIfNull null to) = true
is_fork _ = false

-- an operation that makes such an event
abbrev pub IsEventOf : Operation → Event → Type 0
IsEventOf o (Set class name v) = (f : FieldLink) × (o ≡ PutStatic f)
IsEventOf o (Put class n name v) = (f : FieldLink) × (o ≡ PutField f)
IsEventOf o (Born class n) = (c : ClassLink) × (o ≡ Create c)
IsEventOf o (Out class name n) = (m : MethodLink) × (callee_of o ≡ Some m)
    × (m.target ≡ target.Output class name)

-- an operation that has such an effect
abbrev pub IsEffectOf : Operation → Effect → Type 0
IsEffectOf o (Goes a) = Unit {0}
IsEffectOf o (Happens e a) = IsEventOf o e
IsEffectOf o (Jumps to a) = (to ≡ distance o) × (is_fork o ≡ true)
IsEffectOf o (Calls class method locals arguments a) =
    (m : MethodLink) × (callee_of o ≡ Some m) × (m.target ≡ target.Code class method locals)
IsEffectOf o (Throws name) = Unit {0}
IsEffectOf o (ThrowsObject v) = (o ≡ Throw) × (class : ℕ) × (n : ℕ) × (v ≡ Ref class n)
IsEffectOf o Returns = o ≡ Leave
IsEffectOf o (ReturnsWith v) = (kind : Kind) × (o ≡ LeaveWith kind)

jumps_of : (o : Operation) (b : Bool) (a : Areas) → is_fork o ≡ true
    → IsEffectOf o (jumps_if b (distance o) a)
jumps_of o true a is = (refl, is)
jumps_of o false a is = tt

called_of : (o : Operation) (m : MethodLink) → callee_of o ≡ Some m → (n : ℕ) (t : Target)
    → m.target ≡ t → (a : Areas)
    → IsEffectOf o (called n t a)
called_of o m is n (target.Input class name) t a = tt
called_of o m is n (target.Output class name) t a = (m, is, t)
called_of o m is n (target.Code class method locals) t a = (m, is, t)
called_of o m is n target.Nothing t a = tt

called_on_of : (o : Operation) (m : MethodLink) → callee_of o ≡ Some m
    → (v : MVal) (n : ℕ) (a : Areas)
    → IsEffectOf o (called_on v n m.target a)
called_on_of o m is Null n a = tt
called_on_of o m is (Int v) n a = called_of o m is (n + 1) m.target refl a
called_on_of o m is (Ref c k) n a = called_of o m is (n + 1) m.target refl a

read_of : (f : FieldLink) (v : MVal) (a : Areas) → IsEffectOf (GetField f) (field_read v f a)
read_of f Null a = tt
read_of f (Int v) a = tt
read_of f (Ref c n) a = tt

written_of : (classes : List Name) (f : FieldLink) (object v : MVal) (a : Areas)
    → IsEffectOf (PutField f) (field_written classes object f v a)
written_of classes f Null v a = tt
written_of classes f (Int w) v a = tt
written_of classes f (Ref c n) v a = (f, refl)

created_of : (c : ClassLink) (is_exception : Bool) (after : Areas) (n : ℕ)
    → IsEffectOf (Create c) (if is_exception then Goes after else Happens (Born c.name n) after)
created_of c true after n = tt
created_of c false after n = (c, refl)

thrown_of : (v : MVal) → IsEffectOf Throw (thrown v)
thrown_of Null = tt
thrown_of (Int v) = tt
thrown_of (Ref c n) = (refl, c, n, refl)

combined_of : (o : Operation) (b : Bool) (name : Name) (a : Areas)
    → IsEffectOf o (if b then Throws name else Goes a)
combined_of o true name a = tt
combined_of o false name a = tt

-- the effect of an operation is of it
pub effect_of : (classes : List Name) (o : Operation) (a : Areas)
    → IsEffectOf o (effect classes o a)
unfolding effect
effect_of classes (Push v) a = tt
effect_of classes PushNull a = tt
effect_of classes (Load x kind) a = tt
effect_of classes (Store x kind) a = tt
effect_of classes Discard a = tt
effect_of classes Copy a = tt
effect_of classes (Combine operator) a =
    combined_of (Combine operator) (divides_by_zero operator (number_of (operand 0 a))) _ _
effect_of classes Negate a = tt
effect_of classes (Increase x by) a = tt
effect_of classes (Jump to) a = (refl, refl)
effect_of classes (JumpIf test to) a = jumps_of (JumpIf test to) _ (pop 1 a) refl
effect_of classes (JumpIfBoth test to) a = jumps_of (JumpIfBoth test to) _ (pop 2 a) refl
effect_of classes (JumpIfSame same to) a = jumps_of (JumpIfSame same to) _ (pop 2 a) refl
effect_of classes (JumpIfNull null to) a = jumps_of (JumpIfNull null to) _ (pop 1 a) refl
effect_of classes (GetStatic f) a = tt
effect_of classes (PutStatic f) a = (f, refl)
effect_of classes (GetField f) a = read_of f (operand 0 a) a
effect_of classes (PutField f) a = written_of classes f (operand 1 a) (operand 0 a) a
effect_of classes (InvokeStatic m) a = called_of (InvokeStatic m) m refl (length m.takes) m.target
    refl a
effect_of classes (InvokeSpecial m) a = called_on_of (InvokeSpecial m) m refl
    (operand (length m.takes) a) (length m.takes) a
effect_of classes (InvokeVirtual m) a = called_on_of (InvokeVirtual m) m refl
    (operand (length m.takes) a) (length m.takes) a
effect_of classes (Create c) a = created_of c c.is_exception _ _
effect_of classes Throw a = thrown_of (operand 0 a)
effect_of classes Leave a = refl
effect_of classes (LeaveWith kind) a = (kind, refl)
effect_of classes (Misnamed kinds n) a = tt
