-- What an operation does that can be run (Java Virtual Machine Specification, Java SE 7, section
-- 6.5).
use Rattle.std.specs.Prelude.{ℕ, ◌+◌, ℤ, pos, ◌+ℤ◌, Bool, true, false, not, ◌&&◌, ◌==◌}
use Rattle.std.specs.Prelude.{if◌then◌else◌, List, length, map, take, reverse, codes}
use Rattle.std.specs.Int.{int_wrap, w32}
use Rattle.std.specs.List.{slice_get}
use Rattle.std.specs.Ordering.{int_eq}
use Rattle.par_values.specs.declared.value.MVal.{MVal}
use Rattle.par_values.specs.declared.value.MVal.TheVariants.{Int, Null, Ref}
use Rattle.par_values.specs.declared.run.Event.{Event}
use Rattle.par_values.specs.declared.run.Event.TheVariants.{Out, Set, Put, Born}
use Rattle.par_values.specs.declared.link.ClassLink.{ClassLink}
use Rattle.par_values.specs.declared.link.FieldLink.{FieldLink}
use Rattle.par_values.specs.declared.link.Target.{Target}
use Rattle.par_values.specs.declared.link.Target.TheVariants.{Input, Output, Code, Nothing}
use Rattle.par_values.specs.Areas.{Name, Areas, push, pop, operand, number_of, set_local, local_at}
use Rattle.par_values.specs.Areas.{value_or_null, set_static, field_at, set_field, next_number}
use Rattle.par_values.specs.Areas.{with_object, first_value, next, take_input, shown_value}
use Rattle.par_values.specs.Arithmetic.{Operator, combined, divides_by_zero, negated, compares}
use Rattle.par_values.specs.Operations.{Operation, Push, PushNull, Load, Store, Discard, Copy}
use Rattle.par_values.specs.Operations.{Combine, Negate, Increase, Jump, JumpIf, JumpIfBoth}
use Rattle.par_values.specs.Operations.{JumpIfSame, JumpIfNull, GetStatic, PutStatic, GetField}
use Rattle.par_values.specs.Operations.{PutField, InvokeStatic, InvokeSpecial, InvokeVirtual}
use Rattle.par_values.specs.Operations.{Create, Throw, Leave, LeaveWith, Misnamed}

pub data Effect : Type 0 where
  -- goes on behind itself
  Goes : Areas → Effect
  -- makes an event, and goes on behind itself
  Happens : Event → Areas → Effect
  -- goes on at this distance from itself
  Jumps : ℤ → Areas → Effect
  -- runs the code of a method of a class, with so many locals, on these arguments
  Calls : (class method locals : ℕ) → (arguments : List MVal) → Areas → Effect
  -- throws a new exception of this class, one that every program has
  Throws : Name → Effect
  -- throws this object
  ThrowsObject : MVal → Effect
  -- leaves the method
  Returns : Effect
  -- leaves it with this result
  ReturnsWith : MVal → Effect

-- null has no field and no method
abbrev pub throws_null : Effect
throws_null = Throws (codes "NullPointerException")

-- the operands that were pushed last, so many, in the order of their pushing
abbrev pub arguments : ℕ → Areas → List MVal
arguments n a = reverse (take n a.operands)

-- A call takes its arguments, so many.
abbrev pub called : ℕ → Target → Areas → Effect
called n (Input class name) a =
    Goes (push (Int (next (a.inputs class name))) (take_input class name (pop n a)))
called n (Output class name) a = Happens (Out class name (number_of (operand 0 a))) (pop n a)
called n (Code class method locals) a = Calls class method locals (arguments n a) (pop n a)
called n Nothing a = Goes (pop n a)

-- A call on an object takes it too; null throws.
abbrev pub called_on : MVal → ℕ → Target → Areas → Effect
called_on Null n target a = throws_null
called_on (Int v) n target a = called (n + 1) target a
called_on (Ref c k) n target a = called (n + 1) target a

-- goes on at a distance, or behind itself
abbrev pub jumps_if : Bool → ℤ → Areas → Effect
jumps_if true to a = Jumps to a
jumps_if false to a = Goes a

-- An operator takes two numbers; a zero divisor throws.
abbrev pub combines : Operator → ℤ → ℤ → Areas → Effect
combines operator x y a =
    if divides_by_zero operator y then Throws (codes "ArithmeticException")
    else Goes (push (Int (combined operator x y)) (pop 2 a))

-- a local with a number more
abbrev pub increased : ℕ → ℤ → Areas → Areas
increased x by a =
    set_local x (Int (int_wrap w32 (number_of (value_or_null (local_at x a)) +ℤ by))) a

-- whether two references are the same
abbrev pub is_same : MVal → MVal → Bool
is_same Null Null = true
is_same Null (Int v) = false
is_same Null (Ref c n) = false
is_same (Ref c n) Null = false
is_same (Ref c n) (Int v) = false
is_same (Ref c n) (Ref d k) = c == d && n == k
is_same (Int v) Null = false
is_same (Int v) (Int w) = int_eq v w
is_same (Int v) (Ref c n) = false

-- whether a test comes out as it is asked
abbrev pub comes : Bool → Bool → Bool
comes true test = test
comes false test = not test

-- what a field of an object holds takes the place of the object; null throws
abbrev pub field_read : MVal → FieldLink → Areas → Effect
field_read Null f a = throws_null
field_read (Int v) f a = throws_null
field_read (Ref c n) f a = Goes (push (field_at c n f.place a) (pop 1 a))

-- a value is written to a field of an object; null throws
abbrev pub field_written : List Name → MVal → FieldLink → MVal → Areas → Effect
field_written classes Null f v a = throws_null
field_written classes (Int w) f v a = throws_null
field_written classes (Ref c n) f v a =
    Happens (Put f.class n f.name (shown_value classes v)) (set_field c n f.place v (pop 2 a))

-- An object is born, with each field as it is before it is written. That of an exception makes no
-- event.
abbrev pub created : ClassLink → Areas → Effect
created c a =
    let n = next_number c.number a in
    let after = push (Ref c.number n) (with_object c.number (map first_value c.fields) a) in
    if c.is_exception then Goes after else Happens (Born c.name n) after

-- An object is thrown; null throws in its place.
abbrev pub thrown : MVal → Effect
thrown Null = throws_null
thrown (Int v) = throws_null
thrown (Ref c n) = ThrowsObject (Ref c n)

unfoldable pub effect : List Name → Operation → Areas → Effect
effect classes (Push v) a = Goes (push (Int v) a)
effect classes PushNull a = Goes (push Null a)
effect classes (Load x kind) a = Goes (push (value_or_null (local_at x a)) a)
effect classes (Store x kind) a = Goes (set_local x (operand 0 a) (pop 1 a))
effect classes Discard a = Goes (pop 1 a)
effect classes Copy a = Goes (push (operand 0 a) a)
effect classes (Combine operator) a =
    combines operator (number_of (operand 1 a)) (number_of (operand 0 a)) a
effect classes Negate a = Goes (push (Int (negated (number_of (operand 0 a)))) (pop 1 a))
effect classes (Increase x by) a = Goes (increased x by a)
effect classes (Jump to) a = Jumps to a
effect classes (JumpIf test to) a =
    jumps_if (compares test (number_of (operand 0 a)) (pos 0)) to (pop 1 a)
effect classes (JumpIfBoth test to) a =
    jumps_if (compares test (number_of (operand 1 a)) (number_of (operand 0 a))) to (pop 2 a)
effect classes (JumpIfSame same to) a =
    jumps_if (comes same (is_same (operand 1 a) (operand 0 a))) to (pop 2 a)
effect classes (JumpIfNull null to) a =
    jumps_if (comes null (is_same (operand 0 a) Null)) to (pop 1 a)
effect classes (GetStatic f) a = Goes (push (value_or_null (slice_get a.statics f.place)) a)
effect classes (PutStatic f) a =
    let event = Set f.class f.name (shown_value classes (operand 0 a)) in
    Happens event (set_static f.place (operand 0 a) (pop 1 a))
effect classes (GetField f) a = field_read (operand 0 a) f a
effect classes (PutField f) a = field_written classes (operand 1 a) f (operand 0 a) a
effect classes (InvokeStatic m) a = called (length m.takes) m.target a
effect classes (InvokeSpecial m) a =
    called_on (operand (length m.takes) a) (length m.takes) m.target a
effect classes (InvokeVirtual m) a =
    called_on (operand (length m.takes) a) (length m.takes) m.target a
effect classes (Create c) a = created c a
effect classes Throw a = thrown (operand 0 a)
effect classes Leave a = Returns
effect classes (LeaveWith kind) a = ReturnsWith (operand 0 a)
effect classes (Misnamed kinds n) a = Goes a
