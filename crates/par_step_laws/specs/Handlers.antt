-- Where an exception goes: to the first handler of the first frame that takes it; the frames before
-- that one are dropped (Java Virtual Machine Specification, Java SE 7, section 2.10).
use Rattle.std.specs.Prelude.{ℕ, Bool, true, false, not, ◌&&◌, ◌||◌, ◌==◌, nat_lt, nat_le}
use Rattle.std.specs.Prelude.{if◌then◌else◌, List, [], ◌∷◌, Option, Some, None}
use Rattle.par_link.specs.par_class.declared.file.Catch.{Catch}
use Rattle.par_link.specs.par_class.declared.file.ClassFile.{ClassFile}
use Rattle.par_link.specs.entry.Builtin.{Builtin}
use Rattle.par_link.specs.entry.Builtin.TheVariants as builtin
use Rattle.par_link.specs.entry.Named.{Named}
use Rattle.par_link.specs.entry.Named.TheVariants as named
use Rattle.par_link.specs.Linked.{named_at}
use Rattle.par_link.specs.par_single.Walk.{starts_at}
use Rattle.par_step_laws.specs.Classes.{arithmetic_exception, null_pointer_exception}
use Rattle.par_step_laws.specs.Methods.{method_code}
use Rattle.par_step_laws.specs.State.{Frame}

-- whether a class that every program has is that of an exception of a class, or of all exceptions
abbrev pub builtin_takes : List ClassFile → ℕ → Builtin → Bool
builtin_takes files class builtin.Object = false
builtin_takes files class builtin.Exception = true
builtin_takes files class builtin.ArithmeticException = class == arithmetic_exception files
builtin_takes files class builtin.NullPointerException = class == null_pointer_exception files
builtin_takes files class builtin.Locks = false

abbrev pub named_takes : List ClassFile → ℕ → Named → Bool
named_takes files class (named.Class own) = class == own
named_takes files class (named.Builtin b) = builtin_takes files class b
named_takes files class _ = false

-- whether a handler of a frame covers the offset at which it stands
abbrev pub covers : Frame → Catch → Bool
covers f c = nat_le c.start f.at && nat_lt f.at c.end

-- whether it takes an exception of a class: any where it names none, else those of its own class
abbrev pub takes : List ClassFile → ℕ → Frame → Catch → Bool
takes files class f c =
    covers f c && (c.class == 0 || named_takes files class (named_at files f.class c.class))

-- the offset to which the first of some handlers takes it
unfoldable pub first_handler : (Catch → Bool) → List Catch → Option ℕ
first_handler takes [] = None
first_handler takes (c ∷ catches) =
    if takes c then Some c.handler else first_handler takes catches

-- the offset to which it goes in a frame
abbrev pub handler_in : List ClassFile → ℕ → Frame → Option ℕ
handler_in files class f =
    first_handler (takes files class f) (method_code files f.class f.method).catches

-- the frame goes on at the handler, or is dropped
abbrev pub caught_by : Option ℕ → Frame → List Frame → List Frame → List Frame
caught_by None f frames rest = rest
caught_by (Some at) f frames rest = record f { at = at } ∷ frames

-- the frames that are left, the first of which stands at the handler; none where no frame takes it
unfoldable pub caught : List ClassFile → ℕ → List Frame → List Frame
caught files class [] = []
caught files class (f ∷ frames) =
    caught_by (handler_in files class f) f frames (caught files class frames)

-- of the frame that goes on: whether no instruction stands at its handler
abbrev pub is_lost : List ClassFile → List Frame → Bool
is_lost files [] = false
is_lost files (f ∷ frames) = not (starts_at (method_code files f.class f.method).code f.at)

-- and whether it has no room for an operand
abbrev pub is_roomless : List ClassFile → List Frame → Bool
is_roomless files [] = false
is_roomless files (f ∷ frames) = (method_code files f.class f.method).max_stack == 0
