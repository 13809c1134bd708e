-- Single instructions that the definitions are checked against: each reason by itself, which comes
-- where several stand together, and what is done where none does.
use Rattle.std.specs.Int.{int_wrap}
use Rattle.std.proofs.Common.{◌≡◌, ℕ, ℤ, Bool, true, false, List, [], ◌∷◌, Option, Some, None, pos}
use Rattle.std.proofs.Common.{negsuc, refl, codes}
use Rattle.par_values.specs.declared.value.MVal.{MVal}
use Rattle.par_values.specs.declared.value.MVal.TheVariants.{Int, Null, Ref}
use Rattle.par_values.specs.declared.kind.Kind.{Kind}
use Rattle.par_values.specs.declared.kind.Kind.TheVariants.{Number, Object, AnyObject, Anything}
use Rattle.par_values.specs.declared.run.Event.TheVariants.{Out, Set, Put, Born}
use Rattle.par_values.specs.declared.run.Val.TheVariants as shown
use Rattle.par_values.specs.declared.link.ClassLink.{ClassLink}
use Rattle.par_values.specs.declared.link.FieldLink.{FieldLink}
use Rattle.par_values.specs.declared.link.MethodLink.{MethodLink}
use Rattle.par_values.specs.declared.link.Target.{Target}
use Rattle.par_values.specs.declared.link.Target.TheVariants.{Input, Output, Code, Nothing}
use Rattle.par_values.specs.declared.link.Link.TheVariants as link
use Rattle.par_instr.specs.declared.instr.Instr.TheVariants.{AloadShort, IloadShort, Ldc, LdcW}
use Rattle.par_instr.specs.declared.instr.Instr.TheVariants.{Getstatic, Putstatic, Getfield}
use Rattle.par_instr.specs.declared.instr.Instr.TheVariants.{Putfield, Invokespecial, Invokestatic}
use Rattle.par_values.specs.Areas.{Name, Areas, next, first_locals, first_value, shown_value}
use Rattle.par_values.specs.Arithmetic.{Plus, Minus, Quotient, Remainder, ShiftLeft, ShiftRight}
use Rattle.par_values.specs.Arithmetic.{ShiftRightUnsigned, Xor, combined}
use Rattle.par_values.specs.Operations.{Operation, Push, Load, Store, Combine, Increase, Jump}
use Rattle.par_values.specs.Operations.{JumpIf, JumpIfBoth, JumpIfSame, JumpIfNull, GetStatic}
use Rattle.par_values.specs.Operations.{PutStatic, GetField, PutField, InvokeStatic, InvokeSpecial}
use Rattle.par_values.specs.Operations.{Create, Throw, Leave, LeaveWith, Misnamed, operation}
use Rattle.par_values.specs.Reasons.{Spot, reason}
use Rattle.par_values.specs.Effects.{Effect, Goes, Happens, Jumps, Calls, Throws, effect}

-- two classes, and a frame of a method without a result that has room for two operands
abbrev classes : List Name
classes = codes "A" ∷ codes "B" ∷ []

abbrev plain : Spot
plain =
    record {
      room = 2;
      stands = true;
      gives_nothing = true;
      result = Number;
      exceptions = [];
      is_lost = false;
      is_roomless = false;
    }

abbrev areas : List (Option MVal) → List MVal → Areas
areas locals operands =
    record {
      locals = locals;
      operands = operands;
      statics = Null ∷ Int (pos 7) ∷ [];
      objects = [];
      inputs = λ class name. pos 5 ∷ pos 6 ∷ [];
    }

abbrev field : Bool → Kind → FieldLink
field is_static kind =
    record { class = codes "A"; name = codes "f"; is_static = is_static; kind = kind; place = 1 }

abbrev method : Bool → List Kind → Bool → Target → MethodLink
method is_static takes gives target =
    record {
      is_static = is_static;
      is_initializer = false;
      receiver = Object (codes "A");
      takes = takes;
      gives = gives;
      target = target;
    }

abbrev initializer : Bool → ℕ → MethodLink
initializer is_static locals =
    record {
      is_static = is_static;
      is_initializer = true;
      receiver = Object (codes "A");
      takes = [];
      gives = false;
      target = Code 0 3 locals;
    }

abbrev why : Operation → List (Option MVal) → List MVal → Option ℕ
why o locals operands = reason classes plain o (areas locals operands)

-- ---- each reason by itself

missing : why (Combine Plus) [] (Int (pos 1) ∷ []) ≡ Some 1
unfolding reason effect
missing = refl

missing_receiver : why (InvokeSpecial (initializer false 1)) [] [] ≡ Some 1
unfolding reason effect
missing_receiver = refl

of_another_kind : why (PutStatic (field true (Object (codes "A")))) [] (Int (pos 1) ∷ []) ≡ Some 2
unfolding reason effect
of_another_kind = refl

of_another_class : why (InvokeSpecial (initializer false 1)) [] (Ref 1 0 ∷ []) ≡ Some 2
unfolding reason effect
of_another_class = refl

arguments_swapped : why
    (InvokeStatic (method true (Number ∷ Object (codes "A") ∷ []) false (Code 0 0 2))) []
    (Int (pos 1) ∷ Null ∷ []) ≡ Some 2
unfolding reason effect
arguments_swapped = refl

no_room : why (Push (pos 1)) [] (Null ∷ Null ∷ []) ≡ Some 3
unfolding reason effect
no_room = refl

unset : why (Load 0 Number) (None ∷ []) [] ≡ Some 4
unfolding reason effect
unset = refl

out_of_range : why (Store 1 Number) (None ∷ []) (Int (pos 1) ∷ []) ≡ Some 4
unfolding reason effect
out_of_range = refl

held_otherwise : why (Load 0 Number) (Some Null ∷ []) [] ≡ Some 4
unfolding reason effect
held_otherwise = refl

crowded : why (InvokeSpecial (initializer false 0)) [] (Null ∷ []) ≡ Some 4
unfolding reason effect
crowded = refl

at_the_end : reason classes (record plain { stands = false }) (Push (pos 1)) (areas [] []) ≡ Some 5
unfolding reason effect
at_the_end = refl

wrong_index : why (Misnamed [] 1) [] [] ≡ Some 6
unfolding reason effect
wrong_index = refl

no_initializer : why (InvokeSpecial (method false [] false (Code 0 0 1))) [] (Null ∷ []) ≡ Some 6
unfolding reason effect
no_initializer = refl

field_of_an_object : why (GetStatic (field false Number)) [] [] ≡ Some 7
unfolding reason effect
field_of_an_object = refl

method_of_an_object : why (InvokeStatic (method false [] false (Code 0 0 1))) [] [] ≡ Some 7
unfolding reason effect
method_of_an_object = refl

static_initializer : why (InvokeSpecial (initializer true 1)) [] (Null ∷ []) ≡ Some 7
unfolding reason effect
static_initializer = refl

result_is_owed : reason classes (record plain { gives_nothing = false }) Leave (areas [] [])
    ≡ Some 8
unfolding reason effect
result_is_owed = refl

receiver_below_its_arguments : why (InvokeSpecial (method false (Number ∷ []) false (Code 0 0 2)))
    [] (Null ∷ Int (pos 1) ∷ []) ≡ Some 2
unfolding reason effect
receiver_below_its_arguments = refl

number_as_an_object : why (Load 0 AnyObject) (Some (Int (pos 1)) ∷ []) [] ≡ Some 4
unfolding reason effect
number_as_an_object = refl

object_as_a_number : why (Store 0 Number) (None ∷ []) (Ref 0 0 ∷ []) ≡ Some 2
unfolding reason effect
object_as_a_number = refl

object_as_a_field_of_a_number : why (PutStatic (field true Number)) [] (Ref 0 0 ∷ []) ≡ Some 2
unfolding reason effect
object_as_a_field_of_a_number = refl

sum_of_an_object : why (Combine Plus) [] (Ref 0 0 ∷ Int (pos 1) ∷ []) ≡ Some 2
unfolding reason effect
sum_of_an_object = refl

sum_with_an_object : why (Combine Plus) [] (Int (pos 1) ∷ Ref 0 0 ∷ []) ≡ Some 2
unfolding reason effect
sum_with_an_object = refl

load_out_of_range : why (Load 1 Number) (Some (Int (pos 1)) ∷ []) [] ≡ Some 4
unfolding reason effect
load_out_of_range = refl

more_arguments_than_locals : why (InvokeStatic (method true (Number ∷ []) false (Code 0 0 0))) []
    (Int (pos 1) ∷ []) ≡ Some 4
unfolding reason effect
more_arguments_than_locals = refl

no_room_for_a_result : why (InvokeStatic (method true [] true (Code 0 0 0))) [] (Null ∷ Null ∷ [])
    ≡ Some 3
unfolding reason effect
no_room_for_a_result = refl

no_room_for_a_special_result : why (InvokeSpecial (method false [] true (Code 0 0 1))) []
    (Null ∷ Null ∷ Null ∷ []) ≡ Some 3
unfolding reason effect
no_room_for_a_special_result = refl

no_room_for_a_sum : reason classes (record plain { room = 0 }) (Combine Plus)
    (areas [] (Int (pos 1) ∷ Int (pos 2) ∷ [])) ≡ Some 3
unfolding reason effect
no_room_for_a_sum = refl

no_room_for_a_local : why (Load 0 Number) (Some (Int (pos 1)) ∷ []) (Null ∷ Null ∷ []) ≡ Some 3
unfolding reason effect
no_room_for_a_local = refl

no_room_for_a_field : why (GetStatic (field true Number)) [] (Null ∷ Null ∷ []) ≡ Some 3
unfolding reason effect
no_room_for_a_field = refl

write_of_a_field_of_an_object : why (PutStatic (field false Number)) [] (Int (pos 1) ∷ []) ≡ Some 7
unfolding reason effect
write_of_a_field_of_an_object = refl

-- ---- several together: the least is told, also before null is acted on

missing_first : reason classes (record plain { stands = false }) (Misnamed (Anything ∷ []) 0)
    (areas [] []) ≡ Some 1
unfolding reason effect
missing_first = refl

room_first : why (Misnamed [] 1) [] (Null ∷ Null ∷ []) ≡ Some 3
unfolding reason effect
room_first = refl

locals_before_null : why (InvokeSpecial (method true [] false (Code 0 0 0))) [] (Null ∷ []) ≡ Some 4
unfolding reason effect
locals_before_null = refl

-- ---- none

result_in_place_of_an_argument : why (InvokeStatic (method true (Number ∷ []) true (Code 0 0 1))) []
    (Int (pos 1) ∷ Null ∷ []) ≡ None
unfolding reason effect
result_in_place_of_an_argument = refl

return_at_the_end : reason classes (record plain { stands = false }) Leave (areas [] []) ≡ None
unfolding reason effect
return_at_the_end = refl

objects_of_every_class : why (Load 0 AnyObject) (Some (Ref 1 3) ∷ []) [] ≡ None
unfolding reason effect
objects_of_every_class = refl

null_of_every_class : why (Load 0 AnyObject) (Some Null ∷ []) [] ≡ None
unfolding reason effect
null_of_every_class = refl

null_of_one_class : why (PutStatic (field true (Object (codes "A")))) [] (Null ∷ []) ≡ None
unfolding reason effect
null_of_one_class = refl

object_of_its_class : why (PutStatic (field true (Object (codes "B")))) [] (Ref 1 0 ∷ []) ≡ None
unfolding reason effect
object_of_its_class = refl

any_value_where_none_is_named : why (Misnamed (Anything ∷ []) 0) [] (Int (pos 1) ∷ []) ≡ Some 6
unfolding reason effect
any_value_where_none_is_named = refl

-- what stands where the object of a field must be is an object or null, whatever the index names

number_where_an_object_is_read : why (Misnamed (AnyObject ∷ []) 1) [] (Int (pos 1) ∷ []) ≡ Some 2
unfolding reason effect
number_where_an_object_is_read = refl

number_where_an_object_is_written : why (Misnamed (Anything ∷ AnyObject ∷ []) 0) []
    (Int (pos 1) ∷ Int (pos 2) ∷ []) ≡ Some 2
unfolding reason effect
number_where_an_object_is_written = refl

any_value_above_a_null : why (Misnamed (Anything ∷ AnyObject ∷ []) 0) []
    (Int (pos 1) ∷ Null ∷ []) ≡ Some 6
unfolding reason effect
any_value_above_a_null = refl

push_into_the_last_room : why (Push (pos 1)) [] (Null ∷ []) ≡ None
unfolding reason effect
push_into_the_last_room = refl

sum_needs_room_for_one : reason classes (record plain { room = 1 }) (Combine Plus)
    (areas [] (Int (pos 1) ∷ Int (pos 2) ∷ [])) ≡ None
unfolding reason effect
sum_needs_room_for_one = refl

write_makes_room : reason classes (record plain { room = 0 }) (PutStatic (field true Number))
    (areas [] (Int (pos 1) ∷ [])) ≡ None
unfolding reason effect
write_makes_room = refl

store_makes_room : reason classes (record plain { room = 0 }) (Store 0 Number)
    (areas (None ∷ []) (Int (pos 1) ∷ [])) ≡ None
unfolding reason effect
store_makes_room = refl

channel_needs_no_locals : why
    (InvokeStatic (method true (Number ∷ []) false (Output (codes "A") (codes "out")))) []
    (Int (pos 1) ∷ []) ≡ None
unfolding reason effect
channel_needs_no_locals = refl

-- ---- what an instruction is to do

object_local : operation (λ n. link.Other) (AloadShort 2) ≡ Load 2 AnyObject
object_local = refl

number_local : operation (λ n. link.Other) (IloadShort 2) ≡ Load 2 Number
number_local = refl

constant_of_a_field : operation (λ n. link.Field (field true Number)) (Ldc 1) ≡ Misnamed [] 1
constant_of_a_field = refl

read_of_a_number : operation (λ n. link.Number (pos 5)) (Getstatic 1) ≡ Misnamed [] 1
read_of_a_number = refl

write_of_a_number : operation (λ n. link.Number (pos 5)) (Putstatic 1) ≡ Misnamed (Anything ∷ []) 0
write_of_a_number = refl

read_of_an_object_by_a_number : operation (λ n. link.Number (pos 5)) (Getfield 1)
    ≡ Misnamed (AnyObject ∷ []) 1
read_of_an_object_by_a_number = refl

write_of_an_object_by_a_number : operation (λ n. link.Number (pos 5)) (Putfield 1)
    ≡ Misnamed (Anything ∷ AnyObject ∷ []) 0
write_of_an_object_by_a_number = refl

special_call_of_a_field : operation (λ n. link.Field (field true Number)) (Invokespecial 1)
    ≡ Misnamed (Anything ∷ []) 0
special_call_of_a_field = refl

call_of_a_field : operation (λ n. link.Field (field true Number)) (Invokestatic 1) ≡ Misnamed [] 0
call_of_a_field = refl

named_number : operation (λ n. link.Number (pos n)) (LdcW 300) ≡ Push (pos 300)
named_number = refl

-- ---- what is done

number_is_pushed : effect classes (Push (pos 3)) (areas [] (Null ∷ []))
    ≡ Goes (areas [] (Int (pos 3) ∷ Null ∷ []))
unfolding effect
number_is_pushed = refl

local_is_pushed : effect classes (Load 1 Number) (areas (None ∷ Some (Int (pos 4)) ∷ []) [])
    ≡ Goes (areas (None ∷ Some (Int (pos 4)) ∷ []) (Int (pos 4) ∷ []))
unfolding effect
local_is_pushed = refl

local_is_set : effect classes (Store 1 Number) (areas (None ∷ None ∷ []) (Int (pos 4) ∷ Null ∷ []))
    ≡ Goes (areas (None ∷ Some (Int (pos 4)) ∷ []) (Null ∷ []))
unfolding effect
local_is_set = refl

field_is_pushed : effect classes (GetStatic (field true Number)) (areas [] [])
    ≡ Goes (areas [] (Int (pos 7) ∷ []))
unfolding effect
field_is_pushed = refl

number_is_put_out : effect classes
    (InvokeStatic (method true (Number ∷ []) false (Output (codes "A") (codes "out"))))
    (areas [] (Int (pos 4) ∷ Null ∷ []))
    ≡ Happens (Out (codes "A") (codes "out") (pos 4)) (areas [] (Null ∷ []))
unfolding effect
number_is_put_out = refl

nothing_takes_its_object : effect classes (InvokeSpecial (method false [] false Nothing))
    (areas [] (Ref 0 9 ∷ Null ∷ [])) ≡ Goes (areas [] (Null ∷ []))
unfolding effect
nothing_takes_its_object = refl

-- the input list of a channel after a number is taken from the channel `in` of `A`
abbrev left_after : Effect → Name → Name → List ℤ
left_after (Goes a) class name = a.inputs class name
left_after _ class name = []

abbrev operands_after : Effect → List MVal
operands_after (Goes a) = a.operands
operands_after _ = []

abbrev input : Effect
input =
    effect classes (InvokeStatic (method true [] true (Input (codes "A") (codes "in"))))
    (areas [] (Null ∷ []))

number_is_taken : operands_after input ≡ Int (pos 5) ∷ Null ∷ []
unfolding effect
number_is_taken = refl

taken_number_is_gone : left_after input (codes "A") (codes "in") ≡ pos 6 ∷ []
unfolding effect
taken_number_is_gone = refl

other_channel_is_whole : left_after input (codes "A") (codes "more") ≡ pos 5 ∷ pos 6 ∷ []
unfolding effect
other_channel_is_whole = refl

channel_of_another_class_is_whole : left_after input (codes "B") (codes "in") ≡ pos 5 ∷ pos 6 ∷ []
unfolding effect
channel_of_another_class_is_whole = refl

spent_list_gives_0 : next [] ≡ pos 0
spent_list_gives_0 = refl

arguments_stand_first : first_locals 3 (Int (pos 1) ∷ Null ∷ [])
    ≡ Some (Int (pos 1)) ∷ Some Null ∷ None ∷ []
arguments_stand_first = refl

number_begins_as_0 : first_value Number ≡ Int (pos 0)
number_begins_as_0 = refl

object_begins_as_null : first_value (Object (codes "A")) ≡ Null
object_begins_as_null = refl

numbers_are_shown : shown_value classes (Int (pos 4)) ≡ shown.Int (pos 4)
numbers_are_shown = refl

null_is_shown : shown_value classes Null ≡ shown.Null
null_is_shown = refl

sum_wraps : effect classes (Combine Plus) (areas [] (Int (pos 1) ∷ Int (pos 2147483647) ∷ []))
    ≡ Goes (areas [] (Int (negsuc 2147483647) ∷ []))
unfolding effect int_wrap
sum_wraps = refl

arguments_in_order : effect classes
    (InvokeStatic (method true (Number ∷ Number ∷ []) false (Code 1 4 5)))
    (areas [] (Int (pos 2) ∷ Int (pos 1) ∷ Null ∷ []))
    ≡ Calls 1 4 5 (Int (pos 1) ∷ Int (pos 2) ∷ []) (areas [] (Null ∷ []))
unfolding effect
arguments_in_order = refl

receiver_is_the_first_argument : effect classes (InvokeSpecial (initializer false 1))
    (areas [] (Ref 0 9 ∷ [])) ≡ Calls 0 3 1 (Ref 0 9 ∷ []) (areas [] [])
unfolding effect
receiver_is_the_first_argument = refl

null_throws : effect classes (InvokeSpecial (initializer false 1)) (areas [] (Null ∷ []))
    ≡ Throws (codes "NullPointerException")
unfolding effect
null_throws = refl

write_is_shown : effect classes (PutStatic (field true (Object (codes "B"))))
    (areas [] (Ref 1 3 ∷ []))
    ≡ Happens (Set (codes "A") (codes "f") (shown.Ref (codes "B") 3))
    (record (areas [] []) { statics = Null ∷ Ref 1 3 ∷ [] })
unfolding effect
write_is_shown = refl

-- ---- arithmetic

quotient_is_truncated : combined Quotient (negsuc 6) (pos 2) ≡ negsuc 2
unfolding int_wrap
quotient_is_truncated = refl

remainder_has_the_sign_of_the_dividend : combined Remainder (negsuc 6) (pos 2) ≡ negsuc 0
remainder_has_the_sign_of_the_dividend = refl

least_quotient_wraps : combined Quotient (negsuc 2147483647) (negsuc 0) ≡ negsuc 2147483647
unfolding int_wrap
least_quotient_wraps = refl

count_has_five_bits : combined ShiftLeft (pos 1) (pos 33) ≡ pos 2
count_has_five_bits = refl

shift_keeps_the_sign : combined ShiftRight (negsuc 7) (pos 1) ≡ negsuc 3
shift_keeps_the_sign = refl

shift_fills_with_zeros : combined ShiftRightUnsigned (negsuc 0) (pos 28) ≡ pos 15
shift_fills_with_zeros = refl

bits_differ : combined Xor (negsuc 0) (pos 5) ≡ negsuc 5
bits_differ = refl

zero_divisor_throws : effect classes (Combine Remainder) (areas [] (Int (pos 0) ∷ Int (pos 1) ∷ []))
    ≡ Throws (codes "ArithmeticException")
unfolding effect
zero_divisor_throws = refl

difference_is_in_order : effect classes (Combine Minus) (areas [] (Int (pos 1) ∷ Int (pos 5) ∷ []))
    ≡ Goes (areas [] (Int (pos 4) ∷ []))
unfolding effect int_wrap
difference_is_in_order = refl

local_wraps : effect classes (Increase 0 (pos 1)) (areas (Some (Int (pos 2147483647)) ∷ []) [])
    ≡ Goes (areas (Some (Int (negsuc 2147483647)) ∷ []) [])
unfolding effect int_wrap
local_wraps = refl

-- ---- where it goes on

less_is_taken : effect classes (JumpIf 2 (pos 9)) (areas [] (Int (negsuc 0) ∷ Null ∷ []))
    ≡ Jumps (pos 9) (areas [] (Null ∷ []))
unfolding effect
less_is_taken = refl

equal_is_not_taken : effect classes (JumpIf 0 (pos 9)) (areas [] (Int (pos 1) ∷ []))
    ≡ Goes (areas [] [])
unfolding effect
equal_is_not_taken = refl

greater_is_taken : effect classes (JumpIfBoth 4 (negsuc 5))
    (areas [] (Int (pos 3) ∷ Int (pos 5) ∷ [])) ≡ Jumps (negsuc 5) (areas [] [])
unfolding effect
greater_is_taken = refl

same_object_is_taken : effect classes (JumpIfSame true (pos 4)) (areas [] (Ref 0 1 ∷ Ref 0 1 ∷ []))
    ≡ Jumps (pos 4) (areas [] [])
unfolding effect
same_object_is_taken = refl

object_of_another_class_is_another : effect classes (JumpIfSame true (pos 4))
    (areas [] (Ref 1 1 ∷ Ref 0 1 ∷ [])) ≡ Goes (areas [] [])
unfolding effect
object_of_another_class_is_another = refl

object_is_not_null : effect classes (JumpIfNull false (pos 4)) (areas [] (Ref 0 0 ∷ []))
    ≡ Jumps (pos 4) (areas [] [])
unfolding effect
object_is_not_null = refl

-- ---- objects

abbrev class : Bool → Bool → ClassLink
class is_exception is_made =
    record {
      name = codes "B";
      number = 1;
      fields = Number ∷ Object (codes "A") ∷ [];
      is_exception = is_exception;
      is_made = is_made;
    }

abbrev with_objects : List MVal → List (List MVal) → Areas
with_objects operands objects = record (areas [] operands) { objects = [] ∷ objects ∷ [] }

object_is_born : effect classes (Create (class false true))
    (with_objects [] ((Int (pos 8) ∷ Null ∷ []) ∷ []))
    ≡ Happens (Born (codes "B") 1)
    (with_objects (Ref 1 1 ∷ []) ((Int (pos 8) ∷ Null ∷ []) ∷ (Int (pos 0) ∷ Null ∷ []) ∷ []))
unfolding effect
object_is_born = refl

exception_is_not_shown : effect classes (Create (class true true)) (with_objects [] [])
    ≡ Goes (with_objects (Ref 1 0 ∷ []) ((Int (pos 0) ∷ Null ∷ []) ∷ []))
unfolding effect
exception_is_not_shown = refl

field_of_an_object_is_pushed : effect classes (GetField (field false Number))
    (with_objects (Ref 1 0 ∷ []) ((Null ∷ Int (pos 8) ∷ []) ∷ []))
    ≡ Goes (with_objects (Int (pos 8) ∷ []) ((Null ∷ Int (pos 8) ∷ []) ∷ []))
unfolding effect
field_of_an_object_is_pushed = refl

field_of_an_object_is_set : effect classes (PutField (field false Number))
    (with_objects (Int (pos 9) ∷ Ref 1 0 ∷ []) ((Null ∷ Int (pos 8) ∷ []) ∷ []))
    ≡ Happens (Put (codes "A") 0 (codes "f") (shown.Int (pos 9)))
    (with_objects [] ((Null ∷ Int (pos 9) ∷ []) ∷ []))
unfolding effect
field_of_an_object_is_set = refl

null_has_no_field : effect classes (GetField (field false Number)) (areas [] (Null ∷ []))
    ≡ Throws (codes "NullPointerException")
unfolding effect
null_has_no_field = refl

null_is_not_thrown : effect classes Throw (areas [] (Null ∷ []))
    ≡ Throws (codes "NullPointerException")
unfolding effect
null_is_not_thrown = refl

-- ---- further reasons

abbrev gives_object : Spot
gives_object = record plain { gives_nothing = false; result = Object (codes "A") }

result_of_another_class : reason classes gives_object (LeaveWith AnyObject)
    (areas [] (Ref 1 0 ∷ [])) ≡ Some 2
unfolding reason effect
result_of_another_class = refl

result_of_its_class : reason classes gives_object (LeaveWith AnyObject) (areas [] (Ref 0 0 ∷ []))
    ≡ None
unfolding reason effect
result_of_its_class = refl

number_for_an_object : reason classes gives_object (LeaveWith Number) (areas [] (Int (pos 1) ∷ []))
    ≡ Some 8
unfolding reason effect
number_for_an_object = refl

result_of_nothing : reason classes plain (LeaveWith Number) (areas [] (Int (pos 1) ∷ [])) ≡ Some 8
unfolding reason effect
result_of_nothing = refl

no_exception : why Throw [] (Ref 0 0 ∷ []) ≡ Some 9
unfolding reason effect
no_exception = refl

an_exception : reason classes (record plain { exceptions = 0 ∷ [] }) Throw (areas [] (Ref 0 0 ∷ []))
    ≡ None
unfolding reason effect
an_exception = refl

none_is_made : why (Create (class false false)) [] [] ≡ Some 9
unfolding reason effect
none_is_made = refl

static_field_of_an_object : why (GetField (field true Number)) [] (Null ∷ []) ≡ Some 7
unfolding reason effect
static_field_of_an_object = refl

unset_is_not_increased : why (Increase 0 (pos 1)) (None ∷ []) [] ≡ Some 4
unfolding reason effect
unset_is_not_increased = refl

jump_to_no_instruction : reason classes (record plain { stands = false }) (Jump (pos 3))
    (areas [] []) ≡ Some 5
unfolding reason effect
jump_to_no_instruction = refl

-- what throws does not go on behind itself
null_at_the_end : reason classes (record plain { stands = false })
    (InvokeSpecial (initializer false 1)) (areas [] (Null ∷ [])) ≡ None
unfolding reason effect
null_at_the_end = refl

zero_divisor_at_the_end : reason classes (record plain { stands = false }) (Combine Quotient)
    (areas [] (Int (pos 0) ∷ Int (pos 1) ∷ [])) ≡ None
unfolding reason effect
zero_divisor_at_the_end = refl

handler_without_room : reason classes (record plain { is_roomless = true }) (Combine Quotient)
    (areas [] (Int (pos 0) ∷ Int (pos 1) ∷ [])) ≡ Some 3
unfolding reason effect
handler_without_room = refl

handler_without_instruction : reason classes (record plain { is_lost = true }) Throw
    (areas [] (Null ∷ [])) ≡ Some 5
unfolding reason effect
handler_without_instruction = refl
