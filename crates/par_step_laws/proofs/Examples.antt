-- Small programs that the definitions are checked against: what is thrown and where it goes, what
-- is
-- bad code, which events there are, and where a run is stopped.
use Rattle.std.specs.Int.{int_wrap}
use Rattle.std.proofs.Common.{◌≡◌, ℕ, List, [], ◌∷◌, Some, refl, codes}
use Rattle.par_link.specs.par_pool.declared.constant.Constant.{Constant}
use Rattle.par_link.specs.par_pool.declared.constant.Constant.TheVariants.{Utf8, Class, Field}
use Rattle.par_link.specs.par_pool.declared.constant.Constant.TheVariants.{Method}
use Rattle.par_link.specs.par_pool.declared.constant.Constant.TheVariants.{NameType}
use Rattle.par_link.specs.par_class.declared.file.Catch.{Catch}
use Rattle.par_link.specs.par_class.declared.file.MethodFile.{MethodFile}
use Rattle.par_link.specs.par_class.declared.file.ClassFile.{ClassFile}
use Rattle.par_secrecy.specs.par_values.declared.run.Event.TheVariants.{Born}
use Rattle.par_secrecy.specs.par_values.declared.run.Ending.TheVariants.{End, Uncaught}
use Rattle.par_secrecy.specs.par_values.Areas.{Name}
use Rattle.par_secrecy.specs.par_values.Effects.{effect}
use Rattle.par_secrecy.specs.par_values.Reasons.{reason}
use Rattle.par_secrecy.specs.par_values.Ran.{Ran, Fine, BadCode, ended, stopped, with_event}
use Rattle.par_secrecy.specs.par_instr.Spelling.{opcode_row}
use Rattle.par_secrecy.specs.par_instr.Decoding.{instruction}
use Rattle.par_link.specs.par_single.Descriptors.{kind_at, kinds_in}
use Rattle.par_link.specs.par_single.Walk.{starts_after}
use Rattle.par_link.specs.Builtins.{builtin_field, builtin_method, lock_number}
use Rattle.par_link.specs.Named.{named_by, field_of, method_of}
use Rattle.par_step_laws.specs.Classes.{exceptions_from}
use Rattle.par_step_laws.specs.Fields.{class_statics}
use Rattle.par_step_laws.specs.Handlers.{first_handler, caught}
use Rattle.par_step_laws.specs.Step.{turn}
use Rattle.par_step_laws.specs.Run.{machine_run}

-- ---- two classes, `Shop` and the exception `Bad`, with one constant pool

abbrev constants : List Constant
constants =
    Utf8 (codes "Shop") ∷ Class 1
    ∷ Utf8 (codes "java/lang/Object") ∷ Class 3
    ∷ Utf8 (codes "main") ∷ Utf8 (codes "()V") ∷ NameType 5 6
    ∷ Utf8 (codes "Bad") ∷ Class 8
    ∷ Utf8 (codes "java/lang/Exception") ∷ Class 10
    ∷ Utf8 (codes "java/lang/NullPointerException") ∷ Class 12
    ∷ Utf8 (codes "paragon/Locks") ∷ Class 14 ∷ Utf8 (codes "L3") ∷ Utf8 (codes "Z")
    ∷ NameType 16 17 ∷ Field 15 18
    ∷ Utf8 (codes "<init>") ∷ NameType 20 6 ∷ Method 11 21
    ∷ Utf8 (codes "fail") ∷ NameType 23 6 ∷ Method 2 24
    ∷ []

-- a static method without arguments and result
abbrev method : (name room : ℕ) → List ℕ → List Catch → MethodFile
method name room code catches = record {
  access = 9;
  name = name;
  descriptor = 6;
  code =
      Some (record {
        max_stack = room;
        max_locals = 0;
        code = code;
        catches = catches;
        attributes = [];
      });
  attributes = [];
}

abbrev file : (own super : ℕ) → List MethodFile → ClassFile
file own super methods = record {
  minor = 0;
  major = 49;
  pool = record { entries = constants };
  access = 49;
  this_class = own;
  super_class = super;
  fields = [];
  methods = methods;
  attributes = [];
}

abbrev handler : (start end handler class : ℕ) → Catch
handler start end at class = record { start = start; end = end; handler = at; class = class }

-- the run of a `main` with these handlers, where `fail` has this code
abbrev ran_with : (room : ℕ) → List ℕ → List Catch → List ℕ → ℕ → Ran
ran_with room code catches failing steps =
    machine_run
    (file 2 4 (method 5 room code catches ∷ method 23 1 failing [] ∷ []) ∷ file 9 11 [] ∷ [])
    (codes "Shop") (record { channels = [] }) steps

-- the run of one with room for two operands
abbrev ran : List ℕ → List Catch → Ran
ran code catches = ran_with 2 code catches [] 9

abbrev bad : (offset reason : ℕ) → Ran
bad offset reason = ended (BadCode (codes "Shop") (codes "main") offset reason)

abbrev uncaught : Name → Ran
uncaught class = ended (Fine (Uncaught class))

abbrev over : Ran
over = ended (Fine End)

-- ---- what is thrown, and by which instruction

null_is_thrown : ran (1 ∷ 191 ∷ []) [] ≡ uncaught (codes "NullPointerException")
unfolding turn effect reason instruction opcode_row starts_after exceptions_from class_statics
    first_handler caught named_by field_of method_of builtin_field builtin_method lock_number
    kind_at kinds_in int_wrap
null_is_thrown = refl

quotient_by_zero : ran (4 ∷ 3 ∷ 108 ∷ 87 ∷ 177 ∷ []) [] ≡ uncaught (codes "ArithmeticException")
unfolding turn effect reason instruction opcode_row starts_after exceptions_from class_statics
    first_handler caught named_by field_of method_of builtin_field builtin_method lock_number
    kind_at kinds_in int_wrap
quotient_by_zero = refl

thrown_by_the_last_instruction : ran (4 ∷ 3 ∷ 108 ∷ []) [] ≡ uncaught (codes "ArithmeticException")
unfolding turn effect reason instruction opcode_row starts_after exceptions_from class_statics
    first_handler caught named_by field_of method_of builtin_field builtin_method lock_number
    kind_at kinds_in int_wrap
thrown_by_the_last_instruction = refl

receiver_is_null : ran (1 ∷ 183 ∷ 0 ∷ 22 ∷ []) [] ≡ uncaught (codes "NullPointerException")
unfolding turn effect reason instruction opcode_row starts_after exceptions_from class_statics
    first_handler caught named_by field_of method_of builtin_field builtin_method lock_number
    kind_at kinds_in int_wrap
receiver_is_null = refl

exception_of_a_class : ran (187 ∷ 0 ∷ 9 ∷ 191 ∷ []) [] ≡ uncaught (codes "Bad")
unfolding turn effect reason instruction opcode_row starts_after exceptions_from class_statics
    first_handler caught named_by field_of method_of builtin_field builtin_method lock_number
    kind_at kinds_in int_wrap
exception_of_a_class = refl

-- ---- where it goes

caught_by_any : ran (1 ∷ 191 ∷ 87 ∷ 177 ∷ []) (handler 0 2 2 0 ∷ []) ≡ over
unfolding turn effect reason instruction opcode_row starts_after exceptions_from class_statics
    first_handler caught named_by field_of method_of builtin_field builtin_method lock_number
    kind_at kinds_in int_wrap
caught_by_any = refl

caught_by_its_class : ran (1 ∷ 191 ∷ 87 ∷ 177 ∷ []) (handler 0 2 2 13 ∷ []) ≡ over
unfolding turn effect reason instruction opcode_row starts_after exceptions_from class_statics
    first_handler caught named_by field_of method_of builtin_field builtin_method lock_number
    kind_at kinds_in int_wrap
caught_by_its_class = refl

caught_by_all_exceptions : ran (1 ∷ 191 ∷ 87 ∷ 177 ∷ []) (handler 0 2 2 11 ∷ []) ≡ over
unfolding turn effect reason instruction opcode_row starts_after exceptions_from class_statics
    first_handler caught named_by field_of method_of builtin_field builtin_method lock_number
    kind_at kinds_in int_wrap
caught_by_all_exceptions = refl

not_by_another_class : ran (1 ∷ 191 ∷ 87 ∷ 177 ∷ []) (handler 0 2 2 9 ∷ [])
    ≡ uncaught (codes "NullPointerException")
unfolding turn effect reason instruction opcode_row starts_after exceptions_from class_statics
    first_handler caught named_by field_of method_of builtin_field builtin_method lock_number
    kind_at kinds_in int_wrap
not_by_another_class = refl

not_by_all_objects : ran (1 ∷ 191 ∷ 87 ∷ 177 ∷ []) (handler 0 2 2 4 ∷ [])
    ≡ uncaught (codes "NullPointerException")
unfolding turn effect reason instruction opcode_row starts_after exceptions_from class_statics
    first_handler caught named_by field_of method_of builtin_field builtin_method lock_number
    kind_at kinds_in int_wrap
not_by_all_objects = refl

not_at_its_end : ran (1 ∷ 191 ∷ 87 ∷ 177 ∷ []) (handler 0 1 2 0 ∷ [])
    ≡ uncaught (codes "NullPointerException")
unfolding turn effect reason instruction opcode_row starts_after exceptions_from class_statics
    first_handler caught named_by field_of method_of builtin_field builtin_method lock_number
    kind_at kinds_in int_wrap
not_at_its_end = refl

class_of_a_file : ran (187 ∷ 0 ∷ 9 ∷ 191 ∷ 87 ∷ 177 ∷ []) (handler 0 4 4 9 ∷ []) ≡ over
unfolding turn effect reason instruction opcode_row starts_after exceptions_from class_statics
    first_handler caught named_by field_of method_of builtin_field builtin_method lock_number
    kind_at kinds_in int_wrap
class_of_a_file = refl

first_handler_comes : ran (1 ∷ 191 ∷ 87 ∷ 177 ∷ 1 ∷ 191 ∷ [])
    (handler 0 2 2 0 ∷ handler 0 2 4 0 ∷ []) ≡ over
unfolding turn effect reason instruction opcode_row starts_after exceptions_from class_statics
    first_handler caught named_by field_of method_of builtin_field builtin_method lock_number
    kind_at kinds_in int_wrap
first_handler_comes = refl

not_the_last : ran (1 ∷ 191 ∷ 87 ∷ 177 ∷ 87 ∷ 1 ∷ 191 ∷ []) (handler 0 2 4 0 ∷ handler 0 2 2 0 ∷ [])
    ≡ uncaught (codes "NullPointerException")
unfolding turn effect reason instruction opcode_row starts_after exceptions_from class_statics
    first_handler caught named_by field_of method_of builtin_field builtin_method lock_number
    kind_at kinds_in int_wrap
not_the_last = refl

thrown_through_a_frame : ran_with 2 (184 ∷ 0 ∷ 25 ∷ 177 ∷ 87 ∷ 177 ∷ []) (handler 0 3 4 0 ∷ [])
    (1 ∷ 191 ∷ []) 9 ≡ over
unfolding turn effect reason instruction opcode_row starts_after exceptions_from class_statics
    first_handler caught named_by field_of method_of builtin_field builtin_method lock_number
    kind_at kinds_in int_wrap
thrown_through_a_frame = refl

frame_does_not_go_on : ran_with 2 (184 ∷ 0 ∷ 25 ∷ 177 ∷ 87 ∷ 177 ∷ []) [] (1 ∷ 191 ∷ 177 ∷ []) 9
    ≡ uncaught (codes "NullPointerException")
unfolding turn effect reason instruction opcode_row starts_after exceptions_from class_statics
    first_handler caught named_by field_of method_of builtin_field builtin_method lock_number
    kind_at kinds_in int_wrap
frame_does_not_go_on = refl

-- ---- bad code

no_room : ran (4 ∷ 4 ∷ 4 ∷ 177 ∷ []) [] ≡ bad 2 3
unfolding turn effect reason instruction opcode_row starts_after exceptions_from class_statics
    first_handler caught named_by field_of method_of builtin_field builtin_method lock_number
    kind_at kinds_in int_wrap
no_room = refl

handler_where_nothing_stands : ran (1 ∷ 191 ∷ 16 ∷ 0 ∷ 177 ∷ []) (handler 0 2 3 0 ∷ []) ≡ bad 1 5
unfolding turn effect reason instruction opcode_row starts_after exceptions_from class_statics
    first_handler caught named_by field_of method_of builtin_field builtin_method lock_number
    kind_at kinds_in int_wrap
handler_where_nothing_stands = refl

no_room_at_a_handler : ran_with 0 (184 ∷ 0 ∷ 25 ∷ 177 ∷ 87 ∷ 177 ∷ []) (handler 0 3 4 0 ∷ [])
    (1 ∷ 191 ∷ []) 9 ≡ ended (BadCode (codes "Shop") (codes "fail") 1 3)
unfolding turn effect reason instruction opcode_row starts_after exceptions_from class_statics
    first_handler caught named_by field_of method_of builtin_field builtin_method lock_number
    kind_at kinds_in int_wrap
no_room_at_a_handler = refl

before_the_code : ran (167 ∷ 255 ∷ 255 ∷ []) [] ≡ bad 0 5
unfolding turn effect reason instruction opcode_row starts_after exceptions_from class_statics
    first_handler caught named_by field_of method_of builtin_field builtin_method lock_number
    kind_at kinds_in int_wrap
before_the_code = refl

not_what_is_thrown_past_it : ran (1 ∷ 191 ∷ []) (handler 0 2 0 0 ∷ []) ≡ stopped
unfolding turn effect reason instruction opcode_row starts_after exceptions_from class_statics
    first_handler caught named_by field_of method_of builtin_field builtin_method lock_number
    kind_at kinds_in int_wrap
not_what_is_thrown_past_it = refl

no_exception_to_its_initializer : ran (187 ∷ 0 ∷ 2 ∷ 183 ∷ 0 ∷ 22 ∷ 177 ∷ []) []
    ≡ with_event (Born (codes "Shop") 0) (bad 3 2)
unfolding turn effect reason instruction opcode_row starts_after exceptions_from class_statics
    first_handler caught named_by field_of method_of builtin_field builtin_method lock_number
    kind_at kinds_in int_wrap
no_exception_to_its_initializer = refl

exception_to_its_initializer : ran (187 ∷ 0 ∷ 9 ∷ 183 ∷ 0 ∷ 22 ∷ 177 ∷ []) [] ≡ over
unfolding turn effect reason instruction opcode_row starts_after exceptions_from class_statics
    first_handler caught named_by field_of method_of builtin_field builtin_method lock_number
    kind_at kinds_in int_wrap
exception_to_its_initializer = refl

no_object_of_all_exceptions : ran (187 ∷ 0 ∷ 11 ∷ 177 ∷ []) [] ≡ bad 0 9
unfolding turn effect reason instruction opcode_row starts_after exceptions_from class_statics
    first_handler caught named_by field_of method_of builtin_field builtin_method lock_number
    kind_at kinds_in int_wrap
no_object_of_all_exceptions = refl

no_exception_is_thrown : ran (187 ∷ 0 ∷ 2 ∷ 191 ∷ []) []
    ≡ with_event (Born (codes "Shop") 0) (bad 3 9)
unfolding turn effect reason instruction opcode_row starts_after exceptions_from class_statics
    first_handler caught named_by field_of method_of builtin_field builtin_method lock_number
    kind_at kinds_in int_wrap
no_exception_is_thrown = refl

no_method_index : ran (184 ∷ 0 ∷ 2 ∷ []) [] ≡ bad 0 5
unfolding turn effect reason instruction opcode_row starts_after exceptions_from class_statics
    first_handler caught named_by field_of method_of builtin_field builtin_method lock_number
    kind_at kinds_in int_wrap
no_method_index = refl

-- ---- events, and where a run is stopped

numbers_by_class : ran (187 ∷ 0 ∷ 2 ∷ 87 ∷ 187 ∷ 0 ∷ 9 ∷ 87 ∷ 187 ∷ 0 ∷ 2 ∷ 177 ∷ []) []
    ≡ with_event (Born (codes "Shop") 0) (with_event (Born (codes "Shop") 1) over)
unfolding turn effect reason instruction opcode_row starts_after exceptions_from class_statics
    first_handler caught named_by field_of method_of builtin_field builtin_method lock_number
    kind_at kinds_in int_wrap
numbers_by_class = refl

lock_is_kept : ran (4 ∷ 179 ∷ 0 ∷ 19 ∷ 178 ∷ 0 ∷ 19 ∷ 154 ∷ 0 ∷ 5 ∷ 1 ∷ 191 ∷ 177 ∷ []) [] ≡ over
unfolding turn effect reason instruction opcode_row starts_after exceptions_from class_statics
    first_handler caught named_by field_of method_of builtin_field builtin_method lock_number
    kind_at kinds_in int_wrap
lock_is_kept = refl

lock_is_closed : ran (178 ∷ 0 ∷ 19 ∷ 154 ∷ 0 ∷ 5 ∷ 1 ∷ 191 ∷ 177 ∷ []) []
    ≡ uncaught (codes "NullPointerException")
unfolding turn effect reason instruction opcode_row starts_after exceptions_from class_statics
    first_handler caught named_by field_of method_of builtin_field builtin_method lock_number
    kind_at kinds_in int_wrap
lock_is_closed = refl

around_and_around : ran_with 2 (167 ∷ 0 ∷ 0 ∷ []) [] [] 5 ≡ stopped
unfolding turn effect reason instruction opcode_row starts_after exceptions_from class_statics
    first_handler caught named_by field_of method_of builtin_field builtin_method lock_number
    kind_at kinds_in int_wrap
around_and_around = refl
