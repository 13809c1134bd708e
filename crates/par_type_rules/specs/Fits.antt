-- Which values fit a type.
use Rattle.std.specs.Prelude.{ℕ, Bool, true, false, not, ◌||◌, nat_eq, Option, Some, None}
use Rattle.par_completes.specs.par_lexer.declared.operator.BinOp.{BinOp}
use Rattle.par_completes.specs.par_lexer.declared.operator.BinOp.TheVariants as op
use Rattle.par_completes.specs.par_typed.declared.ty.Ty.{Ty}
use Rattle.par_completes.specs.par_typed.declared.ty.Ty.TheVariants.{Int, Boolean, Class, Null}
use Rattle.par_completes.specs.par_typed.declared.ty.Ty.TheVariants.{Void}
use Rattle.par_scope.specs.declared.locals.Slot.{Slot}
use Rattle.par_scope.specs.Members.{any_value, value_of}

-- of a type that may be unknown, which fits everywhere

unfoldable pub is_value : Option Ty → Bool
is_value None = true
is_value (Some Int) = true
is_value (Some Boolean) = true
is_value (Some (Class class)) = true
is_value (Some Null) = true
is_value (Some Void) = false

unfoldable pub is_int : Option Ty → Bool
is_int None = true
is_int (Some Int) = true
is_int (Some Boolean) = false
is_int (Some (Class class)) = false
is_int (Some Null) = false
is_int (Some Void) = false

unfoldable pub is_boolean : Option Ty → Bool
is_boolean None = true
is_boolean (Some Int) = false
is_boolean (Some Boolean) = true
is_boolean (Some (Class class)) = false
is_boolean (Some Null) = false
is_boolean (Some Void) = false

-- an object of this class, or null
unfoldable pub is_of_class : ℕ → Option Ty → Bool
is_of_class class None = true
is_of_class class (Some Int) = false
is_of_class class (Some Boolean) = false
is_of_class class (Some (Class other)) = nat_eq class other
is_of_class class (Some Null) = true
is_of_class class (Some Void) = false

-- an object of any class, or null
unfoldable pub is_reference : Option Ty → Bool
is_reference None = true
is_reference (Some Int) = false
is_reference (Some Boolean) = false
is_reference (Some (Class class)) = true
is_reference (Some Null) = true
is_reference (Some Void) = false

-- Two ints, two booleans, or two of one class or null. A value of the second type fits where one
-- of the first is wanted.
unfoldable pub are_alike : Option Ty → Option Ty → Bool
are_alike None t = is_value t
are_alike (Some Int) t = is_int t
are_alike (Some Boolean) t = is_boolean t
are_alike (Some (Class class)) t = is_of_class class t
are_alike (Some Null) t = is_reference t
are_alike (Some Void) t = false

abbrev pub is_void : Option Ty → Bool
is_void None = false
is_void (Some Int) = false
is_void (Some Boolean) = false
is_void (Some (Class class)) = false
is_void (Some Null) = false
is_void (Some Void) = true

-- what stands beside an operator: two of one type at `==` and `!=`, else each of this type
abbrev pub operand : BinOp → Slot
operand op.Or = value_of Boolean
operand op.And = value_of Boolean
operand op.BitOr = value_of Int
operand op.BitXor = value_of Int
operand op.BitAnd = value_of Int
operand op.Eq = any_value
operand op.Ne = any_value
operand op.Lt = value_of Int
operand op.Le = value_of Int
operand op.Gt = value_of Int
operand op.Ge = value_of Int
operand op.Shl = value_of Int
operand op.Shr = value_of Int
operand op.Ushr = value_of Int
operand op.Add = value_of Int
operand op.Sub = value_of Int
operand op.Mul = value_of Int
operand op.Div = value_of Int
operand op.Rem = value_of Int

abbrev pub is_equality : BinOp → Bool
is_equality op.Or = false
is_equality op.And = false
is_equality op.BitOr = false
is_equality op.BitXor = false
is_equality op.BitAnd = false
is_equality op.Eq = true
is_equality op.Ne = true
is_equality op.Lt = false
is_equality op.Le = false
is_equality op.Gt = false
is_equality op.Ge = false
is_equality op.Shl = false
is_equality op.Shr = false
is_equality op.Ushr = false
is_equality op.Add = false
is_equality op.Sub = false
is_equality op.Mul = false
is_equality op.Div = false
is_equality op.Rem = false

-- the operator may stand between these two
abbrev pub suits : BinOp → Option Ty → Option Ty → Bool
suits op s t = not (is_equality op) || are_alike s t
