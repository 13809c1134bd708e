-- What operators make of values. A boolean is the number 0 or 1. Where a value is no number, 0
-- stands
-- for it; where it is no object, 0 stands for its number.
use Rattle.std.specs.Prelude.{ℕ, Bool, true, false, not, ◌==◌, ◌&&◌, int_lt, pos, Option, Some}
use Rattle.std.specs.Prelude.{None}
use Rattle.std.specs.Ordering.{int_eq}
use Rattle.par_typed.specs.par_lexer.declared.operator.BinOp.{BinOp}
use Rattle.par_typed.specs.par_lexer.declared.operator.BinOp.TheVariants.{Or, And, BitOr, BitXor}
use Rattle.par_typed.specs.par_lexer.declared.operator.BinOp.TheVariants.{BitAnd, Eq}
use Rattle.par_typed.specs.par_lexer.declared.operator.BinOp.TheVariants.{Ne, Lt, Le, Gt, Ge, Shl}
use Rattle.par_typed.specs.par_lexer.declared.operator.BinOp.TheVariants.{Shr, Ushr}
use Rattle.par_typed.specs.par_lexer.declared.operator.BinOp.TheVariants.{Add, Sub, Mul, Div, Rem}
use Rattle.par_typed.specs.declared.table.Table.{Table}
use Rattle.par_secrecy.specs.par_values.declared.value.MVal.{MVal}
use Rattle.par_secrecy.specs.par_values.declared.value.MVal.TheVariants.{Int, Null, Ref}
use Rattle.par_secrecy.specs.par_values.declared.run.Val.{Val}
use Rattle.par_secrecy.specs.par_values.declared.run.Val.TheVariants as shown
use Rattle.par_secrecy.specs.par_values.Areas.{number_of}
use Rattle.par_secrecy.specs.par_values.Arithmetic.{Operator, combined, divides_by_zero}
use Rattle.par_secrecy.specs.par_values.Arithmetic as arithmetic
use Rattle.par_run_laws.specs.Names.{Name, class_named}

abbrev pub truth : Bool → MVal
truth true = Int (pos 1)
truth false = Int (pos 0)

-- whether a test holds
abbrev pub is_true : MVal → Bool
is_true v = not (int_eq (number_of v) (pos 0))

abbrev pub object_number : MVal → ℕ
object_number (Int n) = 0
object_number Null = 0
object_number (Ref c n) = n

abbrev pub same : MVal → MVal → Bool
same (Int a) (Int b) = int_eq a b
same (Int a) Null = false
same (Int a) (Ref d m) = false
same Null (Int b) = false
same Null Null = true
same Null (Ref d m) = false
same (Ref c n) (Int b) = false
same (Ref c n) Null = false
same (Ref c n) (Ref d m) = c == d && n == m

abbrev pub calculated : Operator → MVal → MVal → MVal
calculated o u v = Int (combined o (number_of u) (number_of v))

abbrev pub is_less : MVal → MVal → Bool
is_less u v = int_lt (number_of u) (number_of v)

-- whether an operator needs no second part, since its first decides: its value is that of the first
abbrev pub decides : BinOp → MVal → Bool
decides Or u = is_true u
decides And u = not (is_true u)
decides _ u = false

-- whether an operator throws for its second part
abbrev pub throws : BinOp → MVal → Bool
throws Div v = divides_by_zero arithmetic.Quotient (number_of v)
throws Rem v = divides_by_zero arithmetic.Remainder (number_of v)
throws _ v = false

-- what an operator gives for its two parts, where it needs both
abbrev pub applied : BinOp → MVal → MVal → MVal
applied Or u v = v
applied And u v = v
applied BitOr u v = calculated arithmetic.Or u v
applied BitXor u v = calculated arithmetic.Xor u v
applied BitAnd u v = calculated arithmetic.And u v
applied Eq u v = truth (same u v)
applied Ne u v = truth (not (same u v))
applied Lt u v = truth (is_less u v)
applied Le u v = truth (not (is_less v u))
applied Gt u v = truth (is_less v u)
applied Ge u v = truth (not (is_less u v))
applied Shl u v = calculated arithmetic.ShiftLeft u v
applied Shr u v = calculated arithmetic.ShiftRight u v
applied Ushr u v = calculated arithmetic.ShiftRightUnsigned u v
applied Add u v = calculated arithmetic.Plus u v
applied Sub u v = calculated arithmetic.Minus u v
applied Mul u v = calculated arithmetic.Times u v
applied Div u v = calculated arithmetic.Quotient u v
applied Rem u v = calculated arithmetic.Remainder u v

abbrev pub shown_object : Option Name → ℕ → Val
shown_object None n = shown.Null
shown_object (Some class) n = shown.Ref class n

-- a value as an event shows it
abbrev pub shown_value : Table → MVal → Val
shown_value table (Int n) = shown.Int n
shown_value table Null = shown.Null
shown_value table (Ref c n) = shown_object (class_named table c) n
