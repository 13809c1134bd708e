-- How many numbers of a tree are no ints where they stand.
use Rattle.std.specs.Prelude.{ℕ, ◌+◌, Bool, true, false, nat_lt, nat_le, Option, Some, None}
use Rattle.par_tree.specs.Plain.{Exp, Int, True, False, Null, This, New, Name, Field, Call, Neg}
use Rattle.par_tree.specs.Plain.{Not, Binary}
use Rattle.par_tree.specs.Plain.{Exps, NoExps, More, MayExp, Absent, Present}
use Rattle.par_tree.specs.Plain.{Sta, Block, If, While, Try, Return, Break, Continue, Throw, Open}
use Rattle.par_tree.specs.Plain.{Close}
use Rattle.par_tree.specs.Plain.{Declare, Assign, Do, When, Braces, In, MayBraces, NoBraces}
use Rattle.par_tree.specs.Plain.{Else, NoElse, Otherwise, Stas, End, Then, Catches, NoCatch, Catch}
use Rattle.par_tree.specs.Plain.{Handler, On}
use Rattle.par_tree.specs.Plain as plain
use Rattle.par_type_rules.specs.declared.exprs.TheConstants.{TOO_LARGE}
use Rattle.par_type_rules.specs.TypedExprs.{number_of}

abbrev pub one_unless : Bool → ℕ
one_unless true = 0
one_unless false = 1

-- a number behind `-` may be one more than another
abbrev pub behind_minus : Option ℕ → ℕ → ℕ
behind_minus None others = others
behind_minus (Some n) others = one_unless (nat_le n TOO_LARGE)

unfoldable mutual
  pub no_ints : Exp → ℕ
  no_ints (Int n at) = one_unless (nat_lt n TOO_LARGE)
  no_ints (True at) = 0
  no_ints (False at) = 0
  no_ints (Null at) = 0
  no_ints (This at) = 0
  no_ints (New class at) = 0
  no_ints (Name n at) = 0
  no_ints (Field e f at) = no_ints e
  no_ints (Call o m es at) = may_no_ints o + args_no_ints es
  no_ints (Neg e at) = behind_minus (number_of e) (no_ints e)
  no_ints (Not e at) = no_ints e
  no_ints (Binary op a b at) = no_ints a + no_ints b

  pub may_no_ints : MayExp → ℕ
  may_no_ints Absent = 0
  may_no_ints (Present e) = no_ints e

  pub args_no_ints : Exps → ℕ
  args_no_ints NoExps = 0
  args_no_ints (More e es) = no_ints e + args_no_ints es

unfoldable mutual
  pub stmt_no_ints : Sta → ℕ
  stmt_no_ints (Block b at) = braces_no_ints b
  stmt_no_ints (If e b o at) = no_ints e + braces_no_ints b + else_no_ints o
  stmt_no_ints (While e b at) = no_ints e + braces_no_ints b
  stmt_no_ints (Try b cs at) = braces_no_ints b + catches_no_ints cs
  stmt_no_ints (Return e at) = may_no_ints e
  stmt_no_ints (Break at) = 0
  stmt_no_ints (Continue at) = 0
  stmt_no_ints (Throw class at) = 0
  stmt_no_ints (Open lock at) = 0
  stmt_no_ints (Close lock at) = 0
  stmt_no_ints (Declare local at) = no_ints local.value
  stmt_no_ints (Assign target value at) = no_ints target + no_ints value
  stmt_no_ints (Do call at) = no_ints call
  stmt_no_ints (When lock b o at) = braces_no_ints b + may_braces_no_ints o

  pub braces_no_ints : Braces → ℕ
  braces_no_ints (In ss at) = all_no_ints ss

  pub may_braces_no_ints : MayBraces → ℕ
  may_braces_no_ints NoBraces = 0
  may_braces_no_ints (plain.Some b) = braces_no_ints b

  pub else_no_ints : Else → ℕ
  else_no_ints NoElse = 0
  else_no_ints (Otherwise s) = stmt_no_ints s

  pub all_no_ints : Stas → ℕ
  all_no_ints End = 0
  all_no_ints (Then s ss) = stmt_no_ints s + all_no_ints ss

  pub catches_no_ints : Catches → ℕ
  catches_no_ints NoCatch = 0
  catches_no_ints (Catch c cs) = handler_no_ints c + catches_no_ints cs

  pub handler_no_ints : Handler → ℕ
  handler_no_ints (On class name b) = braces_no_ints b
