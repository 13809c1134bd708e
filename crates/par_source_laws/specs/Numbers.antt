-- How many numbers of a tree are greater than any number of a source.
use Rattle.std.specs.Prelude.{◌≡◌, ℕ, ◌+◌, Bool, true, false, nat_le}
use Rattle.std.specs.List.{AllByRecursion}
use Rattle.par_names.specs.par_tree.Plain.{Exp, Int, True, False, Null, This, New, Name, Field}
use Rattle.par_names.specs.par_tree.Plain.{Call, Neg}
use Rattle.par_names.specs.par_tree.Plain.{Not, Binary}
use Rattle.par_names.specs.par_tree.Plain.{Exps, NoExps, More, MayExp, Absent, Present}
use Rattle.par_names.specs.par_tree.Plain.{Sta, Block, If, While, Try, Return, Break, Continue}
use Rattle.par_names.specs.par_tree.Plain.{Throw, Open}
use Rattle.par_names.specs.par_tree.Plain.{Close}
use Rattle.par_names.specs.par_tree.Plain.{Declare, Assign, Do, When, Braces, In, MayBraces}
use Rattle.par_names.specs.par_tree.Plain.{NoBraces}
use Rattle.par_names.specs.par_tree.Plain.{Else, NoElse, Otherwise, Stas, End, Then, Catches}
use Rattle.par_names.specs.par_tree.Plain.{NoCatch, Catch}
use Rattle.par_names.specs.par_tree.Plain.{Handler, On}
use Rattle.par_names.specs.par_tree.Plain.{Method, Declaration, Source, Actors, Lock, Policy}
use Rattle.par_names.specs.par_tree.Plain.{Declared}
use Rattle.par_names.specs.par_tree.Plain as plain

-- the greatest number that a token may be
abbrev pub GREATEST : ℕ
GREATEST = 2147483648

abbrev pub one_unless : Bool → ℕ
one_unless true = 0
one_unless false = 1

unfoldable mutual
  pub too_great : Exp → ℕ
  too_great (Int n at) = one_unless (nat_le n GREATEST)
  too_great (True at) = 0
  too_great (False at) = 0
  too_great (Null at) = 0
  too_great (This at) = 0
  too_great (New class at) = 0
  too_great (Name n at) = 0
  too_great (Field e f at) = too_great e
  too_great (Call o m es at) = may_too_great o + args_too_great es
  too_great (Neg e at) = too_great e
  too_great (Not e at) = too_great e
  too_great (Binary op a b at) = too_great a + too_great b

  pub may_too_great : MayExp → ℕ
  may_too_great Absent = 0
  may_too_great (Present e) = too_great e

  pub args_too_great : Exps → ℕ
  args_too_great NoExps = 0
  args_too_great (More e es) = too_great e + args_too_great es

unfoldable mutual
  pub stmt_too_great : Sta → ℕ
  stmt_too_great (Block b at) = braces_too_great b
  stmt_too_great (If e b o at) = too_great e + braces_too_great b + else_too_great o
  stmt_too_great (While e b at) = too_great e + braces_too_great b
  stmt_too_great (Try b cs at) = braces_too_great b + catches_too_great cs
  stmt_too_great (Return e at) = may_too_great e
  stmt_too_great (Break at) = 0
  stmt_too_great (Continue at) = 0
  stmt_too_great (Throw class at) = 0
  stmt_too_great (Open lock at) = 0
  stmt_too_great (Close lock at) = 0
  stmt_too_great (Declare local at) = too_great local.value
  stmt_too_great (Assign target value at) = too_great target + too_great value
  stmt_too_great (Do call at) = too_great call
  stmt_too_great (When lock b o at) = braces_too_great b + may_braces_too_great o

  pub braces_too_great : Braces → ℕ
  braces_too_great (In ss at) = all_too_great ss

  pub may_braces_too_great : MayBraces → ℕ
  may_braces_too_great NoBraces = 0
  may_braces_too_great (plain.Some b) = braces_too_great b

  pub else_too_great : Else → ℕ
  else_too_great NoElse = 0
  else_too_great (Otherwise s) = stmt_too_great s

  pub all_too_great : Stas → ℕ
  all_too_great End = 0
  all_too_great (Then s ss) = stmt_too_great s + all_too_great ss

  pub catches_too_great : Catches → ℕ
  catches_too_great NoCatch = 0
  catches_too_great (Catch c cs) = handler_too_great c + catches_too_great cs

  pub handler_too_great : Handler → ℕ
  handler_too_great (On class name b) = braces_too_great b

abbrev pub HasNumbers : Method → Type 0
HasNumbers m = braces_too_great m.body ≡ 0

abbrev pub DeclarationHasNumbers : Declaration → Type 0
DeclarationHasNumbers (Actors ids) = Unit {0}
DeclarationHasNumbers (Lock lock) = Unit {0}
DeclarationHasNumbers (Policy policy) = Unit {0}
DeclarationHasNumbers (Declared class) = AllByRecursion HasNumbers class.methods

-- each number is one that a token may be: at most 2147483648
abbrev pub SourceHasNumbers : Source → Type 0
SourceHasNumbers source = AllByRecursion DeclarationHasNumbers source
