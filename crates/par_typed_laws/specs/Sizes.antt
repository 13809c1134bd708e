-- Bodies within the limits.
use Rattle.std.specs.Prelude.{◌≡◌, ℕ, ◌+◌, ◌≤◌, cond, Bool, true, false, Some}
use Rattle.par_program_laws.specs.par_typed.declared.table.MethodInfo.{MethodInfo}
use Rattle.par_program_laws.specs.par_typed.declared.table.Table.{Table}
use Rattle.par_program_laws.specs.par_typed.Plain.{TExp, Int, Boolean, Null, This, New, Local}
use Rattle.par_program_laws.specs.par_typed.Plain.{Static}
use Rattle.par_program_laws.specs.par_typed.Plain.{Field, Input}
use Rattle.par_program_laws.specs.par_typed.Plain.{Output, Call, Neg, Not, Binary, MayTExp, Absent}
use Rattle.par_program_laws.specs.par_typed.Plain.{Present}
use Rattle.par_program_laws.specs.par_typed.Plain.{TExps, NoExps, More}
use Rattle.par_program_laws.specs.par_typed.Plain.{TSta, Block, If, While, Try, Return, Break}
use Rattle.par_program_laws.specs.par_typed.Plain.{Continue}
use Rattle.par_program_laws.specs.par_typed.Plain.{Throw, Open}
use Rattle.par_program_laws.specs.par_typed.Plain.{Close, SetLocal, SetStatic, SetField, Eval, When}
use Rattle.par_program_laws.specs.par_typed.Plain.{MayTSta, NoElse}
use Rattle.par_program_laws.specs.par_typed.Plain.{Otherwise, TStas, End, Then, TCatches, NoCatch}
use Rattle.par_program_laws.specs.par_typed.Plain.{Catch}
use Rattle.par_program_laws.specs.par_typed.Plain.{Body}
use Rattle.par_program_laws.specs.par_typed.Members.{method_at}

-- ---- the nodes of a body, where a `this` that is a receiver is not counted

abbrev pub is_this : TExp → Bool
is_this (This m) = true
is_this _ = false

unfoldable mutual
  pub size : TExp → ℕ
  size (Int n m) = 1
  size (Boolean b m) = 1
  size (Null m) = 1
  size (This m) = 1
  size (New class m) = 1
  size (Local x m) = 1
  size (Static c f m) = 1
  size (Field e c f m) = 1 + cond (is_this e) 0 (size e)
  size (Input c k m) = 1
  size (Output c k e m) = 1 + size e
  size (Call c k o es m) = 1 + receiver_size o + args_size es
  size (Neg e m) = 1 + size e
  size (Not e m) = 1 + size e
  size (Binary op a b m) = 1 + size a + size b

  pub receiver_size : MayTExp → ℕ
  receiver_size Absent = 0
  receiver_size (Present e) = cond (is_this e) 0 (size e)

  pub args_size : TExps → ℕ
  args_size NoExps = 0
  args_size (More e es) = size e + args_size es

-- a value, where there is one
abbrev pub may_size : MayTExp → ℕ
may_size Absent = 0
may_size (Present e) = size e

unfoldable mutual
  pub stmt_size : TSta → ℕ
  stmt_size (Block ss at p) = 1 + all_size ss
  stmt_size (If e s o at p) = 1 + size e + stmt_size s + else_size o
  stmt_size (While e s at p) = 1 + size e + stmt_size s
  stmt_size (Try s cs at p) = 1 + stmt_size s + catches_size cs
  stmt_size (Return e at p) = 1 + may_size e
  stmt_size (Break at p) = 1
  stmt_size (Continue at p) = 1
  stmt_size (Throw class at p) = 1
  stmt_size (Open lock at p) = 1
  stmt_size (Close lock at p) = 1
  stmt_size (SetLocal x policy e at p) = 1 + size e
  stmt_size (SetStatic c f e at p) = 1 + size e
  stmt_size (SetField o c f e at p) = 1 + cond (is_this o) 0 (size o) + size e
  stmt_size (Eval e at p) = 1 + size e
  stmt_size (When lock s o at p) = 1 + stmt_size s + else_size o

  pub else_size : MayTSta → ℕ
  else_size NoElse = 0
  else_size (Otherwise s) = stmt_size s

  pub all_size : TStas → ℕ
  all_size End = 0
  all_size (Then s ss) = stmt_size s + all_size ss

  pub catches_size : TCatches → ℕ
  catches_size NoCatch = 0
  catches_size (Catch class s cs) = stmt_size s + catches_size cs

-- ---- the limit

abbrev pub MOST_NODES : ℕ
MOST_NODES = 2000

-- the body of this method has at most as many nodes as the method says, and few enough
pub record IsSmallOf (table : Table) (b : Body) (m : MethodInfo) : Type 0 where
  pub method : method_at table b.class b.method ≡ Some m
  pub nodes : stmt_size b.body ≤ m.nodes
  pub few : m.nodes ≤ MOST_NODES

abbrev pub IsSmallBody : Table → Body → Type 0
IsSmallBody table b = (m : MethodInfo) × IsSmallOf table b m
