-- The points of a typed tree, in the order of its nodes: each node before its parts, and the parts
-- in source order.
use Rattle.std.specs.Prelude.{ℕ, zero, suc, ◌+◌, List, [], ◌∷◌, ◌++◌}
use Rattle.par_completes.specs.par_typed.Plain.{TExp, Int, Boolean, Null, This, New, Local, Static}
use Rattle.par_completes.specs.par_typed.Plain.{Field, Input}
use Rattle.par_completes.specs.par_typed.Plain.{Output, Call, Neg, Not, Binary, MayTExp, Absent}
use Rattle.par_completes.specs.par_typed.Plain.{Present}
use Rattle.par_completes.specs.par_typed.Plain.{TExps, NoExps, More}
use Rattle.par_completes.specs.par_typed.Plain.{TSta, Block, If, While, Try, Return, Break}
use Rattle.par_completes.specs.par_typed.Plain.{Continue}
use Rattle.par_completes.specs.par_typed.Plain.{Throw, Open}
use Rattle.par_completes.specs.par_typed.Plain.{Close, SetLocal, SetStatic, SetField, Eval, When}
use Rattle.par_completes.specs.par_typed.Plain.{MayTSta, NoElse}
use Rattle.par_completes.specs.par_typed.Plain.{Otherwise, TStas, End, Then, TCatches, NoCatch}
use Rattle.par_completes.specs.par_typed.Plain.{Catch}

-- so many numbers from one on
unfoldable pub count_from : ℕ → ℕ → List ℕ
count_from p zero = []
count_from p (suc n) = p ∷ count_from (p + 1) n

unfoldable mutual
  pub points : TExp → List ℕ
  points (Int n m) = m.point ∷ []
  points (Boolean b m) = m.point ∷ []
  points (Null m) = m.point ∷ []
  points (This m) = m.point ∷ []
  points (New class m) = m.point ∷ []
  points (Local x m) = m.point ∷ []
  points (Static c f m) = m.point ∷ []
  points (Field e c f m) = m.point ∷ points e
  points (Input c k m) = m.point ∷ []
  points (Output c k e m) = m.point ∷ points e
  points (Call c k o es m) = m.point ∷ (may_points o ++ args_points es)
  points (Neg e m) = m.point ∷ points e
  points (Not e m) = m.point ∷ points e
  points (Binary op a b m) = m.point ∷ (points a ++ points b)

  pub may_points : MayTExp → List ℕ
  may_points Absent = []
  may_points (Present e) = points e

  pub args_points : TExps → List ℕ
  args_points NoExps = []
  args_points (More e es) = points e ++ args_points es

unfoldable mutual
  pub stmt_points : TSta → List ℕ
  stmt_points (Block ss at p) = p ∷ all_points ss
  stmt_points (If e s o at p) = p ∷ (points e ++ stmt_points s ++ else_points o)
  stmt_points (While e s at p) = p ∷ (points e ++ stmt_points s)
  stmt_points (Try s cs at p) = p ∷ (stmt_points s ++ catch_points cs)
  stmt_points (Return e at p) = p ∷ may_points e
  stmt_points (Break at p) = p ∷ []
  stmt_points (Continue at p) = p ∷ []
  stmt_points (Throw class at p) = p ∷ []
  stmt_points (Open lock at p) = p ∷ []
  stmt_points (Close lock at p) = p ∷ []
  stmt_points (SetLocal x q e at p) = p ∷ points e
  stmt_points (SetStatic c f e at p) = p ∷ points e
  stmt_points (SetField o c f e at p) = p ∷ (points o ++ points e)
  stmt_points (Eval e at p) = p ∷ points e
  stmt_points (When lock s o at p) = p ∷ (stmt_points s ++ else_points o)

  pub else_points : MayTSta → List ℕ
  else_points NoElse = []
  else_points (Otherwise s) = stmt_points s

  pub all_points : TStas → List ℕ
  all_points End = []
  all_points (Then s ss) = stmt_points s ++ all_points ss

  pub catch_points : TCatches → List ℕ
  catch_points NoCatch = []
  catch_points (Catch class s cs) = stmt_points s ++ catch_points cs
