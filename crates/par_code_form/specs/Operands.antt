-- The most operands that lie there at any time while code runs.
use Rattle.std.specs.Prelude.{ℕ, ◌+◌, max, if◌then◌else◌}
use Rattle.par_completes.specs.par_typed.declared.ty.Ty.{Ty}
use Rattle.par_completes.specs.par_typed.Plain.{TExp, Int, Boolean, Null, This, New, Local, Static}
use Rattle.par_completes.specs.par_typed.Plain.{Field, Input, Output, Call, Neg, Not, Binary}
use Rattle.par_completes.specs.par_typed.Plain.{MayTExp, Absent, Present, TExps, NoExps, More}
use Rattle.par_completes.specs.par_typed.Plain.{TSta, Block, If, While, Try, Return, Break}
use Rattle.par_completes.specs.par_typed.Plain.{Continue, Throw, Open}
use Rattle.par_completes.specs.par_typed.Plain.{Close, SetLocal, SetStatic, SetField, Eval, When}
use Rattle.par_completes.specs.par_typed.Plain.{MayTSta, NoElse, Otherwise, TStas, End, Then}
use Rattle.par_completes.specs.par_typed.Plain.{TCatches, NoCatch}
use Rattle.par_completes.specs.par_typed.Plain.{Catch}
use Rattle.par_completes.specs.Typed.{is_true}
use Rattle.par_code_form.specs.Code.{Shape, Calculates, Compares, Sames, Decides, shape_of, is_void}

-- how many lie below the second part of an operator, where so many lie below both
abbrev pub below_second : Shape → ℕ → ℕ
below_second (Calculates o i) h = h + 1
below_second (Compares t) h = h + 1
below_second (Sames b) h = h + 1
below_second (Decides o) h = h

-- how many lie there between the two parts
abbrev pub between_top : Shape → ℕ → ℕ
between_top (Calculates o i) h = h + 1
between_top (Compares t) h = h + 1
between_top (Sames b) h = h + 1
between_top (Decides o) h = h + 2

-- with what a call leaves
abbrev pub with_result : Ty → ℕ → ℕ
with_result t h = if is_void t then h else h + 1

-- where h operands lie below
unfoldable mutual
  pub expr_top : TExp → ℕ → ℕ
  expr_top (Int v m) h = h + 1
  expr_top (Boolean b m) h = h + 1
  expr_top (Null m) h = h + 1
  expr_top (This m) h = h + 1
  expr_top (New c m) h = h + 2
  expr_top (Local x m) h = h + 1
  expr_top (Static c f m) h = h + 1
  expr_top (Field e c f m) h = expr_top e h
  expr_top (Input c i m) h = h + 1
  expr_top (Output c i e m) h = expr_top e h
  expr_top (Call c i o es m) h =
      max (may_top o h) (max (args_top es (receivers o h)) (with_result m.ty h))
  expr_top (Neg e m) h = expr_top e h
  expr_top (Not e m) h = expr_top e h
  expr_top (Binary op a b m) h =
      let s = shape_of op a in
      max (expr_top a h) (max (between_top s h) (expr_top b (below_second s h)))

  pub may_top : MayTExp → ℕ → ℕ
  may_top Absent h = h
  may_top (Present e) h = expr_top e h

  -- with a receiver, where there is one
  pub receivers : MayTExp → ℕ → ℕ
  receivers Absent h = h
  receivers (Present e) h = h + 1

  pub args_top : TExps → ℕ → ℕ
  args_top NoExps h = h
  args_top (More e es) h = max (expr_top e h) (args_top es (h + 1))

-- below a statement nothing lies; a caught exception is an operand
unfoldable mutual
  pub top : TSta → ℕ
  top (Block ss at p) = all_top ss
  top (If e s o at p) = max (expr_top e 0) (max (top s) (else_top o))
  top (While e s at p) = if is_true e then top s else max (expr_top e 0) (top s)
  top (Try s cs at p) = max (top s) (catch_top cs)
  top (Return o at p) = may_top o 0
  top (Break at p) = 0
  top (Continue at p) = 0
  top (Throw c at p) = 2
  top (Open l at p) = 1
  top (Close l at p) = 1
  top (SetLocal x q e at p) = expr_top e 0
  top (SetStatic c f e at p) = expr_top e 0
  top (SetField o c f e at p) = max (expr_top o 0) (expr_top e 1)
  top (Eval e at p) = expr_top e 0
  top (When l s o at p) = max 1 (max (top s) (else_top o))

  pub else_top : MayTSta → ℕ
  else_top NoElse = 0
  else_top (Otherwise s) = top s

  pub all_top : TStas → ℕ
  all_top End = 0
  all_top (Then s ss) = max (top s) (all_top ss)

  pub catch_top : TCatches → ℕ
  catch_top NoCatch = 0
  catch_top (Catch c s cs) = max 1 (max (top s) (catch_top cs))
