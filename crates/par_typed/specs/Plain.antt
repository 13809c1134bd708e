-- The typed tree as plain data: no pointers, and lists of their own where a tree holds itself.
use Rattle.std.specs.Prelude.{ℕ, ℤ, Bool, Option}
use Rattle.par_lexer.specs.declared.operator.BinOp.{BinOp}
use Rattle.par_typed.specs.declared.ty.Ty.{Ty}

-- the place and the point of an expression, its type, and whether it is never null
pub record Mark : Type 0 where
  pub at : ℕ
  pub point : ℕ
  pub ty : Ty
  pub sure : Bool

mutual
  -- an expression and its mark
  pub data TExp : Type 0 where
    Int : (n : ℤ) (m : Mark) → TExp
    Boolean : (b : Bool) (m : Mark) → TExp
    Null : (m : Mark) → TExp
    This : (m : Mark) → TExp
    New : (class : ℕ) (m : Mark) → TExp
    Local : (number : ℕ) (m : Mark) → TExp
    Static : (class field : ℕ) (m : Mark) → TExp
    Field : (of : TExp) (class field : ℕ) (m : Mark) → TExp
    Input : (class channel : ℕ) (m : Mark) → TExp
    Output : (class channel : ℕ) (value : TExp) (m : Mark) → TExp
    Call : (class method : ℕ) (of : MayTExp) (args : TExps) (m : Mark) → TExp
    Neg : (of : TExp) (m : Mark) → TExp
    Not : (of : TExp) (m : Mark) → TExp
    Binary : (op : BinOp) (left right : TExp) (m : Mark) → TExp

  pub data MayTExp : Type 0 where
    Absent : MayTExp
    Present : (e : TExp) → MayTExp

  pub data TExps : Type 0 where
    NoExps : TExps
    More : (e : TExp) (es : TExps) → TExps

mutual
  -- a statement, its place and its point
  pub data TSta : Type 0 where
    Block : (ss : TStas) (at point : ℕ) → TSta
    If : (test : TExp) (body : TSta) (other : MayTSta) (at point : ℕ) → TSta
    While : (test : TExp) (body : TSta) (at point : ℕ) → TSta
    Try : (body : TSta) (catches : TCatches) (at point : ℕ) → TSta
    Return : (value : MayTExp) (at point : ℕ) → TSta
    Break : (at point : ℕ) → TSta
    Continue : (at point : ℕ) → TSta
    Throw : (class at point : ℕ) → TSta
    Open : (lock at point : ℕ) → TSta
    Close : (lock at point : ℕ) → TSta
    SetLocal : (number : ℕ) (policy : Option ℕ) (value : TExp) (at point : ℕ) → TSta
    SetStatic : (class field : ℕ) (value : TExp) (at point : ℕ) → TSta
    SetField : (of : TExp) (class field : ℕ) (value : TExp) (at point : ℕ) → TSta
    Eval : (e : TExp) (at point : ℕ) → TSta
    When : (lock : ℕ) (body : TSta) (other : MayTSta) (at point : ℕ) → TSta

  -- what stands behind `else`
  pub data MayTSta : Type 0 where
    NoElse : MayTSta
    Otherwise : (s : TSta) → MayTSta

  pub data TStas : Type 0 where
    End : TStas
    Then : (s : TSta) (ss : TStas) → TStas

  -- the caught classes, each with what is done
  pub data TCatches : Type 0 where
    NoCatch : TCatches
    Catch : (class : ℕ) (body : TSta) (cs : TCatches) → TCatches

-- the body of a method of a class
pub record Body : Type 0 where
  pub class : ℕ
  pub method : ℕ
  pub body : TSta

-- one more behind the last
unfoldable pub with_exp : TExps → TExp → TExps
with_exp NoExps x = More x NoExps
with_exp (More e es) x = More e (with_exp es x)

unfoldable pub with_sta : TStas → TSta → TStas
with_sta End x = Then x End
with_sta (Then s ss) x = Then s (with_sta ss x)

unfoldable pub with_catch : TCatches → ℕ → TSta → TCatches
with_catch NoCatch class body = Catch class body NoCatch
with_catch (Catch c s cs) class body = Catch c s (with_catch cs class body)

-- the mark of an expression
unfoldable pub mark : TExp → Mark
mark (Int n m) = m
mark (Boolean b m) = m
mark (Null m) = m
mark (This m) = m
mark (New class m) = m
mark (Local x m) = m
mark (Static c f m) = m
mark (Field e c f m) = m
mark (Input c k m) = m
mark (Output c k e m) = m
mark (Call c k o es m) = m
mark (Neg e m) = m
mark (Not e m) = m
mark (Binary op a b m) = m

-- the place of a statement
unfoldable pub place : TSta → ℕ
place (Block ss at point) = at
place (If e s o at point) = at
place (While e s at point) = at
place (Try s cs at point) = at
place (Return e at point) = at
place (Break at point) = at
place (Continue at point) = at
place (Throw class at point) = at
place (Open lock at point) = at
place (Close lock at point) = at
place (SetLocal x p e at point) = at
place (SetStatic c f e at point) = at
place (SetField o c f e at point) = at
place (Eval e at point) = at
place (When lock s o at point) = at

-- the point of a statement
unfoldable pub point : TSta → ℕ
point (Block ss at p) = p
point (If e s o at p) = p
point (While e s at p) = p
point (Try s cs at p) = p
point (Return e at p) = p
point (Break at p) = p
point (Continue at p) = p
point (Throw class at p) = p
point (Open lock at p) = p
point (Close lock at p) = p
point (SetLocal x q e at p) = p
point (SetStatic c f e at p) = p
point (SetField o c f e at p) = p
point (Eval e at p) = p
point (When lock s o at p) = p
