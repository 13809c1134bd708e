-- The tree of a source as plain data: no pointers, and lists of their own where a tree holds
-- itself.
use Rattle.std.specs.Prelude.{ℕ, Bool, List, Option}
use Rattle.par_grammar.specs.par_lexer.declared.operator.BinOp.{BinOp}
use Rattle.par_tree.specs.declared.ident.Ident.{Ident}
use Rattle.par_tree.specs.declared.types.TypeTree.{TypeTree}
use Rattle.par_tree.specs.declared.policy.LockTree.{LockTree}
use Rattle.par_tree.specs.declared.policy.PolicyExpr.{PolicyExpr}
use Rattle.par_tree.specs.declared.decl.LockDecl.{LockDecl}
use Rattle.par_tree.specs.declared.decl.PolicyDecl.{PolicyDecl}
use Rattle.par_tree.specs.declared.decl.FieldDecl.{FieldDecl}
use Rattle.par_tree.specs.declared.decl.ChannelDecl.{ChannelDecl}
use Rattle.par_tree.specs.declared.decl.ParamDecl.{ParamDecl}
use Rattle.par_tree.specs.declared.decl.ThrowDecl.{ThrowDecl}

mutual
  -- an expression and its place
  pub data Exp : Type 0 where
    Int : (n at : ℕ) → Exp
    True : (at : ℕ) → Exp
    False : (at : ℕ) → Exp
    Null : (at : ℕ) → Exp
    This : (at : ℕ) → Exp
    New : (class : Ident) (at : ℕ) → Exp
    Name : (name : List ℕ) (at : ℕ) → Exp
    Field : (of : Exp) (field : Ident) (at : ℕ) → Exp
    Call : (of : MayExp) (method : Ident) (args : Exps) (at : ℕ) → Exp
    Neg : (of : Exp) (at : ℕ) → Exp
    Not : (of : Exp) (at : ℕ) → Exp
    Binary : (op : BinOp) (left right : Exp) (at : ℕ) → Exp

  pub data MayExp : Type 0 where
    Absent : MayExp
    Present : (e : Exp) → MayExp

  pub data Exps : Type 0 where
    NoExps : Exps
    More : (e : Exp) (es : Exps) → Exps

-- the declaration of a local, with its first value
pub record Local : Type 0 where
  pub id : Ident
  pub ty : TypeTree
  pub policy : Option PolicyExpr
  pub notnull : Bool
  pub value : Exp

mutual
  -- a statement and its place
  pub data Sta : Type 0 where
    Block : (body : Braces) (at : ℕ) → Sta
    If : (test : Exp) (body : Braces) (other : Else) (at : ℕ) → Sta
    While : (test : Exp) (body : Braces) (at : ℕ) → Sta
    Try : (body : Braces) (catches : Catches) (at : ℕ) → Sta
    Return : (value : MayExp) (at : ℕ) → Sta
    Break : (at : ℕ) → Sta
    Continue : (at : ℕ) → Sta
    Throw : (class : Ident) (at : ℕ) → Sta
    Open : (lock : LockTree) (at : ℕ) → Sta
    Close : (lock : LockTree) (at : ℕ) → Sta
    Declare : (local : Local) (at : ℕ) → Sta
    Assign : (target value : Exp) (at : ℕ) → Sta
    Do : (call : Exp) (at : ℕ) → Sta
    When : (lock : LockTree) (body : Braces) (other : MayBraces) (at : ℕ) → Sta

  -- the statements between braces, and the place of the first brace
  pub data Braces : Type 0 where
    In : (ss : Stas) (at : ℕ) → Braces

  pub data MayBraces : Type 0 where
    NoBraces : MayBraces
    Some : (b : Braces) → MayBraces

  -- what stands behind `else`
  pub data Else : Type 0 where
    NoElse : Else
    Otherwise : (s : Sta) → Else

  pub data Stas : Type 0 where
    End : Stas
    Then : (s : Sta) (ss : Stas) → Stas

  pub data Catches : Type 0 where
    NoCatch : Catches
    Catch : (c : Handler) (cs : Catches) → Catches

  -- what is done where a class is thrown
  pub data Handler : Type 0 where
    On : (class name : Ident) (body : Braces) → Handler

pub record Method : Type 0 where
  pub id : Ident
  pub is_static : Bool
  pub result : Option TypeTree
  pub policy : Option PolicyExpr
  pub params : List ParamDecl
  pub effects : List PolicyExpr
  pub expects : List LockTree
  pub opens : List LockTree
  pub closes : List LockTree
  pub throws : List ThrowDecl
  pub body : Braces

pub record Class : Type 0 where
  pub id : Ident
  pub exception : Bool
  pub birth : Option PolicyExpr
  pub fields : List FieldDecl
  pub channels : List ChannelDecl
  pub methods : List Method

pub data Declaration : Type 0 where
  Actors : (ids : List Ident) → Declaration
  Lock : (lock : LockDecl) → Declaration
  Policy : (policy : PolicyDecl) → Declaration
  Declared : (class : Class) → Declaration

-- a source, declaration by declaration
abbrev pub Source : Type 0
Source = List Declaration

-- one more behind the last
unfoldable pub with_exp : Exps → Exp → Exps
with_exp NoExps x = More x NoExps
with_exp (More e es) x = More e (with_exp es x)

unfoldable pub with_sta : Stas → Sta → Stas
with_sta End x = Then x End
with_sta (Then s ss) x = Then s (with_sta ss x)

unfoldable pub with_catch : Catches → Handler → Catches
with_catch NoCatch x = Catch x NoCatch
with_catch (Catch c cs) x = Catch c (with_catch cs x)

unfoldable pub place : Exp → ℕ
place (Int n at) = at
place (True at) = at
place (False at) = at
place (Null at) = at
place (This at) = at
place (New class at) = at
place (Name n at) = at
place (Field e f at) = at
place (Call o m es at) = at
place (Neg e at) = at
place (Not e at) = at
place (Binary op a b at) = at
