-- The types of operators as code asks for them, and which values may stand where.
use Rattle.std.proofs.Common.{◌≡◌, ℕ, ◌≤◌, ◌<◌, Bool, true, false, arith, refl, sym}
use Rattle.std.proofs.Common.{ap, inl, inr, lit<, ◌∙◌}
use Rattle.std.specs.Prelude.{if◌then◌else◌}
use Rattle.par_typed.specs.par_lexer.declared.operator.BinOp.{BinOp}
use Rattle.par_typed.specs.par_lexer.declared.operator.BinOp.TheVariants as op
use Rattle.par_typed.specs.declared.ty.Ty.{Ty}
use Rattle.par_typed.specs.declared.ty.Ty.TheVariants as ty
use Rattle.par_typed_laws.specs.par_program_laws.Types.{Accepts, AreBoth, Equates, Operates}
use Rattle.par_typed_laws.specs.par_program_laws.Types.{IsValue}
use Rattle.par_typed_laws.specs.par_program_laws.Types.{IsEnded}
use Rattle.par_evaluation_laws.specs.par_code_form.Code.{Compares, Sames, shape, is_number}
use Rattle.par_evaluation_laws.specs.par_code_form.Operands.{between_top}
use Rattle.par_evaluation_laws.specs.Laid.{OfShape}
use Rattle.par_evaluation_laws.specs.Laid as laid

-- ---- values

pub accepts : (u v : Ty) → Accepts u v → laid.Accepts u v
accepts ty.Int v h = inl (sym h)
accepts ty.Boolean v h = inl (sym h)
accepts (ty.Class c) v (inl h) = inl (sym h)
accepts (ty.Class c) v (inr h) = inr (h, c, refl)
accepts ty.Null v h = absurd h
accepts ty.Void v h = absurd h

-- neither is the type of nothing
pub declared_value : (u v : Ty) → Accepts u v → u ≡ ty.Void → ⊥
declared_value ty.Int v h is = cc
declared_value ty.Boolean v h is = cc
declared_value (ty.Class c) v h is = cc
declared_value ty.Null v h is = cc
declared_value ty.Void v h is = h

pub given_value : (u v : Ty) → Accepts u v → v ≡ ty.Void → ⊥
given_value ty.Int v h is = cc
given_value ty.Boolean v h is = cc
given_value (ty.Class c) v (inl h) is = cc
given_value (ty.Class c) v (inr h) is = cc
given_value ty.Null v h is = h
given_value ty.Void v h is = h

pub local_value : (u : Ty) → IsValue u → u ≡ ty.Void → ⊥
local_value ty.Int h is = cc
local_value ty.Boolean h is = cc
local_value (ty.Class c) h is = cc
local_value ty.Null h is = h
local_value ty.Void h is = h

pub ends_in_nothing : (u : Ty) (comes : Bool) → IsEnded u comes → comes ≡ true → u ≡ ty.Void
ends_in_nothing ty.Int comes h is = absurd (cc)
ends_in_nothing ty.Boolean comes h is = absurd (cc)
ends_in_nothing (ty.Class c) comes h is = absurd (cc)
ends_in_nothing ty.Null comes h is = absurd (cc)
ends_in_nothing ty.Void comes h is = refl

-- ---- operators

module _ (below room : ℕ) where
  compared : (t : ℕ) (a b r : Ty) → t < 6 → AreBoth ty.Int ty.Boolean a b r
      → OfShape (Compares t) room below a b r
  compared t a b r few h = (ap is_number h.0, ap is_number h.1, h.2, few)

  equated : (t : ℕ) (same : Bool) (a b r : Ty) → t < 6 → Equates a b r
      → OfShape (if is_number a then Compares t else Sames same) room below a b r
  equated t same ty.Int b r few h = (refl, ap is_number h.0, h.1, few)
  equated t same ty.Boolean b r few h = (refl, ap is_number h.0, h.1, few)
  equated t same (ty.Class c) b r few (inl h, given) =
      (refl, ap is_number h, given, λ is. cc, λ is. cc)
  equated t same (ty.Class c) b r few (inr h, given) =
      (refl, ap is_number h, given, λ is. cc, λ is. cc)
  equated t same ty.Null b r few (inl h, given) =
      (refl, ap is_number h, given, λ is. cc, λ is. cc)
  equated t same ty.Null b r few (inr (c, h), given) =
      (refl, ap is_number h, given, λ is. cc, λ is. cc)
  equated t same ty.Void b r few h = absurd h.0

  pub of_shape : (o : BinOp) (a b r : Ty) → Operates o a b r
      → between_top (shape o (is_number a)) below ≤ room
      → OfShape (shape o (is_number a)) room below a b r
  of_shape op.Or a b r h le = (h.0, h.1, h.2, omega arith)
  of_shape op.And a b r h le = (h.0, h.1, h.2, omega arith)
  of_shape op.BitOr a b r h le = h
  of_shape op.BitXor a b r h le = h
  of_shape op.BitAnd a b r h le = h
  of_shape op.Eq a b r h le = equated 0 true a b r (lit< tt) h
  of_shape op.Ne a b r h le = equated 1 false a b r (lit< tt) h
  of_shape op.Lt a b r h le = compared 2 a b r (lit< tt) h
  of_shape op.Le a b r h le = compared 5 a b r (lit< tt) h
  of_shape op.Gt a b r h le = compared 4 a b r (lit< tt) h
  of_shape op.Ge a b r h le = compared 3 a b r (lit< tt) h
  of_shape op.Shl a b r h le = h
  of_shape op.Shr a b r h le = h
  of_shape op.Ushr a b r h le = h
  of_shape op.Add a b r h le = h
  of_shape op.Sub a b r h le = h
  of_shape op.Mul a b r h le = h
  of_shape op.Div a b r h le = h
  of_shape op.Rem a b r h le = h

both_value : (t u a b r : Ty) → (t ≡ ty.Void → ⊥) → AreBoth t u a b r → b ≡ ty.Void → ⊥
both_value t u a b r value h is = value (sym h.1 ∙ is)

int_value : (u a b r : Ty) → AreBoth ty.Int u a b r → b ≡ ty.Void → ⊥
int_value u a b r h is = both_value ty.Int u a b r (λ is. cc) h is

equal_value : (a b r : Ty) → Equates a b r → b ≡ ty.Void → ⊥
equal_value ty.Int b r h is = cc
equal_value ty.Boolean b r h is = cc
equal_value (ty.Class c) b r (inl h, given) is = cc
equal_value (ty.Class c) b r (inr h, given) is = cc
equal_value ty.Null b r (inl h, given) is = cc
equal_value ty.Null b r (inr (c, h), given) is = cc
equal_value ty.Void b r h is = h.0

-- the second part of an operator has a value
pub second_value : (o : BinOp) (a b r : Ty) → Operates o a b r → b ≡ ty.Void → ⊥
second_value op.Or a b r h is = both_value ty.Boolean ty.Boolean a b r (λ is. cc) h is
second_value op.And a b r h is = both_value ty.Boolean ty.Boolean a b r (λ is. cc) h is
second_value op.BitOr a b r h is = int_value ty.Int a b r h is
second_value op.BitXor a b r h is = int_value ty.Int a b r h is
second_value op.BitAnd a b r h is = int_value ty.Int a b r h is
second_value op.Eq a b r h is = equal_value a b r h is
second_value op.Ne a b r h is = equal_value a b r h is
second_value op.Lt a b r h is = int_value ty.Boolean a b r h is
second_value op.Le a b r h is = int_value ty.Boolean a b r h is
second_value op.Gt a b r h is = int_value ty.Boolean a b r h is
second_value op.Ge a b r h is = int_value ty.Boolean a b r h is
second_value op.Shl a b r h is = int_value ty.Int a b r h is
second_value op.Shr a b r h is = int_value ty.Int a b r h is
second_value op.Ushr a b r h is = int_value ty.Int a b r h is
second_value op.Add a b r h is = int_value ty.Int a b r h is
second_value op.Sub a b r h is = int_value ty.Int a b r h is
second_value op.Mul a b r h is = int_value ty.Int a b r h is
second_value op.Div a b r h is = int_value ty.Int a b r h is
second_value op.Rem a b r h is = int_value ty.Int a b r h is
