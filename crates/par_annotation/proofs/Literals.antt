-- The numbers among the forms of expressions.
use Rattle.std.proofs.Common.{◌≡◌, ℕ, Some, None, refl, sym, ap}
use Rattle.par_tree.specs.declared.expr.ExprKind.{ExprKind, Field', Call', Neg', Not', Binary'}
use Rattle.par_tree.specs.declared.expr.ExprKind.TheVariants as expr
use Rattle.par_tree.specs.Shown.{kind_at}
use Rattle.par_type_rules.specs.TypedExprs.{number_of}

pub literal : (k : ExprKind) (at n : ℕ) → k ≡ expr.Int n → Some n ≡ number_of (kind_at k at)
unfolding number_of kind_at
literal k at n is = sym (ap (λ (x : ExprKind). number_of (kind_at x at)) is)

-- no other form is a number
pub no_literal : (k : ExprKind) (at : ℕ) → ((n : ℕ) → k ≡ expr.Int n → ⊥)
    → None ≡ number_of (kind_at k at)
unfolding number_of kind_at
no_literal (expr.Int n) at other = absurd (other n refl)
no_literal expr.True at other = refl
no_literal expr.False at other = refl
no_literal expr.Null at other = refl
no_literal expr.This at other = refl
no_literal (expr.New class) at other = refl
no_literal (expr.Name n) at other = refl
no_literal (Field' p k a f) at other = refl
no_literal (Call' o method shape row) at other = refl
no_literal (Neg' p k a) at other = refl
no_literal (Not' p k a) at other = refl
no_literal (Binary' op p j a q k b) at other = refl
