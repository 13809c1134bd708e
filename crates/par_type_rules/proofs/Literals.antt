-- Literals and names among the forms of expressions.
use Rattle.std.proofs.Common.{◌≡◌, ℕ, List, true, false, refl, sym, ap}
use Rattle.par_tree.specs.declared.expr.ExprKind.{ExprKind, Field', Call', Neg', Not', Binary'}
use Rattle.par_tree.specs.declared.expr.ExprKind.TheVariants as expr
use Rattle.par_tree.specs.Shown.{kind_at}
use Rattle.par_scope.specs.Locals.{Scope}
use Rattle.par_type_rules.specs.Exprs.{is_number}
use Rattle.par_type_rules.specs.Stmts.{refuses_null}

pub literal : (k : ExprKind) (at n : ℕ) → k ≡ expr.Int n → true ≡ is_number (kind_at k at)
unfolding is_number kind_at
literal k at n is = sym (ap (λ (x : ExprKind). is_number (kind_at x at)) is)

-- no other form is a number
pub no_literal : (k : ExprKind) (at : ℕ) → ((n : ℕ) → k ≡ expr.Int n → ⊥)
    → false ≡ is_number (kind_at k at)
unfolding is_number kind_at
no_literal (expr.Int n) at other = absurd (other n refl)
no_literal expr.True at other = refl
no_literal expr.False at other = refl
no_literal expr.Null at other = refl
no_literal expr.This at other = refl
no_literal (expr.New class) at other = refl
no_literal (expr.Name n) at other = refl
no_literal (Field' p k a f) at other = refl
no_literal (Call' o method shape row) at other = refl
no_literal (Neg' p k a) at other = refl
no_literal (Not' p k a) at other = refl
no_literal (Binary' op p j a q k b) at other = refl

-- what is no name is no local that refuses null
pub no_name : (scope : Scope) (k : ExprKind) (at : ℕ)
    → ((n : List ℕ) → k ≡ expr.Name n → ⊥) → false ≡ refuses_null scope (kind_at k at)
unfolding refuses_null kind_at
no_name scope (expr.Int n) at other = refl
no_name scope expr.True at other = refl
no_name scope expr.False at other = refl
no_name scope expr.Null at other = refl
no_name scope expr.This at other = refl
no_name scope (expr.New class) at other = refl
no_name scope (expr.Name n) at other = absurd (other n refl)
no_name scope (Field' p k a f) at other = refl
no_name scope (Call' o method shape row) at other = refl
no_name scope (Neg' p k a) at other = refl
no_name scope (Not' p k a) at other = refl
no_name scope (Binary' op p j a q k b) at other = refl
