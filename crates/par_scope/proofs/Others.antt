-- What is said of every form of expression but a few.
use Rattle.std.proofs.Common.{◌≡◌, ℕ, List, Option, false, refl}
use Rattle.par_typed.specs.declared.ty.Ty.{Ty}
use Rattle.par_tree.specs.declared.expr.ExprKind.{ExprKind, Field', Call', Neg', Not', Binary'}
use Rattle.par_tree.specs.declared.expr.ExprKind.TheVariants as expr
use Rattle.par_tree.specs.declared.ident.Ident.{Ident}
use Rattle.par_tree.specs.Shown.{kind_at}
use Rattle.par_scope.specs.declared.meaning.Receiver.TheVariants.{Object}
use Rattle.par_scope.specs.Locals.{Scope}
use Rattle.par_scope.specs.Home.{Home}
use Rattle.par_scope.specs.Meaning.{receiver_of, sure}

-- what is no name stands for an object before a member
pub object_before : (home : Home) (scope : Scope) (k : ExprKind) (at : ℕ) (t : Option Ty)
    → ((n : List ℕ) → k ≡ expr.Name n → ⊥) → Object t ≡ receiver_of home scope (kind_at k at) t
unfolding receiver_of kind_at
object_before home scope (expr.Int n) at t other = refl
object_before home scope expr.True at t other = refl
object_before home scope expr.False at t other = refl
object_before home scope expr.Null at t other = refl
object_before home scope expr.This at t other = refl
object_before home scope (expr.New class) at t other = refl
object_before home scope (expr.Name n) at t other = absurd (other n refl)
object_before home scope (Field' p k a f) at t other = refl
object_before home scope (Call' o method shape row) at t other = refl
object_before home scope (Neg' p k a) at t other = refl
object_before home scope (Not' p k a) at t other = refl
object_before home scope (Binary' op p j a q k b) at t other = refl

-- but for `this`, a new object and a name nothing is surely there
pub never_sure : (scope : Scope) (k : ExprKind) (at : ℕ) → (k ≡ expr.This → ⊥)
    → ((class : Ident) → k ≡ expr.New class → ⊥) → ((n : List ℕ) → k ≡ expr.Name n → ⊥)
    → false ≡ sure scope (kind_at k at)
unfolding sure kind_at
never_sure scope (expr.Int n) at no_this no_new no_name = refl
never_sure scope expr.True at no_this no_new no_name = refl
never_sure scope expr.False at no_this no_new no_name = refl
never_sure scope expr.Null at no_this no_new no_name = refl
never_sure scope expr.This at no_this no_new no_name = absurd (no_this refl)
never_sure scope (expr.New class) at no_this no_new no_name = absurd (no_new class refl)
never_sure scope (expr.Name n) at no_this no_new no_name = absurd (no_name n refl)
never_sure scope (Field' p k a f) at no_this no_new no_name = refl
never_sure scope (Call' o method shape row) at no_this no_new no_name = refl
never_sure scope (Neg' p k a) at no_this no_new no_name = refl
never_sure scope (Not' p k a) at no_this no_new no_name = refl
never_sure scope (Binary' op p j a q k b) at no_this no_new no_name = refl
