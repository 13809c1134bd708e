-- The literals among the forms of typed expressions.
use Rattle.std.proofs.Common.{◌≡◌, ℤ, Bool, false, refl}
use Rattle.par_typed.specs.declared.expr.TExprKind.{TExprKind, Field', Output', Call', Neg', Not'}
use Rattle.par_typed.specs.declared.expr.TExprKind.{Binary'}
use Rattle.par_typed.specs.declared.expr.TExprKind.TheVariants as expr
use Rattle.par_typed.specs.Plain.{Mark}
use Rattle.par_typed.specs.Shown.{kind_at}
use Rattle.par_program_laws.specs.Body.{is_sure, is_forever}

-- what is no number is not surely another than 0
pub never_sure : (k : TExprKind) (m : Mark) → ((n : ℤ) → k ≡ expr.Int n → ⊥)
    → false ≡ is_sure (kind_at k m)
unfolding kind_at
never_sure (expr.Int n) m other = absurd (other n refl)
never_sure (expr.Bool b) m other = refl
never_sure expr.Null m other = refl
never_sure expr.This m other = refl
never_sure (expr.New class) m other = refl
never_sure (expr.Local x) m other = refl
never_sure (expr.Static c f) m other = refl
never_sure (Field' p k a x t s c f) m other = refl
never_sure (expr.Input c i) m other = refl
never_sure (Output' c i p k a x t s) m other = refl
never_sure (Call' c i o shape row) m other = refl
never_sure (Neg' p k a x t s) m other = refl
never_sure (Not' p k a x t s) m other = refl
never_sure (Binary' op p j a x t s q k b y u r) m other = refl

-- what is no truth value is no `true`
pub never_forever : (k : TExprKind) (m : Mark) → ((b : Bool) → k ≡ expr.Bool b → ⊥)
    → false ≡ is_forever (kind_at k m)
unfolding kind_at
never_forever (expr.Int n) m other = refl
never_forever (expr.Bool b) m other = absurd (other b refl)
never_forever expr.Null m other = refl
never_forever expr.This m other = refl
never_forever (expr.New class) m other = refl
never_forever (expr.Local x) m other = refl
never_forever (expr.Static c f) m other = refl
never_forever (Field' p k a x t s c f) m other = refl
never_forever (expr.Input c i) m other = refl
never_forever (Output' c i p k a x t s) m other = refl
never_forever (Call' c i o shape row) m other = refl
never_forever (Neg' p k a x t s) m other = refl
never_forever (Not' p k a x t s) m other = refl
never_forever (Binary' op p j a x t s q k b y u r) m other = refl
