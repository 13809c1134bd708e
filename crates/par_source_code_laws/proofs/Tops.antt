-- How many operands there is room for.
use Rattle.std.proofs.Common.{◌≡◌, ℕ, suc, ◌≤◌, ◌<◌, max, Bool, true, false, arith, refl, add-one}
use Rattle.std.specs.Prelude.{if◌then◌else◌}
use Rattle.par_typed.specs.declared.ty.Ty.{Ty}
use Rattle.par_typed.specs.declared.ty.Ty.TheVariants as ty
use Rattle.par_evaluation_laws.specs.par_code_form.Code.{Shape, Calculates, Compares, Sames}
use Rattle.par_evaluation_laws.specs.par_code_form.Code.{Decides}
use Rattle.par_evaluation_laws.specs.par_code_form.Operands.{below_second, between_top, with_result}
use Rattle.par_evaluation_laws.specs.Laid as laid

pub left_le : (a b r : ℕ) → max a b ≤ r → a ≤ r
left_le a b r h = omega arith

pub right_le : (a b r : ℕ) → max a b ≤ r → b ≤ r
right_le a b r h = omega arith

-- the test of a loop, where it is written, and the body
pub test_le : (literal : Bool) (test body r : ℕ)
    → (if literal then body else max test body) ≤ r → literal ≡ false → test ≤ r
test_le true test body r h is = absurd (cc)
test_le false test body r h is = left_le test body r h

pub body_le : (literal : Bool) (test body r : ℕ)
    → (if literal then body else max test body) ≤ r → body ≤ r
body_le true test body r h = h
body_le false test body r h = right_le test body r h

-- an operator lifts what lies there between its parts
pub between_rises : (s : Shape) (h : ℕ) → h < between_top s h
between_rises (Calculates o i) h = omega arith
between_rises (Compares t) h = omega arith
between_rises (Sames b) h = omega arith
between_rises (Decides o) h = omega arith

-- room for two operands above what lies below an operator
pub two_fit : (s : Shape) (h second r : ℕ) → between_top s h ≤ r → below_second s h < second
    → second ≤ r → suc h < r
two_fit (Calculates o i) h second r between rises le = omega arith
two_fit (Compares t) h second r between rises le = omega arith
two_fit (Sames b) h second r between rises le = omega arith
two_fit (Decides o) h second r between rises le = omega arith

pub same_below : (s : Shape) (h : ℕ) → below_second s h ≡ laid.below_second s h
same_below (Calculates o i) h = add-one h
same_below (Compares t) h = add-one h
same_below (Sames b) h = add-one h
same_below (Decides o) h = refl

pub result_rises : (u : Ty) (h : ℕ) → (u ≡ ty.Void → ⊥) → h < with_result u h
result_rises ty.Int h value = omega arith
result_rises ty.Boolean h value = omega arith
result_rises (ty.Class c) h value = omega arith
result_rises ty.Null h value = omega arith
result_rises ty.Void h value = absurd (value refl)
