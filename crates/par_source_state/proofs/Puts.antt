-- Functions with another value at one place, as maps show them.
use Rattle.std.proofs.Common.{◌≡◌, ℕ, Bool, true, false, cond, ◌==◌, ◌&&◌, refl, arith, ap, ◌∙◌}
use Rattle.std.proofs.Common.{⊎_elim, ◌⊎◌, inl, inr}
use Rattle.std.proofs.lemmas.Bool.{cases_eq}
use Rattle.std.proofs.lemmas.Bool.Decides.{nat_tests}
use Rattle.std.proofs.Common.{ℤ, List, Option, Some, Result, Ok, Err, ◌<◌, ◌≤◌}
use Rattle.std.specs.Prelude.{nat_lt, is_some, OnOk, OnErr}
use Rattle.std.specs.Borrow.{Bor}
use Rattle.par_run_laws.specs.State.{put}
use Rattle.par_source_state.specs.Held.{Kept, same_member, input_in, numbers_left}
use Rattle.std.specs.HashMap.{get}
use Rattle.par_values.specs.declared.value.MVal.{MVal}

module _ {A : Type 0} where
  pub put_here : (f : ℕ → A) (x : ℕ) (v : A) (y : ℕ) → y ≡ x → put f x v y ≡ v
  put_here f x v y e = grind (arith, nat_tests)

  pub put_other : (f : ℕ → A) (x : ℕ) (v : A) (y : ℕ) → (y ≡ x → ⊥) → put f x v y ≡ f y
  put_other f x v y e = grind (arith, nat_tests)

-- one place by two numbers
pub put_two : {A : Type 0} (f : ℕ → ℕ → A) (x y : ℕ) (v : A) (a b : ℕ)
    → cond (x == a && y == b) v (f a b) ≡ put f x (put (f x) y v) a b
put_two f x y v a b = grind (arith, nat_tests)

pub put_three : {A : Type 0} (f : ℕ → ℕ → ℕ → A) (x y z : ℕ) (v : A) (a b c : ℕ)
    → cond (x == a && y == b && z == c) v (f a b c) ≡ put f x (put (f x) y (put (f x y) z v)) a b c
put_three f x y z v a b c = grind (arith, nat_tests)

left_of : (b : Bool) (x : Bor (List ℤ)) (o : Option (Bor (List ℤ)))
    → numbers_left (cond b (Some x) o) ≡ cond b (Some x.now) (numbers_left o)
left_of true x o = refl
left_of false x o = refl

-- what an input has left, where one is kept anew
pub left_put : (kept : Kept (ℕ × ℕ) (Bor (List ℤ))) (x y : ℕ) (left : Bor (List ℤ)) (a b : ℕ)
    → numbers_left (cond (same_member (x, y) (a, b)) (Some left) (get same_member kept (a, b)))
    ≡ put (input_in kept) x (put (input_in kept x) y (Some left.now)) a b
left_put kept x y left a b =
    left_of (same_member (x, y) (a, b)) left (get same_member kept (a, b))
    ∙ put_two (input_in kept) x y (Some left.now) a b

pub below_is : (n b : ℕ) → n < b → nat_lt n b ≡ true
below_is n b h = grind (arith, nat_tests)

unborn_case : {A : Type 0} (x y z a n f : ℕ) (v : A) (o : Option A) (births : ℕ → ℕ) → y < births x
    → births a ≤ n → is_some o ≡ false
    → (x ≡ a → ⊥) ⊎ (x ≡ a) → is_some (cond (x == a && y == n && z == f) (Some v) o) ≡ false
unborn_case x y z a n f v o births below few none (inl other) = grind (arith, nat_tests)
unborn_case x y z a n f v o births below few none (inr same) =
    let lower : y < n = omega (arith, ap births same, below, few) in grind (arith, nat_tests)

pub either : {A E : Type 0} (r : Result A E) (P Q R : Type 0) → OnOk r P → OnErr r Q → (P → R)
    → (Q → R) → R
either (Ok a) P Q R p q f g = f p
either (Err e) P Q R p q f g = g q

-- a field that is written is none of an object that is not born
pub unborn_stays : (births : ℕ → ℕ) (fields : ℕ → ℕ → ℕ → Option MVal) (x y z : ℕ) (v : MVal)
    (a n f : ℕ) → y < births x → births a ≤ n
    → is_some (fields a n f) ≡ false → is_some
    (cond (x == a && y == n && z == f) (Some v) (fields a n f)) ≡ false
unborn_stays births fields x y z v a n f below few none =
    unborn_case x y z a n f v (fields a n f) births below few none
    (⊎_elim (λ (same : x ≡ a). inr same) (λ (other : x ≡ a → ⊥). inl other) (cases_eq x a))
