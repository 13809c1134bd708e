-- Sets of locks, as ascending lists and as bits.
use Rattle.std.proofs.Common.{◌≡◌, ℕ, zero, suc, ◌+◌, ◌<◌, Bool, true, false, ◌||◌, List, [], ◌∷◌}
use Rattle.std.proofs.Common.{length, get_or, drop, refl, sym, ap, ◌∙◌, subst, arith, add-one}
use Rattle.std.proofs.Common.{⊎_elim}
use Rattle.std.specs.Prelude.{nat_eq, IsTrue}
use Rattle.std.proofs.Math.Seq.{drop-cons}
use Rattle.std.proofs.Math.Path.{fun_ext}
use Rattle.std.proofs.lemmas.Bool.{eq-eqb, ne_eqb}
use Rattle.std.proofs.lemmas.Bool.Decides.{eqb_tells}
use Rattle.par_policy.specs.Numbers.{has as is_among}
use Rattle.par_bits.specs.Sets.{Set, adding}
use Rattle.par_program_laws.specs.Ranges.{MOST, AreLocks}

or_false : (a : Bool) → (a || false) ≡ a
or_false true = refl
or_false false = refl

or_step : (a b c : Bool) → ((a || b) || c) ≡ (a || (b || c))
or_step true b c = refl
or_step false b c = refl

flip : (a b : ℕ) → nat_eq a b ≡ nat_eq b a
flip a b =
    ⊎_elim (λ e. e.0 ∙ sym (eq-eqb b a (sym e.1))) (λ e. e.0 ∙ sym (ne_eqb b a (λ q. e.1 (sym q))))
    (eqb_tells a b)

in_list : (xs : List ℕ) (i x d : ℕ) → i < length xs → x ≡ get_or xs i d → IsTrue (is_among xs x)
in_list [] i x d h e = absurd (omega (arith, h))
in_list (y ∷ xs) zero x d h e = first (nat_eq y x) (is_among xs x) (eq-eqb y x (sym e)) where
  first : (a b : Bool) → a ≡ true → IsTrue (a || b)
  first a b g = subst (λ c. IsTrue (c || b)) (sym g) refl
in_list (y ∷ xs) (suc i) x d h e =
    second (nat_eq y x) (is_among xs x) (in_list xs i x d (omega (arith, h)) e)
  where
    second : (a b : Bool) → IsTrue b → IsTrue (a || b)
    second true b g = refl
    second false b g = g

pub lock_in_range : (xs ys : List ℕ) (i x d : ℕ) → xs ≡ ys → i < length xs → x ≡ get_or xs i d
    → AreLocks (is_among ys) → x < MOST
lock_in_range xs ys i x d s h e r =
    subst (λ z. AreLocks (is_among z)) (sym s) r x (in_list xs i x d h e)

-- the locks so far and those that are left
pub add_lock : (xs : List ℕ) (i x : ℕ) (s t : Set) → i < length xs → x ≡ get_or xs i x
    → t ≡ adding s x → ((n : ℕ) → (s n || is_among (drop i xs) n) ≡ is_among xs n)
    → (n : ℕ) → (t n || is_among (drop (i + 1) xs) n) ≡ is_among xs n
add_lock xs i x s t h e f u n =
    let d : drop i xs ≡ x ∷ drop (i + 1) xs = drop-cons xs i x h
    ∙ ap (λ y. y ∷ drop (suc i) xs) (sym e) ∙ ap (λ j. x ∷ drop j xs) (sym (add-one i)) in
    ap (λ p. p n || is_among (drop (i + 1) xs) n) f
    ∙ or_step (s n) (nat_eq n x) (is_among (drop (i + 1) xs) n)
    ∙ ap (λ b. s n || (b || is_among (drop (i + 1) xs) n)) (flip n x)
    ∙ ap (λ l. s n || is_among l n) (sym d) ∙ u n

pub all_added : (xs : List ℕ) (s : Set) (rest : List ℕ) → rest ≡ []
    → ((n : ℕ) → (s n || is_among rest n) ≡ is_among xs n) → s ≡ is_among xs
all_added xs s rest e u =
    fun_ext λ n. sym (or_false (s n)) ∙ ap (λ l. s n || is_among l n) (sym e) ∙ u n
