-- Lists of policies, and the functions of locals that they mean.
use Rattle.std.proofs.Common.{◌≡◌, ℕ, zero, suc, ◌+◌, ◌<◌, ◌≤◌, List, [], ◌∷◌, ◌++◌, length, get_or}
use Rattle.std.proofs.Common.{refl, sym, ap, ◌∙◌, ◌⊎◌, subst, arith, ⊎_elim, inl, inr}
use Rattle.std.proofs.Math.Path.{fun_ext}
use Rattle.par_bits.specs.Sets.{has, none, union}
use Rattle.par_except.specs.Seen.{locals}

pub locals_front : (ss : List ℕ) (x i : ℕ) → i < length ss → locals (ss ++ x ∷ []) i ≡ locals ss i
unfolding locals
locals_front [] x i h = absurd (omega arith)
locals_front (s ∷ ss) x zero h = refl
locals_front (s ∷ ss) x (suc i) h = locals_front ss x i (omega arith)

pub locals_last : (ss : List ℕ) (x i : ℕ) → length ss ≡ i → locals (ss ++ x ∷ []) i ≡ has x
unfolding locals
locals_last [] x zero h = refl
locals_last [] x (suc i) h = absurd (omega arith)
locals_last (s ∷ ss) x zero h = absurd (omega arith)
locals_last (s ∷ ss) x (suc i) h = locals_last ss x i (omega arith)

pub locals_get : (ss : List ℕ) (i d : ℕ) → i < length ss → locals ss i ≡ has (get_or ss i d)
unfolding locals
locals_get [] i d h = absurd (omega arith)
locals_get (s ∷ ss) zero d h = refl
locals_get (s ∷ ss) (suc i) d h = locals_get ss i d (omega arith)

pub locals_past : (ss : List ℕ) (i : ℕ) → length ss ≤ i → locals ss i ≡ none
unfolding locals
locals_past [] i h = refl
locals_past (s ∷ ss) zero h = absurd (omega arith)
locals_past (s ∷ ss) (suc i) h = locals_past ss i (omega arith)

near : (i n : ℕ) → (i < n) ⊎ (n ≤ i)
near i zero = inr (omega arith)
near zero (suc n) = inl (omega arith)
near (suc i) (suc n) = ⊎_elim (λ s. inl (omega (arith, s))) (λ s. inr (omega (arith, s))) (near i n)

-- one more local of a join
pub push_joined : (js ks xs ys : List ℕ) (c x y z : ℕ) → ks ≡ js ++ x ∷ [] → length js ≡ c
    → c < length xs → c < length ys
    → ((i : ℕ) → i < c → locals js i ≡ union (locals xs i) (locals ys i))
    → y ≡ get_or xs c y → z ≡ get_or ys c z → has x ≡ union (has y) (has z)
    → (length ks ≡ c + 1) × ((i : ℕ) → i < c + 1 → locals ks i ≡ union (locals xs i) (locals ys i))
push_joined js ks xs ys c x y z e n la lb h ey ez u =
    subst (λ l. (length l ≡ c + 1)
    × ((i : ℕ) → i < c + 1 → locals l i ≡ union (locals xs i) (locals ys i))) (sym e)
    (long js c n, λ i b. ⊎_elim (λ s. front i s) (λ s. last i s) (split i b))
  where
    long : (l : List ℕ) (k : ℕ) → length l ≡ k → length (l ++ x ∷ []) ≡ k + 1
    long [] k h = omega (arith, h)
    long (s ∷ l) zero h = absurd (omega (arith, h))
    long (s ∷ l) (suc k) h = let r = long l k (omega (arith, h)) in omega (arith, r)

    split : (i : ℕ) → i < c + 1 → (i < c) ⊎ (i ≡ c)
    split i b = ⊎_elim (λ s. inl s) (λ s. inr (omega (arith, b, s))) (near i c)

    front : (i : ℕ) → i < c → locals (js ++ x ∷ []) i ≡ union (locals xs i) (locals ys i)
    front i s = locals_front js x i (omega (arith, n, s)) ∙ h i s

    last : (i : ℕ) → i ≡ c → locals (js ++ x ∷ []) i ≡ union (locals xs i) (locals ys i)
    last i s = subst (λ j. locals (js ++ x ∷ []) j ≡ union (locals xs j) (locals ys j)) (sym s)
        (locals_last js x c n ∙ u ∙ ap (λ v. union (has v) (has z)) ey
        ∙ ap (λ v. union (has (get_or xs c y)) (has v)) ez
        ∙ ap (λ f. union f (has (get_or ys c z))) (sym (locals_get xs c y la))
        ∙ ap (λ f. union (locals xs c) f) (sym (locals_get ys c z lb)))

pub all_joined : (js xs ys : List ℕ) → length js ≡ length xs → length xs ≡ length ys
    → ((i : ℕ) → i < length js → locals js i ≡ union (locals xs i) (locals ys i))
    → locals js ≡ (λ i. union (locals xs i) (locals ys i))
all_joined js xs ys n m h = fun_ext λ i. ⊎_elim (λ s. h i s) (λ s. past i s) (split i) where
  split : (i : ℕ) → (i < length js) ⊎ (length js ≤ i)
  split i = near i (length js)

  past : (i : ℕ) → length js ≤ i → locals js i ≡ union (locals xs i) (locals ys i)
  past i s =
      locals_past js i s
      ∙ sym (ap (λ f. union f (locals ys i)) (locals_past xs i (omega (arith, n, s)))
      ∙ ap (λ f. union none f) (locals_past ys i (omega (arith, n, m, s))))
