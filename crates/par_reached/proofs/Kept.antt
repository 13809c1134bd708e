-- What one pass over a number keeps.
use Rattle.std.proofs.Common.{◌≡◌, ℕ, suc, ◌<◌, Bool, true, false, ◌||◌, ◌&&◌, not, refl, sym}
use Rattle.std.proofs.Common.{subst}
use Rattle.std.proofs.Common.{◌∙◌, eq-eqb, arith}
use Rattle.std.specs.Prelude.{IsTrue, nat_eq}
use Rattle.std.proofs.lemmas.Bool.{eqb-true, and_parts, and_from, or_left, or_right}
use Rattle.par_bits.specs.Sets.{Set, IsWithin}
use Rattle.par_reached.specs.Reached.{Reaches, Straight, Through, AreLeastSets, Passed}

in_either : (b c : Bool) (C : Type 0) → (IsTrue b → C) → (IsTrue c → C) → IsTrue (b || c) → C
in_either true c C f g h = f refl
in_either false c C f g h = g h

pub by_cases : (b : Bool) (C : Type 0) → (b ≡ true → C) → (b ≡ false → C) → C
by_cases true C f g = f refl
by_cases false C f g = g refl

pub not_true : (b : Bool) → b ≡ false → IsTrue (not b)
not_true true e = cc
not_true false e = refl

pub true_not : (b : Bool) → IsTrue (not b) → b ≡ false
true_not true e = cc
true_not false e = refl

pub clash : false ≡ true → ⊥
clash e = cc

module _ (is : Set) (b : ℕ → Set) where
  -- what comes to a number, those of the set among them
  pub data Comes : ℕ → ℕ → Type 0 where
    One : (i n : ℕ) → IsTrue (b i n) → Comes i n
    More : (i j n : ℕ) → IsTrue (b i j) → IsTrue (is j) → Comes j n → Comes i n

  pub comes_on : (i j n : ℕ) → Comes i j → IsTrue (is j) → Comes j n → Comes i n
  comes_on _ _ n (One i j h) e k = More i j n h e k
  comes_on _ _ n (More i m j h d r) e k = More i m n h d (comes_on m j n r e k)

  reaches : (i n : ℕ) → Comes i n → is n ≡ false → Reaches is b i n
  reaches _ _ (One i n h) e = Straight i n h e
  reaches _ _ (More i j n h d r) e = Through i j n h d (reaches j n r e)

  -- the sets after passes over the numbers below
  pub record AreSoFar (below : ℕ) (c : ℕ → Set) : Type 0 where
    pub sound : (i n : ℕ) → IsTrue (c i n) → Comes i n
    pub more : (i n : ℕ) → IsTrue (b i n) → IsTrue (c i n)
    pub closed : (k i : ℕ) → k < below → IsTrue (is k) → IsTrue (c i k) → IsWithin (c k) (c i)

  pub starts : AreSoFar 0 b
  starts = record {
    sound = λ i n h. One i n h;
    more = λ i n h. h;
    closed = λ k i h. absurd (omega (arith, h));
  }

  less : (k m : ℕ) → k < suc m → (k ≡ m → ⊥) → k < m
  less k m h n = omega (arith, h, n)

  pub skips : (m : ℕ) (c : ℕ → Set) → is m ≡ false → AreSoFar m c → AreSoFar (suc m) c
  skips m c e s = record {
    sound = s.sound;
    more = s.more;
    closed = λ k i h d. s.closed k i
        (less k m h (λ q. clash (sym e ∙ subst (λ j. is j ≡ true) q d))) d;
  }

  module _ (m : ℕ) (c d : ℕ → Set) (e : IsTrue (is m)) (p : Passed c m d) (s : AreSoFar m c) where
    out : (i n : ℕ) → IsTrue (d i n) → (C : Type 0) → (IsTrue (c i n) → C)
        → (IsTrue (c i m) → IsTrue (c m n) → C) → C
    out i n h C f g =
        in_either (c i n) (c i m && c m n) C f
        (λ k. let q = and_parts (c i m) (c m n) k in g q.0 q.1) (subst (λ x. IsTrue x) (p i n) h)

    back : (i n : ℕ) → IsTrue (c i n || (c i m && c m n)) → IsTrue (d i n)
    back i n h = subst (λ x. IsTrue x) (sym (p i n)) h

    same : (i n : ℕ) → IsTrue (c i n) → IsTrue (d i n)
    same i n h = back i n (or_left _ _ h)

    far : (i n : ℕ) → IsTrue (c i m) → IsTrue (c m n) → IsTrue (d i n)
    far i n h k = back i n (or_right _ _ (and_from _ _ h k))

    -- the number itself gets nothing new
    through_own : (i : ℕ) → IsTrue (c i m) → IsWithin (d m) (d i)
    through_own i h n k = out m n k (IsTrue (d i n)) (far i n h) (λ a b. far i n h b)

    closed_below : (k i : ℕ) → k < m → IsTrue (is k) → IsTrue (d i k) → IsWithin (d k) (d i)
    closed_below k i h f j n x =
        out i k j (IsTrue (d i n))
        (λ a. out k n x (IsTrue (d i n)) (λ y. same i n (s.closed k i h f a n y))
        (λ y z. far i n (s.closed k i h f a m y) z))
        (λ a b. out k n x (IsTrue (d i n)) (λ y. far i n a (s.closed k m h f b n y))
        (λ y z. far i n a z))

    pub passes : AreSoFar (suc m) d
    passes = record {
      sound = λ i n h. out i n h (Comes i n) (s.sound i n)
          (λ a b. comes_on i m n (s.sound i m a) e (s.sound m n b));
      more = λ i n h. same i n (s.more i n h);
      closed = λ k i h f j. by_cases (nat_eq k m) (IsWithin (d k) (d i))
          (λ q. subst (λ k. IsWithin (d k) (d i)) (sym (eqb-true k m q))
          (out i m (subst (λ k. IsTrue (d i k)) (eqb-true k m q) j) (IsWithin (d m) (d i))
          (through_own i) (λ a b. through_own i a)))
          (λ q. closed_below k i (less k m h (λ r. clash (sym q ∙ eq-eqb k m r))) f j);
    }

  -- without the numbers of the set the sets are least
  module _ (m : ℕ) (c d : ℕ → Set) (few : (k : ℕ) → IsTrue (is k) → k < m) (s : AreSoFar m c)
      (p : (i n : ℕ) → d i n ≡ (c i n && not (is n))) where
    holds : (i n : ℕ) → Reaches is b i n → IsTrue (c i n) × (is n ≡ false)
    holds _ _ (Straight i n h e) = (s.more i n h, e)
    holds _ _ (Through i j n h e r) =
        let q = holds j n r in (s.closed j i (few j e) e (s.more i j h) n q.0, q.1)

    pub ends : AreLeastSets is b d
    ends = record {
      exact = λ i n e. (
        λ h.
            let q = and_parts (c i n) (not (is n)) (subst (λ x. IsTrue x) (p i n) h) in
            reaches i n (s.sound i n q.0) (true_not (is n) q.1),
        λ r.
            let q = holds i n r in
            subst (λ x. IsTrue x) (sym (p i n)) (and_from _ _ q.0 (not_true (is n) q.1)),
      );
    }
