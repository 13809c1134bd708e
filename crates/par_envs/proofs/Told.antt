-- Locals that are told to have the same policies.
use Rattle.std.proofs.Common.{◌≡◌, ◌≢◌, ℕ, zero, suc, ◌+◌, ◌<◌, ◌≤◌, Bool, true, false, cond, List}
use Rattle.std.proofs.Common.{[], ◌∷◌, ◌++◌, length, get_or, set, refl, sym, ap, ◌∙◌, subst, arith}
use Rattle.std.proofs.Common.{⊎_elim, eq-eqb, below_more}
use Rattle.std.specs.Prelude.{◌||◌, nat_eq, slice_index_or}
use Rattle.std.proofs.lemmas.Bool.{ne_eqb, cases_lt}
use Rattle.par_bits.specs.Sets.{has, none, adding}
use Rattle.par_envs.specs.declared.env.Held.{Held}
use Rattle.par_envs.specs.Same.{policy}
use Rattle.par_envs.specs.Told.{told, IsFree, StandsAt, MayTell}

-- policies that are read at a place stand there
pub stands : (hs : List Held) (k p : ℕ) (h : Held) → k < length hs → h ≡ get_or hs k h
    → h.policy ≡ p → StandsAt hs k p
stands [] k p h l e f = absurd (omega (arith, l))
stands (x ∷ hs) zero p h l e f = ap (λ y. y.policy) (sym e) ∙ f
stands (x ∷ hs) (suc k) p h l e f = stands hs k p h (omega (arith, l)) e f

pub stands_within : (hs : List Held) (k p : ℕ) → StandsAt hs k p → k < length hs
stands_within [] k p s = absurd s
stands_within (x ∷ hs) zero p s = omega arith
stands_within (x ∷ hs) (suc k) p s = let l = stands_within hs k p s in omega (arith, l)

-- a local that none holds has no policies
pub told_none : (hs : List Held) (i : ℕ) → IsFree hs i → told hs i ≡ 0
told_none [] i f = refl
told_none (h ∷ hs) i f = ap (λ b. cond b h.policy (told hs i)) f.0 ∙ told_none hs i f.1

-- one more local at a place
module _ (s : ℕ → Bool) (i : ℕ) where
  added_here : (t : ℕ → Bool) → t ≡ adding s i → t i ≡ true
  added_here t e = ap (λ u. u i) e ∙ here (s i) (nat_eq i i) (eq-eqb i i refl) where
    here : (a b : Bool) → b ≡ true → (a || b) ≡ true
    here true b e = refl
    here false b e = e

  added_other : (t : ℕ → Bool) (j : ℕ) → t ≡ adding s i → j ≢ i → t j ≡ s j
  added_other t j e n = ap (λ u. u j) e ∙ other (s j) (nat_eq j i) (ne_eqb j i n) where
    other : (a b : Bool) → b ≡ false → (a || b) ≡ a
    other true b e = refl
    other false b e = e

module _ (i p : ℕ) (z : Held) where
  pub set_here : (hs : List Held) (k : ℕ) (d : Held) → StandsAt hs k p → IsFree hs i
      → z.policy ≡ (get_or hs k d).policy → has z.locals ≡ adding (has (get_or hs k d).locals) i
      → told (set hs k z) i ≡ p
  set_here [] k d s f e g = absurd s
  set_here (h ∷ hs) zero d s f e g =
      ap (λ b. cond b z.policy (told hs i)) (added_here (has h.locals) i (has z.locals) g) ∙ e ∙ s
  set_here (h ∷ hs) (suc k) d s f e g =
      ap (λ b. cond b h.policy (told (set hs k z) i)) f.0 ∙ set_here hs k d s f.1 e g

  pub set_other : (hs : List Held) (k : ℕ) (d : Held) (j : ℕ) → k < length hs → j ≢ i
      → z.policy ≡ (get_or hs k d).policy → has z.locals ≡ adding (has (get_or hs k d).locals) i
      → told (set hs k z) j ≡ told hs j
  set_other [] k d j l n e g = absurd (omega (arith, l))
  set_other (h ∷ hs) zero d j l n e g =
      ap (λ b. cond b z.policy (told hs j)) (added_other (has h.locals) i (has z.locals) j g n)
      ∙ ap (λ q. cond (has h.locals j) q (told hs j)) e
  set_other (h ∷ hs) (suc k) d j l n e g =
      ap (λ q. cond (has h.locals j) h.policy q) (set_other hs k d j (omega (arith, l)) n e g)

  pub set_free : (hs : List Held) (k : ℕ) (d : Held) (j : ℕ) → k < length hs → j ≢ i
      → has z.locals ≡ adding (has (get_or hs k d).locals) i → IsFree hs j
      → IsFree (set hs k z) j
  set_free [] k d j l n g f = absurd (omega (arith, l))
  set_free (h ∷ hs) zero d j l n g f =
      (added_other (has h.locals) i (has z.locals) j g n ∙ f.0, f.1)
  set_free (h ∷ hs) (suc k) d j l n g f = (f.0, set_free hs k d j (omega (arith, l)) n g f.1)

  -- and behind the others
  pub more_here : (hs : List Held) → IsFree hs i → z.policy ≡ p → has z.locals ≡ adding none i
      → told (hs ++ z ∷ []) i ≡ p
  more_here [] f e g = ap (λ b. cond b z.policy 0) (added_here none i (has z.locals) g) ∙ e
  more_here (h ∷ hs) f e g =
      ap (λ b. cond b h.policy (told (hs ++ z ∷ []) i)) f.0 ∙ more_here hs f.1 e g

  pub more_other : (hs : List Held) (j : ℕ) → j ≢ i → has z.locals ≡ adding none i
      → told (hs ++ z ∷ []) j ≡ told hs j
  more_other [] j n g = ap (λ b. cond b z.policy 0) (added_other none i (has z.locals) j g n)
  more_other (h ∷ hs) j n g = ap (λ q. cond (has h.locals j) h.policy q) (more_other hs j n g)

  pub more_free : (hs : List Held) (j : ℕ) → j ≢ i → has z.locals ≡ adding none i → IsFree hs j
      → IsFree (hs ++ z ∷ []) j
  more_free [] j n g f = (added_other none i (has z.locals) j g n, tt)
  more_free (h ∷ hs) j n g f = (f.0, more_free hs j n g f.1)

-- what is told of the locals of a list up to its end is all
pub tells : (env : List ℕ) (hs : List Held) (n : ℕ) → length env ≤ n
    → ((i : ℕ) → i < n → policy env i ≡ told hs i) → ((i : ℕ) → n ≤ i → IsFree hs i) → (i : ℕ)
    → policy env i ≡ told hs i
tells env hs n l t f i =
    ⊎_elim (λ s. t i s) (λ s. past env i (omega (arith, l, s)) ∙ sym (told_none hs i (f i s)))
    (cases_lt i n) where
      past : (xs : List ℕ) (i : ℕ) → length xs ≤ i → policy xs i ≡ 0
      past [] i l = refl
      past (x ∷ xs) zero l = absurd (omega (arith, l))
      past (x ∷ xs) (suc i) l = past xs i (omega (arith, l))

-- one more local
module _ (env : List ℕ) (hs : List Held) (k p : ℕ) (l : k < length env) (e : p ≡ get_or env k p)
    (t : (i : ℕ) → i < k → policy env i ≡ told hs i) where
  read : (xs : List ℕ) (i : ℕ) → i < length xs → p ≡ get_or xs i p → policy xs i ≡ p
  read [] i m f = absurd (omega (arith, m))
  read (x ∷ xs) zero m f = sym f
  read (x ∷ xs) (suc i) m f = read xs i (omega (arith, m)) f

  pub tells_more : (gs : List Held) → told gs k ≡ p
      → ((i : ℕ) → i ≢ k → told gs i ≡ told hs i) → (i : ℕ) → i < k + 1 → policy env i ≡ told gs i
  tells_more gs here others =
      below_more (λ i. policy env i ≡ told gs i) k
      (λ i s. t i s ∙ sym (others i (λ f. let b : ⊥ = omega (arith, s, f) in b)))
      (read env k l e ∙ sym here)

  pub tells_none : p ≡ 0 → IsFree hs k → (i : ℕ) → i < k + 1 → policy env i ≡ told hs i
  tells_none z f =
      below_more (λ i. policy env i ≡ told hs i) k t (read env k l e ∙ z ∙ sym (told_none hs k f))
