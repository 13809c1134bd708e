-- Environments that are found by the questions.
use Rattle.std.proofs.Common.{◌≡◌, ◌≢◌, ℕ, zero, suc, ◌+◌, ◌<◌, ◌≤◌, Bool, true, false, ◌&&◌, not}
use Rattle.std.proofs.Common.{cond, Some, None, List, [], ◌∷◌, ◌++◌, length, refl, sym, ap, ◌∙◌}
use Rattle.std.proofs.Common.{subst, inr, arith, ⊎_elim, eq-eqb}
use Rattle.std.specs.Prelude.{nat_eq, slice_get}
use Rattle.std.proofs.lemmas.Bool.{ne_eqb, cases_eq}
use Rattle.par_envs.specs.declared.envs.Entry.{Entry}
use Rattle.par_envs.specs.Same.{policy, AreSame}
use Rattle.par_envs.specs.Numbered.{envs, leads, reached, Adds, AreFound, Extends, Names}
use Rattle.par_envs.specs.Numbered.{AreDifferent}

-- one more question comes last
reached_more : (xs : List Entry) (x : Entry) (n : ℕ) (env : List ℕ) (k : ℕ)
    → reached (xs ++ x ∷ []) n env k
    ≡ cond (leads x env (reached xs n env k)) (n + length xs) (reached xs n env k)
reached_more [] x n env k = let e : n ≡ n + 0 = omega arith in ap (λ m. cond (leads x env k) m k) e
reached_more (y ∷ xs) x n env k =
    let e : suc n + length xs ≡ n + suc (length xs) = omega arith in
    let r = reached xs (suc n) env (cond (leads y env k) n k) in
    reached_more xs x (suc n) env (cond (leads y env k) n k) ∙ ap (λ m. cond (leads x env r) m r) e

chosen : (P : ℕ → Type 0) (b : Bool) (m n : ℕ) → P m → P n → P (cond b m n)
chosen P true m n p q = p
chosen P false m n p q = q

-- a number that is reached is that of a question, or the one from which it starts
reached_within : (xs : List Entry) (n : ℕ) (env : List ℕ) (k most : ℕ) → n + length xs ≤ most
    → k < most → reached xs n env k < most
reached_within [] n env k most h l = l
reached_within (x ∷ xs) n env k most h l =
    reached_within xs (suc n) env (cond (leads x env k) n k) most (omega (arith, h))
    (chosen (λ m. m < most) (leads x env k) n k (omega (arith, h)) l)

-- and only what the policies are counts
reached_same : (xs : List Entry) (n : ℕ) (d e : List ℕ) (k : ℕ) → AreSame d e
    → reached xs n d k ≡ reached xs n e k
reached_same [] n d e k s = refl
reached_same (x ∷ xs) n d e k s =
    ap (λ p. reached xs (suc n) d (cond (nat_eq k x.near && not (nat_eq p x.policy)) n k))
    (s x.local)
    ∙ reached_same xs (suc n) d e (cond (leads x e k) n k) s

-- where none is reached that is kept, none is kept
pub none_kept : (xs : List Entry) (env : List ℕ) → length xs ≤ reached xs 0 env 0 → xs ≡ []
none_kept [] env h = refl
none_kept (x ∷ xs) env h =
    let l = reached_within (x ∷ xs) 0 env 0 (length (x ∷ xs)) (omega arith) (omega arith) in
    absurd (omega (arith, h, l))

get_map : (xs : List Entry) (i : ℕ) (e : List ℕ) (C : Type 0) → slice_get (envs xs) i ≡ Some e
    → ((x : Entry) → slice_get xs i ≡ Some x → x.env ≡ e → C) → C
get_map [] i e C h f = absurd (let g : None ≡ Some e = h in cc)
get_map (x ∷ xs) zero e C h f = f x refl (let g : Some x.env ≡ Some e = h in cc)
get_map (x ∷ xs) (suc i) e C h f = get_map xs i e C h f

pub get_env : (xs : List Entry) (i : ℕ) (x : Entry) → slice_get xs i ≡ Some x
    → slice_get (envs xs) i ≡ Some x.env
get_env [] i x h = absurd (let g : None ≡ Some x = h in cc)
get_env (y ∷ xs) zero x h = let g : Some y ≡ Some x = h in cc
get_env (y ∷ xs) (suc i) x h = get_env xs i x h

pub get_no_env : (xs : List Entry) (i : ℕ) → slice_get xs i ≡ None → None ≡ slice_get (envs xs) i
get_no_env [] i h = refl
get_no_env (y ∷ xs) zero h = absurd (let g : Some y ≡ None = h in cc)
get_no_env (y ∷ xs) (suc i) h = get_no_env xs i h

get_last : (xs : List Entry) (x : Entry) (n : ℕ) → n ≡ length xs
    → slice_get (xs ++ x ∷ []) n ≡ Some x
get_last [] x zero e = refl
get_last [] x (suc n) e = absurd (omega (arith, e))
get_last (y ∷ xs) x zero e = absurd (omega (arith, e))
get_last (y ∷ xs) x (suc n) e = get_last xs x n (omega (arith, e))

-- what is read of a longer list is the last one, or stands in the list
get_more : (xs : List Entry) (x : Entry) (i : ℕ) (y : Entry) (C : Type 0)
    → slice_get (xs ++ x ∷ []) i ≡ Some y
    → (slice_get xs i ≡ Some y → C) → (i ≡ length xs → x ≡ y → C) → C
get_more [] x zero y C h f g = g refl (let e : Some x ≡ Some y = h in cc)
get_more [] x (suc i) y C h f g = absurd (let e : None ≡ Some y = h in cc)
get_more (z ∷ xs) x zero y C h f g = f h
get_more (z ∷ xs) x (suc i) y C h f g = get_more xs x i y C h f (λ e s. g (omega (arith, e)) s)

extends_more : (xs : List Entry) (x : Entry) → Extends (envs xs) (envs (xs ++ x ∷ []))
extends_more [] x i e h = absurd (let g : None ≡ Some e = h in cc)
extends_more (y ∷ xs) x zero e h = h
extends_more (y ∷ xs) x (suc i) e h = extends_more xs x i e h

envs_more : (xs : List Entry) (x : Entry) → envs (xs ++ x ∷ []) ≡ envs xs ++ x.env ∷ []
envs_more [] x = refl
envs_more (y ∷ xs) x = ap (λ es. y.env ∷ es) (envs_more xs x)

-- one more environment, with a question that tells it from the one that was reached
module _ (xs ys : List Entry) (x : Entry) (number : ℕ) (is : ys ≡ xs ++ x ∷ [])
    (here : number ≡ length xs) where
  pub extends_kept : Extends (envs xs) (envs ys)
  extends_kept = subst (λ l. Extends (envs xs) (envs l)) (sym is) (extends_more xs x)

  pub adds_kept : Adds (envs xs) (envs ys) x.env
  adds_kept = inr (ap envs is ∙ envs_more xs x)

  pub names_kept : Names (envs ys) number x.env
  names_kept = (
    x.env,
    subst (λ l. slice_get (envs l) number ≡ Some x.env) (sym is)
        (get_env (xs ++ x ∷ []) number x (get_last xs x number here)),
    λ i. refl,
  )

  module _ (near : ℕ) (from : reached xs 0 x.env 0 ≡ near) (same : x.near ≡ near) where
    stays : (y : Entry) (i : ℕ) → reached xs 0 y.env 0 ≡ i → leads x y.env i ≡ false
        → reached ys 0 y.env 0 ≡ i
    stays y i r l =
        ap (λ zs. reached zs 0 y.env 0) is ∙ reached_more xs x 0 y.env 0
        ∙ ap (λ m. cond (leads x y.env m) (0 + length xs) m) r
        ∙ ap (λ b. cond b (0 + length xs) i) l

    told : (a b : Bool) → a ≡ true → b ≡ false → (a && not b) ≡ true
    told a b e f = cc

    moves : policy x.env x.local ≢ x.policy → reached ys 0 x.env 0 ≡ length xs
    moves apart =
        ap (λ zs. reached zs 0 x.env 0) is ∙ reached_more xs x 0 x.env 0
        ∙ ap (λ m. cond (leads x x.env m) (0 + length xs) m) from
        ∙ ap (λ b. cond b (0 + length xs) near)
        (told _ _ (eq-eqb near x.near (sym same)) (ne_eqb (policy x.env x.local) x.policy apart))
        ∙ (let e : 0 + length xs ≡ length xs = omega arith in e)

    pub found_kept : AreFound xs → (y : Entry) → slice_get xs near ≡ Some y
        → policy y.env x.local ≡ x.policy → policy x.env x.local ≢ x.policy → AreFound ys
    found_kept found y at has apart i z h =
        get_more xs x i z (reached ys 0 z.env 0 ≡ i) (subst (λ l. slice_get l i ≡ Some z) is h)
        (λ g. stays z i (found i z g) (asks i z g))
        (λ e s. subst (λ w. reached ys 0 w.env 0 ≡ i) s (moves apart ∙ sym e)) where
          asks : (i : ℕ) (z : Entry) → slice_get xs i ≡ Some z → leads x z.env i ≡ false
          asks i z g =
              ⊎_elim
              (λ e.
              let w : Some y ≡ Some z = sym at ∙ ap (slice_get xs) (sym e) ∙ g in
              let v : y ≡ z = cc in
              kept (nat_eq i x.near) _ (eq-eqb (policy z.env x.local) x.policy
              (ap (λ u. policy u.env x.local) (sym v) ∙ has)))
              (λ n. ap (λ b. b && not (nat_eq (policy z.env x.local) x.policy))
              (ne_eqb i x.near (λ e. n (e ∙ same))))
              (cases_eq i near) where
                kept : (a b : Bool) → b ≡ true → (a && not b) ≡ false
                kept true b e = ap not e
                kept false b e = refl

-- the first one
pub found_first : (xs ys : List Entry) (x : Entry) → xs ≡ [] → ys ≡ xs ++ x ∷ [] → x.near ≡ 1
    → AreFound ys
found_first xs ys x e is n i z h =
    let l : ys ≡ x ∷ [] = is ∙ ap (λ zs. zs ++ x ∷ []) e in
    get_more [] x i z (reached ys 0 z.env 0 ≡ i) (subst (λ zs. slice_get zs i ≡ Some z) l h)
    (λ g. absurd (let f : None ≡ Some z = g in cc))
    (λ k s.
    ap (λ zs. reached zs 0 z.env 0) l
    ∙ ap (λ m. cond (nat_eq 0 m && not (nat_eq (policy z.env x.local) x.policy)) 0 0) n ∙ sym k)

-- different numbers name different environments
pub different : (xs : List Entry) → AreFound xs → AreDifferent (envs xs)
different xs found i j d e h k s =
    get_map xs i d (i ≡ j) h
    (λ x g p. get_map xs j e (i ≡ j) k
    (λ y f q. sym (found i x g) ∙ reached_same xs 0 x.env y.env 0
    (λ l. ap (λ v. policy v l) p ∙ s l ∙ ap (λ v. policy v l) (sym q)) ∙ found j y f))
