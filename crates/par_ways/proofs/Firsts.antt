-- Policies of locals, as a method is entered.
use Rattle.std.proofs.Common.{◌≡◌, ℕ, zero, suc, ◌+◌, ◌<◌, ◌≤◌, Bool, true, false, cond, List, []}
use Rattle.std.proofs.Common.{◌∷◌, ◌++◌, length, get_or, refl, sym, ap, ◌∙◌, subst, arith, ⊎_elim}
use Rattle.std.specs.Prelude.{All}
use Rattle.std.proofs.lemmas.Bool.{cases_lt}
use Rattle.std.proofs.Math.Path.{fun_ext}
use Rattle.par_bits.specs.Sets.{Set, has, none, adding}
use Rattle.par_typed.specs.declared.table.ParamInfo.{ParamInfo}
use Rattle.par_program_laws.specs.Lattice.{numbers}
use Rattle.par_program_laws.specs.Declares.{Method, params_of}
use Rattle.par_program_laws.specs.Closed.{arriving, locals as entering}
use Rattle.par_program_laws.specs.Ranges.{MOST, arrivals}
use Rattle.par_pass_laws.specs.par_except.Seen.{locals}
use Rattle.par_pass_laws.proofs.par_except.Locals.{locals_front, locals_last, locals_past}

arriving_at : (ps : List ParamInfo) (i : ℕ) (d : ParamInfo) → i < length ps
    → arriving numbers (params_of ps) i ≡ adding none (get_or ps i d).policy
arriving_at [] i d h = absurd (omega (arith, h))
arriving_at (q ∷ ps) zero d h = refl
arriving_at (q ∷ ps) (suc i) d h = arriving_at ps i d (omega (arith, h))

pub param_made : (ps : List ParamInfo) (i : ℕ) (d : ParamInfo) (e x : Set) → i < length ps
    → e ≡ none → x ≡ adding e (get_or ps i d).policy → x ≡ arriving numbers (params_of ps) i
param_made ps i d e x h f g =
    g ∙ ap (λ s. adding s (get_or ps i d).policy) f ∙ sym (arriving_at ps i d h)

pub param_small : (ps : List ParamInfo) (i : ℕ) (d : ParamInfo) → i < length ps
    → All (λ p. p < MOST) (params_of ps) → (get_or ps i d).policy < MOST
param_small ps i d h a = subst (λ p. p < MOST) (sym (read ps i h)) (a i 0 (long ps i h)) where
  read : (ps : List ParamInfo) (i : ℕ) → i < length ps
      → (get_or ps i d).policy ≡ get_or (params_of ps) i 0
  read [] i h = absurd (omega (arith, h))
  read (q ∷ ps) zero h = refl
  read (q ∷ ps) (suc i) h = read ps i (omega (arith, h))

  long : (ps : List ParamInfo) (i : ℕ) → i < length ps → i < length (params_of ps)
  long [] i h = absurd (omega (arith, h))
  long (q ∷ ps) zero h = omega arith
  long (q ∷ ps) (suc i) h = let r = long ps i (omega (arith, h)) in omega (arith, r)

pub arriving_past : (ps : List ParamInfo) (i : ℕ) → length ps ≤ i
    → arriving numbers (params_of ps) i ≡ none
arriving_past [] i h = refl
arriving_past (q ∷ ps) zero h = absurd (omega (arith, h))
arriving_past (q ∷ ps) (suc i) h = arriving_past ps i (omega (arith, h))

numbers_past : (ps : List ℕ) (i : ℕ) → length ps ≤ i → arriving numbers ps i ≡ none
numbers_past [] i h = refl
numbers_past (q ∷ ps) zero h = absurd (omega (arith, h))
numbers_past (q ∷ ps) (suc i) h = numbers_past ps i (omega (arith, h))

-- no other local holds anything
pub entering_past : (m : Method) (i : ℕ) → arrivals m ≤ i
    → entering numbers m.is_static m.params i ≡ none
entering_past m i h = past m.is_static m.params i h where
  past : (b : Bool) (ps : List ℕ) (i : ℕ) → cond b (length ps) (suc (length ps)) ≤ i
      → entering numbers b ps i ≡ none
  past true ps i h = numbers_past ps i h
  past false ps zero h = refl
  past false ps (suc i) h = numbers_past ps i (omega (arith, h))

-- one more local
pub env_push : (es ks : List ℕ) (x n : ℕ) (f : ℕ → Set) → ks ≡ es ++ x ∷ [] → length es ≡ n
    → has x ≡ f n → ((i : ℕ) → i < n → locals es i ≡ f i)
    → (length ks ≡ n + 1) × ((i : ℕ) → i < n + 1 → locals ks i ≡ f i)
env_push es ks x n f e l u h =
    subst (λ z. (length z ≡ n + 1) × ((i : ℕ) → i < n + 1 → locals z i ≡ f i)) (sym e)
    (long es n l, λ i b. ⊎_elim (λ s. front i s) (λ s. last i b s) (cases_lt i n))
  where
    long : (z : List ℕ) (k : ℕ) → length z ≡ k → length (z ++ x ∷ []) ≡ k + 1
    long [] k g = omega (arith, g)
    long (s ∷ z) zero g = absurd (omega (arith, g))
    long (s ∷ z) (suc k) g = let r = long z k (omega (arith, g)) in omega (arith, r)

    front : (i : ℕ) → i < n → locals (es ++ x ∷ []) i ≡ f i
    front i s = locals_front es x i (omega (arith, l, s)) ∙ h i s

    last : (i : ℕ) → i < n + 1 → n ≤ i → locals (es ++ x ∷ []) i ≡ f i
    last i b s =
        let g : n ≡ i = omega (arith, b, s) in
        subst (λ j. locals (es ++ x ∷ []) j ≡ f j) g (locals_last es x n l ∙ u)

pub env_whole : (es : List ℕ) (n : ℕ) (f : ℕ → Set) → length es ≡ n
    → ((i : ℕ) → i < n → locals es i ≡ f i) → ((i : ℕ) → n ≤ i → f i ≡ none) → locals es ≡ f
env_whole es n f l h p =
    fun_ext λ i. ⊎_elim (λ s. h i s) (λ s. locals_past es i (omega (arith, l, s)) ∙ sym (p i s))
    (cases_lt i n)
