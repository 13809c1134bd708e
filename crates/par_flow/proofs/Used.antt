-- Each environment is that of a way that is kept, and as long as those.
use Rattle.std.proofs.Common.{◌≡◌, ℕ, zero, suc, ◌+◌, ◌<◌, ◌≤◌, Option, Some, None, List, [], ◌∷◌}
use Rattle.std.proofs.Common.{◌++◌, length, inl, inr, refl, sym, ap, ◌∙◌, subst, arith, ⊎_elim}
use Rattle.std.specs.Prelude.{slice_get, cond}
use Rattle.std.proofs.lemmas.Bool.{cases_lt, eq-eqb}
use Rattle.std.proofs.lemmas.List.{length_push}
use Rattle.std.proofs.lemmas.List.Elements.{All-push}
use Rattle.par_program_laws.specs.Kinds as kind
use Rattle.par_program_laws.specs.Kinds.{Throw}
use Rattle.par_envs.specs.Numbered.{Adds, AreDifferent, Names}
use Rattle.par_flow.specs.declared.kept.KeptWay.{KeptWay}
use Rattle.par_flow.specs.declared.kept.KeptWays.{KeptWays}
use Rattle.par_flow.specs.declared.table.Row.{Row}
use Rattle.par_flow.specs.Kept.{thrown, AddsOnly, AreLong, HasEnv, Leaves, Throws}
use Rattle.par_flow.specs.Table.{IsNamedIn, IsNamedAt}
use Rattle.par_flow.proofs.Ways.{or_else, thrown_more}

get_last : {A : Type 0} (xs : List A) (x : A) (n : ℕ) → n ≡ length xs
    → slice_get (xs ++ x ∷ []) n ≡ Some x
get_last [] x zero e = refl
get_last [] x (suc n) e = absurd (omega (arith, e))
get_last (y ∷ xs) x zero e = absurd (omega (arith, e))
get_last (y ∷ xs) x (suc n) e = get_last xs x n (omega (arith, e))

-- what is read of a list stands in a longer one
get_before : {A : Type 0} (xs : List A) (x : A) (P : Option A → Type 0) → (P None → ⊥) → (n : ℕ)
    → P (slice_get xs n) → P (slice_get (xs ++ x ∷ []) n)
get_before [] x P nothing n p = absurd (nothing p)
get_before (y ∷ xs) x P nothing zero p = p
get_before (y ∷ xs) x P nothing (suc n) p = get_before xs x P nothing n p

-- an environment that is added has the number that it gets
pub number_adds : (es fs : List (List ℕ)) (env : List ℕ) (k : ℕ) → AreDifferent fs
    → Names fs k env → Adds es fs env → AddsOnly es fs (λ n. k ≡ n)
number_adds es fs env k different names adds n l =
    ⊎_elim (λ same. inl (subst (λ gs. n < length gs) same l))
    (λ more. ⊎_elim (λ before. inl before) (λ past. inr (last more past)) (cases_lt n (length es)))
    adds where
      last : fs ≡ es ++ env ∷ [] → length es ≤ n → k ≡ n
      last more past =
          let many : length fs ≡ length es + 1 = ap length more ∙ length_push es env in
          let here : n ≡ length es = omega (arith, l, many, past) in
          different k n names.0 env names.1
          (ap (λ gs. slice_get gs n) more ∙ get_last es env n here) names.2

pub number_long : (es fs : List (List ℕ)) (env : List ℕ) (n : ℕ) → length env ≡ n
    → Adds es fs env → AreLong n es → AreLong n fs
number_long es fs env n e adds h =
    ⊎_elim (λ same. subst (AreLong n) (sym same) h)
    (λ more. subst (AreLong n) (sym more) (All-push (λ d. length d ≡ n) es env h e)) adds

pub adds_then : (es fs gs : List (List ℕ)) (P Q R : ℕ → Type 0) → AddsOnly es fs P
    → AddsOnly fs gs Q → ((n : ℕ) → P n → R n) → ((n : ℕ) → Q n → R n) → AddsOnly es gs R
adds_then es fs gs P Q R a b p q n l =
    ⊎_elim
    (λ before. ⊎_elim (λ first. inl first) (λ named. inr (p n named)) (a n before))
    (λ named. inr (q n named)) (b n l)

-- ---- throws

env_or : (o p : Option KeptWay) (n : ℕ) → HasEnv n o → HasEnv n (or_else o p)
env_or None p n h = absurd h
env_or (Some k) p n h = h

env_last : (o p : Option KeptWay) (n : ℕ) → o ≡ None → HasEnv n p → HasEnv n (or_else o p)
env_last None p n e h = h
env_last (Some k) p n e h = absurd (let g : Some k ≡ None = e in cc)

pub throws_still : (ts : List (ℕ × KeptWay)) (t : ℕ × KeptWay) (n : ℕ) → Throws n ts
    → Throws n (ts ++ t ∷ [])
throws_still ts t n h =
    (h.0, subst (HasEnv n) (sym (thrown_more ts t h.0)) (env_or _ _ n h.1))

pub throws_last : (ts : List (ℕ × KeptWay)) (class : ℕ) (k : KeptWay) (n : ℕ)
    → thrown ts class ≡ None → k.env ≡ n → Throws n (ts ++ (class, k) ∷ [])
throws_last ts class k n none e = (
  class,
  subst (HasEnv n) (sym (thrown_more ts (class, k) class))
      (env_last _ _ n none
      (subst (λ b. HasEnv n (cond b (Some k) None)) (sym (eq-eqb class class refl)) e)),
)

-- ---- rows

-- the exits of a kind one after the other, and then the throws
pub exits_add : (a b d e f g : List (List ℕ)) (ways : KeptWays)
    → AddsOnly a b (λ n. HasEnv n ways.normal) → AddsOnly b d (λ n. HasEnv n ways.ret)
    → AddsOnly d e (λ n. HasEnv n ways.brk) → AddsOnly e f (λ n. HasEnv n ways.cont)
    → AddsOnly f g (λ n. Throws n ways.throws) → AddsOnly a g (λ n. Leaves n ways)
exits_add a b d e f g ways normal ret brk cont throws =
    let R : ℕ → Type 0 = λ n. Leaves n ways in
    adds_then a b g (λ n. HasEnv n ways.normal) R R normal
    (adds_then b d g (λ n. HasEnv n ways.ret) R R ret
    (adds_then d e g (λ n. HasEnv n ways.brk) R R brk
    (adds_then e f g (λ n. HasEnv n ways.cont) (λ n. Throws n ways.throws) R cont throws
    (λ n h. (kind.Continue, h)) (λ n h. (Throw h.0, h.1)))
    (λ n h. (kind.Break, h)) (λ n h. h)) (λ n h. (kind.Return, h)) (λ n h. h))
    (λ n h. (kind.Normal, h)) (λ n h. h)

pub row_adds : (es fs gs : List (List ℕ)) (r : Row) → AddsOnly es fs (λ n. HasEnv n r.entry)
    → AddsOnly fs gs (λ n. Leaves n r.exits.value) → AddsOnly es gs (λ n. IsNamedIn n r)
row_adds es fs gs r entry exits =
    adds_then es fs gs (λ n. HasEnv n r.entry) (λ n. Leaves n r.exits.value) (λ n. IsNamedIn n r)
    entry exits (λ n h. inl h) (λ n h. inr h)

-- one more row
pub used_more : (es fs : List (List ℕ)) (rs ss : List Row) (r : Row) → ss ≡ rs ++ r ∷ []
    → AddsOnly es fs (λ n. IsNamedIn n r)
    → ((n : ℕ) → n < length es → (p : ℕ) × IsNamedAt n (slice_get rs p)) → (n : ℕ) → n < length fs
    → (p : ℕ) × IsNamedAt n (slice_get ss p)
used_more es fs rs ss r is adds used n l =
    ⊎_elim (λ before. earlier (used n before)) (λ named. (length rs, here named)) (adds n l) where
      earlier : (p : ℕ) × IsNamedAt n (slice_get rs p) → (p : ℕ) × IsNamedAt n (slice_get ss p)
      earlier h = (
        h.0,
        subst (λ qs. IsNamedAt n (slice_get qs h.0)) (sym is)
            (get_before rs r (IsNamedAt n) (λ f. f) h.0 h.1),
      )

      here : IsNamedIn n r → IsNamedAt n (slice_get ss (length rs))
      here named =
          subst (IsNamedAt n)
          (sym (ap (λ qs. slice_get qs (length rs)) is ∙ get_last rs r (length rs) refl)) named
