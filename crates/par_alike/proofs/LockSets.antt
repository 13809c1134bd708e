-- Locks that are opened and closed.
use Rattle.std.proofs.Common.{◌≡◌, ℕ, Bool, true, false, cond, ◌&&◌, ◌||◌, not, ◌⊎◌, inl, inr}
use Rattle.std.proofs.Common.{List, [], ◌∷◌, refl, sym, subst, ◌∙◌}
use Rattle.std.specs.Prelude.{IsTrue, nat_eq, nat_lt, ◌==◌}
use Rattle.par_check_laws.proofs.par_pass_laws.Along.{and_l, and_r}
use Rattle.std.proofs.lemmas.Bool.{and_from, or_left, or_right, eqb-true, eq-eqb, cond_both}
use Rattle.par_policy.specs.Numbers.{has}
use Rattle.par_run_laws.specs.State.{opened, closed}

-- one of two that hold
pub or_cases : (a b : Bool) → IsTrue (a || b) → IsTrue a ⊎ IsTrue b
or_cases true b h = inl refl
or_cases false b h = inr h

-- what is false does not hold
pub not_true : (a : Bool) → IsTrue (not a) → IsTrue a → ⊥
not_true true h k = cc
not_true false h k = cc

-- what does not hold is false
pub is_not : (a : Bool) → (IsTrue a → ⊥) → IsTrue (not a)
is_not true h = absurd (h refl)
is_not false h = refl

pub or_false : (a : Bool) → (a || false) ≡ a
or_false true = refl
or_false false = refl

-- two truth values that follow from each other are equal
pub same_bool : (a b : Bool) → (IsTrue a → IsTrue b) → (IsTrue b → IsTrue a) → a ≡ b
same_bool true b f g = sym (f refl)
same_bool false true f g = g refl
same_bool false false f g = refl

-- locks that are opened and closed
has_new : (l : ℕ) (ls : List ℕ) → IsTrue (has (opened l ls) l)
has_new l [] = or_left (nat_eq l l) false (eq-eqb l l refl)
has_new l (m ∷ ms) =
    let P : List ℕ → Type 0 = λ ls. IsTrue (has ls l) in
    let behind : IsTrue (has (m ∷ opened l ms) l) = or_right (nat_eq m l) _ (has_new l ms) in
    cond_both (l == m) (m ∷ ms) _ P
    (λ e. or_left (nat_eq m l) _ (eq-eqb m l (cc (eqb-true l m e))))
    (λ e. cond_both (nat_lt l m) (l ∷ m ∷ ms) (m ∷ opened l ms) P
    (λ e. or_left (nat_eq l l) _ (eq-eqb l l refl)) (λ e. behind))

-- what was open stays open
pub has_old : (l : ℕ) (ls : List ℕ) (k : ℕ) → IsTrue (has ls k) → IsTrue (has (opened l ls) k)
has_old l [] k h = or_right (nat_eq l k) false h
has_old l (m ∷ ms) k h =
    let P : List ℕ → Type 0 = λ ls. IsTrue (has ls k) in
    let behind : IsTrue (has (m ∷ opened l ms) k) = elim (or_cases (nat_eq m k) (has ms k) h)
    [ inl e ↦ or_left (nat_eq m k) _ e | inr e ↦ or_right (nat_eq m k) _ (has_old l ms k e) ] in
    cond_both (l == m) (m ∷ ms) _ P (λ e. h)
    (λ e. cond_both (nat_lt l m) (l ∷ m ∷ ms) (m ∷ opened l ms) P (λ e. or_right (nat_eq l k) _ h)
    (λ e. behind))

pub has_either : (l : ℕ) (ls : List ℕ) (k : ℕ) → IsTrue (has (opened l ls) k)
    → IsTrue (has ls k) ⊎ (k ≡ l)
has_either l [] k h =
    elim (or_cases (nat_eq l k) false h) [ inl e ↦ inr (sym (eqb-true l k e)) | inr e ↦ inl e ]
has_either l (m ∷ ms) k has_it =
    let P : List ℕ → Type 0 = λ ls. IsTrue (has ls k) → IsTrue (has (m ∷ ms) k) ⊎ (k ≡ l) in
    let behind : IsTrue (has (m ∷ opened l ms) k) → IsTrue (has (m ∷ ms) k) ⊎ (k ≡ l) = λ h. elim
    (or_cases (nat_eq m k) (has (opened l ms) k) h) [
      | inl e ↦ inl (or_left (nat_eq m k) _ e)
      | inr e ↦ elim (has_either l ms k e)
          [ inl old ↦ inl (or_right (nat_eq m k) _ old) | inr new ↦ inr new ]
    ] in
    cond_both (l == m) (m ∷ ms) _ P (λ e h. inl h)
    (λ e. cond_both (nat_lt l m) (l ∷ m ∷ ms) (m ∷ opened l ms) P
    (λ e h. elim (or_cases (nat_eq l k) (has (m ∷ ms) k) h)
    [ inl new ↦ inr (sym (eqb-true l k new)) | inr old ↦ inl old ]) (λ e. behind)) has_it

-- open is what was open, and the lock that is opened
pub opened_has : (l : ℕ) (ls : List ℕ) (k : ℕ) → has (opened l ls) k ≡ (has ls k || nat_eq k l)
opened_has l ls k =
    same_bool _ _
    (λ h. elim (has_either l ls k h)
    [ inl e ↦ or_left _ (nat_eq k l) e | inr e ↦ or_right (has ls k) _ (eq-eqb k l e) ])
    (λ h. elim (or_cases (has ls k) (nat_eq k l) h) [
      | inl e ↦ has_old l ls k e
      | inr e ↦ subst (λ m. IsTrue (has (opened l ls) m)) (sym (eqb-true k l e)) (has_new l ls)
    ])

closed_step : (b : Bool) (m l k : ℕ) (ms : List ℕ) → (nat_eq m l ≡ b)
    → has (closed l ms) k ≡ (has ms k && not (nat_eq k l))
    → has (cond (not b) (m ∷ closed l ms) (closed l ms)) k ≡
    ((nat_eq m k || has ms k) && not (nat_eq k l))
closed_step true m l k ms e h =
    same_bool _ _
    (λ p.
    let q : IsTrue (has ms k && not (nat_eq k l)) = subst IsTrue h p in
    and_from _ _ (or_right (nat_eq m k) _ (and_l _ _ q)) (and_r (has ms k) _ q))
    (λ p. elim (or_cases (nat_eq m k) (has ms k) (and_l _ _ p)) [
      | inl s ↦
          absurd (not_true (nat_eq k l) (and_r (nat_eq m k || has ms k) _ p)
          (eq-eqb k l (sym (eqb-true m k s) ∙ eqb-true m l e)))
      | inr s ↦ subst IsTrue (sym h) (and_from _ _ s (and_r (nat_eq m k || has ms k) _ p))
    ])
closed_step false m l k ms e h =
    same_bool _ _
    (λ p. elim (or_cases (nat_eq m k) (has (closed l ms) k) p) [
      | inl s ↦
          and_from _ _ (or_left _ (has ms k) s)
          (is_not _
          (λ r. let f : IsTrue (nat_eq m l) = eq-eqb m l (eqb-true m k s ∙ eqb-true k l r) in cc))
      | inr s ↦
          let q : IsTrue (has ms k && not (nat_eq k l)) = subst IsTrue h s in
          and_from _ _ (or_right (nat_eq m k) _ (and_l _ _ q)) (and_r (has ms k) _ q)
    ]) (λ p. elim (or_cases (nat_eq m k) (has ms k) (and_l _ _ p)) [
      | inl s ↦ or_left _ (has (closed l ms) k) s
      | inr s ↦
          or_right (nat_eq m k) _
          (subst IsTrue (sym h) (and_from _ _ s (and_r (nat_eq m k || has ms k) _ p)))
    ])

-- and what was open but the lock that is closed
pub closed_has : (l : ℕ) (ls : List ℕ) (k : ℕ)
    → has (closed l ls) k ≡ (has ls k && not (nat_eq k l))
closed_has l [] k = refl
closed_has l (m ∷ ms) k = closed_step (nat_eq m l) m l k ms refl (closed_has l ms k)
