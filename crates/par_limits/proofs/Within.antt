-- The first distinct entries, found one by one.
use Rattle.std.proofs.Common.{◌≡◌, ℕ, ◌+◌, ◌<◌, ◌≤◌, Bool, true, false, List, [], ◌∷◌, ◌++◌, length}
use Rattle.std.proofs.Common.{take, get_or, refl, sym, ap, ◌∙◌, inl, inr, arith}
use Rattle.std.specs.Prelude.{nat_lt, if◌then◌else◌}
use Rattle.std.specs.List.{list_any}
use Rattle.std.specs.Borrow.{Bor}
use Rattle.std.proofs.lemmas.Bool.{cases_order}
use Rattle.std.proofs.lemmas.Bool.Decides.{nat_tests}
use Rattle.std.proofs.lemmas.List.{take-append-le, take_all, length-take-le, length-map}
use Rattle.std.proofs.lemmas.List.Sums.{fold-append}
use Rattle.std.proofs.lemmas.Grind.{common_steps}
use Rattle.par_resolved.specs.declared.entries.Entry.{Entry}
use Rattle.par_resolved.specs.Numbered.{same_policy, with_new, distinct}
use Rattle.par_parts.specs.Gathered.{all_of}
use Rattle.par_resolved.proofs.Loops.{take_more}
use Rattle.par_limits.specs.Within.{with_new_within}

above : (m n : ℕ) → m < n → nat_lt m n ≡ true
above m n h = grind (arith, nat_tests)

not_above : (m n : ℕ) → n ≤ m → nat_lt m n ≡ false
not_above m n h = grind (arith, nat_tests)

full : (m : ℕ) (es : List Entry) (e : Entry) → m < length es → with_new_within m es e ≡ es
unfolding with_new_within
full m es e h = ap (λ b. if b then es else with_new es e) (above m (length es) h)

room : (m : ℕ) (es : List Entry) (e : Entry) → length es ≤ m
    → with_new_within m es e ≡ with_new es e
unfolding with_new_within
room m es e h = ap (λ b. if b then es else with_new es e) (not_above m (length es) h)

known : (es : List Entry) (e : Entry) → list_any (λ f. same_policy e.policy f.policy) es ≡ true
    → with_new es e ≡ es
known es e h = ap (λ b. if b then es else es ++ e ∷ []) h

new : (es : List Entry) (e : Entry) → list_any (λ f. same_policy e.policy f.policy) es ≡ false
    → with_new es e ≡ es ++ e ∷ []
new es e h = ap (λ b. if b then es else es ++ e ∷ []) h

-- ---- of references

counted : (rs : List (Bor Entry)) → length (all_of rs) ≡ length rs
counted rs = length-map rs (λ (r : Bor Entry). r.now)

pub stays_full : (m : ℕ) (rs : List (Bor Entry)) (e : Entry) → m < length rs
    → all_of rs ≡ with_new_within m (all_of rs) e
stays_full m rs e h = sym (full m (all_of rs) e (omega (arith, h, counted rs)))

pub stays : (m : ℕ) (rs : List (Bor Entry)) (e : Entry) → length rs ≤ m
    → list_any (λ f. same_policy e.policy f.policy) (all_of rs) ≡ true
    → all_of rs ≡ with_new_within m (all_of rs) e
stays m rs e h k = sym (room m (all_of rs) e (omega (arith, h, counted rs)) ∙ known (all_of rs) e k)

one_ref : (rs : List (Bor Entry)) (r : Bor Entry) → all_of (rs ++ r ∷ []) ≡ all_of rs ++ r.now ∷ []
one_ref [] r = refl
one_ref (f ∷ rs) r = ap (λ xs. f.now ∷ xs) (one_ref rs r)

pub grows : (m : ℕ) (rs : List (Bor Entry)) (r : Bor Entry) → length rs ≤ m
    → list_any (λ f. same_policy r.now.policy f.policy) (all_of rs) ≡ false
    → all_of (rs ++ r ∷ []) ≡ with_new_within m (all_of rs) r.now
grows m rs r h k =
    one_ref rs r ∙ sym (room m (all_of rs) r.now (omega (arith, h, counted rs))
    ∙ new (all_of rs) r.now k)

-- ---- of all entries

longer : (b : Bool) (m : ℕ) (es : List Entry) (e : Entry) → m ≤ length es
    → take m (if b then es else es ++ e ∷ []) ≡ take m es
longer true m es e h = refl
longer false m es e h = take-append-le m es (e ∷ []) h

short : (b : Bool) (m : ℕ) (es : List Entry) (e : Entry) → length es ≤ m
    → length (if b then es else es ++ e ∷ []) ≤ m + 1
short true m es e h = omega (arith, h)
short false m es e h = grind (arith, common_steps)

within_at : (m : ℕ) (es : List Entry) (e : Entry)
    → with_new_within m (take (m + 1) es) e ≡ take (m + 1) (with_new es e)
within_at m es e = elim (cases_order m (length es)) [
  | inl same ↦ small (omega (arith, same))
  | inr (inl below) ↦ large below
  | inr (inr more) ↦ small (omega (arith, more))
]
  where
    there : Bool
    there = list_any (λ f. same_policy e.policy f.policy) es

    small : length es ≤ m → with_new_within m (take (m + 1) es) e ≡ take (m + 1) (with_new es e)
    small h =
        ap (λ xs. with_new_within m xs e) (take_all (m + 1) es (omega (arith, h))) ∙ room m es e h
        ∙ sym (take_all (m + 1) (with_new es e) (short there m es e h))

    large : m < length es → with_new_within m (take (m + 1) es) e ≡ take (m + 1) (with_new es e)
    large h =
        full m (take (m + 1) es) e (omega (arith, length-take-le (m + 1) es (omega (arith, h))))
        ∙ sym (longer there (m + 1) es e (omega (arith, h)))

pub distinct_more : (m : ℕ) (es : List Entry) (i : ℕ) (e : Entry) (old new : List Entry)
    → i < length es → e ≡ get_or es i e
    → old ≡ take (m + 1) (distinct (take i es)) → new ≡ with_new_within m old e
    → new ≡ take (m + 1) (distinct (take (i + 1) es))
distinct_more m es i e old new inside is so made =
    made ∙ ap (λ xs. with_new_within m xs e) so ∙ within_at m (distinct (take i es)) e
    ∙ ap (take (m + 1)) (sym (fold-append with_new [] (take i es) (e ∷ [])))
    ∙ ap (λ xs. take (m + 1) (distinct xs)) (sym (take_more es i e inside is))
