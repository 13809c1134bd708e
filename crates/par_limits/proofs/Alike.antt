-- Policies are compared clause by clause.
use Rattle.std.proofs.Common.{◌≡◌, ◌≢◌, ℕ, suc, ◌+◌, ◌<◌, ◌≤◌, Bool, true, false, ◌&&◌, ◌||◌, List}
use Rattle.std.proofs.Common.{[], ◌∷◌, length, drop, get_or, refl, sym, ap, ◌∙◌}
use Rattle.std.specs.List.{list_any}
use Rattle.std.specs.Borrow.{Bor}
use Rattle.par_typed.specs.par_policy.declared.clauses.Clause.{Clause}
use Rattle.par_resolved.specs.Numbered.{same_clause, same_policy}
use Rattle.par_parts.specs.Gathered.{all_of}
use Rattle.par_resolved.proofs.Loops.{drop_more, none_left}

and_false : (b : Bool) → (b && false) ≡ false
and_false true = refl
and_false false = refl

pub unlike : (p q : List Clause) → length p ≢ length q → same_policy p q ≡ false
unlike [] [] h = absurd (h refl)
unlike [] (d ∷ q) h = refl
unlike (c ∷ p) [] h = refl
unlike (c ∷ p) (d ∷ q) h =
    ap (λ b. same_clause c d && b) (unlike p q (λ e. h (ap suc e))) ∙ and_false (same_clause c d)

one_more : (p q : List Clause) (i : ℕ) (c d : Clause) → i < length p → i < length q
    → c ≡ get_or p i c → d ≡ get_or q i d
    → same_policy (drop i p) (drop i q)
    ≡ (same_clause c d && same_policy (drop (i + 1) p) (drop (i + 1) q))
one_more p q i c d in_p in_q is_c is_d =
    ap (λ xs. same_policy xs (drop i q)) (drop_more p i c in_p is_c)
    ∙ ap (λ ys. same_policy (c ∷ drop (i + 1) p) ys) (drop_more q i d in_q is_d)

pub differ : (p q : List Clause) (i : ℕ) (c d : Clause) (whole : Bool) → i < length p → i < length q
    → c ≡ get_or p i c → d ≡ get_or q i d
    → same_clause c d ≡ false → same_policy (drop i p) (drop i q) ≡ whole → false ≡ whole
differ p q i c d whole in_p in_q is_c is_d h so =
    ap (λ b. b && same_policy (drop (i + 1) p) (drop (i + 1) q)) (sym h)
    ∙ sym (one_more p q i c d in_p in_q is_c is_d) ∙ so

pub agree : (p q : List Clause) (i : ℕ) (c d : Clause) (whole : Bool) → i < length p → i < length q
    → c ≡ get_or p i c → d ≡ get_or q i d
    → same_clause c d ≡ true → same_policy (drop i p) (drop i q) ≡ whole
    → same_policy (drop (i + 1) p) (drop (i + 1) q) ≡ whole
agree p q i c d whole in_p in_q is_c is_d h so =
    ap (λ b. b && same_policy (drop (i + 1) p) (drop (i + 1) q)) (sym h)
    ∙ sym (one_more p q i c d in_p in_q is_c is_d) ∙ so

pub all_same : (p q : List Clause) (i : ℕ) (whole : Bool) → length p ≤ i → length q ≤ i
    → same_policy (drop i p) (drop i q) ≡ whole → true ≡ whole
all_same p q i whole past_p past_q so =
    ap (λ xs. same_policy xs []) (sym (none_left p i past_p))
    ∙ ap (same_policy (drop i p)) (sym (none_left q i past_q)) ∙ so

-- ---- the search among references

pub any_here : {A : Type 0} (t : A → Bool) (xs : List (Bor A)) (i : ℕ) (r : Bor A) (whole : Bool)
    → i < length xs → r ≡ get_or xs i r
    → t r.now ≡ true → list_any t (all_of (drop i xs)) ≡ whole → true ≡ whole
any_here t xs i r whole inside is h so =
    let rest = list_any t (all_of (drop (i + 1) xs)) in
    ap (λ b. b || rest) (sym h) ∙ ap (λ ys. list_any t (all_of ys))
    (sym (drop_more xs i r inside is)) ∙ so

pub any_later : {A : Type 0} (t : A → Bool) (xs : List (Bor A)) (i : ℕ) (r : Bor A) (whole : Bool)
    → i < length xs → r ≡ get_or xs i r
    → t r.now ≡ false → list_any t (all_of (drop i xs)) ≡ whole
    → list_any t (all_of (drop (i + 1) xs)) ≡ whole
any_later t xs i r whole inside is h so =
    let rest = list_any t (all_of (drop (i + 1) xs)) in
    ap (λ b. b || rest) (sym h) ∙ ap (λ ys. list_any t (all_of ys))
    (sym (drop_more xs i r inside is)) ∙ so

pub any_none : {A : Type 0} (t : A → Bool) (xs : List (Bor A)) (i : ℕ) (whole : Bool)
    → length xs ≤ i → list_any t (all_of (drop i xs)) ≡ whole → false ≡ whole
any_none t xs i whole past so = ap (λ ys. list_any t (all_of ys)) (sym (none_left xs i past)) ∙ so
