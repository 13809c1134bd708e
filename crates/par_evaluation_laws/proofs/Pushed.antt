-- Operands that were pushed one after another.
use Rattle.std.proofs.Common.{◌≡◌, ℕ, suc, ◌+◌, Bool, true, false, ◌&&◌, List, [], ◌∷◌, ◌++◌}
use Rattle.std.proofs.Common.{length, take, drop, reverse, Some, refl, ap, sym, ◌∙◌, arith}
use Rattle.std.proofs.Common.{append_assoc}
use Rattle.std.specs.List.{slice_get}
use Rattle.std.proofs.lemmas.List.{reverse-append, reverse-reverse, append-nil}
use Rattle.par_run_laws.specs.par_values.declared.kind.Kind.{Kind}
use Rattle.par_run_laws.specs.par_values.declared.value.MVal.{MVal}
use Rattle.par_run_laws.specs.par_values.Areas.{Name, fits}
use Rattle.par_run_laws.specs.par_values.Reasons.{all_fit}

-- the first of these was pushed first
abbrev pub pushed : {A : Type 0} → List A → List A → List A
pushed [] ys = ys
pushed (x ∷ xs) ys = pushed xs (x ∷ ys)

pub pushed_is : {A : Type 0} (xs ys : List A) → pushed xs ys ≡ reverse xs ++ ys
pushed_is [] ys = refl
pushed_is (x ∷ xs) ys =
    pushed_is xs (x ∷ ys) ∙ sym (append_assoc (reverse xs) (x ∷ []) ys)
    ∙ ap (λ l. l ++ ys) (sym (reverse-append (x ∷ []) xs))

pub pushed_length : {A : Type 0} (xs ys : List A) → length (pushed xs ys) ≡ length xs + length ys
pushed_length [] ys = omega arith
pushed_length (x ∷ xs) ys = let e = pushed_length xs (x ∷ ys) in omega (arith, e)

take_more : {A : Type 0} (xs ys : List A) (m n : ℕ) → m ≡ length xs + n
    → take m (pushed xs ys) ≡ pushed xs (take n ys)
take_more [] ys m n e = let z : m ≡ n = omega (arith, e) in ap (λ m. take m ys) z
take_more (x ∷ xs) ys m n e = take_more xs (x ∷ ys) m (suc n) (omega (arith, e))

drop_more : {A : Type 0} (xs ys : List A) (m n : ℕ) → m ≡ length xs + n
    → drop m (pushed xs ys) ≡ drop n ys
drop_more [] ys m n e = let z : m ≡ n = omega (arith, e) in ap (λ m. drop m ys) z
drop_more (x ∷ xs) ys m n e = drop_more xs (x ∷ ys) m (suc n) (omega (arith, e))

get_more : {A : Type 0} (xs ys : List A) (m n : ℕ) → m ≡ length xs + n
    → slice_get (pushed xs ys) m ≡ slice_get ys n
get_more [] ys m n e = let z : m ≡ n = omega (arith, e) in ap (λ m. slice_get ys m) z
get_more (x ∷ xs) ys m n e = get_more xs (x ∷ ys) m (suc n) (omega (arith, e))

-- they are taken in the order of their pushing
pub pushed_taken : {A : Type 0} (xs ys : List A) (n : ℕ) → n ≡ length xs
    → reverse (take n (pushed xs ys)) ≡ xs
pushed_taken xs ys n e =
    ap reverse (take_more xs ys n 0 (omega (arith, e)))
    ∙ ap reverse (pushed_is xs [] ∙ append-nil (reverse xs)) ∙ reverse-reverse xs

-- what is left
pub pushed_left : {A : Type 0} (xs ys : List A) (n : ℕ) → n ≡ length xs → drop n (pushed xs ys) ≡ ys
pushed_left xs ys n e = drop_more xs ys n 0 (omega (arith, e))

-- what was pushed before them
pub pushed_before : {A : Type 0} (xs : List A) (y : A) (ys : List A) (n : ℕ) → n ≡ length xs
    → slice_get (pushed xs (y ∷ ys)) n ≡ Some y
pushed_before xs y ys n e = get_more xs (y ∷ ys) n 0 (omega (arith, e))

-- values that fit kinds one by one
abbrev pub EachFits : List Name → List Kind → List MVal → Type 0
EachFits ns [] [] = Unit {0}
EachFits ns [] (v ∷ vs) = ⊥
EachFits ns (k ∷ ks) [] = ⊥
EachFits ns (k ∷ ks) (v ∷ vs) = (fits ns k v ≡ true) × EachFits ns ks vs

pub each_length : (ns : List Name) (ks : List Kind) (vs : List MVal) → EachFits ns ks vs
    → length ks ≡ length vs
each_length ns [] [] h = refl
each_length ns [] (v ∷ vs) h = absurd h
each_length ns (k ∷ ks) [] h = absurd h
each_length ns (k ∷ ks) (v ∷ vs) h = ap suc (each_length ns ks vs h.1)

both : (a b : Bool) → a ≡ true → b ≡ true → (a && b) ≡ true
both true true e f = refl
both true false e f = f
both false b e f = e

pub pushed_fit : (ns : List Name) (ks ls : List Kind) (vs ws : List MVal) → EachFits ns ks vs
    → all_fit ns ls ws ≡ true
    → all_fit ns (pushed ks ls) (pushed vs ws) ≡ true
pushed_fit ns [] ls [] ws h e = e
pushed_fit ns [] ls (v ∷ vs) ws h e = absurd h
pushed_fit ns (k ∷ ks) ls [] ws h e = absurd h
pushed_fit ns (k ∷ ks) ls (v ∷ vs) ws h e =
    pushed_fit ns ks (k ∷ ls) vs (v ∷ ws) h.1 (both (fits ns k v) (all_fit ns ls ws) h.0 e)
