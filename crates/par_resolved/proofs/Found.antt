-- The first that passes a test, in two lists one behind the other.
use Rattle.std.proofs.Common.{◌≡◌, ℕ, ◌+◌, ◌<◌, ◌≤◌, Bool, true, false, cond, List, [], ◌∷◌, ◌++◌}
use Rattle.std.proofs.Common.{length, drop, get_or, Option, Some, None, refl, sym, ap, ◌∙◌}
use Rattle.std.specs.Prelude.{find}
use Rattle.std.specs.Borrow.{Bor}
use Rattle.std.specs.List.{flat_map}
use Rattle.par_refusals.specs.declared.refusal.Refusal.{Refusal}
use Rattle.par_refusals.specs.First.{first_of}
use Rattle.par_refusals.proofs.First.{first_of_none, first_of_append}
use Rattle.par_parts.specs.Gathered.{all_of}
use Rattle.par_resolved.proofs.Loops.{drop_more, none_left}

pub find_later : {A : Type 0} (p : A → Bool) (xs ys : List A) → find p xs ≡ None
    → find p (xs ++ ys) ≡ find p ys
find_later p [] ys h = refl
find_later {A} p (x ∷ xs) ys h = in_case (p x) h (find_later p xs ys)
  where
    in_case : (b : Bool) → cond b (Some x) (find p xs) ≡ None
        → (find p xs ≡ None → find p (xs ++ ys) ≡ find p ys)
        → cond b (Some x) (find p (xs ++ ys)) ≡ find p ys
    in_case true h later = absurd (cc h)
    in_case false h later = later h

pub find_here : {A : Type 0} (p : A → Bool) (xs ys : List A) (x : A) → find p xs ≡ Some x
    → find p (xs ++ ys) ≡ Some x
find_here p [] ys y h = absurd (cc h)
find_here {A} p (x ∷ xs) ys y h = in_case (p x) h (find_here p xs ys y)
  where
    in_case : (b : Bool) → cond b (Some x) (find p xs) ≡ Some y
        → (find p xs ≡ Some y → find p (xs ++ ys) ≡ Some y)
        → cond b (Some x) (find p (xs ++ ys)) ≡ Some y
    in_case true h later = h
    in_case false h later = later h

-- a search that goes on behind an item, and one that ends at it
pub search_on : {A B : Type 0} (p : B → Bool) (f : A → List B) (xs : List A) (i : ℕ) (x : A)
    (whole : Option B) → i < length xs → x ≡ get_or xs i x
    → None ≡ find p (f x) → find p (flat_map f (drop i xs)) ≡ whole
    → find p (flat_map f (drop (i + 1) xs)) ≡ whole
search_on p f xs i x whole inside is none so =
    sym (ap (λ ys. find p (flat_map f ys)) (drop_more xs i x inside is)
    ∙ find_later p (f x) (flat_map f (drop (i + 1) xs)) (sym none)) ∙ so

pub search_ends : {A B : Type 0} (p : B → Bool) (f : A → List B) (xs : List A) (i : ℕ) (x : A)
    (y : B) (whole : Option B) → i < length xs → x ≡ get_or xs i x
    → Some y ≡ find p (f x) → find p (flat_map f (drop i xs)) ≡ whole → Some y ≡ whole
search_ends p f xs i x y whole inside is here so =
    sym (ap (λ ys. find p (flat_map f ys)) (drop_more xs i x inside is)
    ∙ find_here p (f x) (flat_map f (drop (i + 1) xs)) y (sym here)) ∙ so

-- the broken rules of one item more are noted
pub note_more : {A : Type 0} (f : A → List Refusal) (xs : List (Bor A)) (i : ℕ) (r : Bor A)
    (old new whole : Option Refusal) → i < length xs → r ≡ get_or xs i r
    → new ≡ first_of old (f r.now) → first_of old (flat_map f (all_of (drop i xs))) ≡ whole
    → first_of new (flat_map f (all_of (drop (i + 1) xs))) ≡ whole
note_more f xs i r old new whole inside is noted so =
    let rest = flat_map f (all_of (drop (i + 1) xs)) in
    ap (λ o. first_of o rest) noted ∙ sym (first_of_append old (f r.now) rest)
    ∙ ap (λ ys. first_of old (flat_map f (all_of ys))) (sym (drop_more xs i r inside is)) ∙ so

-- those of all are noted
pub noted_all : {A : Type 0} (f : A → List Refusal) (xs : List (Bor A)) (i : ℕ)
    (old whole : Option Refusal) → length xs ≤ i
    → first_of old (flat_map f (all_of (drop i xs))) ≡ whole → old ≡ whole
noted_all f xs i old whole past so =
    sym (first_of_none old) ∙ ap (λ ys. first_of old (flat_map f (all_of ys)))
    (sym (none_left xs i past)) ∙ so
