-- What is found while a list is gone over: by what was gone over, or with what is left.
use Rattle.std.proofs.Common.{◌≡◌, ℕ, ◌+◌, ◌<◌, ◌≤◌, List, [], ◌∷◌, ◌++◌, length, take, drop, map}
use Rattle.std.proofs.Common.{get_or, sym, ap, ◌∙◌, append_assoc, append-nil}
use Rattle.std.proofs.lemmas.List.{drop_all, take_all, map_push, map_more}
use Rattle.par_names.proofs.Left.{dropped}

-- one item more is gone over, and what is made of it is found
pub one_found : {X A B : Type 0} (f : A → B) (g : X → B) (xs : List X) (i : ℕ) (x : X)
    (found new : List A) (a : A)
    → i < length xs → x ≡ get_or xs i x → new ≡ found ++ a ∷ [] → f a ≡ g x
    → map f found ≡ map g (take i xs) → map f new ≡ map g (take (i + 1) xs)
one_found f g xs i x found new a inside is pushed same so =
    ap (map f) pushed ∙ map_push f found a ∙ ap (λ bs. bs ++ f a ∷ []) so
    ∙ ap (λ b. map g (take i xs) ++ b ∷ []) (same ∙ ap g is) ∙ sym (map_more g xs i x inside)

-- the same, behind what was found before
pub one_behind : {X A B : Type 0} (f : A → B) (g : X → B) (xs : List X) (i : ℕ) (x : X)
    (before : List B) (found new : List A) (a : A)
    → i < length xs → x ≡ get_or xs i x → new ≡ found ++ a ∷ [] → f a ≡ g x
    → map f found ≡ before ++ map g (take i xs)
    → map f new ≡ before ++ map g (take (i + 1) xs)
one_behind f g xs i x before found new a inside is pushed same so =
    ap (map f) pushed ∙ map_push f found a ∙ ap (λ bs. bs ++ f a ∷ []) so
    ∙ append_assoc before (map g (take i xs)) (f a ∷ [])
    ∙ ap (λ bs. before ++ bs)
    (ap (λ b. map g (take i xs) ++ b ∷ []) (same ∙ ap g is) ∙ sym (map_more g xs i x inside))

-- all are gone over
pub all_found : {X B : Type 0} (g : X → B) (xs : List X) (i : ℕ) (bs : List B) → length xs ≤ i
    → bs ≡ map g (take i xs) → bs ≡ map g xs
all_found g xs i bs past so = so ∙ ap (map g) (take_all i xs past)

-- what one item more gives is found, and one fewer is left
pub one_fewer : {X B : Type 0} (left : List X → List B) (xs : List X) (i : ℕ) (x : X)
    (found new whole bs : List B)
    → i < length xs → x ≡ get_or xs i x → new ≡ found ++ bs
    → left (x ∷ drop (i + 1) xs) ≡ bs ++ left (drop (i + 1) xs)
    → found ++ left (drop i xs) ≡ whole → new ++ left (drop (i + 1) xs) ≡ whole
one_fewer left xs i x found new whole bs inside is pushed next so =
    ap (λ ys. ys ++ left (drop (i + 1) xs)) pushed
    ∙ append_assoc found bs (left (drop (i + 1) xs))
    ∙ ap (λ ys. found ++ ys) (sym next)
    ∙ ap (λ ys. found ++ left ys) (sym (dropped xs i x inside is)) ∙ so

-- none is left
pub none_left : {X B : Type 0} (left : List X → List B) (xs : List X) (i : ℕ)
    (found whole : List B)
    → length xs ≤ i → left [] ≡ [] → found ++ left (drop i xs) ≡ whole → found ≡ whole
none_left left xs i found whole past none so =
    sym (append-nil found) ∙ ap (λ bs. found ++ bs) (sym (ap left (drop_all i xs past) ∙ none)) ∙ so

-- all are gone over, behind what was found before
pub all_behind : {X B : Type 0} (g : X → B) (xs : List X) (i : ℕ) (before bs : List B)
    → length xs ≤ i → bs ≡ before ++ map g (take i xs) → bs ≡ before ++ map g xs
all_behind g xs i before bs past so = so ∙ ap (λ ys. before ++ map g ys) (take_all i xs past)
