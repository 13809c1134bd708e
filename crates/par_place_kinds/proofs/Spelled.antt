-- Kinds as bytes are the kinds.
use Rattle.std.proofs.Common.{◌≡◌, ℕ, suc, ◌+◌, ◌-◌, true, false, List, [], ◌∷◌, ◌++◌, length}
use Rattle.std.proofs.Common.{map, take, drop, refl, sym, ap, ◌∙◌, arith}
use Rattle.std.proofs.lemmas.List.{append-nil, append_assoc}
use Rattle.par_kinds.specs.declared.frame.VKind.{VKind}
use Rattle.par_kinds.specs.declared.frame.VKind.TheVariants.{Top, Int, Null, Object, Base}
use Rattle.par_place_kinds.specs.Spelled.{shape_of, name_of, names_of, kind_spelled, spelled}

take-name : (name ns : List ℕ) → take (length name) (name ++ ns) ≡ name
take-name [] ns = refl
take-name (b ∷ name) ns = ap (λ (bs : List ℕ). b ∷ bs) (take-name name ns)

drop-name : (name ns : List ℕ) → drop (length name) (name ++ ns) ≡ ns
drop-name [] ns = refl
drop-name (b ∷ name) ns = drop-name name ns

-- what is spelled can be read
pub spelled_is : (ks : List VKind) → spelled (map shape_of ks) (names_of ks) ≡ ks
spelled_is [] = refl
spelled_is (Top ∷ ks) = ap (λ (ls : List VKind). Top ∷ ls) (spelled_is ks)
spelled_is (Int ∷ ks) = ap (λ (ls : List VKind). Int ∷ ls) (spelled_is ks)
spelled_is (Null ∷ ks) = ap (λ (ls : List VKind). Null ∷ ls) (spelled_is ks)
spelled_is (Base true ∷ ks) = ap (λ (ls : List VKind). Base true ∷ ls) (spelled_is ks)
spelled_is (Base false ∷ ks) = ap (λ (ls : List VKind). Base false ∷ ls) (spelled_is ks)
spelled_is (Object name ∷ ks) =
    let named : 5 + length name ≡ suc (suc (suc (suc (suc (length name))))) = omega arith in
    let many : 5 + length name - 5 ≡ length name = omega arith in
    let all : List ℕ = name ++ names_of ks in
    ap (λ (n : ℕ). kind_spelled n all ∷ spelled (map shape_of ks) (drop (5 + length name - 5) all))
    named
    ∙ ap (λ (bs : List ℕ). Object bs ∷ spelled (map shape_of ks)
    (drop (5 + length name - 5) all)) (take-name name (names_of ks))
    ∙ ap (λ (n : ℕ). Object name ∷ spelled (map shape_of ks) (drop n all)) many
    ∙ ap (λ (bs : List ℕ). Object name ∷ spelled (map shape_of ks) bs)
    (drop-name name (names_of ks))
    ∙ ap (λ (ls : List VKind). Object name ∷ ls) (spelled_is ks)

-- names of kinds, one behind another
pub names_more : (ks : List VKind) (k : VKind)
    → names_of (ks ++ k ∷ []) ≡ names_of ks ++ name_of k
names_more [] k = append-nil (name_of k)
names_more (l ∷ ks) k =
    ap (λ (bs : List ℕ). name_of l ++ bs) (names_more ks k)
    ∙ sym (append_assoc (name_of l) (names_of ks) (name_of k))
