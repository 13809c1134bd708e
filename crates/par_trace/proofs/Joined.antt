-- Texts with a byte between each two, as they are added one after the other.
use Rattle.std.proofs.Common.{◌≡◌, ℕ, ◌≤◌, List, [], ◌∷◌, ◌++◌, length, map, take, sym, ap, ◌∙◌}
use Rattle.std.proofs.lemmas.List.{append-nil, append_assoc, take_all}
use Rattle.std.specs.List.{flat_map, join_with_byte}
use Rattle.par_event_lines.specs.Texts.{Text}

-- the first, and then each other one behind a byte
pub joined-first : {A : Type 0} (byte : ℕ) (text : A → Text) (x : A) (xs : List A)
    → join_with_byte byte (map text (x ∷ xs)) ≡ text x ++ flat_map (λ y. byte ∷ text y) xs
joined-first byte text x [] = sym (append-nil (text x))
joined-first byte text x (y ∷ ys) =
    ap (λ (t : Text). text x ++ (byte ∷ t)) (joined-first byte text y ys)

-- all of a list, where the first of it is added, and then each of the rest
pub joined-all : {A : Type 0} (byte : ℕ) (text : A → Text) (x : A) (xs all : List A)
    (old first new : Text) (i : ℕ)
    → all ≡ x ∷ xs → first ≡ old ++ text x
    → new ≡ first ++ flat_map (λ y. byte ∷ text y) (take i xs) → length xs ≤ i
    → new ≡ old ++ join_with_byte byte (map text all)
joined-all {A = A} byte text x xs all old first new i is added rest whole =
    rest ∙ ap (λ (ys : List A). first ++ flat_map (λ y. byte ∷ text y) ys) (take_all i xs whole)
    ∙ ap (λ (t : Text). t ++ flat_map (λ y. byte ∷ text y) xs) added
    ∙ append_assoc old (text x) (flat_map (λ y. byte ∷ text y) xs)
    ∙ ap (λ (t : Text). old ++ t)
    (sym (joined-first byte text x xs)
    ∙ ap (λ (ys : List A). join_with_byte byte (map text ys)) (sym is))
