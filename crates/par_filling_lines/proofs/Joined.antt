-- Texts with another between each two, as they are added one after the other.
use Rattle.std.proofs.Common.{◌≡◌, ℕ, ◌≤◌, List, [], ◌∷◌, ◌++◌, length, map, take, refl, sym, ap}
use Rattle.std.proofs.Common.{◌∙◌}
use Rattle.std.proofs.lemmas.List.{append_assoc, take_all}
use Rattle.std.specs.List.{flat_map}
use Rattle.par_event_lines.specs.Texts.{Text}
use Rattle.par_filling_lines.specs.Texts.{joined_by}

each_behind : {A : Type 0} (between : Text) (text : A → Text) (xs : List A)
    → flat_map (λ next. between ++ next) (map text xs) ≡ flat_map (λ y. between ++ text y) xs
each_behind between text [] = refl
each_behind between text (x ∷ xs) =
    ap (λ (t : Text). (between ++ text x) ++ t) (each_behind between text xs)

-- all of a list, where the first of it is added, and then each of the rest
pub joined-all : {A : Type 0} (between : Text) (text : A → Text) (x : A) (xs all : List A)
    (old first new : Text) (i : ℕ)
    → all ≡ x ∷ xs → first ≡ old ++ text x
    → new ≡ first ++ flat_map (λ y. between ++ text y) (take i xs) → length xs ≤ i
    → new ≡ old ++ joined_by between (map text all)
joined-all {A = A} between text x xs all old first new i is added rest whole =
    rest
    ∙ ap (λ (ys : List A). first ++ flat_map (λ y. between ++ text y) ys) (take_all i xs whole)
    ∙ ap (λ (t : Text). t ++ flat_map (λ y. between ++ text y) xs) added
    ∙ append_assoc old (text x) (flat_map (λ y. between ++ text y) xs)
    ∙ ap (λ (t : Text). old ++ (text x ++ t)) (sym (each_behind between text xs))
    ∙ ap (λ (ys : List A). old ++ joined_by between (map text ys)) (sym is)
