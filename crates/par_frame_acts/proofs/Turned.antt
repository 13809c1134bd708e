-- Arguments, the last first.
use Rattle.std.proofs.Common.{◌≡◌, List, [], ◌∷◌, ◌++◌, reverse, map, refl, sym, ap, ◌∙◌}
use Rattle.std.proofs.lemmas.List.{reverse-append, reverse-reverse, map-append}
use Rattle.par_frame_steps.specs.declared.act.Asked.{Asked}
use Rattle.par_frame_steps.specs.Marks.{asked_of}

map-turned : {A B : Type 0} (f : A → B) (xs : List A) → map f (reverse xs) ≡ reverse (map f xs)
map-turned f [] = refl
map-turned f (x ∷ xs) =
    ap (map f) (reverse-append (x ∷ []) xs) ∙ map-append f (reverse xs) (x ∷ [])
    ∙ ap (λ ys. ys ++ f x ∷ []) (map-turned f xs) ∙ sym (reverse-append (f x ∷ []) (map f xs))

pub turned : (takes : List Asked) → reverse (reverse (map asked_of takes)) ≡ map asked_of takes
turned takes = reverse-reverse (map asked_of takes)

pub turned_back : (takes : List Asked) → reverse (map asked_of (reverse takes)) ≡ map asked_of takes
turned_back takes = ap reverse (map-turned asked_of takes) ∙ reverse-reverse (map asked_of takes)
