-- A throw behind the last one.
use Rattle.std.proofs.Common.{◌≡◌, ℕ, suc, ◌+◌, ◌<◌, List, [], ◌∷◌, ◌++◌, length, get_or, drop}
use Rattle.std.proofs.Common.{refl, sym, subst, ap, ◌∙◌, arith}
use Rattle.std.proofs.Math.Seq.{drop-cons}
use Rattle.std.proofs.lemmas.List.{append_assoc}
use Rattle.par_except.specs.Throws.{each}
use Rattle.std.proofs.lemmas.List.Elements.{All-push}
use Rattle.par_except.specs.declared.way.Way.{Way}
use Rattle.par_except.specs.Seen.{seen, HasLocals}
use Rattle.par_except.specs.Exits.{Throw, seen_throws, ThrowsHaveLocals}

pub seen_pushed : (ts : List (ℕ × Way)) (t : ℕ × Way)
    → seen_throws (ts ++ t ∷ []) ≡ seen_throws ts ++ (t.0, seen t.1) ∷ []
seen_pushed [] t = refl
seen_pushed (x ∷ ts) t = ap (λ xs. (x.0, seen x.1) ∷ xs) (seen_pushed ts t)

pub have_pushed : (n : ℕ) (ts : List (ℕ × Way)) (class : ℕ) (w : Way) → ThrowsHaveLocals n ts
    → HasLocals n w → ThrowsHaveLocals n (ts ++ (class, w) ∷ [])
have_pushed n ts class w h k = All-push (λ t. HasLocals n t.1) ts (class, w) h k

-- the next throw is looked at
pub each_step : (f : Throw → List Throw) (ks ls rs : List Throw) (xs : List (ℕ × Way)) (i : ℕ)
    (t : ℕ × Way) → i < length xs → t ≡ get_or xs i t
    → ks ++ each f (seen_throws (drop i xs)) ≡ rs → ls ≡ ks ++ f (t.0, seen t.1)
    → ls ++ each f (seen_throws (drop (i + 1) xs)) ≡ rs
each_step f ks ls rs xs i t b e h n =
    let next : suc i ≡ i + 1 = omega arith in
    let d : drop i xs ≡ t ∷ drop (i + 1) xs =
    drop-cons xs i t b ∙ ap (λ x. x ∷ drop (suc i) xs) (sym e) ∙ ap (λ j. t ∷ drop j xs) next in
    ap (λ l. l ++ each f (seen_throws (drop (i + 1) xs))) n
    ∙ append_assoc ks (f (t.0, seen t.1)) (each f (seen_throws (drop (i + 1) xs)))
    ∙ ap (λ l. ks ++ each f (seen_throws l)) (sym d) ∙ h

pub have_at : (n : ℕ) (xs : List (ℕ × Way)) (i : ℕ) (t : ℕ × Way) → i < length xs
    → t ≡ get_or xs i t → ThrowsHaveLocals n xs → HasLocals n t.1
have_at n xs i t b e h = subst (λ x. HasLocals n x.1) (sym e) (h i t b)
