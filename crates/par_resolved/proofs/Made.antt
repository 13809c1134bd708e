-- What is made step by step of lists that are written.
use Rattle.std.proofs.Common.{◌≡◌, ℕ, zero, suc, ◌+◌, ◌<◌, List, [], ◌∷◌, ◌++◌, length, take, map}
use Rattle.std.proofs.Common.{get_or, Option, Some, None, refl, sym, ap, ◌∙◌, subst, arith}
use Rattle.std.specs.List.{range_with_len}
use Rattle.par_typed.specs.par_policy.declared.clauses.Clause.{Clause}
use Rattle.par_typed.specs.par_policy.Numbers.{IsAscending, Gains}
use Rattle.par_resolved.specs.Sets.{set_of, with_number, with_lock_set, normal}
use Rattle.par_resolved.specs.Policies.{all_some}
use Rattle.par_resolved.proofs.NumberSets.{one_set, set_push, set_is_ascending}
use Rattle.par_resolved.proofs.Normal.{normal_sets}
use Rattle.par_resolved.proofs.Steps.{all_there, one_missing, one_later}
use Rattle.par_resolved.proofs.Loops.{map_more}

-- one item more of a set
pub set_more : {A : Type 0} (f : A → ℕ) (xs : List A) (i : ℕ) (x : A) (old new : List ℕ)
    → i < length xs → x ≡ get_or xs i x
    → old ≡ set_of (map f (take i xs)) → IsAscending new → Gains old new (f x)
    → new ≡ set_of (map f (take (i + 1) xs))
set_more f xs i x old new inside is so after gains =
    let up : IsAscending old = subst IsAscending (sym so) (set_is_ascending (map f (take i xs))) in
    one_set old new (f x) up after gains ∙ ap (λ s. with_number s (f x)) so
    ∙ sym (set_push (map f (take i xs)) (f x)) ∙ ap set_of (sym (map_more f xs i x inside is))

map_map : {A B C : Type 0} (f : B → C) (g : A → B) (xs : List A)
    → map f (map g xs) ≡ map (λ x. f (g x)) xs
map_map f g [] = refl
map_map f g (x ∷ xs) = ap (λ ys. f (g x) ∷ ys) (map_map f g xs)

-- the normal form of clauses that were made with lock sets
pub literal_form : {A : Type 0} (f : A → Clause) (xs : List A) (made : List Clause)
    → made ≡ map (λ x. with_lock_set (f x)) xs
    → normal made ≡ normal (map f xs)
literal_form f xs made so =
    ap normal (so ∙ sym (map_map with_lock_set f xs)) ∙ normal_sets (map f xs)

range_more : (a n : ℕ) → range_with_len a (n + 1) ≡ range_with_len a n ++ (a + n) ∷ []
range_more a zero = let same : a + 0 ≡ a = omega arith in rw same refl
range_more a (suc n) =
    let same : suc n + 1 ≡ suc (n + 1) = omega arith in
    let moved : a + 1 + n ≡ a + suc n = omega arith in
    ap (range_with_len a) same ∙ ap (λ ns. a ∷ ns)
    (range_more (a + 1) n ∙ ap (λ m. range_with_len (a + 1) n ++ m ∷ []) moved)

map_push : {A B : Type 0} (f : A → B) (xs : List A) (x : A)
    → map f (xs ++ x ∷ []) ≡ map f xs ++ f x ∷ []
map_push f [] x = refl
map_push f (y ∷ xs) x = ap (λ ys. f y ∷ ys) (map_push f xs x)

-- one number more
pub range_mapped : {A : Type 0} (f : ℕ → A) (n : ℕ) (made : List A)
    → made ≡ map f (range_with_len 0 n)
    → made ++ f n ∷ [] ≡ map f (range_with_len 0 (n + 1))
range_mapped f n made so =
    let at : 0 + n ≡ n = omega arith in
    ap (λ ms. ms ++ f n ∷ []) so
    ∙ sym (ap (map f) (range_more 0 n ∙ ap (λ m. range_with_len 0 n ++ m ∷ []) at)
    ∙ map_push f (range_with_len 0 n) n)

-- where the value of one item is missing, they are not all there
pub missing_at : {A : Type 0} (f : A → Option (List Clause)) (xs : List A) (i : ℕ) (x : A)
    → i < length xs → x ≡ get_or xs i x → f x ≡ None
    → all_some (map f xs) ≡ None
missing_at f [] i x inside is none = absurd (omega (arith, inside))
missing_at f (y ∷ xs) zero x inside is none =
    ap (λ o. all_some (o ∷ map f xs)) (ap f (sym is) ∙ none) ∙ one_missing [] (map f xs)
missing_at f (y ∷ xs) (suc i) x inside is none =
    later (f y) (missing_at f xs i x (omega (arith, inside)) is none)
  where
    later : (o : Option (List Clause)) → all_some (map f xs) ≡ None → all_some (o ∷ map f xs) ≡ None
    later o h = one_later o (map f xs) h

-- they are all there
pub there : {A : Type 0} (f : A → Option (List Clause)) (xs : List A) (ps : List (List Clause))
    → map f xs ≡ map Some ps → all_some (map f xs) ≡ Some ps
there f xs ps so = ap all_some so ∙ all_there ps
