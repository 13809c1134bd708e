-- A declaration is found where its name stands first.
use Rattle.std.proofs.Common.{◌≡◌, ℕ, zero, suc, Bool, true, false, cond, List, [], ◌∷◌, map}
use Rattle.std.proofs.Common.{length, Option, Some, None, refl, sym, ap, ◌∙◌, arith}
use Rattle.std.proofs.lemmas.Grind.{common_steps}
use Rattle.std.proofs.lemmas.Bool.Decides.{nat_tests}
use Rattle.std.specs.Prelude.{slice_get, nat_lt}
use Rattle.std.specs.List.{find, position, position_or_len}
use Rattle.std.specs.Option.{option_map, option_copied}
use Rattle.std.proofs.lemmas.List.Folds.{find_at}
use Rattle.std.proofs.lemmas.Option.{slice_get_past}
use Rattle.std.specs.Borrow.{Bor}
use Rattle.par_index.proofs.Places.{position-map}
use Rattle.par_tree.specs.declared.decl.MethodDecl.{MethodDecl}
use Rattle.par_tree.specs.Shown.{method, methods}

-- the item at a place, if there is one
abbrev pub at : {A : Type 0} → List A → Option ℕ → Option A
at xs None = None
at xs (Some i) = slice_get xs i

at-place : {A : Type 0} (xs : List A) (k : ℕ) (b : Bool) → nat_lt k (length xs) ≡ b
    → slice_get xs k ≡ at xs (cond b (Some k) None)
at-place xs k true e = refl
at-place xs k false e = slice_get_past xs k (grind (arith, nat_tests))

pub find-place : {A : Type 0} (p : A → Bool) (xs : List A) → find p xs ≡ at xs (position p xs)
find-place p xs =
    find_at p xs ∙ at-place xs (position_or_len p xs)
    (nat_lt (position_or_len p xs) (length xs)) refl

-- by a test of what is made of each item
pub found : {A B : Type 0} (p : B → Bool) (f : A → B) (xs : List A) (o : Option ℕ)
    → o ≡ position p (map f xs) → find (λ x. p (f x)) xs ≡ at xs o
found p f xs o is = find-place (λ x. p (f x)) xs ∙ ap (at xs) (sym (is ∙ position-map p f xs))

pub map-map : {A B C : Type 0} (f : B → C) (g : A → B) (xs : List A)
    → map f (map g xs) ≡ map (λ x. f (g x)) xs
map-map f g [] = refl
map-map f g (x ∷ xs) = ap (λ ys. f (g x) ∷ ys) (map-map f g xs)

slice_get-map : {A B : Type 0} (g : A → B) (xs : List A) (i : ℕ)
    → option_map g (slice_get xs i) ≡ slice_get (map g xs) i
slice_get-map g [] i = refl
slice_get-map g (x ∷ xs) zero = refl
slice_get-map g (x ∷ xs) (suc i) = slice_get-map g xs i

pub copied-map : {A B : Type 0} (g : A → B) (r : Option (Bor A))
    → option_map (λ b. g b.now) r ≡ option_map g (option_copied r)
copied-map g None = refl
copied-map g (Some b) = refl

pub copied-is : {A : Type 0} (r : Option (Bor A)) → option_copied r ≡ option_map (λ b. b.now) r
copied-is None = refl
copied-is (Some b) = refl

-- what is made of the item at a place
pub seen-at : {A B : Type 0} (g : A → B) (xs : List A) (r : Option (Bor A)) (i : ℕ)
    → option_copied r ≡ slice_get xs i
    → option_map (λ b. g b.now) r ≡ slice_get (map g xs) i
seen-at g xs r i is = copied-map g r ∙ ap (option_map g) is ∙ slice_get-map g xs i

pub methods-map : (ms : List MethodDecl) → methods ms ≡ map method ms
methods-map [] = refl
methods-map (m ∷ ms) = ap (λ xs. method m ∷ xs) (methods-map ms)

pub ruleset mapped = (map-map, common_steps)
