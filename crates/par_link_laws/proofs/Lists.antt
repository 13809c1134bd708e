-- Places in lists, and tests that no item passes.
use Rattle.std.proofs.Common.{◌≡◌, ℕ, zero, suc, Bool, true, false, ◌||◌, List, [], ◌∷◌}
use Rattle.std.proofs.Common.{length, map, Some, slice_get, refl, sym, ap, ◌∙◌, ap₂, ◌<◌, arith}
use Rattle.std.proofs.Common.{option_map, subst}
use Rattle.std.specs.List.{list_any, AllByRecursion, All}
use Rattle.std.specs.Str.{bytes_eq}
use Rattle.std.specs.Cmp.{IsEquivalence}
use Rattle.std.proofs.lemmas.Bool.{or_from}
use Rattle.std.proofs.lemmas.Option.{slice_get-map, slice_get_within, get_or_from_slice_get}
use Rattle.par_values.specs.Areas.{Name}
use Rattle.par_loader.proofs.par_link.Apart.{same-itself}
use Rattle.par_loader.proofs.par_link.Passing.{same_text, eq_turned}

pub bytes_equiv : IsEquivalence bytes_eq
bytes_equiv = record {
  refl = same-itself;
  symm = eq_turned;
  congr = λ x y z e. ap (λ (n : Name). bytes_eq n z) (same_text x y e);
}

-- no item passes a test where none at a place does
pub any-none : {A : Type 0} (test : A → Bool) (xs : List A)
    → ((i : ℕ) (x : A) → slice_get xs i ≡ Some x → test x ≡ false) → list_any test xs ≡ false
any-none test [] each = refl
any-none test (x ∷ xs) each =
    or_from (test x) (list_any test xs) (each 0 x refl)
    (any-none test xs (λ i y at. each (suc i) y at))

-- an item that passes where some does
pub record Passes {A : Type 0} (test : A → Bool) (xs : List A) : Type 0 where
  pub place : ℕ
  pub item : A
  pub stands : slice_get xs place ≡ Some item
  pub passes : test item ≡ true

pub passing : {A : Type 0} (test : A → Bool) (xs : List A) → list_any test xs ≡ true
    → Passes test xs
passing test [] some = absurd (cc some)
passing test (x ∷ xs) some = in_case (test x) refl some (passing test xs) where
  in_case : (b : Bool) → test x ≡ b → (b || list_any test xs) ≡ true
      → (list_any test xs ≡ true → Passes test xs) → Passes test (x ∷ xs)
  in_case true e some later = record { place = 0; item = x; stands = refl; passes = e }
  in_case false e some later =
      let found = later some in
      record {
        place = suc found.place;
        item = found.item;
        stands = found.stands;
        passes = found.passes;
      }

-- the item of what is made at a place
pub record IsMadeOf {A B : Type 0} (f : A → B) (xs : List A) (i : ℕ) (y : B) : Type 0 where
  pub item : A
  pub stands : slice_get xs i ≡ Some item
  pub is : f item ≡ y

pub made-of : {A B : Type 0} (f : A → B) (xs : List A) (i : ℕ) (y : B)
    → slice_get (map f xs) i ≡ Some y → IsMadeOf f xs i y
made-of f [] i y at = absurd (cc at)
made-of f (x ∷ xs) zero y at = record { item = x; stands = refl; is = cc at }
made-of f (x ∷ xs) (suc i) y at =
    let later = made-of f xs i y at in
    record { item = later.item; stands = later.stands; is = later.is }

-- what is made of the item at a place
pub made-at : {A B : Type 0} (f : A → B) (xs : List A) (i : ℕ) (x : A) → slice_get xs i ≡ Some x
    → slice_get (map f xs) i ≡ Some (f x)
made-at f xs i x at = slice_get-map f xs i ∙ ap (option_map f) at

-- it holds of each item of a list
pub each-of : {A : Type 0} (P : A → Type 0) (xs : List A) (i : ℕ) (x : A) → AllByRecursion P xs
    → slice_get xs i ≡ Some x → P x
each-of P [] i x all at = absurd (cc at)
each-of P (y ∷ xs) zero x all at = subst P (cc at) all.0
each-of P (y ∷ xs) (suc i) x all at = each-of P xs i x all.1 at

-- of the items that are contained
pub contained : {A : Type 0} (P : A → Type 0) (xs : List A) (i : ℕ) (x : A) → All P xs
    → slice_get xs i ≡ Some x → P x
contained P xs i x all at =
    subst P (get_or_from_slice_get xs i x x at) (all i x (slice_get_within xs i x at))

-- an item stands at each place within a list
pub record IsItem {A : Type 0} (xs : List A) (i : ℕ) : Type 0 where
  pub item : A
  pub stands : slice_get xs i ≡ Some item

pub item-at : {A : Type 0} (xs : List A) (i : ℕ) → i < length xs → IsItem xs i
item-at [] i within = absurd (omega arith)
item-at (x ∷ xs) zero within = record { item = x; stands = refl }
item-at (x ∷ xs) (suc i) within =
    let later = item-at xs i (omega arith) in
    record { item = later.item; stands = later.stands }

-- what is made of the items at the same places is the same
pub paired-made : {A B C : Type 0} (f : A → C) (g : B → C) (xs : List A) (ys : List B)
    → length ys ≡ length xs
    → ((i : ℕ) (x : A) (y : B) → slice_get xs i ≡ Some x → slice_get ys i ≡ Some y → g y ≡ f x)
    → map g ys ≡ map f xs
paired-made f g [] [] same each = refl
paired-made f g [] (y ∷ ys) same each = absurd (omega (arith, same))
paired-made f g (x ∷ xs) [] same each = absurd (omega (arith, same))
paired-made f g (x ∷ xs) (y ∷ ys) same each =
    ap₂ (λ a rest. a ∷ rest) (each 0 x y refl refl)
    (paired-made f g xs ys (omega (arith, same)) (λ i a b p q. each (suc i) a b p q))
