-- Lists that go side by side, and places of items.
use Rattle.std.proofs.Common.{◌≡◌, ℕ, zero, suc, ◌+◌, Bool, true, false, cond, List, []}
use Rattle.std.proofs.Common.{◌∷◌, ◌++◌, length, map, take, get_or, Option, Some, None, slice_get}
use Rattle.std.proofs.Common.{is_some, refl, sym, ap, subst, ◌∙◌, arith}
use Rattle.std.specs.List.{AllZip, AllByRecursion, position}
use Rattle.std.proofs.lemmas.List.Quantifiers.{position-Some}
use Rattle.std.proofs.lemmas.Option.{slice_get-get_or, slice_get_within, get_or_from_slice_get}
use Rattle.par_index.proofs.Places.{position-found}
use Rattle.par_match_laws.specs.par_link.Firsts.{first_repeated}
use Rattle.par_match_laws.proofs.par_link.Apart.{fresh}
use Rattle.par_match_laws.proofs.par_link.Passing.{position-none}

-- ---- options

pub record Found {A : Type 0} (o : Option A) : Type 0 where
  pub item : A
  pub is : o ≡ Some item

pub found : {A : Type 0} (o : Option A) → is_some o ≡ true → Found o
found None some = absurd (cc some)
found (Some x) some = record { item = x; is = refl }

pub is-there : {A : Type 0} (o : Option A) (x : A) → o ≡ Some x → is_some o ≡ true
is-there o x is = ap is_some is

pub same-item : {A : Type 0} (x y : A) → Some x ≡ Some y → x ≡ y
same-item x y is = cc is

-- ---- two lists side by side

pub record Beside {A B : Type 0} (R : A → B → Type 0) (x : A) (ys : List B) (n : ℕ) : Type 0 where
  pub item : B
  pub stands : slice_get ys n ≡ Some item
  pub related : R x item

pub beside : {A B : Type 0} (R : A → B → Type 0) (xs : List A) (ys : List B) → AllZip R xs ys
    → (n : ℕ) (x : A) → slice_get xs n ≡ Some x → Beside R x ys n
beside R [] ys all n x at = absurd (cc at)
beside R (z ∷ xs) [] all n x at = absurd all
beside R (z ∷ xs) (y ∷ ys) all zero x at =
    let same : z ≡ x = cc at in
    record { item = y; stands = refl; related = subst (λ v. R v y) same all.0 }
beside R (z ∷ xs) (y ∷ ys) all (suc n) x at =
    let later = beside R xs ys all.1 n x at in
    record { item = later.item; stands = later.stands; related = later.related }

pub none-beside : {A B : Type 0} (R : A → B → Type 0) (xs : List A) (ys : List B)
    → AllZip R xs ys → xs ≡ [] → ys ≡ []
none-beside R [] [] all none = refl
none-beside R [] (y ∷ ys) all none = absurd all
none-beside R (x ∷ xs) ys all none = absurd (cc none)

-- ---- all items

pub each-item : {A : Type 0} (P : A → Type 0) (xs : List A) → AllByRecursion P xs → (n : ℕ) (x : A)
    → slice_get xs n ≡ Some x → P x
each-item P [] all n x at = absurd (cc at)
each-item P (y ∷ xs) all zero x at =
    let same : y ≡ x = cc at in subst P same all.0
each-item P (y ∷ xs) all (suc n) x at = each-item P xs all.1 n x at

-- ---- places

pub record StandsAt {A : Type 0} (test : A → Bool) (xs : List A) (n : ℕ) : Type 0 where
  pub item : A
  pub stands : slice_get xs n ≡ Some item
  pub passes : test item ≡ true

-- what stands at the first place that passes
pub stands-at : {A : Type 0} (test : A → Bool) (xs : List A) (n : ℕ) → position test xs ≡ Some n
    → StandsAt test xs n
stands-at test [] n is = absurd (cc is)
stands-at test (x ∷ xs) n is =
    let has = position-Some test (x ∷ xs) n x is in
    record {
      item = get_or (x ∷ xs) n x;
      stands = slice_get-get_or (x ∷ xs) n x has.0;
      passes = has.1;
    }

-- where no item stands twice, each stands first at its own place
pub first-at : {A : Type 0} (same : A → A → Bool) (xs : List A) → first_repeated same xs ≡ None
    → (n : ℕ) (x : A) → slice_get xs n ≡ Some x → same x x ≡ true
    → position (same x) xs ≡ Some n
first-at same xs none n x at itself =
    position-found (same x) xs n x (slice_get_within xs n x at)
    (sym (get_or_from_slice_get xs n x x at))
    (position-none (same x) (take n xs) (fresh same [] xs none n x at)) itself

-- what is chosen by a test
pub chosen : {A : Type 0} (b : Bool) (o : Option A) (x : A) → cond b o None ≡ Some x
    → (b ≡ true) × (o ≡ Some x)
chosen true o x is = (refl, is)
chosen false o x is = absurd (cc is)

-- ---- one list behind another

pub front-at : {A : Type 0} (xs ys : List A) (n : ℕ) (x : A) → slice_get xs n ≡ Some x
    → slice_get (xs ++ ys) n ≡ Some x
front-at [] ys n x at = absurd (cc at)
front-at (y ∷ xs) ys zero x at = at
front-at (y ∷ xs) ys (suc n) x at = front-at xs ys n x at

pub behind-at : {A : Type 0} (xs ys : List A) (n : ℕ)
    → slice_get (xs ++ ys) (length xs + n) ≡ slice_get ys n
behind-at [] ys n = let same : 0 + n ≡ n = omega arith in ap (slice_get ys) same
behind-at (x ∷ xs) ys n =
    let same : suc (length xs) + n ≡ suc (length xs + n) = omega arith in
    ap (slice_get (x ∷ (xs ++ ys))) same ∙ behind-at xs ys n

pub mapped-at : {A B : Type 0} (f : A → B) (xs : List A) (n : ℕ) (x : A) → slice_get xs n ≡ Some x
    → slice_get (map f xs) n ≡ Some (f x)
mapped-at f [] n x at = absurd (cc at)
mapped-at f (y ∷ xs) zero x at = let same : y ≡ x = cc at in ap (λ z. Some (f z)) same
mapped-at f (y ∷ xs) (suc n) x at = mapped-at f xs n x at

pub record MappedFrom {A B : Type 0} (f : A → B) (xs : List A) (n : ℕ) (y : B) : Type 0 where
  pub item : A
  pub stands : slice_get xs n ≡ Some item
  pub gives : f item ≡ y

pub mapped-from : {A B : Type 0} (f : A → B) (xs : List A) (n : ℕ) (y : B)
    → slice_get (map f xs) n ≡ Some y → MappedFrom f xs n y
mapped-from f [] n y at = absurd (cc at)
mapped-from f (x ∷ xs) zero y at = record { item = x; stands = refl; gives = cc at }
mapped-from f (x ∷ xs) (suc n) y at =
    let later = mapped-from f xs n y at in
    record { item = later.item; stands = later.stands; gives = later.gives }
