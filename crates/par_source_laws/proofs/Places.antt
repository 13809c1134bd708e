-- Places that climb from one bound to another.
use Rattle.std.proofs.Common.{◌≡◌, ℕ, suc, ◌<◌, ◌≤◌, List, [], ◌∷◌, ◌++◌, refl, sym, ap, subst, ◌∙◌}
use Rattle.std.proofs.Common.{append_assoc, map, arith, false}
use Rattle.std.specs.Prelude.{flat_map, nat_eq}
use Rattle.std.specs.List.{AllByRecursion, IsDistinct}
use Rattle.std.proofs.lemmas.Bool.Decides.{nat_tests}
use Rattle.par_names.specs.par_tree.declared.decl.LockDecl.{LockDecl}
use Rattle.par_names.specs.par_tree.Plain.{Class, Method, Declaration, Source, Actors, Lock, Policy}
use Rattle.par_names.specs.par_tree.Plain.{Declared}
use Rattle.par_names.specs.Declarations.{locks, locks_in, classes_in, declared_classes}
use Rattle.par_names.proofs.par_span_laws.Lists.{pushed}
use Rattle.par_source_laws.specs.Order.{Ascend, IsBare, HasOwnPlaces}

-- a place between two bounds that is not the first
pub record Lies (lo hi at : ℕ) : Type 0 where
  pub positive : 0 < at
  pub above : lo ≤ at
  pub below : at < hi

pub wider : (lo mid hi at : ℕ) → mid ≤ hi → Lies lo mid at → Lies lo hi at
wider lo mid hi at le own =
    record { positive = own.positive; above = own.above; below = omega (arith, le, own.below) }

-- each of these places is behind the one before it, and all lie between the bounds
abbrev pub Climb : ℕ → ℕ → List ℕ → Type 0
Climb lo hi [] = lo ≤ hi
Climb lo hi (at ∷ places) = Lies lo hi at × Climb (suc at) hi places

pub further : (lo mid hi : ℕ) (places : List ℕ) → mid ≤ hi → Climb lo mid places
    → Climb lo hi places
further lo mid hi [] le h = omega (arith, le, h)
further lo mid hi (at ∷ places) le h =
    (wider lo mid hi at le h.0, further (suc at) mid hi places le h.1)

pub ascends : (before lo hi : ℕ) (places : List ℕ) → before < lo → Climb lo hi places
    → Ascend before places
ascends before lo hi [] lt h = tt
ascends before lo hi (at ∷ places) lt h =
    let own : Lies lo hi at = h.0 in
    (omega (arith, lt, own.above), ascends at (suc at) hi places (omega arith) h.1)

-- from the beginning of the source
pub ascends_from : (lo hi : ℕ) (places : List ℕ) → Climb lo hi places → Ascend 0 places
ascends_from lo hi [] h = tt
ascends_from lo hi (at ∷ places) h =
    let own : Lies lo hi at = h.0 in (own.positive, ascends at (suc at) hi places (omega arith) h.1)

module _ {A : Type 0} (place : A → ℕ) where
  -- one more behind the others
  pub climbs_to : (lo mid low hi : ℕ) (xs : List A) (x : A) → Climb lo mid (map place xs)
      → mid ≤ low → Lies low hi (place x)
      → Climb lo hi (map place (xs ++ x ∷ []))
  climbs_to lo mid low hi [] x h le own = (
    record { positive = own.positive; above = omega (arith, h, le, own.above); below = own.below },
    omega (arith, own.below),
  )
  climbs_to lo mid low hi (y ∷ xs) x h le own =
      let first : Lies lo mid (place y) = h.0 in (
        record {
          positive = first.positive;
          above = first.above;
          below = omega (arith, first.below, le, own.above, own.below);
        },
        climbs_to (suc (place y)) mid low hi xs x h.1 le own,
      )

-- ---- places that differ

-- these places are below a bound, and no two of them are equal
pub record Apart (hi : ℕ) (places : List ℕ) : Type 0 where
  pub below : AllByRecursion (λ at. at < hi) places
  pub differ : IsDistinct nat_eq places

pub none_apart : (hi : ℕ) → Apart hi []
unfolding IsDistinct
none_apart hi = record { below = tt; differ = tt }

all_below : (mid hi : ℕ) (places : List ℕ) → mid ≤ hi → AllByRecursion (λ at. at < mid) places
    → AllByRecursion (λ at. at < hi) places
all_below mid hi [] le h = tt
all_below mid hi (at ∷ places) le h = (omega (arith, le, h.0), all_below mid hi places le h.1)

pub apart_further : (mid hi : ℕ) (places : List ℕ) → mid ≤ hi → Apart mid places → Apart hi places
apart_further mid hi places le h =
    record { below = all_below mid hi places le h.below; differ = h.differ }

-- a later place differs from all of these
behind : (hi at : ℕ) (places : List ℕ) → hi ≤ at → AllByRecursion (λ n. n < hi) places
    → AllByRecursion (λ n. nat_eq at n ≡ false) places
behind hi at [] le h = tt
behind hi at (n ∷ places) le h =
    let lt : n < hi = h.0 in (grind (arith, nat_tests), behind hi at places le h.1)

with_later : (at n : ℕ) (xs ys : List ℕ) → nat_eq n at ≡ false
    → AllByRecursion (λ m. nat_eq n m ≡ false) (xs ++ ys)
    → AllByRecursion (λ m. nat_eq n m ≡ false) (xs ++ at ∷ ys)
with_later at n [] ys own h = (own, h)
with_later at n (x ∷ xs) ys own h = (h.0, with_later at n xs ys own h.1)

below_with : (hi at : ℕ) (xs ys : List ℕ) → at < hi → AllByRecursion (λ n. n < hi) (xs ++ ys)
    → AllByRecursion (λ n. n < hi) (xs ++ at ∷ ys)
below_with hi at [] ys own h = (own, h)
below_with hi at (x ∷ xs) ys own h = (h.0, below_with hi at xs ys own h.1)

distinct_with : (mid at : ℕ) (xs ys : List ℕ) → mid ≤ at
    → AllByRecursion (λ n. n < mid) (xs ++ ys)
    → IsDistinct nat_eq (xs ++ ys) → IsDistinct nat_eq (xs ++ at ∷ ys)
unfolding IsDistinct
distinct_with mid at [] ys le below h = (behind mid at ys le below, h)
distinct_with mid at (x ∷ xs) ys le below h =
    let lt : x < mid = below.0 in
    let own : nat_eq x at ≡ false = grind (arith, nat_tests) in
    (with_later at x xs ys own h.0, distinct_with mid at xs ys le below.1 h.1)

-- one more place behind all of these, wherever it stands among them
pub apart_with : (mid hi at : ℕ) (xs ys : List ℕ) → mid ≤ at → at < hi → Apart mid (xs ++ ys)
    → Apart hi (xs ++ at ∷ ys)
apart_with mid hi at xs ys le lt h = record {
  below = below_with hi at xs ys lt (all_below mid hi (xs ++ ys) (omega (arith, le, lt)) h.below);
  differ = distinct_with mid at xs ys le h.below h.differ;
}

-- ---- declarations

abbrev pub class_place : Class → ℕ
class_place c = c.id.at

abbrev pub method_place : Method → ℕ
method_place m = m.id.at

abbrev pub MethodsAscend : Class → Type 0
MethodsAscend c = Ascend 0 (map method_place c.methods)

-- a class at such a place, with methods in order and members apart, and with no members where it is
-- an exception
abbrev pub ClassLies : ℕ → ℕ → Class → Type 0
ClassLies lo hi c = Lies lo hi (class_place c) × MethodsAscend c × HasOwnPlaces c × IsBare c

abbrev pub DeclarationLies : ℕ → ℕ → Declaration → Type 0
DeclarationLies lo hi (Actors ids) = Unit {0}
DeclarationLies lo hi (Lock lock) = lock.arity ≤ 2
DeclarationLies lo hi (Policy policy) = Unit {0}
DeclarationLies lo hi (Declared class) = ClassLies lo hi class

abbrev IsSmall : LockDecl → Type 0
IsSmall lock = lock.arity ≤ 2

abbrev Arities : List LockDecl → Type 0
Arities locks = AllByRecursion IsSmall locks

abbrev Classes : ℕ → ℕ → List Class → Type 0
Classes lo hi classes = Climb lo hi (map class_place classes)

abbrev Methods : List Class → Type 0
Methods classes = AllByRecursion MethodsAscend classes

abbrev Members : List Class → Type 0
Members classes = AllByRecursion HasOwnPlaces classes

abbrev Exceptions : List Class → Type 0
Exceptions classes = AllByRecursion IsBare classes

pub record SourceLies (lo hi : ℕ) (source : Source) : Type 0 where
  pub arities : Arities (locks source)
  pub classes : Classes lo hi (declared_classes source)
  pub methods : Methods (declared_classes source)
  pub members : Members (declared_classes source)
  pub exceptions : Exceptions (declared_classes source)

same : {A : Type 0} (f : Declaration → List A) (ds : Source) (d : Declaration) → f d ≡ []
    → flat_map f (ds ++ d ∷ []) ≡ flat_map f ds
same f [] d none = ap (λ xs. xs ++ []) none
same f (e ∷ ds) d none = ap (λ xs. f e ++ xs) (same f ds d none)

one_behind : {A : Type 0} (f : Declaration → List A) (ds : Source) (d : Declaration) (x : A)
    → f d ≡ x ∷ []
    → flat_map f (ds ++ d ∷ []) ≡ flat_map f ds ++ x ∷ []
one_behind f [] d x is = ap (λ xs. xs ++ []) is
one_behind f (e ∷ ds) d x is =
    ap (λ xs. f e ++ xs) (one_behind f ds d x is)
    ∙ sym (append_assoc (f e) (flat_map f ds) (x ∷ []))

pub declaration_further : (lo mid hi : ℕ) (d : Declaration) → mid ≤ hi → DeclarationLies lo mid d
    → DeclarationLies lo hi d
declaration_further lo mid hi (Actors ids) le h = tt
declaration_further lo mid hi (Lock lock) le h = h
declaration_further lo mid hi (Policy policy) le h = tt
declaration_further lo mid hi (Declared class) le h =
    (wider lo mid hi (class_place class) le h.0, h.1, h.2, h.3)

pub source_further : (lo mid hi : ℕ) (ds : Source) → mid ≤ hi → SourceLies lo mid ds
    → SourceLies lo hi ds
source_further lo mid hi ds le h = record {
  arities = h.arities;
  classes = further lo mid hi (map class_place (declared_classes ds)) le h.classes;
  methods = h.methods;
  members = h.members;
  exceptions = h.exceptions;
}

-- one more declaration behind the others
pub source_to : (lo mid low hi : ℕ) (ds : Source) (d : Declaration) → SourceLies lo mid ds
    → mid ≤ low → low ≤ hi
    → DeclarationLies low hi d → SourceLies lo hi (ds ++ d ∷ [])
source_to lo mid low hi ds (Actors ids) h le up own = record {
  arities = subst Arities (sym (same locks_in ds (Actors ids) refl)) h.arities;
  classes =
      subst (Classes lo hi) (sym (same classes_in ds (Actors ids) refl))
      (further lo mid hi (map class_place (declared_classes ds)) (omega arith) h.classes);
  methods = subst Methods (sym (same classes_in ds (Actors ids) refl)) h.methods;
  members = subst Members (sym (same classes_in ds (Actors ids) refl)) h.members;
  exceptions = subst Exceptions (sym (same classes_in ds (Actors ids) refl)) h.exceptions;
}
source_to lo mid low hi ds (Lock lock) h le up own = record {
  arities =
      subst Arities (sym (one_behind locks_in ds (Lock lock) lock refl))
      (pushed IsSmall (locks ds) lock h.arities own);
  classes =
      subst (Classes lo hi) (sym (same classes_in ds (Lock lock) refl))
      (further lo mid hi (map class_place (declared_classes ds)) (omega arith) h.classes);
  methods = subst Methods (sym (same classes_in ds (Lock lock) refl)) h.methods;
  members = subst Members (sym (same classes_in ds (Lock lock) refl)) h.members;
  exceptions = subst Exceptions (sym (same classes_in ds (Lock lock) refl)) h.exceptions;
}
source_to lo mid low hi ds (Policy policy) h le up own = record {
  arities = subst Arities (sym (same locks_in ds (Policy policy) refl)) h.arities;
  classes =
      subst (Classes lo hi) (sym (same classes_in ds (Policy policy) refl))
      (further lo mid hi (map class_place (declared_classes ds)) (omega arith) h.classes);
  methods = subst Methods (sym (same classes_in ds (Policy policy) refl)) h.methods;
  members = subst Members (sym (same classes_in ds (Policy policy) refl)) h.members;
  exceptions = subst Exceptions (sym (same classes_in ds (Policy policy) refl)) h.exceptions;
}
source_to lo mid low hi ds (Declared class) h le up own = record {
  arities = subst Arities (sym (same locks_in ds (Declared class) refl)) h.arities;
  classes =
      subst (Classes lo hi) (sym (one_behind classes_in ds (Declared class) class refl))
      (climbs_to class_place lo mid low hi (declared_classes ds) class h.classes le own.0);
  methods =
      subst Methods (sym (one_behind classes_in ds (Declared class) class refl))
      (pushed MethodsAscend (declared_classes ds) class h.methods own.1);
  members =
      subst Members (sym (one_behind classes_in ds (Declared class) class refl))
      (pushed HasOwnPlaces (declared_classes ds) class h.members own.2);
  exceptions =
      subst Exceptions (sym (one_behind classes_in ds (Declared class) class refl))
      (pushed IsBare (declared_classes ds) class h.exceptions own.3);
}
