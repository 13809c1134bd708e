-- Items one after the other: they are read exactly, and a loop reads them.
use Rattle.std.proofs.Common.{◌≡◌, ℕ, zero, suc, ◌+◌, List, [], ◌∷◌, ◌++◌, length, Result, Ok, Err}
use Rattle.std.proofs.Common.{refl, sym, ap, subst, ◌∙◌, append_assoc}
use Rattle.std.specs.List.{flat_map, AllByRecursion}
use Rattle.std.proofs.lemmas.List.{append-nil}
use Rattle.std.proofs.lemmas.List.Concat.{flat_map-cons}
use Rattle.par_pool.specs.declared.error.ClassError.{ClassError}
use Rattle.par_pool.specs.declared.error.ClassError.TheVariants.{Magic, Version, Cut, Pool, Index}
use Rattle.par_pool.specs.declared.error.ClassError.TheVariants.{Extra, Shape, Memory}
use Rattle.par_pool.specs.Reading.{Reader, ◌>>=◌, items, Fails}
use Rattle.par_pool.proofs.Exact.{IsBytes, Takes, takes_then, Exact, bind_ok, ok_is}

module _ {A : Type 0} {F : A → Type 0} {p : A → List ℕ} {r : ℕ → Reader A}
    (one : (index : ℕ) → Exact F p (r index)) where
  pub items_take : (n index : ℕ) (bytes : List ℕ) (x : List A × List ℕ) → IsBytes bytes
      → items r n index bytes ≡ Ok x
      → Takes bytes (flat_map p x.0) x.1 × ((length x.0 ≡ n) × AllByRecursion F x.0)
  unfolding items
  items_take zero index bytes x fits e =
      let P : List A × List ℕ → Type 0 =
      λ y. Takes bytes (flat_map p y.0) y.1 × ((length y.0 ≡ 0) × AllByRecursion F y.0) in
      subst P (ok_is ([], bytes) x e) (record { parts = refl; rest_fits = fits }, (refl, tt))
  items_take (suc n) index bytes x fits e =
      let a =
      bind_ok (r index bytes) (λ a. items r n (index + 1) a.1 >>= λ rest. Ok (a.0 ∷ rest.0, rest.1))
      x e in
      let b = bind_ok (items r n (index + 1) a.0.1) (λ rest. Ok (a.0.0 ∷ rest.0, rest.1)) x a.2 in
      let first = (one index).takes bytes a.0 fits a.1 in
      let second = items_take n (index + 1) a.0.1 b.0 first.0.rest_fits b.1 in
      let P : List A × List ℕ → Type 0 =
      λ y. Takes bytes (flat_map p y.0) y.1 × ((length y.0 ≡ suc n) × AllByRecursion F y.0) in
      subst P (ok_is (a.0.0 ∷ b.0.0, b.0.1) x b.2) (
        rw flat_map-cons (takes_then bytes (p a.0.0) a.0.1
            (flat_map p b.0.0) b.0.1 first.0 second.0),
        (ap suc second.1.0, (first.1, second.1.1)),
      )

  pub items_again : (xs : List A) (index : ℕ) (rest : List ℕ) → AllByRecursion F xs
      → items r (length xs) index (flat_map p xs ++ rest) ≡ Ok (xs, rest)
  unfolding items
  items_again [] index rest h = refl
  items_again (x ∷ xs) index rest h =
      let regrouped : flat_map p (x ∷ xs) ++ rest ≡ p x ++ (flat_map p xs ++ rest) =
      ap (λ (t : List ℕ). t ++ rest) (flat_map-cons p x xs)
      ∙ append_assoc (p x) (flat_map p xs) rest in
      ap (items r (suc (length xs)) index) regrouped
      ∙ rw (
        (one index).again x (flat_map p xs ++ rest) h.0,
        items_again xs (index + 1) rest h.1,
      ) refl

  pub exact_items : (n index : ℕ)
      → Exact (λ xs. (length xs ≡ n) × AllByRecursion F xs) (λ xs. flat_map p xs) (items r n index)
  exact_items n index = record {
    takes = items_take n index;
    again =
        λ xs rest h. subst (λ (k : ℕ). items r k index (flat_map p xs ++ rest) ≡ Ok (xs, rest)) h.0
        (items_again xs index rest h.1);
  }

-- ---- a loop: what was read before, and what is still read

abbrev pub with_front : {A : Type 0} → List A → Result (List A × List ℕ) ClassError
    → Result (List A × List ℕ) ClassError
with_front front read = read >>= λ x. Ok (front ++ x.0, x.1)

regroup : {A : Type 0} (front : List A) (a : A) (read : Result (List A × List ℕ) ClassError)
    → with_front front (read >>= λ x. Ok (a ∷ x.0, x.1)) ≡ with_front (front ++ a ∷ []) read
regroup {A = A} front a (Ok x) = ap (λ (xs : List A). Ok (xs, x.1)) (simp append_assoc)
regroup front a (Err f) = refl

-- one more item
pub goes_on : {A : Type 0} (r : ℕ → Reader A) (front : List A) (left less index : ℕ)
    (bytes : List ℕ) (a : A) (after : List ℕ) (total : Result (List A × List ℕ) ClassError)
    → left ≡ suc less → r index bytes ≡ Ok (a, after)
    → with_front front (items r left index bytes) ≡ total
    → with_front (front ++ a ∷ []) (items r less (index + 1) after) ≡ total
unfolding items
goes_on r front left less index bytes a after total k h so_far =
    let one : with_front front (items r left index bytes)
    ≡ with_front (front ++ a ∷ []) (items r less (index + 1) after) =
    rw (k, h) (regroup front a (items r less (index + 1) after)) in
    sym one ∙ so_far

fault-ends : {A : Type 0} (r : ℕ → Reader A) (f : ClassError) (front : List A) (left less index : ℕ)
    (bytes : List ℕ) (total : Result (List A × List ℕ) ClassError) → left ≡ suc less
    → r index bytes ≡ Err f
    → with_front front (items r left index bytes) ≡ total → total ≡ Err f
unfolding items
fault-ends r f front left less index bytes total k h so_far =
    let one : with_front front (items r left index bytes) ≡ Err f = rw (k, h) refl in
    sym so_far ∙ one

-- an item that is refused
pub ends : {A : Type 0} (r : ℕ → Reader A) (e : ClassError) (front : List A) (left less index : ℕ)
    (bytes : List ℕ) (total : Result (List A × List ℕ) ClassError) → left ≡ suc less
    → Fails e (r index bytes)
    → with_front front (items r left index bytes) ≡ total → Fails e total
ends r Memory front left less index bytes total k h so_far = tt
ends r Magic front left less index bytes total k h so_far =
    fault-ends r Magic front left less index bytes total k h so_far
ends r (Version n) front left less index bytes total k h so_far =
    fault-ends r (Version n) front left less index bytes total k h so_far
ends r (Cut n) front left less index bytes total k h so_far =
    fault-ends r (Cut n) front left less index bytes total k h so_far
ends r (Pool n) front left less index bytes total k h so_far =
    fault-ends r (Pool n) front left less index bytes total k h so_far
ends r (Index n) front left less index bytes total k h so_far =
    fault-ends r (Index n) front left less index bytes total k h so_far
ends r (Extra n) front left less index bytes total k h so_far =
    fault-ends r (Extra n) front left less index bytes total k h so_far
ends r (Shape n) front left less index bytes total k h so_far =
    fault-ends r (Shape n) front left less index bytes total k h so_far

-- no item is left
pub is_done : {A : Type 0} (r : ℕ → Reader A) (front : List A) (left index : ℕ) (bytes : List ℕ)
    (total : Result (List A × List ℕ) ClassError) → left ≡ 0
    → with_front front (items r left index bytes) ≡ total → total ≡ Ok (front, bytes)
unfolding items
is_done {A = A} r front left index bytes total k so_far =
    let one : with_front front (items r left index bytes) ≡ Ok (front, bytes) =
    rw k (ap (λ (xs : List A). Ok (xs, bytes)) (append-nil front)) in
    sym so_far ∙ one

-- as many items are read as are asked for
pub items_length : {A : Type 0} (r : ℕ → Reader A) (n index : ℕ) (bytes : List ℕ)
    (x : List A × List ℕ) → items r n index bytes ≡ Ok x → length x.0 ≡ n
unfolding items
items_length {A = A} r zero index bytes x e =
    sym (ap (λ (y : List A × List ℕ). length y.0) (ok_is ([], bytes) x e))
items_length {A = A} r (suc n) index bytes x e =
    let a =
    bind_ok (r index bytes) (λ a. items r n (index + 1) a.1 >>= λ rest. Ok (a.0 ∷ rest.0, rest.1)) x
    e in
    let b = bind_ok (items r n (index + 1) a.0.1) (λ rest. Ok (a.0.0 ∷ rest.0, rest.1)) x a.2 in
    sym (ap (λ (y : List A × List ℕ). length y.0) (ok_is (a.0.0 ∷ b.0.0, b.0.1) x b.2))
    ∙ ap suc (items_length r n (index + 1) a.0.1 b.0 b.1)
