-- Rules that are broken within a bound.
use Rattle.std.proofs.Common.{ℕ, ◌≤◌, Bool, true, false, cond, List, [], ◌∷◌, ◌++◌, map, drop}
use Rattle.std.specs.List.{AllByRecursion, flat_map, filter}
use Rattle.par_refusals.specs.declared.refusal.Refusal.{Refusal}
use Rattle.par_refusals.specs.First.{when, in_passes}
use Rattle.par_span_laws.specs.Broken.{AreBrokenWithin}

pub both : {A : Type 0} (P : A → Type 0) (xs ys : List A) → AllByRecursion P xs
    → AllByRecursion P ys → AllByRecursion P (xs ++ ys)
both P [] ys p q = q
both P (x ∷ xs) ys p q = (p.0, both P xs ys p.1 q)

pub each : {A B : Type 0} (Q : A → Type 0) (P : B → Type 0) (f : A → List B) (xs : List A)
    → ((x : A) → Q x → AllByRecursion P (f x)) → AllByRecursion Q xs
    → AllByRecursion P (flat_map f xs)
each Q P f [] g q = tt
each Q P f (x ∷ xs) g q = both P (f x) (flat_map f xs) (g x q.0) (each Q P f xs g q.1)

pub mapped : {A B : Type 0} (Q : A → Type 0) (P : B → Type 0) (f : A → B) (xs : List A)
    → ((x : A) → Q x → P (f x)) → AllByRecursion Q xs → AllByRecursion P (map f xs)
mapped Q P f [] g q = tt
mapped Q P f (x ∷ xs) g q = (g x q.0, mapped Q P f xs g q.1)

pub filtered : {A : Type 0} (P : A → Type 0) (p : A → Bool) (xs : List A) → AllByRecursion P xs
    → AllByRecursion P (filter p xs)
filtered P p [] q = tt
filtered P p (x ∷ xs) q = in_case (p x) (filtered P p xs q.1) where
  in_case : (b : Bool) → AllByRecursion P (filter p xs)
      → AllByRecursion P (cond b (x ∷ filter p xs) (filter p xs))
  in_case true rest = (q.0, rest)
  in_case false rest = rest

pub behind_first : {A : Type 0} (P : A → Type 0) (xs : List A) → AllByRecursion P xs
    → AllByRecursion P (drop 1 xs)
behind_first P [] q = tt
behind_first P (x ∷ xs) q = q.1

module _ (m : ℕ) where
  abbrev pub Within : List Refusal → Type 0
  Within faults = AreBrokenWithin m faults

  abbrev pub P : Refusal → Type 0
  P f = f.at ≤ m

  pub there : (b : Bool) (f : Refusal) → f.at ≤ m → Within (when b f)
  unfolding when
  there true f h = (h, tt)
  there false f h = tt

  abbrev pub join : (xs ys : List Refusal) → Within xs → Within ys → Within (xs ++ ys)
  join xs ys p q = both P xs ys p q

  -- of two passes
  pub passes_within : (fs gs : List Refusal) → Within fs → Within gs → Within (in_passes fs gs)
  unfolding in_passes
  passes_within [] gs p q = q
  passes_within (f ∷ fs) gs p q = p
