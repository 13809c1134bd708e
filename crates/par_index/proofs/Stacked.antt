-- The names of a stack, found by their first places, as they come and go.
use Rattle.std.proofs.Common.{◌≡◌, ℕ, ◌+◌, Bool, true, false, cond, ◌||◌, List, [], ◌∷◌}
use Rattle.std.proofs.Common.{◌++◌, length, take, drop, Option, Some, None, is_some, refl, sym, ap}
use Rattle.std.proofs.Common.{◌∙◌}
use Rattle.std.specs.Prelude.{slice_get}
use Rattle.std.specs.Option.{option_or}
use Rattle.std.specs.List.{list_any, position, position_from}
use Rattle.std.specs.Str.{bytes_eq}
use Rattle.std.proofs.lemmas.List.{take-append-drop}
use Rattle.std.proofs.lemmas.List.Folds.{list_any-append, list_any_at}
use Rattle.std.proofs.lemmas.List.Quantifiers.{position-Some}
use Rattle.std.proofs.lemmas.Slice.Eq.{bytes_eq-Decides}
use Rattle.std.proofs.lemmas.Option.{slice_get-get_or, slice_get_within, get_or_from_slice_get}
use Rattle.par_index.specs.Texts.{has}
use Rattle.par_index.specs.Stacked.{standing, standing_here, when_same}
use Rattle.par_index.proofs.Places.{position-from, position-push, position-is_some}

-- ---- a place counts where the name stands there

standing_at : (ts : List (List ℕ)) (i : ℕ) (name : List ℕ) → position (bytes_eq name) ts ≡ Some i
    → standing ts i name ≡ Some i
standing_at ts i name is =
    let found = position-Some (bytes_eq name) ts i [] is in
    ap (λ o. standing_here o i name) (slice_get-get_or ts i [] found.0)
    ∙ ap (λ b. when_same b i) found.1

standing_not : (ts : List (List ℕ)) (p : ℕ) (name : List ℕ) → position (bytes_eq name) ts ≡ None
    → standing ts p name ≡ None
standing_not ts p name is = in_case (slice_get ts p) refl where
  in_same : (other : List ℕ) → slice_get ts p ≡ Some other → (b : Bool) → bytes_eq name other ≡ b
      → when_same b p ≡ None
  in_same other at false e = refl
  in_same other at true e =
      let there : list_any (bytes_eq name) ts ≡ true =
      list_any_at (bytes_eq name) ts p other (slice_get_within ts p other at)
      (ap (bytes_eq name) (get_or_from_slice_get ts p other other at) ∙ e) in
      let not_there : false ≡ list_any (bytes_eq name) ts =
      ap is_some (sym is) ∙ position-is_some (bytes_eq name) ts in
      absurd (cc (there, not_there))

  in_case : (o : Option (List ℕ)) → slice_get ts p ≡ o → standing_here o p name ≡ None
  in_case None at = refl
  in_case (Some other) at = in_same other at (bytes_eq name other) refl

-- ---- more names and fewer

from-front : {A : Type 0} (p : A → Bool) (k : ℕ) (xs ys : List A) → list_any p xs ≡ true
    → position_from p k (xs ++ ys) ≡ position_from p k xs
from-front p k [] ys h = absurd (cc h)
from-front p k (x ∷ xs) ys h = in_case (p x) h (from-front p (k + 1) xs ys) where
  in_case : (b : Bool) → (b || list_any p xs) ≡ true
      → (list_any p xs ≡ true → position_from p (k + 1) (xs ++ ys) ≡ position_from p (k + 1) xs)
      → cond b (Some k) (position_from p (k + 1) (xs ++ ys))
      ≡ cond b (Some k) (position_from p (k + 1) xs)
  in_case true h later = refl
  in_case false h later = later h

-- an item that passes has its place in front of others
position-front : {A : Type 0} (p : A → Bool) (xs ys : List A) → list_any p xs ≡ true
    → position p (xs ++ ys) ≡ position p xs
position-front p xs ys h =
    position-from p (xs ++ ys) ∙ from-front p 0 xs ys h ∙ sym (position-from p xs)

or-true : (b c : Bool) → b ≡ true → (b || c) ≡ true
or-true true c h = refl
or-true false c h = absurd (cc h)

-- what is kept of the names
pub record Keeps (names : List (List ℕ)) (kept : List ℕ → Option ℕ) : Type 0 where
  pub first : (name : List ℕ) → has names name ≡ true → kept name ≡ position (bytes_eq name) names

module _ (names : List (List ℕ)) (kept : List ℕ → Option ℕ) (keeps : Keeps names kept)
    (name : List ℕ) where
  has-position : has names name ≡ is_some (position (bytes_eq name) names)
  has-position = sym (position-is_some (bytes_eq name) names)

  -- nothing is kept of a name that is not there
  pub none_kept : kept name ≡ None → has names name ≡ false
  none_kept none = in_case (has names name) refl where
    in_case : (b : Bool) → has names name ≡ b → b ≡ false
    in_case true e =
        sym e ∙ has-position ∙ ap is_some (sym (keeps.first name e) ∙ none)
    in_case false e = refl

  no_place : has names name ≡ false → position (bytes_eq name) names ≡ None
  no_place none = in_case (position (bytes_eq name) names) (sym has-position ∙ none) where
    in_case : (o : Option ℕ) → is_some o ≡ false → o ≡ None
    in_case None e = refl
    in_case (Some i) e = absurd (cc e)

  -- where nothing is kept of it, it has no place
  pub none_placed : kept name ≡ None → None ≡ position (bytes_eq name) names
  none_placed none = sym (no_place (none_kept none))

  -- where a place is kept of it, that is its place if it stands there
  pub kept_placed : (i : ℕ) → kept name ≡ Some i
      → standing names i name ≡ position (bytes_eq name) names
  kept_placed i is = in_case (has names name) refl where
    in_case : (b : Bool) → has names name ≡ b
        → standing names i name ≡ position (bytes_eq name) names
    in_case true e =
        let place : position (bytes_eq name) names ≡ Some i = sym (keeps.first name e) ∙ is in
        standing_at names i name place ∙ sym place
    in_case false e =
        standing_not names i name (no_place e) ∙ sym (no_place e)

-- the first names keep their places
pub left : (n : ℕ) (names : List (List ℕ)) (kept : List ℕ → Option ℕ) → Keeps names kept
    → Keeps (take n names) kept
left n names kept keeps = record {
  first = λ name h.
      let whole : take n names ++ drop n names ≡ names = take-append-drop n names in
      let there : has names name ≡ true =
      ap (λ xs. has xs name) (sym whole)
      ∙ list_any-append (bytes_eq name) (take n names) (drop n names)
      ∙ or-true (has (take n names) name) (has (drop n names) name) h in
      keeps.first name there ∙ ap (position (bytes_eq name)) (sym whole)
      ∙ position-front (bytes_eq name) (take n names) (drop n names) h;
}

last-is : (names : List (List ℕ)) (x name : List ℕ)
    → has (names ++ x ∷ []) name ≡ (has names name || bytes_eq name x)
last-is names x name =
    list_any-append (bytes_eq name) names (x ∷ [])
    ∙ ap (λ b. has names name || b) (or-false (bytes_eq name x))
  where
    or-false : (b : Bool) → (b || false) ≡ b
    or-false true = refl
    or-false false = refl

-- a name that is there changes no place
pub again : (names : List (List ℕ)) (kept : List ℕ → Option ℕ) (x : List ℕ) → Keeps names kept
    → has names x ≡ true → Keeps (names ++ x ∷ []) kept
again names kept x keeps old = record {
  first = λ name h. in_case name (has names name) refl (sym (last-is names x name) ∙ h);
} where
  in_case : (name : List ℕ) (b : Bool) → has names name ≡ b
      → (has names name || bytes_eq name x) ≡ true
      → kept name ≡ position (bytes_eq name) (names ++ x ∷ [])
  in_case name true e h = keeps.first name e ∙ sym (position-front (bytes_eq name) names (x ∷ []) e)
  in_case name false e h =
      let is : bytes_eq name x ≡ true = ap (λ b. b || bytes_eq name x) (sym e) ∙ h in
      let there : has names name ≡ true = ap (has names) ((bytes_eq-Decides name x).0 is) ∙ old in
      absurd (cc (e, there))

-- a new name stands behind the others
pub new : (names : List (List ℕ)) (kept after : List ℕ → Option ℕ) (x : List ℕ) → Keeps names kept
    → has names x ≡ false
    → ((name : List ℕ) → after name ≡ cond (bytes_eq x name) (Some (length names)) (kept name))
    → Keeps (names ++ x ∷ []) after
new names kept after x keeps none put = record {
  first = λ name h. put name ∙ in_case name (bytes_eq x name) refl (sym (last-is names x name) ∙ h);
} where
  no_place : (o : Option ℕ) → is_some o ≡ false → o ≡ None
  no_place None e = refl
  no_place (Some i) e = absurd (cc e)

  in_case : (name : List ℕ) (b : Bool) → bytes_eq x name ≡ b
      → (has names name || bytes_eq name x) ≡ true
      → cond b (Some (length names)) (kept name) ≡ position (bytes_eq name) (names ++ x ∷ [])
  in_case name true e h =
      let same : x ≡ name = (bytes_eq-Decides x name).0 e in
      let absent : position (bytes_eq name) names ≡ None =
      no_place (position (bytes_eq name) names)
      (position-is_some (bytes_eq name) names ∙ ap (has names) (sym same) ∙ none) in
      let is : bytes_eq name x ≡ true = (bytes_eq-Decides name x).1 (sym same) in
      sym
      (position-push (bytes_eq name) names x
      ∙ ap (λ o. option_or o (cond (bytes_eq name x) (Some (length names)) None)) absent
      ∙ ap (λ b. cond b (Some (length names)) None) is)
  in_case name false e h = in_has (has names name) refl h
    where
      in_has : (b : Bool) → has names name ≡ b → (b || bytes_eq name x) ≡ true
          → kept name ≡ position (bytes_eq name) (names ++ x ∷ [])
      in_has true there h =
          keeps.first name there ∙ sym (position-front (bytes_eq name) names (x ∷ []) there)
      in_has false there h =
          let is : bytes_eq x name ≡ true =
          (bytes_eq-Decides x name).1 (sym ((bytes_eq-Decides name x).0 h)) in
          absurd (cc (e, is))

-- where it has not been put behind them yet, the others keep their places
pub before : (names : List (List ℕ)) (kept after : List ℕ → Option ℕ) (x : List ℕ)
    → Keeps names kept → has names x ≡ false
    → ((name : List ℕ) → after name ≡ cond (bytes_eq x name) (Some (length names)) (kept name))
    → Keeps names after
before names kept after x keeps none put = record {
  first = λ name h. put name ∙ in_case name (bytes_eq x name) refl h;
} where
  in_case : (name : List ℕ) (b : Bool) → bytes_eq x name ≡ b → has names name ≡ true
      → cond b (Some (length names)) (kept name) ≡ position (bytes_eq name) names
  in_case name true e h =
      let there = ap (has names) ((bytes_eq-Decides x name).0 e) ∙ h in absurd (cc (there, none))
  in_case name false e h = keeps.first name h
