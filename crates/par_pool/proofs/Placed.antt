-- An entry of a pool in the making is found by its bytes, and a new one gets the next place.
use Rattle.std.proofs.Common.{◌≡◌, ℕ, Bool, true, false, cond, List, [], ◌∷◌, ◌++◌, length, get_or}
use Rattle.std.proofs.Common.{slice_get, Option, Some, None, refl, sym, ap, ◌∙◌, true≢false, ◌+◌}
use Rattle.std.proofs.Common.{◌<◌, ◌^◌, subst, arith}
use Rattle.std.specs.Prelude.{Vec}
use Rattle.std.specs.Option.{option_or}
use Rattle.std.specs.List.{AllByRecursion}
use Rattle.std.specs.Str.{bytes_eq}
use Rattle.std.proofs.lemmas.List.Elements.{All-from_recursion, All-get_or}
use Rattle.std.proofs.lemmas.List.Quantifiers.{position-Some}
use Rattle.std.proofs.lemmas.Option.{slice_get_within, slice_get-get_or}
use Rattle.std.proofs.lemmas.Slice.Eq.{bytes_eq-Decides}
use Rattle.std.specs.HashMap.{HashMap, get}
use Rattle.par_pool.specs.declared.constant.Constant.{Constant}
use Rattle.par_pool.specs.declared.error.ClassError.TheVariants.{Magic}
use Rattle.par_pool.specs.Spelling.{constant, Fits, IsMade}
use Rattle.par_pool.specs.Constants.{constant_at}
use Rattle.par_pool.specs.Placed.{place_of, same_bytes, IsIndexed}
use Rattle.par_pool.proofs.Exact.{ok_is}
use Rattle.par_pool.proofs.Made.{IsAbsent}
use Rattle.par_pool.proofs.Positions.{position-push, position-none}
use Rattle.par_pool.proofs.Spelled.{exact_constant}

-- no two constants have one spelling
spelled_once : (c d : Constant) → Fits c → Fits d → constant c ≡ constant d → c ≡ d
spelled_once c d f g e =
    let one = (exact_constant Magic 0).again c [] f in
    let two = (exact_constant Magic 0).again d [] g in
    ap (λ (x : Constant × List ℕ). x.0)
    (ok_is (c, []) (
      d,
      [],
    ) (sym one ∙ ap (λ (bytes : List ℕ). constant_at Magic 0 (bytes ++ [])) e ∙ two))

-- what stands at the place of its bytes
pub entry_found : (entries : List Constant) (c : Constant) (place : ℕ) → AllByRecursion Fits entries
    → Fits c → place_of entries (constant c) ≡ Some place → slice_get entries place ≡ Some c
entry_found entries c place fits fit e =
    let at = position-Some (λ entry. bytes_eq (constant c) (constant entry)) entries place c e in
    let same =
    spelled_once c (get_or entries place c) fit
    (All-get_or Fits entries place c at.0 (All-from_recursion Fits entries fits))
    ((bytes_eq-Decides (constant c) (constant (get_or entries place c))).0 at.1) in
    slice_get-get_or entries place c at.0 ∙ ap (λ (x : Constant). Some x) (sym same)

-- what has no place is not there
pub entry_absent : (entries : List Constant) (c : Constant) → place_of entries (constant c) ≡ None
    → IsAbsent entries c
entry_absent entries c none = λ place is.
    let no =
    position-none (λ entry. bytes_eq (constant c) (constant entry)) entries none place c is in
    true≢false (sym ((bytes_eq-Decides (constant c) (constant c)).1 refl) ∙ no)

-- a new entry takes the next place, and each other bytes keep theirs
pub place_push : (entries : List Constant) (c : Constant) (bytes : List ℕ)
    → place_of entries (constant c) ≡ None
    → place_of (entries ++ c ∷ []) bytes
    ≡ cond (bytes_eq (constant c) bytes) (Some (length entries)) (place_of entries bytes)
place_push entries c bytes none =
    position-push (λ entry. bytes_eq bytes (constant entry)) entries c
    ∙ in_case (bytes_eq bytes (constant c)) (bytes_eq (constant c) bytes)
    (bytes_eq-Decides bytes (constant c)) (bytes_eq-Decides (constant c) bytes) refl refl
  where
    or_none : (o : Option ℕ) → option_or o None ≡ o
    or_none None = refl
    or_none (Some n) = refl

    in_case : (a b : Bool) → (a ≡ true → bytes ≡ constant c) × (bytes ≡ constant c → a ≡ true)
        → (b ≡ true → constant c ≡ bytes) × (constant c ≡ bytes → b ≡ true)
        → bytes_eq bytes (constant c) ≡ a → bytes_eq (constant c) bytes ≡ b
        → option_or (place_of entries bytes) (cond a (Some (length entries)) None)
        ≡ cond b (Some (length entries)) (place_of entries bytes)
    in_case true true p q _ _ =
        ap (λ (o : Option ℕ). option_or o (Some (length entries)))
        (ap (place_of entries) (p.0 refl) ∙ none)
    in_case false false p q _ _ = or_none (place_of entries bytes)
    in_case true false p q _ _ = absurd (true≢false (sym (q.1 (sym (p.0 refl)))))
    in_case false true p q _ _ = absurd (true≢false (sym (p.1 (sym (q.0 refl)))))

module _ {S Z : Type 0} (entries : List Constant) (places : HashMap (Vec ℕ Z) ℕ S)
    (bytes : Vec ℕ Z) (c : Constant) (indexed : IsIndexed entries places)
    (is : bytes.items ≡ constant c)
  where
    -- where the bytes of a constant have no place
    pub bytes_absent : None ≡ get same_bytes places bytes → place_of entries (constant c) ≡ None
    bytes_absent none = ap (place_of entries) (sym is) ∙ sym (indexed.placed bytes) ∙ sym none

    -- what stands at the place of the bytes of a constant
    pub bytes_found : (place : ℕ) → Fits c → Some place ≡ get same_bytes places bytes
        → slice_get entries place ≡ Some c
    bytes_found place fits found =
        entry_found entries c place indexed.made.is_pool.fits fits
        (ap (place_of entries) (sym is) ∙ sym (indexed.placed bytes) ∙ sym found)

    -- a place fits two bytes
    pub place_small : (place : ℕ) → Fits c → Some place ≡ get same_bytes places bytes
        → place + 1 < 2 ^ 16
    place_small place fits found =
        omega (
          arith,
          slice_get_within entries place c (bytes_found place fits found),
          indexed.made.is_pool.few,
        )

-- what looks bytes up, where it finds them as before
pub indexed_still : {S Z : Type 0} (entries still : List Constant)
    (before after : HashMap (Vec ℕ Z) ℕ S) → IsIndexed entries before → still ≡ entries
    → ((q : Vec ℕ Z) → get same_bytes after q ≡ get same_bytes before q) → IsIndexed still after
indexed_still entries still before after indexed same found = record {
  made = subst IsMade (sym same) indexed.made;
  placed = λ q.
      found q ∙ indexed.placed q
      ∙ ap (λ (pool : List Constant). place_of pool q.items) (sym same);
}

-- what looks bytes up, after the bytes of a new entry were given its place
pub indexed_push : {S Z : Type 0} (entries more : List Constant)
    (before after : HashMap (Vec ℕ Z) ℕ S) (bytes : Vec ℕ Z) (c : Constant)
    → IsIndexed entries before → bytes.items ≡ constant c → place_of entries (constant c) ≡ None
    → more ≡ entries ++ c ∷ []
    → ((q : Vec ℕ Z) → get same_bytes after q
    ≡ cond (same_bytes bytes q) (Some (length entries)) (get same_bytes before q))
    → IsMade more → IsIndexed more after
indexed_push entries more before after bytes c indexed is none grown put made = record {
  made = made;
  placed = λ q.
      put q
      ∙ ap (λ (spelled : List ℕ). cond (bytes_eq spelled q.items) (Some (length entries))
      (get same_bytes before q)) is
      ∙ ap (λ (found : Option ℕ). cond (bytes_eq (constant c) q.items)
      (Some (length entries)) found) (indexed.placed q)
      ∙ sym (ap (λ (pool : List Constant). place_of pool q.items) grown
      ∙ place_push entries c q.items none);
}
