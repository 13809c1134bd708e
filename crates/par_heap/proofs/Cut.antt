-- A list that is cut into pieces is read, written and made longer by these.
use Rattle.std.proofs.Common.{◌≡◌, ℕ, zero, suc, ◌+◌, ◌*◌, ◌<◌, ◌≤◌, List, [], ◌∷◌, ◌++◌, length}
use Rattle.std.proofs.Common.{take, drop, set, get_or, None, slice_get, is_some, true}
use Rattle.std.proofs.Common.{length-append, refl, sym, ap, ◌∙◌, inl, inr, arith}
use Rattle.std.specs.Prelude.{◌⊎◌}
use Rattle.std.specs.List.{flat_map, All}
use Rattle.std.specs.Option.{option_and_then}
use Rattle.std.proofs.Math.Nat.{suc-mul, mul_comm}
use Rattle.std.proofs.lemmas.Nat.{mul-add-lt}
use Rattle.std.proofs.Math.Seq.{take-set-lt}
use Rattle.std.proofs.lemmas.List.{length-take, length-drop, take-append-le, drop-append-le}
use Rattle.std.proofs.lemmas.List.{take-append-drop, take-set-le, drop-set-lt, drop-set-add}
use Rattle.std.proofs.lemmas.List.Concat.{flat_map-cons}
use Rattle.std.proofs.lemmas.List.Elements.{All-head}
use Rattle.std.proofs.lemmas.Option.{slice_get_past}
use Rattle.par_heap.specs.Cut.{cut}

module _ {A : Type 0} where
  empty : (xs : List A) → length xs ≡ 0 → xs ≡ []
  empty [] e = refl
  empty (x ∷ xs) e = absurd (omega arith)

  whole : (xs : List A) (w : ℕ) → length xs ≡ w → take w xs ≡ xs
  whole [] zero e = refl
  whole [] (suc w) e = refl
  whole (x ∷ xs) zero e = absurd (omega arith)
  whole (x ∷ xs) (suc w) e = ap (λ ys. x ∷ ys) (whole xs w (omega arith))

  get-take : (w : ℕ) (xs : List A) (f : ℕ) → f < w → slice_get (take w xs) f ≡ slice_get xs f
  get-take zero xs f less = absurd (omega arith)
  get-take (suc w) [] f less = refl
  get-take (suc w) (x ∷ xs) zero less = refl
  get-take (suc w) (x ∷ xs) (suc f) less = get-take w xs f (omega arith)

  get-drop : (k : ℕ) (xs : List A) (f : ℕ) → slice_get (drop k xs) f ≡ slice_get xs (k + f)
  get-drop zero xs f = let same : f ≡ 0 + f = omega arith in ap (slice_get xs) same
  get-drop (suc k) [] f = refl
  get-drop (suc k) (x ∷ xs) f = let same : suc (k + f) ≡ suc k + f = omega arith in
      get-drop k xs f ∙ ap (slice_get (x ∷ xs)) same

  pub length_cut : (c w : ℕ) (xs : List A) → length (cut c w xs) ≡ c
  unfolding cut
  length_cut zero w xs = refl
  length_cut (suc c) w xs = let later = length_cut c w (drop w xs) in omega arith

  rest-many : (c w : ℕ) (xs : List A) → length xs ≡ suc c * w → length (drop w xs) ≡ c * w
  rest-many c w xs e = omega (arith, length-drop w xs, suc-mul c w, e)

  at-least : (c w : ℕ) (xs : List A) → length xs ≡ suc c * w → w ≤ length xs
  at-least c w xs e = omega (arith, suc-mul c w, e)

  -- one piece more
  pub cut_push : (c w : ℕ) (xs ys : List A) → length xs ≡ c * w → length ys ≡ w
      → cut (suc c) w (xs ++ ys) ≡ cut c w xs ++ ys ∷ []
  unfolding cut
  cut_push zero w xs ys e f =
      let none : length xs ≡ 0 = omega (arith, e) in
      ap (λ zs. take w (zs ++ ys) ∷ []) (empty xs none) ∙ ap (λ zs. zs ∷ []) (whole ys w f)
  cut_push (suc c) w xs ys e f =
      ap (λ zs. zs ∷ cut (suc c) w (drop w (xs ++ ys))) (take-append-le w xs ys (at-least c w xs e))
      ∙ ap (λ zs. take w xs ∷ cut (suc c) w zs) (drop-append-le w xs ys (at-least c w xs e))
      ∙ ap (λ zs. take w xs ∷ zs) (cut_push c w (drop w xs) ys (rest-many c w xs e) f)

  -- an item of a piece
  pub cut_get : (c w : ℕ) (xs : List A) (n f : ℕ) → n < c → f < w
      → option_and_then (λ piece. slice_get piece f) (slice_get (cut c w xs) n)
      ≡ slice_get xs (n * w + f)
  unfolding cut
  cut_get zero w xs n f less lt = absurd (omega arith)
  cut_get (suc c) w xs zero f less lt =
      let same : f ≡ 0 * w + f = omega arith in get-take w xs f lt ∙ ap (slice_get xs) same
  cut_get (suc c) w xs (suc n) f less lt =
      let same : w + (n * w + f) ≡ suc n * w + f = omega (arith, suc-mul n w) in
      cut_get c w (drop w xs) n f (omega arith) lt ∙ get-drop w xs (n * w + f)
      ∙ ap (slice_get xs) same

  -- where the piece or the item is not there
  pub cut_outside : (c w : ℕ) (xs : List A) (n f : ℕ) → (c ≤ n) ⊎ (w ≤ f)
      → option_and_then (λ piece. slice_get piece f) (slice_get (cut c w xs) n) ≡ None
  unfolding cut
  cut_outside zero w xs n f out = refl
  cut_outside (suc c) w xs zero f (inl le) = absurd (omega arith)
  cut_outside (suc c) w xs zero f (inr le) =
      slice_get_past (take w xs) f (omega (arith, length-take w xs))
  cut_outside (suc c) w xs (suc n) f (inl le) = cut_outside c w (drop w xs) n f (inl (omega arith))
  cut_outside (suc c) w xs (suc n) f (inr le) = cut_outside c w (drop w xs) n f (inr le)

  -- a written item of a piece
  pub cut_set : (c w : ℕ) (xs : List A) (n f : ℕ) (v : A) → n < c → f < w
      → cut c w (set xs (n * w + f) v) ≡ set (cut c w xs) n (set (get_or (cut c w xs) n []) f v)
  unfolding cut
  cut_set zero w xs n f v less lt = absurd (omega arith)
  cut_set (suc c) w xs zero f v less lt =
      let same : 0 * w + f ≡ f = omega arith in
      ap (λ i. take w (set xs i v) ∷ cut c w (drop w (set xs i v))) same
      ∙ ap (λ zs. zs ∷ cut c w (drop w (set xs f v))) (take-set-lt w xs f v lt)
      ∙ ap (λ zs. set (take w xs) f v ∷ cut c w zs) (drop-set-lt w xs f v lt)
  cut_set (suc c) w xs (suc n) f v less lt =
      let same : suc n * w + f ≡ w + (n * w + f) = omega (arith, suc-mul n w) in
      ap (λ i. take w (set xs i v) ∷ cut c w (drop w (set xs i v))) same
      ∙ ap (λ zs. zs ∷ cut c w (drop w (set xs (w + (n * w + f)) v)))
      (take-set-le w xs (w + (n * w + f)) v (omega arith))
      ∙ ap (λ zs. take w xs ∷ cut c w zs) (drop-set-add w xs (n * w + f) v)
      ∙ ap (λ zs. take w xs ∷ zs) (cut_set c w (drop w xs) n f v (omega arith) lt)

  -- all pieces behind each other
  pub cut_flat : (c w : ℕ) (xs : List A) → length xs ≡ c * w
      → flat_map (λ piece. piece) (cut c w xs) ≡ xs
  unfolding cut
  cut_flat zero w xs e = let none : length xs ≡ 0 = omega (arith, e) in sym (empty xs none)
  cut_flat (suc c) w xs e =
      flat_map-cons (λ (piece : List A). piece) (take w xs) (cut c w (drop w xs))
      ∙ ap (λ zs. take w xs ++ zs) (cut_flat c w (drop w xs) (rest-many c w xs e))
      ∙ take-append-drop w xs

  -- how long the pieces are
  pub cut_width : (c w m : ℕ) (xs : List A) → 0 < c → length xs ≡ c * w
      → All (λ piece. length piece ≡ m) (cut c w xs) → w ≡ m
  unfolding cut
  cut_width zero w m xs some e all = absurd (omega arith)
  cut_width (suc c) w m xs some e all =
      omega (
        arith,
        All-head (λ (piece : List A). length piece ≡ m) (take w xs) (cut c w (drop w xs)) all,
        length-take w xs,
        at-least c w xs e,
      )

  pub cut_none : (w : ℕ) (xs : List A) → cut 0 w xs ≡ []
  unfolding cut
  cut_none w xs = refl

  pub cut_one : (w : ℕ) (xs : List A) → length xs ≡ w → cut 1 w xs ≡ xs ∷ []
  unfolding cut
  cut_one w xs e = ap (λ ys. ys ∷ []) (whole xs w e)

  -- a place beyond the end is not written
  set-past : (xs : List A) (i : ℕ) (v : A) → length xs ≤ i → xs ≡ set xs i v
  set-past [] i v le = refl
  set-past (x ∷ xs) zero v le = absurd (omega arith)
  set-past (x ∷ xs) (suc i) v le = ap (λ ys. x ∷ ys) (set-past xs i v (omega arith))

  -- where the piece or the item is not there, nothing is written
  pub cut_kept : (c w : ℕ) (xs : List A) (n f : ℕ) (v : A) → (c ≤ n) ⊎ (w ≤ f)
      → cut c w xs ≡ set (cut c w xs) n (set (get_or (cut c w xs) n []) f v)
  unfolding cut
  cut_kept zero w xs n f v out = refl
  cut_kept (suc c) w xs zero f v (inl le) = absurd (omega arith)
  cut_kept (suc c) w xs zero f v (inr le) =
      ap (λ ys. ys ∷ cut c w (drop w xs))
      (set-past (take w xs) f v (omega (arith, length-take w xs)))
  cut_kept (suc c) w xs (suc n) f v (inl le) =
      ap (λ ys. take w xs ∷ ys) (cut_kept c w (drop w xs) n f v (inl (omega arith)))
  cut_kept (suc c) w xs (suc n) f v (inr le) =
      ap (λ ys. take w xs ∷ ys) (cut_kept c w (drop w xs) n f v (inr le))

  -- an item of a piece lies within the list
  pub place_within : (c w : ℕ) (xs : List A) (n f : ℕ) → length xs ≡ c * w → n < c → f < w
      → n * w + f < length xs
  place_within c w xs n f e less lt = omega (arith, mul-add-lt n w f c less lt, mul_comm c w, e)

  -- so it is there
  pub cut_there : (c w : ℕ) (xs : List A) (n f : ℕ) → length xs ≡ c * w → n < c → f < w
      → is_some (option_and_then (λ piece. slice_get piece f) (slice_get (cut c w xs) n)) ≡ true
  cut_there c w xs n f e less lt =
      ap is_some (cut_get c w xs n f less lt)
      ∙ is-there xs (n * w + f) (place_within c w xs n f e less lt)
    where
      is-there : (ys : List A) (i : ℕ) → i < length ys → is_some (slice_get ys i) ≡ true
      is-there [] i less = absurd (omega arith)
      is-there (y ∷ ys) zero less = refl
      is-there (y ∷ ys) (suc i) less = is-there ys i (omega arith)

  -- one piece more, as long as those that are there
  pub cut_more : (c w m : ℕ) (xs ys : List A) → length xs ≡ c * w → length ys ≡ m
      → All (λ piece. length piece ≡ m) (cut c w xs)
      → (cut (c + 1) m (xs ++ ys) ≡ cut c w xs ++ ys ∷ []) × (length (xs ++ ys) ≡ (c + 1) * m)
  cut_more zero w m xs ys e f all =
      let none : length xs ≡ 0 * m = omega (arith, e) in (
        cut_push zero m xs ys none f
            ∙ ap (λ zs. zs ++ ys ∷ []) (cut_none m xs ∙ sym (cut_none w xs)),
        omega (arith, length-append xs ys, none, f),
      )
  cut_more (suc c) w m xs ys e f all =
      let same : w ≡ m = cut_width (suc c) w m xs (omega arith) e all in
      let long : length ys ≡ w = omega (arith, f, same) in
      let one : suc c + 1 ≡ suc (suc c) = omega arith in (
        ap (λ k. cut (suc c + 1) k (xs ++ ys)) (sym same) ∙ ap (λ k. cut k w (xs ++ ys)) one
            ∙ cut_push (suc c) w xs ys e long,
        omega (
          arith,
          length-append xs ys,
          e,
          long,
          ap (λ k. (suc c + 1) * k) same,
          ap (λ k. k * w) one,
          suc-mul (suc c) w,
        ),
      )
