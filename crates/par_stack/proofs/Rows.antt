-- Rows of places: what the parts of a row that is joined of some hold, and what a write leaves.
use Rattle.std.proofs.Common.{◌≡◌, ℕ, zero, suc, ◌+◌, ◌-◌, ◌<◌, ◌≤◌, List, [], ◌∷◌, ◌++◌, length}
use Rattle.std.proofs.Common.{map, take, drop, set, get_or, reverse, replicate, Option, Some, None}
use Rattle.std.proofs.Common.{slice_get, refl, sym, ap, ◌∙◌, append_assoc, length-append, arith}
use Rattle.std.specs.Prelude.{option_to_list}
use Rattle.std.specs.List.{flat_map, between}
use Rattle.std.proofs.lemmas.List.{map-append, reverse-append, length-reverse, length-replicate}
use Rattle.std.proofs.lemmas.List.{take-append-drop, replicate-append-replicate, take-append-le}
use Rattle.std.proofs.lemmas.List.{drop-append-le, take_all, drop_all, set-append_right}
use Rattle.std.proofs.lemmas.List.{get_or-append_right, length-take, length-drop, drop-replicate}
use Rattle.std.proofs.lemmas.List.{get_or-reverse}
use lib.Seq.{paste}
use Rattle.std.proofs.lemmas.List.Concat.{flat_map-cons}

module _ {A : Type 0} where
  -- the front of a joined list, and what stands behind it
  pub front : (xs ys : List A) (n : ℕ) → n ≡ length xs → take n (xs ++ ys) ≡ xs
  front xs ys n e = take-append-le n xs ys (omega arith) ∙ take_all n xs (omega arith)

  pub behind : (xs ys : List A) (n : ℕ) → n ≡ length xs → drop n (xs ++ ys) ≡ ys
  behind xs ys n e =
      drop-append-le n xs ys (omega arith)
      ∙ ap (λ (zs : List A). zs ++ ys) (drop_all n xs (omega arith))

  -- the part in the middle
  pub middle : (xs ys zs : List A) (m n : ℕ) → m ≡ length xs → n ≡ m + length ys
      → between m n (xs ++ (ys ++ zs)) ≡ ys
  middle xs ys zs m n e f =
      ap (take (n - m)) (behind xs (ys ++ zs) m e) ∙ front ys zs (n - m) (omega arith)

  -- a write behind the front
  pub written_behind : (xs ys : List A) (n k : ℕ) (v : A) → n ≡ length xs + k
      → set (xs ++ ys) n v ≡ xs ++ set ys k v
  written_behind xs ys n k v e =
      let there : n - length xs ≡ k = omega arith in
      set-append_right xs ys (length xs) n v refl (omega arith)
      ∙ ap (λ (i : ℕ). xs ++ set ys i v) there

  pub read_behind : (xs ys : List A) (n k : ℕ) (d : A) → n ≡ length xs + k
      → get_or (xs ++ ys) n d ≡ get_or ys k d
  read_behind xs ys n k d e =
      let there : n - length xs ≡ k = omega arith in
      get_or-append_right xs ys (length xs) n d refl (omega arith)
      ∙ ap (λ (i : ℕ). get_or ys i d) there

  -- what stands in the front
  pub read_front : (xs ys : List A) (n : ℕ) (d : A) → n < length xs
      → get_or (xs ++ ys) n d ≡ get_or xs n d
  read_front [] ys n d less = absurd (omega arith)
  read_front (x ∷ xs) ys zero d less = refl
  read_front (x ∷ xs) ys (suc n) d less = read_front xs ys n d (omega arith)

-- ---- rows of values, some of which are there

module _ {A : Type 0} where
  -- values that are there, and no more
  pub values : (vs : List A) → flat_map option_to_list (map Some vs) ≡ vs
  values [] = refl
  values (v ∷ vs) =
      flat_map-cons option_to_list (Some v) (map Some vs) ∙ ap (λ (ws : List A). v ∷ ws) (values vs)

  pub length-held : (vs : List A) → length (map Some vs) ≡ length vs
  length-held [] = refl
  length-held (v ∷ vs) = omega (arith, length-held vs)

  -- as many places as values
  pub length-places : (vs : List A) → length (map Some (reverse vs)) ≡ length vs
  length-places vs = length-held (reverse vs) ∙ length-reverse vs

  held-last : (vs : List A) (v : A)
      → map Some (reverse (v ∷ vs)) ≡ map Some (reverse vs) ++ Some v ∷ []
  held-last vs v =
      ap (λ (ws : List A). map Some ws) (reverse-append (v ∷ []) vs)
      ∙ map-append Some (reverse vs) (v ∷ [])

  -- the value of a place from the last
  pub read_last : (vs : List A) (n k : ℕ) (d : Option A) → n < length vs → k + n + 1 ≡ length vs
      → get_or (map Some (reverse vs)) k d ≡ slice_get vs n
  read_last [] n k d less e = absurd (omega arith)
  read_last (v ∷ vs) zero k d less e =
      let earlier : List (Option A) = map Some (reverse vs) in
      ap (λ (ws : List (Option A)). get_or ws k d) (held-last vs v)
      ∙ read_behind earlier (Some v ∷ []) k 0 d (omega (arith, length-places vs))
  read_last (v ∷ vs) (suc n) k d less e =
      let earlier : List (Option A) = map Some (reverse vs) in
      ap (λ (ws : List (Option A)). get_or ws k d) (held-last vs v)
      ∙ read_front earlier (Some v ∷ []) k d (omega (arith, length-places vs))
      ∙ read_last vs n k d (omega arith) (omega arith)

  -- a place that is there and set
  pub read_place : (places : List (Option A)) (n : ℕ) (d : Option A) → n < length places
      → slice_get places n ≡ Some (get_or places n d)
  read_place [] n d less = absurd (omega arith)
  read_place (p ∷ places) zero d less = refl
  read_place (p ∷ places) (suc n) d less = read_place places n d (omega arith)

  -- so many places of nothing
  abbrev pub nothing : ℕ → List (Option A)
  nothing n = replicate n None

  set-first : (free : ℕ) (v : A) → 0 < free
      → set (nothing free) 0 (Some v) ≡ Some v ∷ nothing (free - 1)
  set-first zero v some = absurd (omega arith)
  set-first (suc free) v some =
      let same : free ≡ suc free - 1 = omega arith in
      ap (λ (n : ℕ). Some v ∷ nothing n) same

  -- the row of a frame
  abbrev pub row : (xs locals : List (Option A)) (operands : List A) (free : ℕ) → List (Option A)
  row xs locals operands free = xs ++ (locals ++ (map Some (reverse operands) ++ nothing free))

  -- a value is pushed
  pub row_pushed : (xs locals : List (Option A)) (operands : List A) (free n : ℕ) (v : A)
      → n ≡ length xs + length locals + length operands → 0 < free
      → set (row xs locals operands free) n (Some v) ≡ row xs locals (v ∷ operands) (free - 1)
  row_pushed xs locals operands free n v e some =
      let values_are : List (Option A) = map Some (reverse operands) in
      let behind_all : List (Option A) = nothing free in
      let left : ℕ = length locals + length operands in
      written_behind xs (locals ++ (values_are ++ behind_all)) n left (Some v) (omega arith)
      ∙ ap (λ (ys : List (Option A)). xs ++ ys)
      (written_behind locals (values_are ++ behind_all) left (length operands) (Some v) refl)
      ∙ ap (λ (ys : List (Option A)). xs ++ (locals ++ ys)) (
      written_behind values_are behind_all (length operands) 0 (Some v)
      (omega (arith, length-places operands))
      ∙ ap (λ (ys : List (Option A)). values_are ++ ys) (set-first free v some)
      ∙ sym (append_assoc values_are (Some v ∷ []) (nothing (free - 1)))
      ∙ ap (λ (ys : List (Option A)). ys ++ nothing (free - 1)) (sym (held-last operands v)))

  -- the row with its last operands apart
  pub row_split : (xs locals : List (Option A)) (operands : List A) (free n : ℕ)
      → row xs locals operands free ≡ (xs ++ (locals ++ map Some (reverse (drop n operands))))
      ++ (map Some (reverse (take n operands)) ++ nothing free)
  row_split xs locals operands free n =
      let kept : List (Option A) = map Some (reverse (drop n operands)) in
      let gone : List (Option A) = map Some (reverse (take n operands)) in
      let parts : map Some (reverse operands) ≡ kept ++ gone =
      ap (λ (vs : List A). map Some (reverse vs)) (sym (take-append-drop n operands))
      ∙ ap (λ (vs : List A). map Some vs) (reverse-append (take n operands) (drop n operands))
      ∙ map-append Some (reverse (drop n operands)) (reverse (take n operands)) in
      ap (λ (ys : List (Option A)). xs ++ (locals ++ (ys ++ nothing free))) parts
      ∙ ap (λ (ys : List (Option A)). xs ++ (locals ++ ys)) (append_assoc kept gone (nothing free))
      ∙ ap (λ (ys : List (Option A)). xs ++ ys)
      (sym (append_assoc locals kept (gone ++ nothing free)))
      ∙ sym (append_assoc xs (locals ++ kept) (gone ++ nothing free))

  -- operands are taken
  pub row_kept : (xs locals : List (Option A)) (operands : List A) (free n from to : ℕ)
      → n ≤ length operands → to ≡ length xs + length locals + length operands → from + n ≡ to
      → take from (row xs locals operands free)
      ++ (nothing (to - from) ++ drop to (row xs locals operands free))
      ≡ row xs locals (drop n operands) (free + n)
  row_kept xs locals operands free n from to le e f =
      let kept : List (Option A) = map Some (reverse (drop n operands)) in
      let gone : List (Option A) = map Some (reverse (take n operands)) in
      let front_part : List (Option A) = xs ++ (locals ++ kept) in
      let whole : row xs locals operands free ≡ front_part ++ (gone ++ nothing free) =
      row_split xs locals operands free n in
      let kept_many : length kept ≡ length operands - n =
      length-places (drop n operands) ∙ length-drop n operands in
      let gone_many : length gone ≡ n =
      omega (arith, length-places (take n operands), length-take n operands) in
      let here : from ≡ length front_part =
      omega (arith, length-append xs (locals ++ kept), length-append locals kept, kept_many) in
      let taken : take from (row xs locals operands free) ≡ front_part =
      ap (λ (ys : List (Option A)). take from ys) whole
      ∙ front front_part (gone ++ nothing free) from here in
      let again : row xs locals operands free ≡ (front_part ++ gone) ++ nothing free =
      whole ∙ sym (append_assoc front_part gone (nothing free)) in
      let there : to ≡ length (front_part ++ gone) =
      omega (arith, length-append front_part gone, here, gone_many) in
      let dropped : drop to (row xs locals operands free) ≡ nothing free =
      ap (λ (ys : List (Option A)). drop to ys) again
      ∙ behind (front_part ++ gone) (nothing free) to there in
      let many : to - from + free ≡ free + n = omega arith in
      ap (λ (ys : List (Option A)). ys
      ++ (nothing (to - from) ++ drop to (row xs locals operands free))) taken
      ∙ ap (λ (ys : List (Option A)). front_part ++ (nothing (to - from) ++ ys)) dropped
      ∙ ap (λ (ys : List (Option A)). front_part ++ ys)
      (replicate-append-replicate (to - from) free None ∙ ap (λ (m : ℕ). nothing m) many)
      ∙ append_assoc xs (locals ++ kept) (nothing (free + n))
      ∙ ap (λ (ys : List (Option A)). xs ++ ys) (append_assoc locals kept (nothing (free + n)))

  -- places that are emptied one behind the other
  pub emptied_none : (xs : List (Option A)) (from : ℕ)
      → xs ≡ take from xs ++ (nothing (from - from) ++ drop from xs)
  emptied_none xs from =
      let none : from - from ≡ 0 = omega arith in
      sym (ap (λ (n : ℕ). take from xs ++ (nothing n ++ drop from xs)) none
      ∙ take-append-drop from xs)

  set-drop : (xs : List (Option A)) (place : ℕ) → place < length xs
      → set (drop place xs) 0 None ≡ None ∷ drop (place + 1) xs
  set-drop [] place less = absurd (omega arith)
  set-drop (x ∷ xs) zero less = refl
  set-drop (x ∷ xs) (suc place) less =
      let same : suc place + 1 ≡ suc (place + 1) = omega arith in
      set-drop xs place (omega arith) ∙ sym (ap (λ (n : ℕ). None ∷ drop n (x ∷ xs)) same)

  pub emptied_more : (xs : List (Option A)) (from place : ℕ) → from ≤ place → place < length xs
      → set (take from xs ++ (nothing (place - from) ++ drop place xs)) place None
      ≡ take from xs ++ (nothing (place + 1 - from) ++ drop (place + 1) xs)
  emptied_more xs from place le less =
      let before : List (Option A) = take from xs in
      let many : ℕ = place - from in
      let none : Option A = None in
      let more : many + 1 ≡ place + 1 - from = omega arith in
      written_behind before (nothing many ++ drop place xs) place many None
      (omega (arith, length-take from xs))
      ∙ ap (λ (ys : List (Option A)). before ++ ys) (
      written_behind (nothing many) (drop place xs) many 0 None
      (omega (arith, length-replicate many none))
      ∙ ap (λ (ys : List (Option A)). nothing many ++ ys) (set-drop xs place less)
      ∙ sym (append_assoc (nothing many) (None ∷ []) (drop (place + 1) xs))
      ∙ ap (λ (ys : List (Option A)). ys ++ drop (place + 1) xs)
      (replicate-append-replicate many 1 None)
      ∙ ap (λ (n : ℕ). nothing n ++ drop (place + 1) xs) more)

  -- as many places as before
  pub length-emptied : (xs : List (Option A)) (from to : ℕ) → from ≤ to → to ≤ length xs
      → length (take from xs ++ (nothing (to - from) ++ drop to xs)) ≡ length xs
  length-emptied xs from to le within =
      let none : Option A = None in
      omega (
        arith,
        length-append (take from xs) (nothing (to - from) ++ drop to xs),
        length-append (nothing (to - from)) (drop to xs),
        length-take from xs,
        length-replicate (to - from) none,
        length-drop to xs,
      )

  -- a write behind what is kept, or to the last place that is
  written_last : (xs rest : List (Option A)) (place next : ℕ) (x y : Option A)
      → next ≡ place + 1 → next ≤ length xs
      → set (take next xs ++ rest) place y ≡ set (take place xs ++ x ∷ rest) place y
  written_last [] rest place next x y e le = absurd (omega arith)
  written_last (b ∷ xs) rest zero zero x y e le = absurd (omega arith)
  written_last (b ∷ xs) rest zero (suc zero) x y e le = refl
  written_last (b ∷ xs) rest zero (suc (suc next)) x y e le = absurd (omega arith)
  written_last (b ∷ xs) rest (suc place) zero x y e le = absurd (omega arith)
  written_last (b ∷ xs) rest (suc place) (suc next) x y e le =
      ap (λ (ys : List (Option A)). b ∷ ys)
      (written_last xs rest place next x y (omega arith) (omega arith))

  -- a place that is written need not be emptied
  pub written_first : (xs : List (Option A)) (place to : ℕ) (y : Option A)
      → place < to → to ≤ length xs
      → set (take (place + 1) xs ++ (nothing (to - (place + 1)) ++ drop to xs)) place y
      ≡ set (take place xs ++ (nothing (to - place) ++ drop to xs)) place y
  written_first xs place to y less le =
      let many : ℕ = to - (place + 1) in
      let more : suc many ≡ to - place = omega arith in
      written_last xs (nothing many ++ drop to xs) place (place + 1) None y refl (omega arith)
      ∙ ap (λ (n : ℕ). set (take place xs ++ (nothing n ++ drop to xs)) place y) more

  -- a row that was empty, filled with nothing
  pub filled : (xs : List (Option A)) (n many : ℕ) → xs ≡ [] → many ≡ 0
      → take n xs ++ nothing (n - many) ≡ nothing n
  filled xs n many e none =
      let all : n - many ≡ n = omega arith in
      let short : length xs ≤ n = omega (arith, ap (λ (ys : List (Option A)). length ys) e) in
      ap (λ (ys : List (Option A)). ys ++ nothing (n - many)) (take_all n xs short ∙ e)
      ∙ ap (λ (k : ℕ). nothing k) all

  -- places in front of others are emptied
  pub emptied_front : (xs rest : List (Option A)) (from to : ℕ) → from ≤ to → to ≤ length xs
      → take from (xs ++ rest) ++ (nothing (to - from) ++ drop to (xs ++ rest))
      ≡ (take from xs ++ (nothing (to - from) ++ drop to xs)) ++ rest
  emptied_front xs rest from to le within =
      let middle_part : List (Option A) = nothing (to - from) in
      ap (λ (ys : List (Option A)). ys ++ (middle_part ++ drop to (xs ++ rest)))
      (take-append-le from xs rest (omega arith))
      ∙ ap (λ (ys : List (Option A)). take from xs ++ (middle_part ++ ys))
      (drop-append-le to xs rest within)
      ∙ ap (λ (ys : List (Option A)). take from xs ++ ys)
      (sym (append_assoc middle_part (drop to xs) rest))
      ∙ sym (append_assoc (take from xs) (middle_part ++ drop to xs) rest)

  behind_some : (xs : List (Option A)) (more k n : ℕ) → k ≡ n
      → drop (length xs + k) (xs ++ nothing more) ≡ nothing (more - n)
  behind_some [] more k n e =
      let same : 0 + k ≡ n = omega arith in
      ap (λ (i : ℕ). drop i (nothing more)) same ∙ drop-replicate n more None
  behind_some (x ∷ xs) more k n e =
      let same : length (x ∷ xs) + k ≡ suc (length xs + k) = omega arith in
      ap (λ (i : ℕ). drop i (x ∷ (xs ++ nothing more))) same ∙ behind_some xs more k n e

  -- the last operands of a row are copied to places of nothing behind it
  pub row_copied : (xs locals : List (Option A)) (operands : List A) (free n from to more : ℕ)
      (places : List (Option A)) → n ≤ length operands → n ≤ more
      → to ≡ length xs + length locals + length operands → from + n ≡ to
      → places ≡ row xs locals operands free
      → paste (places ++ nothing more) (length places) (drop from (places ++ nothing more))
      (to - from) ≡ places ++ (map Some (reverse (take n operands)) ++ nothing (more - n))
  row_copied xs locals operands free n from to more places le fits e f is =
      let kept : List (Option A) = map Some (reverse (drop n operands)) in
      let gone : List (Option A) = map Some (reverse (take n operands)) in
      let front_part : List (Option A) = xs ++ (locals ++ kept) in
      let rest : List (Option A) = nothing free ++ nothing more in
      let kept_many : length kept ≡ length operands - n =
      length-places (drop n operands) ∙ length-drop n operands in
      let gone_many : length gone ≡ n =
      omega (arith, length-places (take n operands), length-take n operands) in
      let here : from ≡ length front_part =
      omega (arith, length-append xs (locals ++ kept), length-append locals kept, kept_many) in
      let whole : places ++ nothing more ≡ front_part ++ (gone ++ rest) =
      ap (λ (ys : List (Option A)). ys ++ nothing more) (is ∙ row_split xs locals operands free n)
      ∙ append_assoc front_part (gone ++ nothing free) (nothing more)
      ∙ ap (λ (ys : List (Option A)). front_part ++ ys)
      (append_assoc gone (nothing free) (nothing more)) in
      let found : take (to - from) (drop from (places ++ nothing more)) ≡ gone =
      ap (λ (ys : List (Option A)). take (to - from) (drop from ys)) whole
      ∙ ap (λ (ys : List (Option A)). take (to - from) ys)
      (behind front_part (gone ++ rest) from here)
      ∙ front gone rest (to - from) (omega (arith, gone_many)) in
      let later : drop (length places + (to - from)) (places ++ nothing more) ≡ nothing (more - n) =
      behind_some places more (to - from) n (omega arith) in
      append_assoc (take (length places) (places ++ nothing more))
      (take (to - from) (drop from (places ++ nothing more)))
      (drop (length places + (to - from)) (places ++ nothing more))
      ∙ ap (λ (ys : List (Option A)). ys
      ++ (take (to - from) (drop from (places ++ nothing more))
      ++ drop (length places + (to - from)) (places ++ nothing more)))
      (front places (nothing more) (length places) refl)
      ∙ ap (λ (ys : List (Option A)). places
      ++ (ys ++ drop (length places + (to - from)) (places ++ nothing more))) found
      ∙ ap (λ (ys : List (Option A)). places ++ (gone ++ ys)) later

-- ---- lists of others

module _ {A B : Type 0} where
  -- what a function makes of an item from the last
  pub read_from_last : (make : A → B) (xs : List A) (n k : ℕ) (d : A) → n + 1 + k ≡ length xs
      → slice_get (map make (reverse xs)) n ≡ Some (make (get_or xs k d))
  read_from_last make xs n k d e =
      let less : n < length (reverse xs) = omega (arith, length-reverse xs) in
      let place : length xs - 1 - n ≡ k = omega arith in
      read_mapped make (reverse xs) n d less
      ∙ ap (λ (x : A). Some (make x))
      (get_or-reverse xs n d (omega arith) ∙ ap (λ (i : ℕ). get_or xs i d) place)
    where
      read_mapped : (make : A → B) (ys : List A) (n : ℕ) (d : A) → n < length ys
          → slice_get (map make ys) n ≡ Some (make (get_or ys n d))
      read_mapped make [] n d less = absurd (omega arith)
      read_mapped make (y ∷ ys) zero d less = refl
      read_mapped make (y ∷ ys) (suc n) d less = read_mapped make ys n d (omega arith)

module _ {A : Type 0} where
  -- an item that is not the first
  pub read_later : (x : A) (xs : List A) (n : ℕ) → 0 < n
      → slice_get (x ∷ xs) n ≡ slice_get xs (n - 1)
  read_later x xs zero some = absurd (omega arith)
  read_later x xs (suc n) some =
      let same : n ≡ suc n - 1 = omega arith in ap (λ (i : ℕ). slice_get xs i) same
