-- Kinds on one another, in whole pieces and a rest.
use Rattle.std.proofs.Common.{◌≡◌, ℕ, zero, suc, ◌+◌, ◌-◌, ◌*◌, ◌/◌, ◌%◌, ◌<◌, ◌≤◌, Bool, true}
use Rattle.std.proofs.Common.{false, ◌&&◌, List, [], ◌∷◌, ◌++◌, Some, length, take}
use Rattle.std.proofs.Common.{drop, get_or, refl, sym, ap, subst, ◌∙◌, arith, append_assoc}
use Rattle.std.specs.List.{slice_get}
use Rattle.std.proofs.Math.Seq.{take-append-add}
use Rattle.std.proofs.lemmas.Bool.{and_parts}
use Rattle.std.proofs.lemmas.List.{length-append, length-map, map-append, append-nil}
use Rattle.std.proofs.lemmas.List.{length-take-le, drop_more, take_more}
use Rattle.std.proofs.lemmas.Nat.{div-add-mod'}
use Rattle.std.proofs.lemmas.Option.{same_Some, slice_get_read}
use Rattle.par_values.specs.Areas.{Name}
use Rattle.par_kinds.specs.declared.frame.VKind.{VKind}
use Rattle.par_kinds.specs.Kinds.{into}
use Rattle.par_kinds.specs.Passes.{merge, all_into, merge_all}
use Rattle.par_place_kinds.specs.declared.kind.PlaceKind.{PlaceKind}
use Rattle.par_frame_steps.specs.declared.pile.TheConstants.{PIECE, MOST_PIECES}
use Rattle.par_frame_steps.specs.Marks.{kind_of, kinds_of}
use Rattle.par_frame_steps.specs.Piled.{joined, AreWhole, IsPiled}
use Rattle.par_place_kinds.proofs.Lists.{all-differ}

abbrev Kinds : Type 0
Kinds = List PlaceKind

-- ---- one piece more

joined-more : (ps : List Kinds) (p : Kinds) → joined (ps ++ p ∷ []) ≡ joined ps ++ p
joined-more [] p = append-nil p
joined-more (q ∷ ps) p =
    ap (λ (ks : Kinds). q ++ ks) (joined-more ps p) ∙ sym (append_assoc q (joined ps) p)

-- all kinds, and those of a piece more
pub told_more : (ps : List Kinds) (p : Kinds)
    → kinds_of (joined (ps ++ p ∷ [])) ≡ kinds_of (joined ps) ++ kinds_of p
told_more ps p =
    ap (λ (ks : Kinds). kinds_of ks) (joined-more ps p) ∙ map-append kind_of (joined ps) p

pub told_next : (ps : List Kinds) (i : ℕ) (d p : Kinds) → i < length ps → p ≡ get_or ps i d
    → kinds_of (joined (take (i + 1) ps)) ≡ kinds_of (joined (take i ps)) ++ kinds_of p
told_next ps i d p inside is =
    ap (λ (qs : List Kinds). kinds_of (joined qs))
    (take_more ps i d inside ∙ ap (λ (q : Kinds). take i ps ++ q ∷ []) (sym is))
    ∙ told_more (take i ps) p

pub told_one : (ps : List Kinds) (p : Kinds) → length ps ≡ 0
    → kinds_of p ≡ kinds_of (joined (ps ++ p ∷ []))
told_one [] p none = ap (λ (ks : Kinds). kinds_of ks) (sym (append-nil p))
told_one (q ∷ ps) p none = absurd (omega (arith, none))

whole-more : (ps : List Kinds) (p : Kinds) → AreWhole ps → length p ≡ PIECE
    → AreWhole (ps ++ p ∷ [])
whole-more [] p whole is = (is, tt)
whole-more (q ∷ ps) p whole is = (whole.0, whole-more ps p whole.1 is)

whole-first : (ps : List Kinds) (p : Kinds) → AreWhole (ps ++ p ∷ [])
    → AreWhole ps × (length p ≡ PIECE)
whole-first [] p whole = (tt, whole.0)
whole-first (q ∷ ps) p whole =
    let first = whole-first ps p whole.1 in ((whole.0, first.0), first.1)

pub length-more : {A : Type 0} (xs : List A) (x : A) → length (xs ++ x ∷ []) ≡ suc (length xs)
length-more [] x = refl
length-more (y ∷ xs) x = ap suc (length-more xs x)

-- a kind is pushed where there is room
pub pushed-piled : (ps : List Kinds) (rest : Kinds) (k : PlaceKind) → IsPiled ps rest
    → length rest < PIECE → IsPiled ps (rest ++ k ∷ [])
pushed-piled ps rest k is room = record {
  whole = is.whole;
  few = is.few;
  short = omega (arith, room, length-more rest k);
  behind = λ some. omega (arith, length-more rest k);
}

-- and where there is none
pub stacked-piled : (ps : List Kinds) (rest : Kinds) (k : PlaceKind) → IsPiled ps rest
    → PIECE ≤ length rest → length ps < MOST_PIECES → IsPiled (ps ++ rest ∷ []) (k ∷ [])
stacked-piled ps rest k is full few = record {
  whole = whole-more ps rest is.whole (let short = is.short in omega (arith, full, short));
  few = omega (arith, few, length-more ps rest);
  short = omega arith;
  behind = λ some. omega arith;
}

pub stacked : (ps : List Kinds) (rest : Kinds) (k : PlaceKind)
    → joined (ps ++ rest ∷ []) ++ k ∷ [] ≡ (joined ps ++ rest) ++ k ∷ []
stacked ps rest k = ap (λ (ks : Kinds). ks ++ k ∷ []) (joined-more ps rest)

-- ---- one kind less

-- the last is gone of what stands behind all pieces
pub popped : (ps : List Kinds) (rest : Kinds) → 0 < length rest
    → joined ps ++ take (length rest - 1) rest
    ≡ take (length (joined ps ++ rest) - 1) (joined ps ++ rest)
popped ps rest some =
    sym (take-append-add (joined ps) rest (length rest - 1))
    ∙ ap (λ (n : ℕ). take n (joined ps ++ rest))
    (omega (arith, some, length-append (joined ps) rest))

-- it was the only one there
pub opened : (ps : List Kinds) (p rest : Kinds) → length rest ≡ 1
    → joined ps ++ p
    ≡ take (length (joined (ps ++ p ∷ []) ++ rest) - 1) (joined (ps ++ p ∷ []) ++ rest)
opened ps p rest one =
    sym (append-nil (joined ps ++ p))
    ∙ sym (take-append-add (joined ps ++ p) rest 0)
    ∙ ap (λ (n : ℕ). take n ((joined ps ++ p) ++ rest))
    (omega (arith, one, length-append (joined ps ++ p) rest))
    ∙ ap (λ (ks : Kinds). take (length (ks ++ rest) - 1) (ks ++ rest)) (sym (joined-more ps p))

-- without its last piece
pub fewer-piled : (ps : List Kinds) (p rest : Kinds) → IsPiled (ps ++ p ∷ []) rest → IsPiled ps rest
fewer-piled ps p rest is =
    let few = is.few in
    let some = is.behind (omega (arith, length-more ps p)) in
    record {
      whole = (whole-first ps p is.whole).0;
      few = omega (arith, few, length-more ps p);
      short = is.short;
      behind = λ any. some;
    }

pub opened-piled : (ps : List Kinds) (p rest : Kinds) → IsPiled (ps ++ p ∷ []) rest → IsPiled ps p
opened-piled ps p rest is =
    let whole = whole-first ps p is.whole in
    let few = is.few in
    let size = whole.1 in
    record {
      whole = whole.0;
      few = omega (arith, few, length-more ps p);
      short = omega (arith, size);
      behind = λ some. omega (arith, size);
    }

-- the last piece and those before it
pub last_piece : (ps : List Kinds) (n : ℕ) (p : Kinds) → length ps ≡ suc n → p ≡ get_or ps n p
    → take n ps ++ p ∷ [] ≡ ps
last_piece [] n p many is = absurd (omega (arith, many))
last_piece (q ∷ []) zero p many is = ap (λ (r : Kinds). r ∷ []) is
last_piece (q ∷ r ∷ ps) zero p many is = absurd (omega (arith, many))
last_piece (q ∷ ps) (suc n) p many is =
    ap (λ (qs : List Kinds). q ∷ qs) (last_piece ps n p (omega (arith, many)) is)

-- one more is gone of those that are left
pub taken_more : (xs : Kinds) (i : ℕ)
    → take (length (take (length xs - i) xs) - 1) (take (length xs - i) xs)
    ≡ take (length xs - (i + 1)) xs
taken_more xs i =
    let left : length (take (length xs - i) xs) ≡ length xs - i =
    length-take-le (length xs - i) xs (omega arith) in
    let one : length xs - i - 1 ≡ length xs - (i + 1) = omega arith in
    ap (λ (n : ℕ). take (n - 1) (take (length xs - i) xs)) left
    ∙ ap (λ (n : ℕ). take n (take (length xs - i) xs)) one
    ∙ taken (length xs - (i + 1)) (length xs - i) xs (omega arith)
  where
    taken : (m n : ℕ) (xs : Kinds) → m ≤ n → take m (take n xs) ≡ take m xs
    taken zero n xs le = refl
    taken (suc m) zero xs le = absurd (omega (arith, le))
    taken (suc m) (suc n) [] le = refl
    taken (suc m) (suc n) (x ∷ xs) le =
        ap (λ (ys : Kinds). x ∷ ys) (taken m n xs (omega (arith, le)))

-- ---- how many there are

pub many_joined : (ps : List Kinds) → AreWhole ps → length (joined ps) ≡ length ps * PIECE
many_joined [] whole = refl
many_joined (p ∷ ps) whole =
    let size = whole.0 in
    let rest = many_joined ps whole.1 in
    omega (arith, length-append p (joined ps), size, rest)

pub many_piled : (ps : List Kinds) (rest : Kinds) → AreWhole ps
    → length (joined ps ++ rest) ≡ length ps * PIECE + length rest
many_piled ps rest whole =
    length-append (joined ps) rest ∙ ap (λ (n : ℕ). n + length rest) (many_joined ps whole)

-- as many kinds, so as many pieces
same_pieces : (ps qs : List Kinds) (r s : Kinds) → IsPiled ps r → IsPiled qs s
    → length (joined ps ++ r) ≡ length (joined qs ++ s) → length ps ≡ length qs
same_pieces ps qs r s one other same =
    let short = one.short in
    let another = other.short in
    pieces (length ps) (length qs) (length r) (length s) short another one.behind other.behind
    (sym (many_piled ps r one.whole) ∙ same ∙ many_piled qs s other.whole)
  where
    pieces : (a b m n : ℕ) → m ≤ PIECE → n ≤ PIECE → (0 < a → 0 < m) → (0 < b → 0 < n)
        → a * PIECE + m ≡ b * PIECE + n → a ≡ b
    pieces zero zero m n small few some any e = refl
    pieces zero (suc b) m n small few some any e =
        let more = any (omega arith) in absurd (omega (arith, e, small, more))
    pieces (suc a) zero m n small few some any e =
        let more = some (omega arith) in absurd (omega (arith, e, few, more))
    pieces (suc a) (suc b) m n small few some any e =
        ap suc (pieces a b m n small few (λ _. some (omega arith)) (λ _. any (omega arith))
        (omega (arith, e)))

-- ---- one of them

get-first : {A : Type 0} (xs ys : List A) (n : ℕ) → n < length xs
    → slice_get (xs ++ ys) n ≡ slice_get xs n
get-first [] ys n inside = absurd (omega (arith, inside))
get-first (x ∷ xs) ys zero inside = refl
get-first (x ∷ xs) ys (suc n) inside = get-first xs ys n (omega (arith, inside))

get-behind : {A : Type 0} (xs ys : List A) (n : ℕ)
    → slice_get (xs ++ ys) (length xs + n) ≡ slice_get ys n
get-behind {A} [] ys n =
    let none : 0 + n ≡ n = omega arith in ap (λ (m : ℕ). slice_get ys m) none
get-behind (x ∷ xs) ys n =
    ap (λ (m : ℕ). slice_get (x ∷ (xs ++ ys)) m) plus ∙ get-behind xs ys n
  where
    plus : length (x ∷ xs) + n ≡ suc (length xs + n)
    plus = omega arith

in-piece : (ps : List Kinds) (rest : Kinds) (q m : ℕ) (p : Kinds) → AreWhole ps
    → slice_get ps q ≡ Some p → m < PIECE
    → slice_get p m ≡ slice_get (joined ps ++ rest) (q * PIECE + m)
in-piece [] rest q m p whole there inside = absurd (cc there)
in-piece (r ∷ ps) rest zero m p whole there inside =
    let size = whole.0 in
    let none : m ≡ 0 + m = omega arith in
    let within : m < length r = omega (arith, inside, size) in
    let first : m < length (r ++ joined ps) =
    omega (arith, within, length-append r (joined ps)) in
    ap (λ (ks : Kinds). slice_get ks m) (sym (same_Some r p there))
    ∙ sym (get-first r (joined ps) m within)
    ∙ sym (get-first (r ++ joined ps) rest m first)
    ∙ ap (λ (n : ℕ). slice_get ((r ++ joined ps) ++ rest) n) none
in-piece (r ∷ ps) rest (suc q) m p whole there inside =
    let size = whole.0 in
    let place : length r + (q * PIECE + m) ≡ suc q * PIECE + m = omega (arith, size) in
    in-piece ps rest q m p whole.1 there inside
    ∙ sym (get-behind r (joined ps ++ rest) (q * PIECE + m))
    ∙ ap (λ (n : ℕ). slice_get (r ++ (joined ps ++ rest)) n) place
    ∙ ap (λ (ks : Kinds). slice_get ks (suc q * PIECE + m))
    (sym (append_assoc r (joined ps) rest))

-- it is in a piece, or in the rest
pub get_piece : (ps : List Kinds) (rest : Kinds) (n : ℕ) (p : Kinds) → AreWhole ps
    → n / PIECE < length ps → p ≡ get_or ps (n / PIECE) p
    → slice_get p (n % PIECE) ≡ slice_get (joined ps ++ rest) n
get_piece ps rest n p whole inside is =
    in-piece ps rest (n / PIECE) (n % PIECE) p whole
    (slice_get_read ps (length ps) (n / PIECE) p refl inside is) (omega arith)
    ∙ ap (λ (m : ℕ). slice_get (joined ps ++ rest) m) (div-add-mod' n PIECE)

pub get_rest : (ps : List Kinds) (rest : Kinds) (n : ℕ) → AreWhole ps → length ps ≤ n / PIECE
    → slice_get rest (n - length ps * PIECE) ≡ slice_get (joined ps ++ rest) n
get_rest ps rest n whole many =
    let place : length (joined ps) + (n - length ps * PIECE) ≡ n =
    omega (arith, many, many_joined ps whole, div-add-mod' n PIECE) in
    sym (get-behind (joined ps) rest (n - length ps * PIECE))
    ∙ ap (λ (m : ℕ). slice_get (joined ps ++ rest) m) place

-- ---- what fits into what

module _ (exc : List Name) where
  Fits : Kinds → Kinds → Bool
  Fits ks ls = all_into exc (kinds_of ks) (kinds_of ls)

  and-assoc : (a b c : Bool) → ((a && b) && c) ≡ (a && (b && c))
  and-assoc true b c = refl
  and-assoc false b c = refl

  -- those of one piece and those behind it
  into-parts : (ks ls ms ns : List VKind) → length ks ≡ length ls
      → all_into exc (ks ++ ms) (ls ++ ns) ≡ (all_into exc ks ls && all_into exc ms ns)
  into-parts [] [] ms ns same = refl
  into-parts [] (l ∷ ls) ms ns same = absurd (omega (arith, same))
  into-parts (k ∷ ks) [] ms ns same = absurd (omega (arith, same))
  into-parts (k ∷ ks) (l ∷ ls) ms ns same =
      ap (λ (b : Bool). into exc k l && b) (into-parts ks ls ms ns (omega (arith, same)))
      ∙ sym (and-assoc (into exc k l) (all_into exc ks ls) (all_into exc ms ns))

  pub into_parts : (ks ls ms ns : Kinds) → length ks ≡ length ls
      → all_into exc (kinds_of (ks ++ ms)) (kinds_of (ls ++ ns))
      ≡ (all_into exc (kinds_of ks) (kinds_of ls) && all_into exc (kinds_of ms) (kinds_of ns))
  into_parts ks ls ms ns same =
      ap (λ (vs : List VKind). all_into exc vs (kinds_of (ls ++ ns))) (map-append kind_of ks ms)
      ∙ ap (λ (vs : List VKind). all_into exc (kinds_of ks ++ kinds_of ms) vs)
      (map-append kind_of ls ns)
      ∙ into-parts (kinds_of ks) (kinds_of ls) (kinds_of ms) (kinds_of ns)
      (length-map ks kind_of ∙ same ∙ sym (length-map ls kind_of))

  -- ---- what is merged

  -- where all fit they are what they fit into
  merge-into : (ks ls : List VKind) → all_into exc ks ls ≡ true → merge_all exc ks ls ≡ ls
  merge-into [] [] e = refl
  merge-into [] (l ∷ ls) e = absurd (cc e)
  merge-into (k ∷ ks) [] e = absurd (cc e)
  merge-into (k ∷ ks) (l ∷ ls) e =
      let parts = and_parts (into exc k l) (all_into exc ks ls) e in
      ap (λ (v : VKind). v ∷ merge_all exc ks ls) (merged k l parts.0)
      ∙ ap (λ (vs : List VKind). l ∷ vs) (merge-into ks ls parts.1)
    where
      merged : (k l : VKind) → into exc k l ≡ true → merge exc k l ≡ l
      merged k l is = rw is refl

  merge-parts : (ks ls ms ns : List VKind) → length ks ≡ length ls
      → merge_all exc (ks ++ ms) (ls ++ ns) ≡ merge_all exc ks ls ++ merge_all exc ms ns
  merge-parts [] [] ms ns same = refl
  merge-parts [] (l ∷ ls) ms ns same = absurd (omega (arith, same))
  merge-parts (k ∷ ks) [] ms ns same = absurd (omega (arith, same))
  merge-parts (k ∷ ks) (l ∷ ls) ms ns same =
      ap (λ (vs : List VKind). merge exc k l ∷ vs)
      (merge-parts ks ls ms ns (omega (arith, same)))

  many-merged : (ks ls : List VKind) → length ks ≡ length ls
      → length (merge_all exc ks ls) ≡ length ks
  many-merged [] [] same = refl
  many-merged [] (l ∷ ls) same = absurd (omega (arith, same))
  many-merged (k ∷ ks) [] same = absurd (omega (arith, same))
  many-merged (k ∷ ks) (l ∷ ls) same = ap suc (many-merged ks ls (omega (arith, same)))

  many_merged : (ks ls ms : Kinds) → length ks ≡ length ls
      → kinds_of ms ≡ merge_all exc (kinds_of ks) (kinds_of ls) → length ms ≡ length ks
  many_merged ks ls ms same is =
      sym (length-map ms kind_of) ∙ ap (λ (vs : List VKind). length vs) is
      ∙ many-merged (kinds_of ks) (kinds_of ls)
      (length-map ks kind_of ∙ same ∙ sym (length-map ls kind_of))
      ∙ length-map ks kind_of

  pub merge_into : (ks ls : Kinds) → all_into exc (kinds_of ks) (kinds_of ls) ≡ true
      → kinds_of ls ≡ merge_all exc (kinds_of ks) (kinds_of ls)
  merge_into ks ls is = sym (merge-into (kinds_of ks) (kinds_of ls) is)

  pub merge_parts : (ks ls ms ns : Kinds) → length ks ≡ length ls
      → merge_all exc (kinds_of (ks ++ ms)) (kinds_of (ls ++ ns))
      ≡ merge_all exc (kinds_of ks) (kinds_of ls) ++ merge_all exc (kinds_of ms) (kinds_of ns)
  merge_parts ks ls ms ns same =
      ap (λ (vs : List VKind). merge_all exc vs (kinds_of (ls ++ ns))) (map-append kind_of ks ms)
      ∙ ap (λ (vs : List VKind). merge_all exc (kinds_of ks ++ kinds_of ms) vs)
      (map-append kind_of ls ns)
      ∙ merge-parts (kinds_of ks) (kinds_of ls) (kinds_of ms) (kinds_of ns)
      (length-map ks kind_of ∙ same ∙ sym (length-map ls kind_of))

  -- ---- piece by piece

  whole-at : (ps : List Kinds) (i : ℕ) (d : Kinds) → AreWhole ps → i < length ps
      → length (get_or ps i d) ≡ PIECE
  whole-at [] i d whole inside = absurd (omega (arith, inside))
  whole-at (p ∷ ps) zero d whole inside = whole.0
  whole-at (p ∷ ps) (suc i) d whole inside = whole-at ps i d whole.1 (omega (arith, inside))

  -- one piece more is looked at
  module _ (ps qs : List Kinds) (i : ℕ) (p q : Kinds) (whole : AreWhole ps) (others : AreWhole qs)
      (many : length ps ≡ length qs) (inside : i < length ps) (here : p ≡ get_or ps i p)
      (there : q ≡ get_or qs i q) where
    within : i < length qs
    within = subst (λ (n : ℕ). i < n) many inside

    size : length p ≡ PIECE
    size = ap (λ (ks : Kinds). length ks) here ∙ whole-at ps i p whole inside

    as_many : length p ≡ length q
    as_many =
        size ∙ sym (ap (λ (ks : Kinds). length ks) there ∙ whole-at qs i q others within)

    front : joined (drop i ps) ≡ p ++ joined (drop (i + 1) ps)
    front =
        ap joined (drop_more ps i p inside)
        ∙ ap (λ (ks : Kinds). ks ++ joined (drop (i + 1) ps)) (sym here)

    other : joined (drop i qs) ≡ q ++ joined (drop (i + 1) qs)
    other =
        ap joined (drop_more qs i q within)
        ∙ ap (λ (ks : Kinds). ks ++ joined (drop (i + 1) qs)) (sym there)

    into-here : all_into exc (kinds_of (joined (drop i ps))) (kinds_of (joined (drop i qs)))
        ≡ (all_into exc (kinds_of p) (kinds_of q)
        && all_into exc (kinds_of (joined (drop (i + 1) ps)))
        (kinds_of (joined (drop (i + 1) qs))))
    into-here =
        ap (λ (ks : Kinds). all_into exc (kinds_of ks) (kinds_of (joined (drop i qs)))) front
        ∙ ap (λ (ks : Kinds). all_into exc (kinds_of (p ++ joined (drop (i + 1) ps))) (kinds_of ks))
        other
        ∙ into_parts p q (joined (drop (i + 1) ps)) (joined (drop (i + 1) qs)) as_many

    pub piece_unfit : (b x : Bool) → b ≡ all_into exc (kinds_of p) (kinds_of q) → b ≡ false
        → all_into exc (kinds_of (joined (drop i ps))) (kinds_of (joined (drop i qs))) ≡ x
        → false ≡ x
    piece_unfit b x is unfit so_far =
        ap (λ (c : Bool). c && all_into exc (kinds_of (joined (drop (i + 1) ps)))
        (kinds_of (joined (drop (i + 1) qs)))) (sym unfit ∙ is)
        ∙ sym into-here ∙ so_far

    pub piece_fits : (b x : Bool) → b ≡ all_into exc (kinds_of p) (kinds_of q) → b ≡ true
        → all_into exc (kinds_of (joined (drop i ps))) (kinds_of (joined (drop i qs))) ≡ x
        → all_into exc (kinds_of (joined (drop (i + 1) ps)))
        (kinds_of (joined (drop (i + 1) qs))) ≡ x
    piece_fits b x is fits so_far =
        ap (λ (c : Bool). c && all_into exc (kinds_of (joined (drop (i + 1) ps)))
        (kinds_of (joined (drop (i + 1) qs)))) (sym fits ∙ is)
        ∙ sym into-here ∙ so_far

    -- and one more is merged
    pub piece_merged : (all : List Kinds) (m : Kinds) (x : List VKind)
        → kinds_of m ≡ merge_all exc (kinds_of p) (kinds_of q)
        → kinds_of (joined all)
        ++ merge_all exc (kinds_of (joined (drop i ps))) (kinds_of (joined (drop i qs))) ≡ x
        → kinds_of (joined (all ++ m ∷ []))
        ++ merge_all exc (kinds_of (joined (drop (i + 1) ps)))
        (kinds_of (joined (drop (i + 1) qs))) ≡ x
    piece_merged all m x is so_far =
        let rest : List VKind =
        merge_all exc (kinds_of (joined (drop (i + 1) ps))) (kinds_of (joined (drop (i + 1) qs))) in
        ap (λ (ks : Kinds). kinds_of ks ++ rest) (joined-more all m)
        ∙ ap (λ (vs : List VKind). vs ++ rest) (map-append kind_of (joined all) m)
        ∙ append_assoc (kinds_of (joined all)) (kinds_of m) rest
        ∙ ap (λ (vs : List VKind). kinds_of (joined all) ++ (vs ++ rest)) is
        ∙ ap (λ (vs : List VKind). kinds_of (joined all) ++ vs)
        (sym (merge_parts p q (joined (drop (i + 1) ps)) (joined (drop (i + 1) qs)) as_many)
        ∙ sym (ap (λ (ks : Kinds). merge_all exc
        (kinds_of (p ++ joined (drop (i + 1) ps))) (kinds_of ks)) other)
        ∙ sym (ap (λ (ks : Kinds). merge_all exc (kinds_of ks)
        (kinds_of (joined (drop i qs)))) front))
        ∙ so_far

    pub merged_whole : (all : List Kinds) (m : Kinds) → AreWhole all
        → kinds_of m ≡ merge_all exc (kinds_of p) (kinds_of q) → AreWhole (all ++ m ∷ [])
    merged_whole all m are is =
        whole-more all m are (many_merged p q m as_many is ∙ size)

  -- ---- two piles

  module _ (ps qs : List Kinds) (r s xs ys : Kinds) (one : IsPiled ps r) (other : IsPiled qs s)
      (is : joined ps ++ r ≡ xs) (also : joined qs ++ s ≡ ys) where
    in-all : (F : Kinds → Kinds → Type 0) → F (joined ps ++ r) (joined qs ++ s) → F xs ys
    in-all F all =
        subst (λ (ks : Kinds). F ks ys) is (subst (λ (ls : Kinds). F (joined ps ++ r) ls) also all)

    -- of as many pieces, which have as many kinds
    joined-same : length ps ≡ length qs → length (joined ps) ≡ length (joined qs)
    joined-same many =
        many_joined ps one.whole ∙ ap (λ (n : ℕ). n * PIECE) many
        ∙ sym (many_joined qs other.whole)

    pub unlike : (length ps ≡ length qs → ⊥)
        → false ≡ all_into exc (kinds_of xs) (kinds_of ys)
    unlike differ =
        in-all (λ ks ls. false ≡ all_into exc (kinds_of ks) (kinds_of ls))
        (sym (all-differ exc (joined ps ++ r) (joined qs ++ s)
        (λ same. differ (same_pieces ps qs r s one other same))))

    pub into_piled : length ps ≡ length qs → (b c : Bool)
        → b ≡ all_into exc (kinds_of (joined ps)) (kinds_of (joined qs))
        → c ≡ all_into exc (kinds_of r) (kinds_of s)
        → (b && c) ≡ all_into exc (kinds_of xs) (kinds_of ys)
    into_piled many b c pieces rest =
        in-all (λ ks ls. (b && c) ≡ all_into exc (kinds_of ks) (kinds_of ls))
        (ap (λ (d : Bool). d && c) pieces
        ∙ ap (λ (d : Bool). all_into exc (kinds_of (joined ps)) (kinds_of (joined qs)) && d) rest
        ∙ sym (into_parts (joined ps) (joined qs) r s (joined-same many)))

    pub unfit_piled : length ps ≡ length qs → (b : Bool)
        → b ≡ all_into exc (kinds_of (joined ps)) (kinds_of (joined qs)) → b ≡ false
        → b ≡ all_into exc (kinds_of xs) (kinds_of ys)
    unfit_piled many b pieces unfit =
        unfit ∙ sym (ap (λ (d : Bool). d && all_into exc (kinds_of r) (kinds_of s)) unfit)
        ∙ into_piled many b (all_into exc (kinds_of r) (kinds_of s)) pieces refl

    module _ (as_many : length xs ≡ length ys) where
      pub pieces_same : length ps ≡ length qs
      pieces_same =
          same_pieces ps qs r s one other
          (ap (λ (ks : Kinds). length ks) is ∙ as_many
          ∙ ap (λ (ks : Kinds). length ks) (sym also))

      rests_same : length r ≡ length s
      rests_same =
          let all : length (joined ps ++ r) ≡ length (joined qs ++ s) =
          ap (λ (ks : Kinds). length ks) is ∙ as_many
          ∙ ap (λ (ks : Kinds). length ks) (sym also) in
          omega (
            arith,
            all,
            length-append (joined ps) r,
            length-append (joined qs) s,
            joined-same pieces_same,
          )

      module _ (ms : List Kinds) (m : Kinds) (many : length ms ≡ length ps) (whole : AreWhole ms)
          (pieces : kinds_of (joined ms)
          ≡ merge_all exc (kinds_of (joined ps)) (kinds_of (joined qs)))
          (rest : kinds_of m ≡ merge_all exc (kinds_of r) (kinds_of s)) where
        pub merged_piled : IsPiled ms m
        merged_piled =
            let few = one.few in
            let short = one.short in
            let size = many_merged r s m rests_same rest in
            record {
              whole = whole;
              few = omega (arith, many, few);
              short = omega (arith, size, short);
              behind = λ some. let any = one.behind (omega (arith, some, many)) in
                  omega (arith, any, size);
            }

        pub merged_all : kinds_of (joined ms ++ m) ≡ merge_all exc (kinds_of xs) (kinds_of ys)
        merged_all =
            in-all (λ ks ls. kinds_of (joined ms ++ m)
            ≡ merge_all exc (kinds_of ks) (kinds_of ls))
            (map-append kind_of (joined ms) m
            ∙ ap (λ (vs : List VKind). vs ++ kinds_of m) pieces
            ∙ ap (λ (vs : List VKind). merge_all exc (kinds_of (joined ps)) (kinds_of (joined qs))
            ++ vs) rest
            ∙ sym (merge_parts (joined ps) (joined qs) r s (joined-same pieces_same)))
