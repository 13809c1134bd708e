-- Kinds in parts: whole pieces, and what stands behind them.
use Rattle.std.proofs.Common.{◌≡◌, ℕ, zero, suc, ◌+◌, ◌-◌, ◌*◌, ◌/◌, ◌<◌, ◌≤◌, Bool, true}
use Rattle.std.proofs.Common.{false, ◌&&◌, List, [], ◌∷◌, ◌++◌, Some, None, length, take, drop, set}
use Rattle.std.proofs.Common.{replicate, get_or, refl, sym, ap, ◌∙◌, arith, append_assoc, inl, inr}
use Rattle.std.specs.List.{slice_get}
use Rattle.std.proofs.lemmas.Bool.{cases_lt}
use Rattle.std.proofs.lemmas.List.{length-append, length-set, set-append_left}
use Rattle.std.proofs.lemmas.List.{set-append_right, take_at, take_all, drop_at}
use Rattle.std.proofs.lemmas.List.{drop-drop, drop_all, replicate-append-replicate}
use Rattle.std.proofs.lemmas.List.{drop-take, take-append-drop, length-take-le, length-drop}
use Rattle.std.proofs.lemmas.List.{append-nil, take-map}
use Rattle.std.proofs.Math.Seq.{take-append-add}
use Rattle.std.proofs.lemmas.Nat.{div-add-mod'}
use Rattle.std.proofs.lemmas.Option.{same_Some}
use Rattle.par_values.specs.Areas.{Name}
use Rattle.par_kinds.specs.declared.frame.VKind.TheVariants as kind
use Rattle.par_kinds.specs.Kinds.{into, kind_at}
use Rattle.par_kinds.specs.Passes.{merge, merge_all}
use Rattle.par_place_kinds.specs.declared.kind.PlaceKind.{PlaceKind}
use Rattle.par_place_kinds.specs.declared.kind.PlaceKind.TheVariants as place
use Rattle.par_frame_steps.specs.declared.pile.TheConstants.{PIECE}
use Rattle.par_place_kinds.specs.Listed.{listed_into}
use Rattle.par_frame_steps.specs.Marks.{kind_of, kinds_of}
use Rattle.par_frame_steps.specs.Piled.{joined, AreWhole, IsPiled}
use Rattle.par_frame_steps.proofs.Piled.{many_joined, many_piled}

abbrev Kinds : Type 0
Kinds = List PlaceKind

-- ---- one kind is set

pub piece_set : (ps : List Kinds) (rest q p d : Kinds) (i x : ℕ) (k : PlaceKind) → AreWhole ps
    → i < length ps → x < PIECE → q ≡ get_or ps i d → p ≡ set q x k
    → joined (set ps i p) ++ rest ≡ set (joined ps ++ rest) (i * PIECE + x) k
piece_set [] rest q p d i x k whole some inside there made = absurd (omega (arith, some))
piece_set (r ∷ ps) rest q p d zero x k whole some inside there made =
    let size = whole.0 in
    let within : x < length r = omega (arith, inside, size) in
    let before : x < length (r ++ joined ps) =
    omega (arith, within, length-append r (joined ps)) in
    let none : x ≡ 0 * PIECE + x = omega arith in
    ap (λ (ks : Kinds). (ks ++ joined ps) ++ rest) (made ∙ ap (λ (ks : Kinds). set ks x k) there)
    ∙ ap (λ (ks : Kinds). ks ++ rest) (sym (set-append_left r (joined ps) x k within))
    ∙ sym (set-append_left (r ++ joined ps) rest x k before)
    ∙ ap (λ (n : ℕ). set ((r ++ joined ps) ++ rest) n k) none
piece_set (r ∷ ps) rest q p d (suc i) x k whole some inside there made =
    let size = whole.0 in
    let behind : PIECE ≤ suc i * PIECE + x = omega arith in
    let left : i * PIECE + x ≡ suc i * PIECE + x - PIECE = omega arith in
    append_assoc r (joined (set ps i p)) rest
    ∙ ap (λ (ks : Kinds). r ++ ks)
    (piece_set ps rest q p d i x k whole.1 (omega (arith, some)) inside there made
    ∙ ap (λ (n : ℕ). set (joined ps ++ rest) n k) left)
    ∙ sym (set-append_right r (joined ps ++ rest) PIECE (suc i * PIECE + x) k size behind)
    ∙ ap (λ (ks : Kinds). set ks (suc i * PIECE + x) k) (sym (append_assoc r (joined ps) rest))

pub piece_size : (ps : List Kinds) (d : Kinds) (i : ℕ) → AreWhole ps → i < length ps
    → length (get_or ps i d) ≡ PIECE
piece_size [] d i whole some = absurd (omega (arith, some))
piece_size (r ∷ ps) d zero whole some = whole.0
piece_size (r ∷ ps) d (suc i) whole some = piece_size ps d i whole.1 (omega (arith, some))

whole-set : (ps : List Kinds) (p : Kinds) (i : ℕ) → AreWhole ps → length p ≡ PIECE
    → AreWhole (set ps i p)
whole-set [] p i whole size = tt
whole-set (r ∷ ps) p zero whole size = (size, whole.1)
whole-set (r ∷ ps) p (suc i) whole size = (whole.0, whole-set ps p i whole.1 size)

pub set_piled : (ps : List Kinds) (rest p d : Kinds) (i : ℕ) → IsPiled ps rest → i < length ps
    → length p ≡ length (get_or ps i d) → IsPiled (set ps i p) rest
set_piled ps rest p d i is some size =
    let few = is.few in
    record {
      whole = whole-set ps p i is.whole (size ∙ piece_size ps d i is.whole some);
      few = omega (arith, few, length-set ps i p);
      short = is.short;
      behind = λ any. is.behind (omega (arith, any, length-set ps i p));
    }

pub rest_set : (ps : List Kinds) (rest : Kinds) (x : ℕ) (k : PlaceKind) → AreWhole ps
    → length ps * PIECE ≤ x
    → joined ps ++ set rest (x - length ps * PIECE) k ≡ set (joined ps ++ rest) x k
rest_set ps rest x k whole past =
    sym (set-append_right (joined ps) rest (length ps * PIECE) x k (many_joined ps whole) past)

pub rest_piled : (ps : List Kinds) (rest : Kinds) (x : ℕ) (k : PlaceKind) → IsPiled ps rest
    → IsPiled ps (set rest x k)
rest_piled ps rest x k is =
    let short = is.short in
    record {
      whole = is.whole;
      few = is.few;
      short = omega (arith, short, length-set rest x k);
      behind = λ some. let any = is.behind some in omega (arith, any, length-set rest x k);
    }

-- ---- what stands at a part's place

pub part_piece : (ps : List Kinds) (rest : Kinds) (i : ℕ) (p : Kinds) → AreWhole ps
    → i < length ps → p ≡ get_or ps i p → p ≡ take PIECE (drop (i * PIECE) (joined ps ++ rest))
part_piece [] rest i p whole inside is = absurd (omega (arith, inside))
part_piece (r ∷ ps) rest zero p whole inside is =
    is ∙ sym (ap (λ (ks : Kinds). take PIECE ks) (append_assoc r (joined ps) rest)
    ∙ take_at r (joined ps ++ rest) PIECE whole.0)
part_piece (r ∷ ps) rest (suc i) p whole inside is =
    let more : suc i * PIECE ≡ PIECE + i * PIECE = omega arith in
    part_piece ps rest i p whole.1 (omega (arith, inside)) is
    ∙ ap (λ (ks : Kinds). take PIECE (drop (i * PIECE) ks))
    (sym (ap (λ (ks : Kinds). drop PIECE ks) (append_assoc r (joined ps) rest)
    ∙ drop_at r (joined ps ++ rest) PIECE whole.0))
    ∙ ap (λ (ks : Kinds). take PIECE ks)
    (drop-drop (i * PIECE) PIECE ((r ++ joined ps) ++ rest)
    ∙ ap (λ (n : ℕ). drop n ((r ++ joined ps) ++ rest)) (sym more))

pub part_rest : (ps : List Kinds) (rest : Kinds) → AreWhole ps → length rest ≤ PIECE
    → rest ≡ take PIECE (drop (length ps * PIECE) (joined ps ++ rest))
part_rest ps rest whole short =
    sym (ap (λ (ks : Kinds). take PIECE ks)
    (drop_at (joined ps) rest (length ps * PIECE) (many_joined ps whole))
    ∙ take_all PIECE rest short)

pub part_none : (ps : List Kinds) (rest : Kinds) (i : ℕ) → AreWhole ps → length rest ≤ PIECE
    → length ps < i → [] ≡ take PIECE (drop (i * PIECE) (joined ps ++ rest))
part_none ps rest i whole short past =
    let all = many_piled ps rest whole in
    sym (ap (λ (ks : Kinds). take PIECE ks)
    (drop_all (i * PIECE) (joined ps ++ rest) (omega (arith, all, short, past))))

-- ---- the first ones

first-pieces : (ps : List Kinds) (rest : Kinds) (w : ℕ) → AreWhole ps → w ≤ length ps
    → joined (take w ps) ≡ take (w * PIECE) (joined ps ++ rest)
first-pieces ps rest zero whole few = refl
first-pieces [] rest (suc w) whole few = absurd (omega (arith, few))
first-pieces (p ∷ ps) rest (suc w) whole few =
    let size = whole.0 in
    let more : length p + w * PIECE ≡ suc w * PIECE = omega (arith, size) in
    ap (λ (ks : Kinds). p ++ ks) (first-pieces ps rest w whole.1 (omega (arith, few)))
    ∙ sym (take-append-add p (joined ps ++ rest) (w * PIECE))
    ∙ ap (λ (n : ℕ). take n (p ++ (joined ps ++ rest))) more
    ∙ ap (λ (ks : Kinds). take (suc w * PIECE) ks) (sym (append_assoc p (joined ps) rest))

-- as their kinds
pub told_first : (ps : List Kinds) (w : ℕ) → AreWhole ps → w ≤ length ps
    → take (w * PIECE) (kinds_of (joined ps)) ≡ kinds_of (joined (take w ps))
told_first ps w whole few =
    take-map kind_of (w * PIECE) (joined ps)
    ∙ ap (λ (ks : Kinds). kinds_of (take (w * PIECE) ks)) (sym (append-nil (joined ps)))
    ∙ ap (λ (ks : Kinds). kinds_of ks) (sym (first-pieces ps [] w whole few))

first-whole : (ps : List Kinds) (w : ℕ) → AreWhole ps → AreWhole (take w ps)
first-whole ps zero whole = tt
first-whole [] (suc w) whole = tt
first-whole (p ∷ ps) (suc w) whole = (whole.0, first-whole ps w whole.1)

take-take : (m n : ℕ) (xs : Kinds) → m ≤ n → take m (take n xs) ≡ take m xs
take-take zero n xs le = refl
take-take (suc m) zero xs le = absurd (omega (arith, le))
take-take (suc m) (suc n) [] le = refl
take-take (suc m) (suc n) (x ∷ xs) le =
    ap (λ (ys : Kinds). x ∷ ys) (take-take m n xs (omega (arith, le)))

take-more : (m n : ℕ) (xs : Kinds) → take m xs ++ take n (drop m xs) ≡ take (m + n) xs
take-more m n xs =
    ap (λ (ys : Kinds). take m xs ++ ys) (sym (drop-take m n xs))
    ∙ ap (λ (ys : Kinds). ys ++ drop m (take (m + n) xs))
    (sym (take-take m (m + n) xs (omega arith)))
    ∙ take-append-drop m (take (m + n) xs)

-- pieces, and some of what stands in the part behind them
module _ (ps : List Kinds) (rest q : Kinds) (w n : ℕ) (is : IsPiled ps rest) (few : w ≤ length ps)
    (short : n ≤ PIECE) where
  pub first_all : (xs : Kinds) (m : ℕ) → joined ps ++ rest ≡ xs
      → q ≡ take PIECE (drop (w * PIECE) xs) → w * PIECE + n ≡ m
      → joined (take w ps) ++ take n q ≡ take m xs
  first_all xs m view part many =
      ap (λ (ks : Kinds). ks ++ take n q)
      (first-pieces ps rest w is.whole few ∙ ap (λ (ks : Kinds). take (w * PIECE) ks) view)
      ∙ ap (λ (ks : Kinds). take (w * PIECE) xs ++ ks)
      (ap (λ (ks : Kinds). take n ks) part ∙ take-take n PIECE (drop (w * PIECE) xs) short)
      ∙ take-more (w * PIECE) n xs
      ∙ ap (λ (o : ℕ). take o xs) many

  pub first_piled : (0 < w → 0 < n) → n ≤ length q → IsPiled (take w ps) (take n q)
  first_piled some inside =
      let all = is.few in
      let pieces = length-take-le w ps few in
      let kinds = length-take-le n q inside in
      record {
        whole = first-whole ps w is.whole;
        few = omega (arith, all, few, pieces);
        short = omega (arith, kinds, short);
        behind = λ any. let more = some (omega (arith, any, pieces)) in omega (arith, more, kinds);
      }

-- the first ones, of which some stand behind the pieces
module _ (ps : List Kinds) (rest xs : Kinds) (m s : ℕ) (is : IsPiled ps rest)
    (view : joined ps ++ rest ≡ xs) (few : m < length xs) (less : s ≡ m - 1) where
  all : length ps * PIECE + length rest ≡ length xs
  all = sym (many_piled ps rest is.whole) ∙ ap (λ (ks : Kinds). length ks) view

  pub first_few : s / PIECE ≤ length ps
  first_few =
      let short = is.short in omega (arith, few, less, all, short, div-add-mod' s PIECE)

  pub first_short : m - s / PIECE * PIECE ≤ PIECE
  first_short = omega (arith, less, div-add-mod' s PIECE)

  some : 0 < s / PIECE → 0 < m - s / PIECE * PIECE
  some any = omega (arith, any, less, div-add-mod' s PIECE)

  sum : s / PIECE * PIECE + (m - s / PIECE * PIECE) ≡ m
  sum = omega (arith, less, div-add-mod' s PIECE)

  module _ (q : Kinds) (part : q ≡ take PIECE (drop (s / PIECE * PIECE) xs)) where
    pub first_inside : m - s / PIECE * PIECE ≤ length q
    first_inside =
        let behind = length-drop (s / PIECE * PIECE) xs in
        let size = ap (λ (ks : Kinds). length ks) part in
        elim (cases_lt (length (drop (s / PIECE * PIECE) xs)) PIECE) [
          | inl short ↦
              let whole = ap (λ (ks : Kinds). length ks)
              (take_all PIECE (drop (s / PIECE * PIECE) xs) (omega (arith, short))) in
              omega (arith, size, whole, behind, few)
          | inr long ↦
              let whole = length-take-le PIECE (drop (s / PIECE * PIECE) xs) long in
              omega (arith, size, whole, first_short)
        ]

    pub first_is : joined (take (s / PIECE) ps) ++ take (m - s / PIECE * PIECE) q ≡ take m xs
    first_is =
        first_all ps rest q (s / PIECE) (m - s / PIECE * PIECE) is first_few first_short xs m view
        part sum

    pub first_are : IsPiled (take (s / PIECE) ps) (take (m - s / PIECE * PIECE) q)
    first_are =
        first_piled ps rest q (s / PIECE) (m - s / PIECE * PIECE) is first_few first_short some
        first_inside

-- ---- one of those that are listed

pub kind_none : (xs : Kinds) (n : ℕ) → slice_get xs n ≡ None → kind.Top ≡ kind_at (kinds_of xs) n
kind_none [] n e = refl
kind_none (x ∷ xs) zero e = absurd (cc e)
kind_none (x ∷ xs) (suc n) e = kind_none xs n e

pub kind_some : (xs : Kinds) (n : ℕ) (k : PlaceKind) → slice_get xs n ≡ Some k
    → kind_of k ≡ kind_at (kinds_of xs) n
kind_some [] n k e = absurd (cc e)
kind_some (x ∷ xs) zero k e = ap (λ (l : PlaceKind). kind_of l) (sym (same_Some x k e))
kind_some (x ∷ xs) (suc n) k e = kind_some xs n k e

-- one more is listed
pub tops_more : (ks : Kinds) (n : ℕ)
    → (ks ++ replicate n place.Top) ++ place.Top ∷ [] ≡ ks ++ replicate (n + 1) place.Top
tops_more ks n =
    append_assoc ks (replicate n place.Top) (place.Top ∷ [])
    ∙ ap (λ (ls : Kinds). ks ++ ls) (replicate-append-replicate n 1 place.Top)

-- ---- what fits into what, part by part

module _ (exc : List Name) where
  and-assoc : (a b c : Bool) → ((a && b) && c) ≡ (a && (b && c))
  and-assoc true b c = refl
  and-assoc false b c = refl

  none-parts : (n : ℕ) (ys : Kinds) → listed_into exc [] (kinds_of ys)
      ≡ (listed_into exc [] (kinds_of (take n ys)) && listed_into exc [] (kinds_of (drop n ys)))
  none-parts zero ys = refl
  none-parts (suc n) [] = refl
  none-parts (suc n) (y ∷ ys) =
      ap (λ (b : Bool). into exc kind.Top (kind_of y) && b) (none-parts n ys)
      ∙ sym (and-assoc (into exc kind.Top (kind_of y)) (listed_into exc [] (kinds_of (take n ys)))
      (listed_into exc [] (kinds_of (drop n ys))))

  into-parts : (n : ℕ) (xs ys : Kinds) → listed_into exc (kinds_of xs) (kinds_of ys)
      ≡ (listed_into exc (kinds_of (take n xs)) (kinds_of (take n ys))
      && listed_into exc (kinds_of (drop n xs)) (kinds_of (drop n ys)))
  into-parts zero xs ys = refl
  into-parts (suc n) [] ys = none-parts (suc n) ys
  into-parts (suc n) (x ∷ xs) [] = refl
  into-parts (suc n) (x ∷ xs) (y ∷ ys) =
      ap (λ (b : Bool). into exc (kind_of x) (kind_of y) && b) (into-parts n xs ys)
      ∙ sym (and-assoc (into exc (kind_of x) (kind_of y))
      (listed_into exc (kinds_of (take n xs)) (kinds_of (take n ys)))
      (listed_into exc (kinds_of (drop n xs)) (kinds_of (drop n ys))))

  -- one part more is looked at
  module _ (xs ys : Kinds) (i : ℕ) (p q : Kinds) (b x : Bool)
      (one : p ≡ take PIECE (drop (i * PIECE) xs)) (other : q ≡ take PIECE (drop (i * PIECE) ys))
      (found : b ≡ listed_into exc (kinds_of p) (kinds_of q))
      (so_far : listed_into exc (kinds_of (drop (i * PIECE) xs)) (kinds_of (drop (i * PIECE) ys))
      ≡ x) where
    behind : (zs : Kinds) → drop PIECE (drop (i * PIECE) zs) ≡ drop ((i + 1) * PIECE) zs
    behind zs =
        let more : i * PIECE + PIECE ≡ (i + 1) * PIECE = omega arith in
        drop-drop PIECE (i * PIECE) zs ∙ ap (λ (n : ℕ). drop n zs) more

    abbrev rest : Bool
    rest =
        listed_into exc (kinds_of (drop ((i + 1) * PIECE) xs))
        (kinds_of (drop ((i + 1) * PIECE) ys))

    both : (b && rest) ≡ x
    both =
        ap (λ (c : Bool). c && rest)
        (found ∙ ap (λ (ks : Kinds). listed_into exc (kinds_of ks) (kinds_of q)) one
        ∙ ap (λ (ks : Kinds).
        listed_into exc (kinds_of (take PIECE (drop (i * PIECE) xs))) (kinds_of ks)) other)
        ∙ ap (λ (ks : Kinds). listed_into exc (kinds_of (take PIECE (drop (i * PIECE) xs)))
        (kinds_of (take PIECE (drop (i * PIECE) ys)))
        && listed_into exc (kinds_of ks) (kinds_of (drop ((i + 1) * PIECE) ys))) (sym (behind xs))
        ∙ ap (λ (ks : Kinds). listed_into exc (kinds_of (take PIECE (drop (i * PIECE) xs)))
        (kinds_of (take PIECE (drop (i * PIECE) ys)))
        && listed_into exc (kinds_of (drop PIECE (drop (i * PIECE) xs))) (kinds_of ks))
        (sym (behind ys))
        ∙ sym (into-parts PIECE (drop (i * PIECE) xs) (drop (i * PIECE) ys))
        ∙ so_far

    pub part_unfit : b ≡ false → false ≡ x
    part_unfit unfit = sym (ap (λ (c : Bool). c && rest) unfit) ∙ both

    pub part_fits : b ≡ true
        → listed_into exc (kinds_of (drop ((i + 1) * PIECE) xs))
        (kinds_of (drop ((i + 1) * PIECE) ys)) ≡ x
    part_fits fits = sym (ap (λ (c : Bool). c && rest) fits) ∙ both

  -- ---- what is merged of lists of any lengths

  pub merge_first : (xs ys : Kinds)
      → merge_all exc (kinds_of (take (length ys) xs)) (kinds_of (take (length xs) ys))
      ≡ merge_all exc (kinds_of xs) (kinds_of ys)
  merge_first [] [] = refl
  merge_first [] (y ∷ ys) = refl
  merge_first (x ∷ xs) [] = refl
  merge_first (x ∷ xs) (y ∷ ys) =
      ap (λ vs. merge exc (kind_of x) (kind_of y) ∷ vs) (merge_first xs ys)
