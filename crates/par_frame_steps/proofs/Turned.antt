-- Operands, of which the last pushed stands last, seen from the last on.
use Rattle.std.proofs.Common.{◌≡◌, ℕ, zero, suc, ◌+◌, ◌-◌, ◌<◌, ◌≤◌, Bool, true, false, ◌&&◌}
use Rattle.std.proofs.Common.{List, [], ◌∷◌, ◌++◌, Some, None, length, map, take, drop, refl, sym}
use Rattle.std.proofs.Common.{ap, ◌∙◌, arith, inl, inr}
use Rattle.std.proofs.Common.{reverse, get_or}
use Rattle.std.specs.List.{slice_get, drop-map}
use Rattle.std.proofs.lemmas.List.{reverse-append, length-reverse, length-map, take-append-drop}
use Rattle.std.proofs.lemmas.List.{map-append, length-drop, drop_all, drop_at, drop_more, take-map}
use Rattle.std.proofs.lemmas.List.{drop-drop}
use Rattle.std.proofs.lemmas.Option.{same_Some}
use Rattle.std.proofs.lemmas.Bool.{cases_lt, cases_eq}
use Rattle.par_values.specs.Areas.{Name}
use Rattle.par_values.specs.declared.kind.Kind.{Kind}
use Rattle.par_kinds.specs.declared.frame.VKind.{VKind}
use Rattle.par_kinds.specs.declared.frame.VKind.TheVariants as kind
use Rattle.par_kinds.specs.Kinds.{into, accepts, kind_at}
use Rattle.par_kinds.specs.Passes.{merge, all_into, merge_all, takes_fit}
use Rattle.par_place_kinds.specs.declared.kind.PlaceKind.{PlaceKind}
use Rattle.par_frame_steps.specs.declared.act.Asked.{Asked}
use Rattle.par_frame_steps.specs.Marks.{kind_of, kinds_of, operands_of, asked_of}
use Rattle.par_frame_steps.proofs.Padded.{padded_differ}

-- ---- the last of them

pub last_first : (below : List PlaceKind) (k : PlaceKind)
    → operands_of (below ++ k ∷ []) ≡ kind_of k ∷ operands_of below
last_first below k =
    ap (λ (ks : List VKind). reverse ks) (map-append kind_of below (k ∷ []))
    ∙ reverse-append (kinds_of below) (kind_of k ∷ [])

pub operands_many : (ks : List PlaceKind) → length (operands_of ks) ≡ length ks
operands_many ks = length-reverse (kinds_of ks) ∙ length-map ks kind_of

-- ---- some are gone

reverse-take : {A : Type 0} (xs : List A) (n : ℕ)
    → reverse (take (length xs - n) xs) ≡ drop n (reverse xs)
reverse-take {A} xs n =
    elim (cases_lt (length xs) n) [
      | inl few ↦
          let none : length xs - n ≡ 0 = omega (arith, few) in
          let all : length (reverse xs) ≤ n = omega (arith, few, length-reverse xs) in
          ap (λ (m : ℕ). reverse (take m xs)) none ∙ sym (drop_all n (reverse xs) all)
      | inr many ↦
          let left : ℕ = length xs - n in
          let behind : length xs - left ≡ n = omega (arith, many) in
          let size : length (reverse (drop left xs)) ≡ n =
          length-reverse (drop left xs) ∙ length-drop left xs ∙ behind in
          sym (drop_at (reverse (drop left xs)) (reverse (take left xs)) n size)
          ∙ ap (λ (ys : List A). drop n ys) (sym (reverse-append (take left xs) (drop left xs)))
          ∙ ap (λ (ys : List A). drop n (reverse ys)) (take-append-drop left xs)
    ]

pub turned_take : (ks : List PlaceKind) (n : ℕ)
    → operands_of (take (length ks - n) ks) ≡ drop n (operands_of ks)
turned_take ks n =
    ap (λ (vs : List VKind). reverse vs)
    (sym (take-map kind_of (length ks - n) ks)
    ∙ ap (λ (m : ℕ). take (m - n) (kinds_of ks)) (sym (length-map ks kind_of)))
    ∙ reverse-take (kinds_of ks) n

-- ---- one is asked about

reverse-more : {A : Type 0} (x : A) (xs : List A) → reverse (x ∷ xs) ≡ reverse xs ++ x ∷ []
reverse-more x xs = reverse-append (x ∷ []) xs

turned-map : (ks : List PlaceKind) → operands_of ks ≡ kinds_of (reverse ks)
turned-map [] = refl
turned-map (k ∷ ks) =
    reverse-more (kind_of k) (kinds_of ks)
    ∙ ap (λ (vs : List VKind). vs ++ kind_of k ∷ []) (turned-map ks)
    ∙ sym (map-append kind_of (reverse ks) (k ∷ []))
    ∙ ap (λ (ls : List PlaceKind). kinds_of ls) (sym (reverse-more k ks))

-- what stands behind so many kinds
behind-none : (ks : List PlaceKind) (n : ℕ) → slice_get ks n ≡ None → kinds_of (drop n ks) ≡ []
behind-none [] zero e = refl
behind-none [] (suc n) e = refl
behind-none (k ∷ ks) zero e = absurd (cc e)
behind-none (k ∷ ks) (suc n) e = behind-none ks n e

behind-some : (ks : List PlaceKind) (n : ℕ) (k : PlaceKind) → slice_get ks n ≡ Some k
    → kinds_of (drop n ks) ≡ kind_of k ∷ kinds_of (drop (suc n) ks)
behind-some [] n k e = absurd (cc e)
behind-some (l ∷ ks) zero k e =
    ap (λ (m : PlaceKind). kind_of m ∷ kinds_of ks) (same_Some l k e)
behind-some (l ∷ ks) (suc n) k e = behind-some ks n k e

turned-drop : (ks : List PlaceKind) (n : ℕ)
    → drop n (operands_of ks) ≡ kinds_of (drop n (reverse ks))
turned-drop ks n =
    ap (λ (vs : List VKind). drop n vs) (turned-map ks) ∙ drop-map kind_of n (reverse ks)

-- the one that stands so far below the last, if there is one
pub none_below : (q : Kind) (ks : List PlaceKind) (n : ℕ) → slice_get (reverse ks) n ≡ None
    → takes_fit (q ∷ []) (drop n (operands_of ks)) ≡ false
none_below q ks n e =
    ap (λ (vs : List VKind). takes_fit (q ∷ []) vs)
    (turned-drop ks n ∙ behind-none (reverse ks) n e)

and-true : (b : Bool) → (b && true) ≡ b
and-true true = refl
and-true false = refl

pub one_below : (q : Kind) (ks : List PlaceKind) (n : ℕ) (k : PlaceKind)
    → slice_get (reverse ks) n ≡ Some k
    → takes_fit (q ∷ []) (drop n (operands_of ks)) ≡ accepts q (kind_of k)
one_below q ks n k e =
    ap (λ (vs : List VKind). takes_fit (q ∷ []) vs)
    (turned-drop ks n ∙ behind-some (reverse ks) n k e)
    ∙ and-true (accepts q (kind_of k))

pub none_last : (ks : List PlaceKind) → slice_get (reverse ks) 0 ≡ None
    → kind_at (operands_of ks) 0 ≡ kind.Top
none_last ks e =
    ap (λ (vs : List VKind). kind_at vs 0) (turned-drop ks 0 ∙ behind-none (reverse ks) 0 e)

pub one_last : (ks : List PlaceKind) (k : PlaceKind) → slice_get (reverse ks) 0 ≡ Some k
    → kind_at (operands_of ks) 0 ≡ kind_of k
one_last ks k e =
    ap (λ (vs : List VKind). kind_at vs 0) (turned-drop ks 0 ∙ behind-some (reverse ks) 0 k e)

-- one is taken, and then those that are left
first-too : (q : Kind) (qs : List Kind) (vs : List VKind)
    → takes_fit (q ∷ qs) vs ≡ (takes_fit (q ∷ []) vs && takes_fit qs (drop 1 vs))
first-too q qs [] = refl
first-too q qs (v ∷ vs) =
    ap (λ (b : Bool). b && takes_fit qs vs) (sym (and-true (accepts q v)))

module _ (qs : List Asked) (i : ℕ) (d : Asked) (ks : List PlaceKind) (b x : Bool)
    (inside : i < length qs)
    (so_far : takes_fit (map asked_of (drop i qs)) (drop i (operands_of ks)) ≡ x)
    (found : b ≡ takes_fit (asked_of (get_or qs i d) ∷ []) (drop i (operands_of ks))) where
  both : (b && takes_fit (map asked_of (drop (i + 1) qs)) (drop (i + 1) (operands_of ks))) ≡ x
  both =
      ap (λ (vs : List VKind). b && takes_fit (map asked_of (drop (i + 1) qs)) vs)
      (sym (drop-drop 1 i (operands_of ks)))
      ∙ ap (λ (c : Bool). c
      && takes_fit (map asked_of (drop (i + 1) qs)) (drop 1 (drop i (operands_of ks)))) found
      ∙ sym (first-too (asked_of (get_or qs i d)) (map asked_of (drop (i + 1) qs))
      (drop i (operands_of ks)))
      ∙ ap (λ (rest : List Asked). takes_fit (map asked_of rest) (drop i (operands_of ks)))
      (sym (drop_more qs i d inside))
      ∙ so_far

  pub not_taken : b ≡ false → false ≡ x
  not_taken unfit =
      sym (ap (λ (c : Bool). c
      && takes_fit (map asked_of (drop (i + 1) qs)) (drop (i + 1) (operands_of ks))) unfit) ∙ both

  pub one_taken : b ≡ true
      → takes_fit (map asked_of (drop (i + 1) qs)) (drop (i + 1) (operands_of ks)) ≡ x
  one_taken fits =
      sym (ap (λ (c : Bool). c
      && takes_fit (map asked_of (drop (i + 1) qs)) (drop (i + 1) (operands_of ks))) fits) ∙ both

-- ---- as many

swapped : (a b c : Bool) → (a && (b && c)) ≡ (b && (a && c))
swapped true b c = refl
swapped false true c = refl
swapped false false c = refl

module _ (exc : List Name) where
  into-more : (ks ls : List VKind) (k l : VKind) → length ks ≡ length ls
      → all_into exc (ks ++ k ∷ []) (ls ++ l ∷ []) ≡ (into exc k l && all_into exc ks ls)
  into-more [] [] k l same = refl
  into-more [] (m ∷ ls) k l same = absurd (omega (arith, same))
  into-more (j ∷ ks) [] k l same = absurd (omega (arith, same))
  into-more (j ∷ ks) (m ∷ ls) k l same =
      ap (λ (b : Bool). into exc j m && b) (into-more ks ls k l (omega (arith, same)))
      ∙ swapped (into exc j m) (into exc k l) (all_into exc ks ls)

  into-turned : (ks ls : List VKind) → length ks ≡ length ls
      → all_into exc (reverse ks) (reverse ls) ≡ all_into exc ks ls
  into-turned [] [] same = refl
  into-turned [] (l ∷ ls) same = absurd (omega (arith, same))
  into-turned (k ∷ ks) [] same = absurd (omega (arith, same))
  into-turned (k ∷ ks) (l ∷ ls) same =
      let less : length ks ≡ length ls = omega (arith, same) in
      ap (λ (vs : List VKind). all_into exc vs (reverse (l ∷ ls))) (reverse-more k ks)
      ∙ ap (λ (vs : List VKind). all_into exc (reverse ks ++ k ∷ []) vs) (reverse-more l ls)
      ∙ into-more (reverse ks) (reverse ls) k l
      (length-reverse ks ∙ less ∙ sym (length-reverse ls))
      ∙ ap (λ (b : Bool). into exc k l && b) (into-turned ks ls less)

  merge-more : (ks ls : List VKind) (k l : VKind) → length ks ≡ length ls
      → merge_all exc (ks ++ k ∷ []) (ls ++ l ∷ []) ≡ merge_all exc ks ls ++ merge exc k l ∷ []
  merge-more [] [] k l same = refl
  merge-more [] (m ∷ ls) k l same = absurd (omega (arith, same))
  merge-more (j ∷ ks) [] k l same = absurd (omega (arith, same))
  merge-more (j ∷ ks) (m ∷ ls) k l same =
      ap (λ (vs : List VKind). merge exc j m ∷ vs) (merge-more ks ls k l (omega (arith, same)))

  merge-turned : (ks ls : List VKind) → length ks ≡ length ls
      → reverse (merge_all exc ks ls) ≡ merge_all exc (reverse ks) (reverse ls)
  merge-turned [] [] same = refl
  merge-turned [] (l ∷ ls) same = absurd (omega (arith, same))
  merge-turned (k ∷ ks) [] same = absurd (omega (arith, same))
  merge-turned (k ∷ ks) (l ∷ ls) same =
      let less : length ks ≡ length ls = omega (arith, same) in
      reverse-more (merge exc k l) (merge_all exc ks ls)
      ∙ ap (λ (vs : List VKind). vs ++ merge exc k l ∷ []) (merge-turned ks ls less)
      ∙ sym (merge-more (reverse ks) (reverse ls) k l
      (length-reverse ks ∙ less ∙ sym (length-reverse ls)))
      ∙ ap (λ (vs : List VKind). merge_all exc vs (reverse ls ++ l ∷ [])) (sym (reverse-more k ks))
      ∙ ap (λ (vs : List VKind). merge_all exc (reverse (k ∷ ks)) vs) (sym (reverse-more l ls))

  -- of other lengths neither fits
  pub turned_into : (ks ls : List PlaceKind)
      → all_into exc (operands_of ks) (operands_of ls) ≡ all_into exc (kinds_of ks) (kinds_of ls)
  turned_into ks ls =
      elim (cases_eq (length ks) (length ls)) [
        | inl same ↦
            into-turned (kinds_of ks) (kinds_of ls)
            (length-map ks kind_of ∙ same ∙ sym (length-map ls kind_of))
        | inr differ ↦
            padded_differ exc (operands_of ks) (operands_of ls)
            (λ same. differ (sym (operands_many ks) ∙ same ∙ operands_many ls))
            ∙ sym (padded_differ exc (kinds_of ks) (kinds_of ls)
            (λ same. differ (sym (length-map ks kind_of) ∙ same ∙ length-map ls kind_of)))
      ]

  pub turned_merged : (ks ls ms : List PlaceKind)
      → length (operands_of ks) ≡ length (operands_of ls)
      → kinds_of ms ≡ merge_all exc (kinds_of ks) (kinds_of ls)
      → operands_of ms ≡ merge_all exc (operands_of ks) (operands_of ls)
  turned_merged ks ls ms same made =
      ap (λ (vs : List VKind). reverse vs) made
      ∙ merge-turned (kinds_of ks) (kinds_of ls)
      (sym (length-reverse (kinds_of ks)) ∙ same ∙ length-reverse (kinds_of ls))
