-- Kinds, each as its place among kinds of which all are different.
use Rattle.std.proofs.Common.{◌≡◌, ℕ, zero, suc, ◌<◌, Bool, true, ◌&&◌, List, [], ◌∷◌, ◌++◌}
use Rattle.std.proofs.Common.{◌+◌, ◌≤◌, take, drop, get_or, length, refl, sym, ap, ◌∙◌, arith}
use Rattle.std.proofs.Common.{Option, Some, IfSome, subst}
use Rattle.std.proofs.lemmas.List.{take_more, take-map, map-append}
use Rattle.std.proofs.lemmas.Bool.{and_parts}
use Rattle.par_values.specs.Areas.{Name}
use Rattle.par_kinds.specs.declared.frame.VKind.{VKind}
use Rattle.par_kinds.specs.Kinds.{into, kind_at}
use Rattle.par_kinds.specs.Passes.{all_into}
use Rattle.par_kinds.proofs.Merging.{into-same}
use Rattle.par_place_kinds.specs.Listed.{listed_into}
use Rattle.par_place_kinds.specs.Numbered.{numbered, AreBelow}

-- ---- one more

pub below_more : (m : ℕ) (ns : List ℕ) (n : ℕ) → AreBelow m ns → n < m → AreBelow m (ns ++ n ∷ [])
below_more m [] n are is = (is, tt)
below_more m (o ∷ ns) n are is = (are.0, below_more m ns n are.1 is)

-- a number more
pub number_more : (ds : List VKind) (ns : List ℕ) (n : ℕ) (k : VKind) → k ≡ kind_at ds n
    → numbered ds (ns ++ n ∷ []) ≡ numbered ds ns ++ k ∷ []
number_more ds [] n k is = ap (λ (l : VKind). l ∷ []) (sym is)
number_more ds (o ∷ ns) n k is =
    ap (λ (ls : List VKind). kind_at ds o ∷ ls) (number_more ds ns n k is)

-- ---- the first ones

pub below_first : (m n : ℕ) (ns : List ℕ) → AreBelow m ns → AreBelow m (take n ns)
below_first m zero ns are = tt
below_first m (suc n) [] are = tt
below_first m (suc n) (o ∷ ns) are = (are.0, below_first m n ns are.1)

pub numbered_first : (ds : List VKind) (ns : List ℕ) (n : ℕ)
    → numbered ds (take n ns) ≡ take n (numbered ds ns)
numbered_first ds ns n = sym (take-map (λ (m : ℕ). kind_at ds m) n ns)

pub ruleset firsts = (numbered_first, below_first)

-- ---- different ones that begin with others

begun-at : (ds es : List VKind) (n : ℕ) → take (length es) ds ≡ es → n < length es
    → kind_at ds n ≡ kind_at es n
begun-at ds [] n is less = absurd (omega (arith, less))
begun-at [] (e ∷ es) n is less = absurd (cc is)
begun-at (d ∷ ds) (e ∷ es) zero is less = ap (λ (ks : List VKind). kind_at ks 0) is
begun-at (d ∷ ds) (e ∷ es) (suc n) is less =
    begun-at ds es n (ap (λ (ks : List VKind). drop 1 ks) is) (omega (arith, less))

begun-few : (ds es : List VKind) → take (length es) ds ≡ es → length es ≤ length ds
begun-few ds [] is = omega arith
begun-few [] (e ∷ es) is = absurd (cc is)
begun-few (d ∷ ds) (e ∷ es) is =
    let rest = begun-few ds es (ap (λ (ks : List VKind). drop 1 ks) is) in omega (arith, rest)

below-wider : (m n : ℕ) (ns : List ℕ) → m ≤ n → AreBelow m ns → AreBelow n ns
below-wider m n [] few are = tt
below-wider m n (o ∷ ns) few are =
    let less = are.0 in (omega (arith, less, few), below-wider m n ns few are.1)

below-both : (m : ℕ) (ns os : List ℕ) → AreBelow m ns → AreBelow m os → AreBelow m (ns ++ os)
below-both m [] os are more = more
below-both m (n ∷ ns) os are more = (are.0, below-both m ns os are.1 more)

module _ (ds es : List VKind) (begun : take (length es) ds ≡ es) where
  begun-same : (os : List ℕ) → AreBelow (length es) os → numbered ds os ≡ numbered es os
  begun-same [] are = refl
  begun-same (o ∷ os) are =
      ap (λ (k : VKind). k ∷ numbered ds os) (begun-at ds es o begun are.0)
      ∙ ap (λ (ks : List VKind). kind_at es o ∷ ks) (begun-same os are.1)

  -- numbers among those tell the same among these
  pub begun_told : (ns os : List ℕ) → AreBelow (length es) os
      → numbered ds (ns ++ os) ≡ numbered ds ns ++ numbered es os
  begun_told ns os are =
      map-append (λ (m : ℕ). kind_at ds m) ns os
      ∙ ap (λ (ks : List VKind). numbered ds ns ++ ks) (begun-same os are)

  pub begun_below : (ns os : List ℕ) → AreBelow (length ds) ns → AreBelow (length es) os
      → AreBelow (length ds) (ns ++ os)
  begun_below ns os are more =
      below-both (length ds) ns os are
      (below-wider (length es) (length ds) os (begun-few ds es begun) more)

-- ---- what fits into what

module _ (exc : List Name) where
  at-into : (ds es : List VKind) (n : ℕ) → all_into exc ds es ≡ true
      → into exc (kind_at ds n) (kind_at es n) ≡ true
  unfolding into
  at-into [] [] n e = refl
  at-into [] (l ∷ es) n e = absurd (cc e)
  at-into (k ∷ ds) [] n e = absurd (cc e)
  at-into (k ∷ ds) (l ∷ es) zero e = (and_parts (into exc k l) (all_into exc ds es) e).0
  at-into (k ∷ ds) (l ∷ es) (suc n) e =
      at-into ds es n (and_parts (into exc k l) (all_into exc ds es) e).1

  -- where the different ones fit, all do
  pub numbered_into : (ds es : List VKind) (ns : List ℕ) → all_into exc ds es ≡ true
      → all_into exc (numbered ds ns) (numbered es ns) ≡ true
  numbered_into ds es [] e = refl
  numbered_into ds es (n ∷ ns) e =
      ap (λ (b : Bool). b && all_into exc (numbered ds ns) (numbered es ns))
      (at-into ds es n e)
      ∙ numbered_into ds es ns e

  pub all_listed : (ks ls : List VKind) → all_into exc ks ls ≡ true → listed_into exc ks ls ≡ true
  all_listed [] [] e = refl
  all_listed [] (l ∷ ls) e = absurd (cc e)
  all_listed (k ∷ ks) [] e = refl
  all_listed (k ∷ ks) (l ∷ ls) e =
      let parts = and_parts (into exc k l) (all_into exc ks ls) e in
      ap (λ (b : Bool). b && listed_into exc ks ls) parts.0 ∙ all_listed ks ls parts.1

  -- of lists that differ at the same places
  module _ (ds es : List VKind) (ns os : List ℕ) (xs ys : List VKind)
      (one : numbered ds ns ≡ xs) (other : numbered es os ≡ ys) (same : ns ≡ os) where
    both : numbered es ns ≡ ys
    both = ap (λ (ps : List ℕ). numbered es ps) same ∙ other

    pub few_fit : all_into exc ds es ≡ true → all_into exc xs ys ≡ true
    few_fit fit =
        ap (λ (vs : List VKind). all_into exc vs ys) (sym one)
        ∙ ap (λ (vs : List VKind). all_into exc (numbered ds ns) vs) (sym both)
        ∙ numbered_into ds es ns fit

  -- one more fits
  into_more : (xs ys : List VKind) (x y : VKind) → all_into exc xs ys ≡ true
      → into exc x y ≡ true → all_into exc (xs ++ x ∷ []) (ys ++ y ∷ []) ≡ true
  into_more [] [] x y e fit = ap (λ (b : Bool). b && true) fit
  into_more [] (l ∷ ys) x y e fit = absurd (cc e)
  into_more (k ∷ xs) [] x y e fit = absurd (cc e)
  into_more (k ∷ xs) (l ∷ ys) x y e fit =
      let parts = and_parts (into exc k l) (all_into exc xs ys) e in
      ap (λ (b : Bool). b && all_into exc (xs ++ x ∷ []) (ys ++ y ∷ [])) parts.0
      ∙ into_more xs ys x y parts.1 fit

  -- what is kept, if it is this one
  pub kept_fits : {A : Type 0} (F : A → Type 0) (kept : Option A) (p : A) → IfSome kept F
      → kept ≡ Some p → F p
  kept_fits F kept p fits is = subst (λ o. IfSome o F) is fits

  -- the kinds of one pair of numbers more fit
  module _ (ds es : List VKind) (ns os : List ℕ) (i : ℕ) where
    abbrev pub FitsFor : ℕ → Type 0
    FitsFor m = all_into exc (numbered ds (take m ns)) (numbered es (take m os)) ≡ true

    pub pair_more : (d e n o : ℕ) → i < length ns → i < length os → n ≡ get_or ns i d
        → o ≡ get_or os i e → FitsFor i → into exc (kind_at ds n) (kind_at es o) ≡ true
        → FitsFor (i + 1)
    pair_more d e n o less fewer one other so_far fit =
        let mine = ap (λ (ms : List ℕ). numbered ds ms)
        (take_more ns i d less ∙ ap (λ (m : ℕ). take i ns ++ m ∷ []) (sym one))
        ∙ number_more ds (take i ns) n (kind_at ds n) refl in
        let its = ap (λ (ms : List ℕ). numbered es ms)
        (take_more os i e fewer ∙ ap (λ (m : ℕ). take i os ++ m ∷ []) (sym other))
        ∙ number_more es (take i os) o (kind_at es o) refl in
        ap (λ (vs : List VKind). all_into exc vs (numbered es (take (i + 1) os))) mine
        ∙ ap (λ (vs : List VKind).
        all_into exc (numbered ds (take i ns) ++ kind_at ds n ∷ []) vs) its
        ∙ into_more (numbered ds (take i ns)) (numbered es (take i os)) (kind_at ds n)
        (kind_at es o) so_far fit

  -- the same kinds fit
  pub all_same : (ks : List VKind) → all_into exc ks ks ≡ true
  all_same [] = refl
  all_same (k ∷ ks) =
      ap (λ (b : Bool). b && all_into exc ks ks) (into-same exc k) ∙ all_same ks
