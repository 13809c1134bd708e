-- Kinds of places, of which the last hold anything and are not listed.
use Rattle.std.proofs.Common.{◌≡◌, ℕ, zero, suc, ◌+◌, ◌-◌, ◌<◌, ◌≤◌, Bool, true, false, ◌&&◌}
use Rattle.std.proofs.Common.{List, [], ◌∷◌, ◌++◌, length, set, replicate, refl, sym, ap, subst}
use Rattle.std.proofs.Common.{◌∙◌, arith, append_assoc}
use Rattle.std.proofs.lemmas.List.{length-append, length-replicate, length-map, length-set, map-set}
use Rattle.std.proofs.lemmas.List.{map-append, set-append_left, set_past}
use Rattle.std.proofs.lemmas.List.{replicate-append-replicate}
use Rattle.std.proofs.lemmas.List.{append-nil}
use Rattle.std.proofs.lemmas.Bool.{and_parts}
use Rattle.par_values.specs.Areas.{Name}
use Rattle.par_kinds.specs.declared.frame.VKind.{VKind}
use Rattle.par_kinds.specs.declared.frame.VKind.TheVariants as kind
use Rattle.par_kinds.specs.Kinds.{into, kind_at}
use Rattle.par_kinds.specs.Linked.{padded}
use Rattle.par_kinds.specs.Passes.{all_into, merge, merge_all}
use Rattle.par_place_kinds.specs.declared.kind.PlaceKind.{PlaceKind}
use Rattle.par_place_kinds.specs.declared.kind.PlaceKind.TheVariants as place
use Rattle.par_frame_steps.specs.Marks.{kind_of, kinds_of}
use Rattle.par_place_kinds.specs.Listed.{listed_into, with_place}

-- ---- how many there are

long : (m : ℕ) (ks : List VKind) → length (padded m ks) ≡ length ks + (m - length ks)
long m ks =
    length-append ks (replicate (m - length ks) kind.Top)
    ∙ ap (λ n. length ks + n) (length-replicate (m - length ks) kind.Top)

pub padded_length : (m : ℕ) (ks : List PlaceKind)
    → length (padded m (kinds_of ks)) ≡ length ks + (m - length ks)
padded_length m ks =
    long m (kinds_of ks) ∙ ap (λ n. n + (m - n)) (length-map ks kind_of)

-- ---- one kind

pub padded_at : (m : ℕ) (ks : List VKind) (x : ℕ) → kind_at (padded m ks) x ≡ kind_at ks x
padded_at m ks x = at ks (m - length ks) x where
  none : (a x : ℕ) → kind_at (replicate a kind.Top) x ≡ kind.Top
  none zero x = refl
  none (suc a) zero = refl
  none (suc a) (suc x) = none a x

  at : (ks : List VKind) (a x : ℕ) → kind_at (ks ++ replicate a kind.Top) x ≡ kind_at ks x
  at [] a x = none a x
  at (k ∷ ks) a zero = refl
  at (k ∷ ks) a (suc x) = at ks a x

-- ---- what fits into what

module _ (exc : List Name) where
  many : (ks ls : List VKind) → all_into exc ks ls ≡ true → length ks ≡ length ls
  many [] [] e = refl
  many [] (l ∷ ls) e = absurd (cc e)
  many (k ∷ ks) [] e = absurd (cc e)
  many (k ∷ ks) (l ∷ ls) e =
      ap suc (many ks ls (and_parts (into exc k l) (all_into exc ks ls) e).1)

  -- everything fits where anything is held
  all-tops : (ks : List VKind) (b : ℕ) → length ks ≡ b
      → all_into exc ks (replicate b kind.Top) ≡ true
  unfolding into
  all-tops [] zero is = refl
  all-tops [] (suc b) is = absurd (omega (arith, is))
  all-tops (k ∷ ks) zero is = absurd (omega (arith, is))
  all-tops (k ∷ ks) (suc b) is = all-tops ks b (omega (arith, is))

  into-listed : (ks ls : List VKind) (a b : ℕ) → length ks + a ≡ length ls + b
      → listed_into exc ks ls
      ≡ all_into exc (ks ++ replicate a kind.Top) (ls ++ replicate b kind.Top)
  into-listed ks [] a b is =
      sym (all-tops (ks ++ replicate a kind.Top) b
      (length-append ks (replicate a kind.Top)
      ∙ ap (λ n. length ks + n) (length-replicate a kind.Top)
      ∙ omega (arith, is)))
  into-listed [] (l ∷ ls) zero b is = absurd (omega (arith, is))
  into-listed [] (l ∷ ls) (suc a) b is =
      ap (λ c. into exc kind.Top l && c) (into-listed [] ls a b (omega (arith, is)))
  into-listed (k ∷ ks) (l ∷ ls) a b is =
      ap (λ c. into exc k l && c) (into-listed ks ls a b (omega (arith, is)))

  pub padded_into : (m n : ℕ) (ks ls : List VKind)
      → length (padded m ks) ≡ length (padded n ls)
      → listed_into exc ks ls ≡ all_into exc (padded m ks) (padded n ls)
  padded_into m n ks ls same =
      into-listed ks ls (m - length ks) (n - length ls) (sym (long m ks) ∙ same ∙ long n ls)

  pub padded_differ : (ks ls : List VKind) → (length ks ≡ length ls → ⊥)
      → all_into exc ks ls ≡ false
  padded_differ ks ls differ = in_case (all_into exc ks ls) refl where
    in_case : (b : Bool) → all_into exc ks ls ≡ b → b ≡ false
    in_case true is = absurd (differ (many ks ls is))
    in_case false is = refl

  -- ---- merging

  pub top-left : (l : VKind) → merge exc kind.Top l ≡ kind.Top
  unfolding into
  top-left kind.Top = refl
  top-left kind.Int = refl
  top-left kind.Null = refl
  top-left (kind.Object n) = refl
  top-left (kind.Base true) = refl
  top-left (kind.Base false) = refl

  pub top-right : (k : VKind) → merge exc k kind.Top ≡ kind.Top
  unfolding into
  top-right k = refl

  tops-left : (ls : List VKind) (a : ℕ) → a ≡ length ls
      → merge_all exc (replicate a kind.Top) ls ≡ replicate a kind.Top
  tops-left [] zero is = refl
  tops-left [] (suc a) is = absurd (omega (arith, is))
  tops-left (l ∷ ls) zero is = absurd (omega (arith, is))
  tops-left (l ∷ ls) (suc a) is =
      ap (λ k. k ∷ merge_all exc (replicate a kind.Top) ls) (top-left l)
      ∙ ap (λ ks. kind.Top ∷ ks) (tops-left ls a (omega (arith, is)))

  tops-right : (ks : List VKind) (b : ℕ) → b ≡ length ks
      → merge_all exc ks (replicate b kind.Top) ≡ replicate b kind.Top
  tops-right [] zero is = refl
  tops-right [] (suc b) is = absurd (omega (arith, is))
  tops-right (k ∷ ks) zero is = absurd (omega (arith, is))
  tops-right (k ∷ ks) (suc b) is =
      ap (λ l. l ∷ merge_all exc ks (replicate b kind.Top)) (top-right k)
      ∙ ap (λ ls. kind.Top ∷ ls) (tops-right ks b (omega (arith, is)))

  merge-listed : (ks ls : List VKind) (a b c : ℕ) → length ks + a ≡ length ls + b
      → c + length (merge_all exc ks ls) ≡ length ks + a
      → merge_all exc ks ls ++ replicate c kind.Top
      ≡ merge_all exc (ks ++ replicate a kind.Top) (ls ++ replicate b kind.Top)
  merge-listed [] ls a b c same rest =
      let all : c ≡ a = omega (arith, rest) in
      ap (λ n. replicate n kind.Top) all
      ∙ sym (tops-left (ls ++ replicate b kind.Top) a
      (omega (arith, same, length-append ls (replicate b kind.Top), length-replicate b kind.Top)))
  merge-listed (k ∷ ks) [] a b c same rest =
      let all : c ≡ b = omega (arith, rest, same) in
      ap (λ n. replicate n kind.Top) all
      ∙ sym (tops-right (k ∷ (ks ++ replicate a kind.Top)) b
      (omega (arith, same, length-append ks (replicate a kind.Top), length-replicate a kind.Top)))
  merge-listed (k ∷ ks) (l ∷ ls) a b c same rest =
      ap (λ ms. merge exc k l ∷ ms)
      (merge-listed ks ls a b c (omega (arith, same)) (omega (arith, rest)))

  merge-long : (ks ls : List VKind) → length (merge_all exc ks ls) ≤ length ks
  merge-long [] ls = omega arith
  merge-long (k ∷ ks) [] = omega arith
  merge-long (k ∷ ks) (l ∷ ls) = let rest = merge-long ks ls in omega (arith, rest)

  pub padded_merged : (m n p : ℕ) (ks ls ms : List VKind) → p ≡ length (padded m ks)
      → length (padded m ks) ≡ length (padded n ls) → ms ≡ merge_all exc ks ls
      → padded p ms ≡ merge_all exc (padded m ks) (padded n ls)
  padded_merged m n p ks ls ms is same made =
      let total = long m ks in
      let few = merge-long ks ls in
      ap (padded p) made
      ∙ merge-listed ks ls (m - length ks) (n - length ls) (p - length (merge_all exc ks ls))
      (sym (long m ks) ∙ same ∙ long n ls) (omega (arith, is, total, few))

-- ---- setting one

tops : (n : ℕ) → kinds_of (replicate n place.Top) ≡ replicate n kind.Top
tops zero = refl
tops (suc n) = ap (λ ks. kind.Top ∷ ks) (tops n)

pub listed_set : (ks : List PlaceKind) (x r : ℕ) (k : PlaceKind) → r ≡ suc x - length ks
    → kinds_of (set (ks ++ replicate r place.Top) x k) ≡ with_place (kinds_of ks) x (kind_of k)
listed_set ks x r k is =
    map-set kind_of (ks ++ replicate r place.Top) x k
    ∙ ap (λ l. set l x (kind_of k))
    (map-append kind_of ks (replicate r place.Top)
    ∙ ap (λ l. kinds_of ks ++ l)
    (tops r
    ∙ ap (λ n. replicate n kind.Top) (is ∙ ap (λ n. suc x - n) (sym (length-map ks kind_of)))))

-- listing more of the last ones says the same
listed-more : (m r : ℕ) (ks : List VKind) → length ks + r ≤ m
    → padded m (ks ++ replicate r kind.Top) ≡ padded m ks
listed-more m r ks few =
    let all : length (ks ++ replicate r kind.Top) ≡ length ks + r =
    length-append ks (replicate r kind.Top)
    ∙ ap (λ n. length ks + n) (length-replicate r kind.Top) in
    append_assoc ks (replicate r kind.Top)
    (replicate (m - length (ks ++ replicate r kind.Top)) kind.Top)
    ∙ ap (λ l. ks ++ l)
    (replicate-append-replicate r (m - length (ks ++ replicate r kind.Top)) kind.Top
    ∙ ap (λ n. replicate n kind.Top) (omega (arith, all, few)))

same-padded : (m x : ℕ) (ks : List VKind) → x < length ks + (m - length ks)
    → padded m (ks ++ replicate (suc x - length ks) kind.Top) ≡ padded m ks
same-padded m x ks inside = in_case (suc x - length ks) refl where
  in_case : (r : ℕ) → suc x - length ks ≡ r
      → padded m (ks ++ replicate r kind.Top) ≡ padded m ks
  in_case zero is = ap (padded m) (append-nil ks)
  in_case (suc r) is = listed-more m (suc r) ks (omega (arith, is, inside))

pub padded_set : (m x : ℕ) (ks : List VKind) (k : VKind) → x < length (padded m ks)
    → padded m (with_place ks x k) ≡ set (padded m ks) x k
padded_set m x ks k inside =
    let ls : List VKind = ks ++ replicate (suc x - length ks) kind.Top in
    let all : length ls ≡ length ks + (suc x - length ks) =
    length-append ks (replicate (suc x - length ks) kind.Top)
    ∙ ap (λ n. length ks + n) (length-replicate (suc x - length ks) kind.Top) in
    ap (λ n. set ls x k ++ replicate (m - n) kind.Top) (length-set ls x k)
    ∙ sym (set-append_left ls (replicate (m - length ls) kind.Top) x k (omega (arith, all)))
    ∙ ap (λ l. set l x k)
    (same-padded m x ks (subst (λ n. x < n) (long m ks) inside))

pub padded_past : (m x : ℕ) (ks : List VKind) (k : VKind) → length (padded m ks) ≤ x
    → set (padded m ks) x k ≡ padded m ks
padded_past m x ks k past = set_past (padded m ks) x k past
