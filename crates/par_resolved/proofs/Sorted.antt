-- Entries in the order of their places: there is one such order that keeps those of one place.
use Rattle.std.proofs.Common.{◌≡◌, ℕ, ◌<◌, ◌≤◌, Bool, true, false, cond, not, ◌&&◌, List, [], ◌∷◌}
use Rattle.std.proofs.Common.{All, refl, sym, ap, ◌∙◌, inl, inr, arith}
use Rattle.std.specs.Prelude.{nat_le, if◌then◌else◌}
use Rattle.std.specs.List.{filter, AllPairs}
use Rattle.std.specs.List.Sorted.{ties, IsNonDecreasingBy, IsStableByKey}
use Rattle.std.specs.Ordering.{is_lt, nat_cmp}
use Rattle.std.specs.Cmp.{nat_cmp_is}
use Rattle.std.specs.declared.cmp.Ordering.TheVariants.{Less, Equal, Greater}
use Rattle.std.proofs.lemmas.Bool.{cases_order}
use Rattle.std.proofs.lemmas.Bool.Decides.{nat_tests}
use Rattle.std.proofs.lemmas.List.Elements.{All-nil, All-cons, All-head, All-tail, All-weaker}
use Rattle.std.proofs.lemmas.List.Kept.{AllPairs-cons}
use Rattle.par_typed.proofs.par_policy.Ordered.{AllPairs-head, AllPairs-tail}
use Rattle.par_resolved.specs.declared.entries.Entry.{Entry}
use Rattle.par_resolved.specs.Numbered.{with_entry, by_place}

-- two entries of one place
abbrev tie : Entry → Entry → Bool
tie = ties (λ e f. is_lt (nat_cmp e.at f.at))

abbrev Rises : List Entry → Type 0
Rises es = AllPairs (λ e f. e.at ≤ f.at) es

less : (m n : ℕ) → m < n → is_lt (nat_cmp m n) ≡ true
less m n h = ap is_lt (sym (nat_cmp_is m n Less h))

no_less : (m n : ℕ) → n ≤ m → is_lt (nat_cmp m n) ≡ false
no_less m n h =
    elim (cases_order m n) [
      | inl same ↦ ap is_lt (sym (nat_cmp_is m n Equal same))
      | inr (inl below) ↦ absurd (omega (arith, h, below))
      | inr (inr above) ↦ ap is_lt (sym (nat_cmp_is m n Greater above))
    ]

tied : (e f : Entry) → e.at ≡ f.at → tie e f ≡ true
tied e f h =
    let a : is_lt (nat_cmp e.at f.at) ≡ false = no_less e.at f.at (omega (arith, h)) in
    let b : is_lt (nat_cmp f.at e.at) ≡ false = no_less f.at e.at (omega (arith, h)) in
    ap (λ x. not x && not (is_lt (nat_cmp f.at e.at))) a ∙ ap not b

untied_below : (e f : Entry) → e.at < f.at → tie e f ≡ false
untied_below e f h = ap (λ x. not x && not (is_lt (nat_cmp f.at e.at))) (less e.at f.at h)

and_false : (b : Bool) → (b && false) ≡ false
and_false true = refl
and_false false = refl

untied_above : (e f : Entry) → f.at < e.at → tie e f ≡ false
untied_above e f h =
    ap (λ x. not (is_lt (nat_cmp e.at f.at)) && not x) (less f.at e.at h)
    ∙ and_false (not (is_lt (nat_cmp e.at f.at)))

-- ---- no two orders

-- none of these is of the place of an entry before them
none_tied : (e : Entry) (fs : List Entry) → All (λ f. e.at < f.at) fs → filter (tie e) fs ≡ []
none_tied e [] h = refl
none_tied e (f ∷ fs) h =
    ap (λ b. cond b (f ∷ filter (tie e) fs) (filter (tie e) fs))
    (untied_below e f (All-head (λ g. e.at < g.at) f fs h))
    ∙ none_tied e fs (All-tail (λ g. e.at < g.at) f fs h)

-- the first of a list is of its own place
first_tied : (e : Entry) (fs : List Entry) → filter (tie e) (e ∷ fs) ≡ e ∷ filter (tie e) fs
first_tied e fs = ap (λ b. cond b (e ∷ filter (tie e) fs) (filter (tie e) fs)) (tied e e refl)

also_tied : (e f : Entry) (fs : List Entry) → e.at ≡ f.at
    → filter (tie e) (f ∷ fs) ≡ f ∷ filter (tie e) fs
also_tied e f fs h = ap (λ b. cond b (f ∷ filter (tie e) fs) (filter (tie e) fs)) (tied e f h)

above_first : (e f : Entry) (fs : List Entry) → e.at < f.at → Rises (f ∷ fs)
    → All (λ g. e.at < g.at) (f ∷ fs)
above_first e f fs h up =
    All-cons (λ g. e.at < g.at) f fs h
    (All-weaker (λ g. f.at ≤ g.at) (λ g. e.at < g.at) (λ g k. omega (arith, h, k)) fs
    (AllPairs-head (λ a b. a.at ≤ b.at) f fs up))

-- a list that has an entry of a place, and one that has none there
apart : (e f : Entry) (es fs : List Entry) → e.at < f.at → Rises (f ∷ fs)
    → filter (tie e) (e ∷ es) ≡ filter (tie e) (f ∷ fs) → ⊥
apart e f es fs h up same =
    let none : e ∷ filter (tie e) es ≡ [] =
    sym (first_tied e es) ∙ same ∙ none_tied e (f ∷ fs) (above_first e f fs h up) in
    cc none

tails : (b : Bool) (e f : Entry) (xs ys : List Entry) → e ≡ f
    → cond b (e ∷ xs) xs ≡ cond b (f ∷ ys) ys → xs ≡ ys
tails true e f xs ys same h = cc h
tails false e f xs ys same h = h

heads : (e f : Entry) (xs ys : List Entry) → e ∷ xs ≡ f ∷ ys → e ≡ f
heads e f xs ys h = cc h

pub one_order : (es fs : List Entry) → Rises es → Rises fs
    → ((x : Entry) → filter (tie x) es ≡ filter (tie x) fs) → es ≡ fs
one_order [] [] up also same = refl
one_order [] (f ∷ fs) up also same =
    let h : [] ≡ f ∷ filter (tie f) fs = same f ∙ first_tied f fs in absurd (cc h)
one_order (e ∷ es) [] up also same =
    let h : e ∷ filter (tie e) es ≡ [] = sym (first_tied e es) ∙ same e in absurd (cc h)
one_order (e ∷ es) (f ∷ fs) up also same =
    let later =
    one_order es fs (AllPairs-tail (λ a b. a.at ≤ b.at) e es up)
    (AllPairs-tail (λ a b. a.at ≤ b.at) f fs also) in
    elim (cases_order e.at f.at) [
      | inl level ↦
          let first : e ≡ f =
          heads e f (filter (tie e) es) (filter (tie e) fs)
          (sym (first_tied e es) ∙ same e ∙ also_tied e f fs level) in
          let rest : es ≡ fs =
          later (λ x. tails (tie x e) e f (filter (tie x) es) (filter (tie x) fs) first
          (same x ∙ ap (λ g. cond (tie x g) (f ∷ filter (tie x) fs) (filter (tie x) fs))
          (sym first))) in
          ap (λ g. g ∷ es) first ∙ ap (λ gs. f ∷ gs) rest
      | inr (inl below) ↦ absurd (apart e f es fs below also (same e))
      | inr (inr above) ↦ absurd (apart f e fs es above up (sym (same f)))
    ]

-- ---- `by_place` is one

all_with : (P : Entry → Type 0) (e : Entry) (fs : List Entry) → P e → All P fs
    → All P (with_entry e fs)
all_with P e [] h k = All-cons P e [] h k
all_with P e (f ∷ fs) h k = in_order (nat_le e.at f.at) (all_with P e fs h (All-tail P f fs k))
  where
    in_order : (b : Bool) → All P (with_entry e fs)
        → All P (if b then e ∷ f ∷ fs else f ∷ with_entry e fs)
    in_order true later = All-cons P e (f ∷ fs) h k
    in_order false later = All-cons P f (with_entry e fs) (All-head P f fs k) later

rises_with : (e : Entry) (fs : List Entry) → Rises fs → Rises (with_entry e fs)
rises_with e [] up = AllPairs-cons (λ a b. a.at ≤ b.at) e [] (All-nil (λ b. e.at ≤ b.at)) up
rises_with e (f ∷ fs) up =
    in_order (nat_le e.at f.at) refl (rises_with e fs (AllPairs-tail (λ a b. a.at ≤ b.at) f fs up))
  where
    behind : All (λ g. f.at ≤ g.at) fs
    behind = AllPairs-head (λ a b. a.at ≤ b.at) f fs up

    in_order : (b : Bool) → nat_le e.at f.at ≡ b → Rises (with_entry e fs)
        → Rises (if b then e ∷ f ∷ fs else f ∷ with_entry e fs)
    in_order true h later =
        let le : e.at ≤ f.at = grind (arith, nat_tests) in
        AllPairs-cons (λ a b. a.at ≤ b.at) e (f ∷ fs)
        (All-cons (λ g. e.at ≤ g.at) f fs le
        (All-weaker (λ g. f.at ≤ g.at) (λ g. e.at ≤ g.at) (λ g k. omega (arith, le, k)) fs behind))
        up
    in_order false h later =
        let le : f.at ≤ e.at = grind (arith, nat_tests) in
        AllPairs-cons (λ a b. a.at ≤ b.at) f (with_entry e fs)
        (all_with (λ g. f.at ≤ g.at) e fs le behind) later

no_pairs : Rises []
no_pairs i j d apart short = absurd (omega (arith, apart, short))

rises : (es : List Entry) → Rises (by_place es)
rises [] = no_pairs
rises (e ∷ es) = rises_with e (by_place es) (rises es)

-- an entry may go past one of another place
past : (x e f : Entry) (fs : List Entry) → f.at < e.at
    → cond (tie x f) (f ∷ cond (tie x e) (e ∷ fs) fs) (cond (tie x e) (e ∷ fs) fs)
    ≡ cond (tie x e) (e ∷ cond (tie x f) (f ∷ fs) fs) (cond (tie x f) (f ∷ fs) fs)
past x e f fs h =
    elim (cases_order x.at e.at) [
      | inl level ↦
          let no : tie x f ≡ false = untied_above x f (omega (arith, level, h)) in
          rw no refl
      | inr (inl below) ↦ let no : tie x e ≡ false = untied_below x e below in rw no refl
      | inr (inr above) ↦ let no : tie x e ≡ false = untied_above x e above in rw no refl
    ]

keeps_with : (x e : Entry) (fs : List Entry)
    → filter (tie x) (with_entry e fs) ≡ filter (tie x) (e ∷ fs)
keeps_with x e [] = refl
keeps_with x e (f ∷ fs) = in_order (nat_le e.at f.at) refl (keeps_with x e fs)
  where
    in_order : (b : Bool) → nat_le e.at f.at ≡ b
        → filter (tie x) (with_entry e fs) ≡ filter (tie x) (e ∷ fs)
        → filter (tie x) (if b then e ∷ f ∷ fs else f ∷ with_entry e fs)
        ≡ filter (tie x) (e ∷ f ∷ fs)
    in_order true h later = refl
    in_order false h later =
        let over : f.at < e.at = grind (arith, nat_tests) in
        ap (λ gs. cond (tie x f) (f ∷ gs) gs) later ∙ past x e f (filter (tie x) fs) over

keeps : (x : Entry) (es : List Entry) → filter (tie x) (by_place es) ≡ filter (tie x) es
keeps x [] = refl
keeps x (e ∷ es) = keeps_with x e (by_place es) ∙ ap (λ gs. cond (tie x e) (e ∷ gs) gs) (keeps x es)

-- a stable sort by place gives it
pub sorted_by_place : (es fs : List Entry) → IsNonDecreasingBy (λ e. e.at) fs
    → IsStableByKey (λ e. e.at) nat_cmp es fs → fs ≡ by_place es
sorted_by_place es fs up stable =
    one_order fs (by_place es) (λ i j d apart short. up i j d (omega (arith, apart)) short)
    (rises es) (λ x. stable x ∙ sym (keeps x es))
