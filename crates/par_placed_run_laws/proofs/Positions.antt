-- Positions in labelled code and offsets in bytes: labels have no bytes.
use Rattle.std.proofs.Common.{◌≡◌, ℕ, zero, suc, ◌+◌, Bool, true, false, List, [], ◌∷◌}
use Rattle.std.proofs.Common.{drop, Some, refl, sym, ap, subst, ◌∙◌, arith}
use Rattle.std.specs.Prelude.{◌==◌, if◌then◌else◌, slice_get}
use Rattle.std.specs.List.{AllZip}
use Rattle.par_place.specs.par_code_form.declared.item.Item.{Item}
use Rattle.par_place.specs.par_code_form.declared.item.Item.TheVariants.{Label, Op, Const, Jump}
use Rattle.par_place.specs.par_code_form.declared.item.Item.TheVariants.{Member}
use Rattle.par_place.specs.par_code_form.declared.item.Item.TheVariants.{ClassOp, LockOp}
use Rattle.par_match_laws.specs.Labelled.{spot, lead, skip, target}
use Rattle.par_place.specs.par_code_form.Placed.{size, offset_of, offset_at}

pub drop_next : {A : Type 0} (xs : List A) (p : ℕ) (x : A) (rest : List A)
    → drop p xs ≡ x ∷ rest → drop (suc p) xs ≡ rest
drop_next xs zero x rest e = ap (drop 1) e
drop_next [] (suc p) x rest e = absurd (cc e)
drop_next (y ∷ xs) (suc p) x rest e = drop_next xs p x rest e

-- the first of what is left at a position stands there
pub there : {A : Type 0} (xs : List A) (p : ℕ) (x : A) (rest : List A) → drop p xs ≡ x ∷ rest
    → slice_get xs p ≡ Some x
there [] zero x rest e = absurd (cc e)
there [] (suc p) x rest e = absurd (cc e)
there (y ∷ xs) zero x rest e = cc
there (y ∷ xs) (suc p) x rest e = there xs p x rest e

-- what stands beside an item of a list
pub record IsBeside {A B : Type 0} (R : A → B → Type 0) (ys : List B) (p : ℕ) (x : A) : Type 0
  where
    pub other : B
    pub stands : slice_get ys p ≡ Some other
    pub holds : R x other

pub beside : {A B : Type 0} (R : A → B → Type 0) (xs : List A) (ys : List B) (p : ℕ) (x : A)
    → AllZip R xs ys → slice_get xs p ≡ Some x → IsBeside R ys p x
beside R [] ys p x all e = absurd (cc e)
beside R (a ∷ xs) [] p x all e = absurd all
beside {A} {B} R (a ∷ xs) (b ∷ ys) zero x all e =
    let same : a ≡ x = cc in
    record { other = b; stands = refl; holds = subst (λ (y : A). R y b) same all.0 }
beside R (a ∷ xs) (b ∷ ys) (suc p) x all e =
    let rest = beside R xs ys p x all.1 e in
    record { other = rest.other; stands = rest.stands; holds = rest.holds }

-- ---- labels

at_label : (b : Bool) (n : ℕ) (xs : List Item) (x : Item)
    → 0 ≡ offset_at (if b then 0 else suc n) (x ∷ xs) []
at_label true n xs x = refl
at_label false n xs x = refl

-- the offset of a label is that of its position
pub spot_offset : (l : ℕ) (xs : List Item) (ns : List ℕ)
    → offset_of xs ns l ≡ offset_at (spot xs l) xs ns
spot_offset l [] ns = refl
spot_offset l (Label k ∷ xs) [] = at_label (k == l) (spot xs l) xs (Label k)
spot_offset l (Op i ∷ xs) [] = refl
spot_offset l (Const v ∷ xs) [] = refl
spot_offset l (Jump o k ∷ xs) [] = refl
spot_offset l (Member o c m d ∷ xs) [] = refl
spot_offset l (ClassOp o c ∷ xs) [] = refl
spot_offset l (LockOp o k ∷ xs) [] = refl
spot_offset l (Label k ∷ xs) (n ∷ ns) = pick (k == l) (spot_offset l xs ns)
  where
    pick : (b : Bool) → offset_of xs ns l ≡ offset_at (spot xs l) xs ns
        → (if b then 0 else size (Label k) n + offset_of xs ns l)
        ≡ offset_at (if b then 0 else suc (spot xs l)) (Label k ∷ xs) (n ∷ ns)
    pick true rest = refl
    pick false rest = ap (λ (o : ℕ). size (Label k) n + o) rest
spot_offset l (Op i ∷ xs) (n ∷ ns) =
    ap (λ (o : ℕ). size (Op i) n + o) (spot_offset l xs ns)
spot_offset l (Const v ∷ xs) (n ∷ ns) =
    ap (λ (o : ℕ). size (Const v) n + o) (spot_offset l xs ns)
spot_offset l (Jump o k ∷ xs) (n ∷ ns) =
    ap (λ (at : ℕ). size (Jump o k) n + at) (spot_offset l xs ns)
spot_offset l (Member o c m d ∷ xs) (n ∷ ns) =
    ap (λ (at : ℕ). size (Member o c m d) n + at) (spot_offset l xs ns)
spot_offset l (ClassOp o c ∷ xs) (n ∷ ns) =
    ap (λ (at : ℕ). size (ClassOp o c) n + at) (spot_offset l xs ns)
spot_offset l (LockOp o k ∷ xs) (n ∷ ns) =
    ap (λ (at : ℕ). size (LockOp o k) n + at) (spot_offset l xs ns)

-- behind a label the offset is the same
label_free : (p : ℕ) (xs : List Item) (ns : List ℕ) (l : ℕ) (rest : List Item)
    → drop p xs ≡ Label l ∷ rest → offset_at (suc p) xs ns ≡ offset_at p xs ns
label_free zero [] ns l rest e = absurd (cc e)
label_free (suc p) [] ns l rest e = absurd (cc e)
label_free zero (x ∷ xs) [] l rest e = refl
label_free zero (x ∷ xs) (n ∷ ns) l rest e =
    let same : x ≡ Label l = cc in
    omega (arith, ap (λ (y : Item). size y n) same)
label_free (suc p) (x ∷ xs) [] l rest e = refl
label_free (suc p) (x ∷ xs) (n ∷ ns) l rest e =
    ap (λ (o : ℕ). size x n + o) (label_free p xs ns l rest e)

-- labels are passed at no cost
pub skip_free : (rest : List Item) (p : ℕ) (xs : List Item) (ns : List ℕ) → drop p xs ≡ rest
    → offset_at (skip rest p) xs ns ≡ offset_at p xs ns
skip_free [] p xs ns e = refl
skip_free (Label l ∷ rest) p xs ns e =
    skip_free rest (suc p) xs ns (drop_next xs p (Label l) rest e) ∙ label_free p xs ns l rest e
skip_free (Op i ∷ rest) p xs ns e = refl
skip_free (Const v ∷ rest) p xs ns e = refl
skip_free (Jump o l ∷ rest) p xs ns e = refl
skip_free (Member o c m d ∷ rest) p xs ns e = refl
skip_free (ClassOp o c ∷ rest) p xs ns e = refl
skip_free (LockOp o l ∷ rest) p xs ns e = refl

-- the offset of a label is that of the instruction behind it
pub target_offset : (l : ℕ) (xs : List Item) (ns : List ℕ)
    → offset_of xs ns l ≡ offset_at (target xs l) xs ns
target_offset l xs ns =
    spot_offset l xs ns ∙ sym (skip_free (drop (spot xs l) xs) (spot xs l) xs ns refl)

next_is : (rest : List Item) (p : ℕ) → p + suc (lead rest) ≡ skip rest (suc p)
next_is [] p = omega arith
next_is (Label l ∷ rest) p = let e = next_is rest (suc p) in omega (arith, e)
next_is (Op i ∷ rest) p = omega arith
next_is (Const v ∷ rest) p = omega arith
next_is (Jump o l ∷ rest) p = omega arith
next_is (Member o c m d ∷ rest) p = omega arith
next_is (ClassOp o c ∷ rest) p = omega arith
next_is (LockOp o l ∷ rest) p = omega arith

-- the position behind an item and the labels that follow it has the offset behind the item
pub next_offset : (xs : List Item) (ns : List ℕ) (p : ℕ) (x : Item) (rest : List Item)
    → drop p xs ≡ x ∷ rest → offset_at (p + suc (lead rest)) xs ns ≡ offset_at (suc p) xs ns
next_offset xs ns p x rest e =
    ap (λ (q : ℕ). offset_at q xs ns) (next_is rest p)
    ∙ skip_free rest (suc p) xs ns (drop_next xs p x rest e)
