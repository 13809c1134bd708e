-- What births ask, noted one by one.
use Rattle.std.proofs.Common.{◌≡◌, ℕ, ◌<◌, ◌+◌, ◌≤◌, false, ◌||◌, List, ◌∷◌}
use Rattle.std.proofs.Common.{length, get_or, drop, refl, sym, ap, subst, eq-eqb}
use Rattle.std.specs.Prelude.{IsTrue}
use Rattle.std.proofs.lemmas.Bool.{and_from, or_left, or_right}
use Rattle.par_typed.specs.declared.table.FieldInfo.{FieldInfo}
use Rattle.par_typed.specs.declared.table.ClassInfo.{ClassInfo}
use Rattle.par_asked.proofs.Left.{left_more, left_none}
use Rattle.par_program_laws.specs.Inferred.{inferred_among, inferred_in}
use Rattle.par_infer.specs.Bounds.{born_above, births_above}
use Rattle.par_infer.specs.Births.{born_once}

-- what is left
pub fields_left : (birth : ℕ) (fs : List FieldInfo) (i : ℕ) (f : FieldInfo) → i < length fs
    → f ≡ get_or fs i f
    → born_above birth (drop i fs)
    ≡ (λ p n. born_once birth f p n || born_above birth (drop (i + 1) fs) p n)
fields_left birth fs i f lt is = ap (born_above birth) (left_more fs i f lt is)

pub no_fields_left : (birth : ℕ) (fs : List FieldInfo) (i p n : ℕ) → length fs ≤ i
    → born_above birth (drop i fs) p n ≡ false
no_fields_left birth fs i p n le = ap (λ gs. born_above birth gs p n) (left_none fs i le)

pub field_inside : (f : FieldInfo) (fs : List FieldInfo) (k : ℕ)
    → ((n : ℕ) → IsTrue (inferred_among (f ∷ fs) n) → n < k) → IsTrue f.inferred → f.policy < k
field_inside f fs k g h =
    g f.policy (or_left _ _ (and_from _ _ h (eq-eqb f.policy f.policy refl)))

pub rest_inside : (f : FieldInfo) (fs : List FieldInfo) (k m : ℕ)
    → ((n : ℕ) → IsTrue (inferred_among (f ∷ fs) n) → n < k) → m ≡ k
    → (n : ℕ) → IsTrue (inferred_among fs n) → n < m
rest_inside f fs k m g e n h = subst (λ j. n < j) (sym e) (g n (or_right _ _ h))

pub classes_left : (cs : List ClassInfo) (i : ℕ) (c : ClassInfo) → i < length cs
    → c ≡ get_or cs i c
    → births_above (drop i cs)
    ≡ (λ p n. born_above c.birth c.fields p n || births_above (drop (i + 1) cs) p n)
classes_left cs i c lt is = ap births_above (left_more cs i c lt is)

pub no_classes_left : (cs : List ClassInfo) (i p n : ℕ) → length cs ≤ i
    → births_above (drop i cs) p n ≡ false
no_classes_left cs i p n le = ap (λ ds. births_above ds p n) (left_none cs i le)

pub class_inside : (c : ClassInfo) (cs : List ClassInfo) (k : ℕ)
    → ((n : ℕ) → IsTrue (inferred_in (c ∷ cs) n) → n < k)
    → (n : ℕ) → IsTrue (inferred_among c.fields n) → n < k
class_inside c cs k g n h = g n (or_left _ _ h)

pub classes_inside : (c : ClassInfo) (cs : List ClassInfo) (k m : ℕ)
    → ((n : ℕ) → IsTrue (inferred_in (c ∷ cs) n) → n < k) → m ≡ k
    → (n : ℕ) → IsTrue (inferred_in cs n) → n < m
classes_inside c cs k m g e n h = subst (λ j. n < j) (sym e) (g n (or_right _ _ h))
