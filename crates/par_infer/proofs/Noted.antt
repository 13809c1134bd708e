-- The numbers of inferred fields, noted one by one.
use Rattle.std.proofs.Common.{◌≡◌, ℕ, ◌+◌, ◌<◌, ◌≤◌, Bool, true, false, ◌||◌, ◌&&◌, List}
use Rattle.std.proofs.Common.{length, get_or, drop, refl, sym, ap, ◌∙◌, eq-eqb}
use Rattle.std.specs.Prelude.{IsTrue, nat_eq}
use Rattle.std.proofs.lemmas.Bool.{eqb-true, and_from, or_left, or_right}
use Rattle.par_bits.specs.Sets.{Set}
use Rattle.par_typed.specs.declared.table.FieldInfo.{FieldInfo}
use Rattle.par_typed.specs.declared.table.ClassInfo.{ClassInfo}
use Rattle.par_program_laws.specs.Inferred.{inferred_among, inferred_in}
use Rattle.par_asked.proofs.Left.{left_more, left_none}
use Rattle.par_infer.proofs.Choices.{by_cases}

-- what is noted so far, and what is left, is all; and what is left is below the bound
pub record Goes (all left : Set) (old now : Set) : Type 0 where
  pub few : (n : ℕ) → IsTrue (left n) → n < 256
  pub same : (n : ℕ) → (now n || left n) ≡ (old n || all n)

or_three : (a b c : Bool) → (a || (b || c)) ≡ ((a || b) || c)
or_three true b c = refl
or_three false b c = refl

or_none : (a : Bool) → (a || false) ≡ a
or_none true = refl
or_none false = refl

nat_eq_turned : (m n : ℕ) → nat_eq m n ≡ nat_eq n m
nat_eq_turned m n =
    by_cases (nat_eq m n) (nat_eq m n ≡ nat_eq n m)
    (λ e. e ∙ sym (eq-eqb n m (sym (eqb-true m n e))))
    (λ e. by_cases (nat_eq n m) (nat_eq m n ≡ nat_eq n m)
    (λ d. eq-eqb m n (sym (eqb-true n m d)) ∙ sym d) (λ d. e ∙ sym d))

pub starts : (all old : Set) → ((n : ℕ) → IsTrue (all n) → n < 256) → Goes all all old old
starts all old few = record { few = few; same = λ n. refl }

-- some are noted
pub goes_on : (all more left old now next : Set)
    → Goes all (λ n. more n || left n) old now → ((n : ℕ) → next n ≡ (now n || more n))
    → Goes all left old next
goes_on all more left old now next g e = record {
  few = λ n h. g.few n (or_right _ _ h);
  same = λ n. ap (λ b. b || left n) (e n) ∙ sym (or_three (now n) (more n) (left n)) ∙ g.same n;
}

pub ends : (all left old now : Set) → Goes all left old now → ((n : ℕ) → left n ≡ false)
    → (n : ℕ) → now n ≡ (old n || all n)
ends all left old now g e n =
    sym (or_none (now n)) ∙ ap (λ b. now n || b) (sym (e n)) ∙ g.same n

-- one field
abbrev pub own : FieldInfo → Set
own f n = f.inferred && nat_eq f.policy n

pub own_few : (f : FieldInfo) (left : Set)
    → ((n : ℕ) → IsTrue (own f n || left n) → n < 256) → IsTrue f.inferred → f.policy < 256
own_few f left few e = few f.policy (or_left _ _ (and_from _ _ e (eq-eqb f.policy f.policy refl)))

pub own_noted : (f : FieldInfo) (now next : Set) → IsTrue f.inferred
    → ((n : ℕ) → next n ≡ (now n || nat_eq n f.policy)) → (n : ℕ) → next n ≡ (now n || own f n)
own_noted f now next e h n =
    h n ∙ ap (λ b. now n || b) (nat_eq_turned n f.policy ∙ ap (λ b. b && nat_eq f.policy n) (sym e))

pub own_left : (f : FieldInfo) (now next : Set) → f.inferred ≡ false → ((n : ℕ) → next n ≡ now n)
    → (n : ℕ) → next n ≡ (now n || own f n)
own_left f now next e h n =
    h n ∙ sym (or_none (now n)) ∙ ap (λ b. now n || (b && nat_eq f.policy n)) (sym e)

pub fields_left : (fs : List FieldInfo) (i : ℕ) (f : FieldInfo) → i < length fs
    → f ≡ get_or fs i f
    → inferred_among (drop i fs) ≡ (λ n. own f n || inferred_among (drop (i + 1) fs) n)
fields_left fs i f lt is = ap inferred_among (left_more fs i f lt is)

pub no_fields_left : (fs : List FieldInfo) (i n : ℕ) → length fs ≤ i
    → inferred_among (drop i fs) n ≡ false
no_fields_left fs i n le = ap (λ gs. inferred_among gs n) (left_none fs i le)

pub classes_left : (cs : List ClassInfo) (i : ℕ) (c : ClassInfo) → i < length cs
    → c ≡ get_or cs i c
    → inferred_in (drop i cs)
    ≡ (λ n. inferred_among c.fields n || inferred_in (drop (i + 1) cs) n)
classes_left cs i c lt is = ap inferred_in (left_more cs i c lt is)

pub no_classes_left : (cs : List ClassInfo) (i n : ℕ) → length cs ≤ i
    → inferred_in (drop i cs) n ≡ false
no_classes_left cs i n le = ap (λ ds. inferred_in ds n) (left_none cs i le)
