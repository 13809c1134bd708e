-- The operands that were pushed last.
use Rattle.std.proofs.Common.{◌≡◌, ℕ, zero, suc, ◌+◌, ◌-◌, ◌<◌, ◌≤◌, ℤ, Bool, true, false, not}
use Rattle.std.proofs.Common.{nat_lt, List, [], ◌∷◌, length, Option, Some, None, slice_get, refl}
use Rattle.std.proofs.Common.{ap, arith}
use Rattle.std.proofs.lemmas.Bool.{lt-ltb, le-ltb}
use Rattle.par_values.specs.declared.value.MVal.{MVal}
use Rattle.par_values.specs.declared.value.MVal.TheVariants.{Int, Null, Ref}
use Rattle.par_values.specs.declared.kind.Kind.{Kind}
use Rattle.par_values.specs.declared.kind.Kind.TheVariants.{Number, AnyObject}
use Rattle.par_values.specs.Areas.{Name, fits, local_value}
use Rattle.par_values.specs.Reasons.{all_fit}
use Rattle.par_actions.specs.Last.{IsLast, AreLast, IsWrong, AreWrong, IsLastReference}
use Rattle.par_actions.specs.Last.{AreLastReferences}

pub one_missing : (operands : List MVal) → slice_get operands 0 ≡ None → length operands < 1
one_missing [] none = omega arith
one_missing (v ∷ rest) none = absurd (cc none)

pub one_there : (operands : List MVal) (v : MVal) → slice_get operands 0 ≡ Some v
    → IsLast v operands
one_there [] v there = absurd (cc there)
one_there (w ∷ rest) v there =
    record { rest = rest; is = let same : w ≡ v = cc there in ap (λ (x : MVal). x ∷ rest) same }

pub two_missing : (operands : List MVal) → slice_get operands 1 ≡ None → length operands < 2
two_missing [] none = omega arith
two_missing (v ∷ []) none = omega arith
two_missing (v ∷ (w ∷ rest)) none = absurd (cc none)

pub first_missing : (operands : List MVal) → slice_get operands 0 ≡ None → length operands < 2
first_missing [] none = omega arith
first_missing (v ∷ rest) none = absurd (cc none)

pub two_there : (operands : List MVal) (first second : MVal) → slice_get operands 0 ≡ Some second
    → slice_get operands 1 ≡ Some first
    → AreLast first second operands
two_there [] first second last before = absurd (cc last)
two_there (v ∷ []) first second last before = absurd (cc before)
two_there (v ∷ (w ∷ rest)) first second last before = record {
  rest = rest;
  is =
      let s : v ≡ second = cc last in
      let f : w ≡ first = cc before in
      rw (s, f);
}

-- ---- what a kind makes of them

pub one_lacks : (operands : List MVal) → length operands < 1 → nat_lt (length operands) 1 ≡ true
one_lacks operands few = lt-ltb _ _ few

pub two_lack : (operands : List MVal) → length operands < 2 → nat_lt (length operands) 2 ≡ true
two_lack operands few = lt-ltb _ _ few

pub one_is : (v : MVal) (operands : List MVal) → IsLast v operands
    → nat_lt (length operands) 1 ≡ false
one_is v operands last = le-ltb _ _ (omega (arith, ap length last.is))

pub two_are : (first second : MVal) (operands : List MVal) → AreLast first second operands
    → nat_lt (length operands) 2 ≡ false
two_are first second operands last = le-ltb _ _ (omega (arith, ap length last.is))

pub one_fits : (classes : List Name) (kind : Kind) (v : MVal) (operands : List MVal)
    → IsLast v operands → fits classes kind v ≡ true
    → not (all_fit classes (kind ∷ []) operands) ≡ false
one_fits classes kind v operands last fit = rw (last.is, fit) refl

pub one_unfit : (classes : List Name) (kind : Kind) (operands : List MVal) → IsWrong kind operands
    → not (all_fit classes (kind ∷ []) operands) ≡ true
one_unfit classes kind operands w = rw (w.last.is, w.wrong classes) refl

pub two_fit : (classes : List Name) (kind : Kind) (first second : MVal) (operands : List MVal)
    → AreLast first second operands
    → fits classes kind first ≡ true → fits classes kind second ≡ true
    → not (all_fit classes (kind ∷ kind ∷ []) operands) ≡ false
two_fit classes kind first second operands last one two = rw (last.is, one, two) refl

pub two_unfit : (classes : List Name) (kind : Kind) (operands : List MVal) → AreWrong kind operands
    → not (all_fit classes (kind ∷ kind ∷ []) operands) ≡ true
two_unfit classes kind operands w = rw (w.last.is, w.wrong classes) refl

-- an operand list that gives up as many as it gets keeps its room
pub roomy : (room many free takes gives : ℕ) → room ≡ many + free → gives ≤ takes → takes ≤ many
    → nat_lt room (many - takes + gives) ≡ false
roomy room many free takes gives is less there = le-ltb _ _ (omega arith)

-- ---- of another kind

pub not_number : (classes : List Name) (v : MVal) → ((n : ℤ) → v ≡ Int n → ⊥)
    → fits classes Number v ≡ false
not_number classes (Int n) other = absurd (other n refl)
not_number classes Null other = refl
not_number classes (Ref c n) other = refl

pub wrong_number : (v : MVal) (operands : List MVal) → IsLast v operands → ((n : ℤ) → v ≡ Int n → ⊥)
    → IsWrong Number operands
wrong_number v operands last other =
    record { value = v; last = last; wrong = λ classes. not_number classes v other }

pub wrong_second : (first second : MVal) (operands : List MVal) → AreLast first second operands
    → ((n : ℤ) → second ≡ Int n → ⊥) → AreWrong Number operands
wrong_second first second operands last other = record {
  first = first;
  second = second;
  last = last;
  wrong = λ classes. rw (not_number classes second other) refl;
}

pub wrong_first : (n : ℤ) (first second : MVal) (operands : List MVal)
    → AreLast first second operands → second ≡ Int n
    → ((m : ℤ) → first ≡ Int m → ⊥) → AreWrong Number operands
wrong_first n first second operands last is other = record {
  first = first;
  second = second;
  last = last;
  wrong = λ classes. rw (is, not_number classes first other) refl;
}

-- a number that is none is told as no reference
pub negated_true : (b : Bool) → true ≡ not b → b ≡ false
negated_true true is = absurd (cc is)
negated_true false is = refl

pub negated_false : (b : Bool) → false ≡ not b → b ≡ true
negated_false true is = refl
negated_false false is = absurd (cc is)

pub wrong_reference : (v : MVal) (operands : List MVal) → IsLast v operands
    → ((classes : List Name) → true ≡ not (fits classes AnyObject v))
    → IsWrong AnyObject operands
wrong_reference v operands last other =
    record {
      value = v;
      last = last;
      wrong = λ classes. negated_true (fits classes AnyObject v) (other classes);
    }

pub a_reference : (v : MVal) (operands : List MVal) → IsLast v operands
    → ((classes : List Name) → false ≡ not (fits classes AnyObject v))
    → IsLastReference v operands
a_reference v operands last right =
    record {
      last = last;
      right = λ classes. negated_false (fits classes AnyObject v) (right classes);
    }

pub wrong_second_reference : (first second : MVal) (operands : List MVal)
    → AreLast first second operands
    → ((classes : List Name) → true ≡ not (fits classes AnyObject second))
    → AreWrong AnyObject operands
wrong_second_reference first second operands last other = record {
  first = first;
  second = second;
  last = last;
  wrong = λ classes. rw (negated_true (fits classes AnyObject second) (other classes)) refl;
}

pub wrong_first_reference : (first second : MVal) (operands : List MVal)
    → AreLast first second operands
    → ((classes : List Name) → false ≡ not (fits classes AnyObject second))
    → ((classes : List Name) → true ≡ not (fits classes AnyObject first))
    → AreWrong AnyObject operands
wrong_first_reference first second operands last right other = record {
  first = first;
  second = second;
  last = last;
  wrong = λ classes.
      rw (
        negated_false (fits classes AnyObject second) (right classes),
        negated_true (fits classes AnyObject first) (other classes),
      ) refl;
}

pub two_references : (first second : MVal) (operands : List MVal) → AreLast first second operands
    → ((classes : List Name) → false ≡ not (fits classes AnyObject second))
    → ((classes : List Name) → false ≡ not (fits classes AnyObject first))
    → AreLastReferences first second operands
two_references first second operands last right also = record {
  last = last;
  right_first = λ classes. negated_false (fits classes AnyObject first) (also classes);
  right_second = λ classes. negated_false (fits classes AnyObject second) (right classes);
}

-- ---- locals

-- a local that holds something is there
pub held_within : (locals : List (Option MVal)) (place : ℕ) (v : MVal)
    → local_value (slice_get locals place) ≡ Some v → place < length locals
held_within [] place v held = absurd (cc held)
held_within (h ∷ locals) zero v held = omega arith
held_within (h ∷ locals) (suc place) v held = let k = held_within locals place v held in omega arith
