-- What is made of numbers.
use Rattle.std.proofs.Common.{◌≡◌, ℕ, ◌+◌, ◌-◌, ◌<◌, ℤ, ◌+ℤ◌, codes, true, false, not, nat_lt, List}
use Rattle.std.proofs.Common.{length, Option, Some, None, slice_get, refl, ap, arith}
use Rattle.std.proofs.lemmas.Bool.{le-ltb}
use Rattle.std.specs.Int.{int_wrap, w32}
use Rattle.par_values.specs.declared.value.MVal.{MVal}
use Rattle.par_values.specs.declared.value.MVal.TheVariants.{Int}
use Rattle.par_values.specs.declared.kind.Kind.TheVariants.{Number}
use Rattle.par_values.specs.Areas.{Name, Areas, local_value}
use Rattle.par_values.specs.Arithmetic.{Operator, combined, divides_by_zero, negated}
use Rattle.par_values.specs.Operations.{Combine, Negate, Increase}
use Rattle.par_values.specs.Effects.{Goes, Throws, increased, effect}
use Rattle.par_values.specs.Reasons.{Spot, holds, reason}
use Rattle.par_stack.specs.Frames.{Frame, pushed, popped, with_local}
use Rattle.par_actions.specs.Done.{areas_in, thrown_reason}
use Rattle.par_actions.specs.Last.{IsLast, AreLast, IsWrong, AreWrong}
use Rattle.par_actions.proofs.Reasons.{reason_1, reason_2, misheld, astray, free, thrown}
use Rattle.par_actions.proofs.Shapes.{one_lacks, one_is, one_fits, one_unfit, two_lack, two_are}
use Rattle.par_actions.proofs.Shapes.{two_fit, two_unfit, roomy}

module _ (classes : List Name) (spot : Spot) (program : Areas) (f : Frame) where
  -- ---- two numbers

  pub combine_1 : (operator : Operator) → length f.operands < 2
      → reason classes spot (Combine operator) (areas_in program f) ≡ Some 1
  combine_1 operator few =
      reason_1 classes spot (Combine operator) (areas_in program f) (two_lack f.operands few)

  pub combine_2 : (operator : Operator) → AreWrong Number f.operands
      → reason classes spot (Combine operator) (areas_in program f) ≡ Some 2
  combine_2 operator w =
      reason_2 classes spot (Combine operator) (areas_in program f)
      (two_are w.first w.second f.operands w.last) (two_unfit classes Number f.operands w)

  module _ (operator : Operator) (first second : ℤ)
      (last : AreLast (Int first) (Int second) f.operands)
      (room : spot.room ≡ length f.operands + f.free) where
    abbrev made : Frame
    made = pushed (Int (combined operator first second)) (popped 2 f)

    combine_does : divides_by_zero operator second ≡ false
        → effect classes (Combine operator) (areas_in program f) ≡ Goes (areas_in program made)
    unfolding effect
    combine_does divides = rw (last.is, divides) refl

    combine_fails : divides_by_zero operator second ≡ true
        → effect classes (Combine operator) (areas_in program f)
        ≡ Throws (codes "ArithmeticException")
    unfolding effect
    combine_fails divides = rw (last.is, divides) refl

    pub combine_throws : divides_by_zero operator second ≡ true
        → (reason classes spot (Combine operator) (areas_in program f) ≡ thrown_reason None spot)
        × (effect classes (Combine operator) (areas_in program f)
        ≡ Throws (codes "ArithmeticException"))
    combine_throws divides = (
      thrown classes spot (Combine operator) (areas_in program f)
          (Throws (codes "ArithmeticException")) false (combine_fails divides) refl refl
          (two_are (Int first) (Int second) f.operands last)
          (two_fit classes Number (Int first) (Int second) f.operands last refl refl)
          (roomy spot.room (length f.operands) f.free 2 1 room (omega arith)
          (omega (arith, ap length last.is))) refl refl refl refl refl,
      combine_fails divides,
    )

    pub combine_5 : divides_by_zero operator second ≡ false → spot.stands ≡ false
        → reason classes spot (Combine operator) (areas_in program f) ≡ Some 5
    combine_5 divides stands =
        astray classes spot (Combine operator) (areas_in program f) (Goes (areas_in program made))
        (combine_does divides) refl (ap not stands)
        (two_are (Int first) (Int second) f.operands last)
        (two_fit classes Number (Int first) (Int second) f.operands last refl refl)
        (roomy spot.room (length f.operands) f.free 2 1 room (omega arith)
        (omega (arith, ap length last.is))) refl

    pub combine_runs : divides_by_zero operator second ≡ false → spot.stands ≡ true
        → (reason classes spot (Combine operator) (areas_in program f) ≡ None)
        × (effect classes (Combine operator) (areas_in program f) ≡ Goes (areas_in program made))
    combine_runs divides stands = (
      free classes spot (Combine operator) (areas_in program f) (Goes (areas_in program made))
          (combine_does divides) refl (ap not stands)
          (two_are (Int first) (Int second) f.operands last)
          (two_fit classes Number (Int first) (Int second) f.operands last refl refl)
          (roomy spot.room (length f.operands) f.free 2 1 room (omega arith)
          (omega (arith, ap length last.is))) refl refl refl refl refl,
      combine_does divides,
    )

  -- ---- one number

  pub negate_1 : length f.operands < 1 → reason classes spot Negate (areas_in program f) ≡ Some 1
  negate_1 few = reason_1 classes spot Negate (areas_in program f) (one_lacks f.operands few)

  pub negate_2 : IsWrong Number f.operands
      → reason classes spot Negate (areas_in program f) ≡ Some 2
  negate_2 w =
      reason_2 classes spot Negate (areas_in program f) (one_is w.value f.operands w.last)
      (one_unfit classes Number f.operands w)

  module _ (n : ℤ) (last : IsLast (Int n) f.operands)
      (room : spot.room ≡ length f.operands + f.free) where
    abbrev turned : Frame
    turned = pushed (Int (negated n)) (popped 1 f)

    negate_does : effect classes Negate (areas_in program f) ≡ Goes (areas_in program turned)
    unfolding effect
    negate_does = rw last.is refl

    pub negate_5 : spot.stands ≡ false → reason classes spot Negate (areas_in program f) ≡ Some 5
    negate_5 stands =
        astray classes spot Negate (areas_in program f)
        (Goes (areas_in program turned)) negate_does refl (ap not stands)
        (one_is (Int n) f.operands last) (one_fits classes Number (Int n) f.operands last refl)
        (roomy spot.room (length f.operands) f.free 1 1 room (omega arith)
        (omega (arith, ap length last.is))) refl

    pub negate_runs : spot.stands ≡ true
        → (reason classes spot Negate (areas_in program f) ≡ None)
        × (effect classes Negate (areas_in program f) ≡ Goes (areas_in program turned))
    negate_runs stands = (
      free classes spot Negate (areas_in program f)
          (Goes (areas_in program turned)) negate_does refl (ap not stands)
          (one_is (Int n) f.operands last) (one_fits classes Number (Int n) f.operands last refl)
          (roomy spot.room (length f.operands) f.free 1 1 room (omega arith)
          (omega (arith, ap length last.is))) refl refl refl refl refl,
      negate_does,
    )

  -- ---- a local

  module _ (place : ℕ) (by : ℤ) where
    increase_does : (n : ℤ) → local_value (slice_get f.locals place) ≡ Some (Int n)
        → effect classes (Increase place by) (areas_in program f)
        ≡ Goes (areas_in program (with_local place (Int (int_wrap w32 (n +ℤ by))) f))
    unfolding effect
    increase_does n held = rw held refl

    goes_anyway : effect classes (Increase place by) (areas_in program f)
        ≡ Goes (increased place by (areas_in program f))
    unfolding effect
    goes_anyway = refl

    module _ (room : spot.room ≡ length f.operands + f.free) where
      many : nat_lt (length f.operands) 0 ≡ false
      many = le-ltb _ _ (omega arith)

      fitting : nat_lt spot.room (length f.operands - 0 + 0) ≡ false
      fitting = roomy spot.room (length f.operands) f.free 0 0 room (omega arith) (omega arith)

      pub increase_4 : ((classes : List Name)
          → holds classes Number (local_value (slice_get f.locals place)) ≡ false)
          → reason classes spot (Increase place by) (areas_in program f) ≡ Some 4
      increase_4 none =
          misheld classes spot (Increase place by)
          (areas_in program f) _ goes_anyway refl many refl fitting (ap not (none classes))

      pub increase_5 : (n : ℤ) → local_value (slice_get f.locals place) ≡ Some (Int n)
          → spot.stands ≡ false
          → reason classes spot (Increase place by) (areas_in program f) ≡ Some 5
      increase_5 n held stands =
          astray classes spot (Increase place by) (areas_in program f) _ (increase_does n held) refl
          (ap not stands) many refl fitting
          (ap (λ (h : Option MVal). not (holds classes Number h)) held)

      pub increase_runs : (n : ℤ) → local_value (slice_get f.locals place) ≡ Some (Int n)
          → spot.stands ≡ true
          → (reason classes spot (Increase place by) (areas_in program f) ≡ None)
          × (effect classes (Increase place by) (areas_in program f)
          ≡ Goes (areas_in program (with_local place (Int (int_wrap w32 (n +ℤ by))) f)))
      increase_runs n held stands = (
        free classes spot (Increase place by) (areas_in program f) _ (increase_does n held) refl
            (ap not stands) many refl fitting
            (ap (λ (h : Option MVal). not (holds classes Number h)) held) refl refl refl refl,
        increase_does n held,
      )

pub ruleset combining = (combine_1, combine_2, combine_5)

pub ruleset negating = (negate_1, negate_2, negate_5)
