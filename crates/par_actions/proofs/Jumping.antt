-- Jumps and tests.
use Rattle.std.proofs.Common.{◌≡◌, ℕ, ◌+◌, ◌-◌, ◌<◌, ◌≤◌, Bool, true, false, not, nat_lt, List}
use Rattle.std.proofs.Common.{length, ℤ, pos, Some, None, refl, ap, ◌∙◌, arith}
use Rattle.std.proofs.lemmas.Bool.{le-ltb}
use Rattle.par_values.specs.declared.value.MVal.{MVal}
use Rattle.par_values.specs.declared.value.MVal.TheVariants.{Int, Null}
use Rattle.par_values.specs.declared.kind.Kind.TheVariants.{Number, AnyObject}
use Rattle.par_values.specs.Areas.{Name, Areas, pop}
use Rattle.par_values.specs.Arithmetic.{compares}
use Rattle.par_values.specs.Operations.{Operation, Jump, JumpIf, JumpIfBoth, JumpIfSame, JumpIfNull}
use Rattle.par_values.specs.Operations.{gives}
use Rattle.par_values.specs.Effects.{Goes, Jumps, jumps_if, comes, is_same, effect}
use Rattle.par_values.specs.Reasons.{Spot, throws, exceeds, falls, reason}
use Rattle.par_stack.specs.Frames.{Frame, popped}
use Rattle.par_actions.specs.declared.done.Ways.{Ways}
use Rattle.par_actions.specs.Done.{areas_in, way_of, distance}
use Rattle.par_actions.specs.Last.{IsLast, AreLast, IsWrong, AreWrong, IsLastReference}
use Rattle.par_actions.specs.Last.{AreLastReferences}
use Rattle.par_actions.specs.Branches.{IsTest}
use Rattle.par_actions.proofs.Reasons.{reason_1, reason_2, astray, free}
use Rattle.par_actions.proofs.Shapes.{one_lacks, one_is, one_fits, one_unfit, two_lack, two_are}
use Rattle.par_actions.proofs.Shapes.{two_fit, two_unfit}

-- neither way throws
calm : (goes : Bool) (to : ℤ) (a : Areas) → throws (jumps_if goes to a) ≡ false
calm true to a = refl
calm false to a = refl

falls_either : (stands is_lost goes : Bool) (to : ℤ) (a : Areas)
    → falls stands is_lost (jumps_if goes to a) ≡ not stands
falls_either stands is_lost true to a = refl
falls_either stands is_lost false to a = refl

-- the way that is taken
way_jumps : (ways : Ways) (goes : Bool) (to : ℤ) (a : Areas) → goes ≡ true
    → way_of ways (jumps_if goes to a) ≡ ways.aside
way_jumps ways goes to a is = rw is refl

way_goes : (ways : Ways) (goes : Bool) (to : ℤ) (a : Areas) → goes ≡ false
    → way_of ways (jumps_if goes to a) ≡ ways.ahead
way_goes ways goes to a is = rw is refl

module _ (classes : List Name) (spot : Spot) (program : Areas) (f : Frame) where
  module _ (o : Operation) (many : ℕ) (goes : Bool) (ways : Ways)
      (t : IsTest classes o many goes (areas_in program f)) (there : many ≤ length f.operands)
      (room : spot.room ≡ length f.operands + f.free)
      (stands : spot.stands ≡ way_of ways (effect classes o (areas_in program f)))
    where
      fits_room : exceeds spot.room o (areas_in program f) ≡ false
      fits_room =
          ap (λ (n : ℕ). nat_lt spot.room (length f.operands - n + gives o)) t.takes
          ∙ ap (λ (n : ℕ). nat_lt spot.room (length f.operands - many + n)) t.gives
          ∙ le-ltb _ _ (omega arith)

      stands_jumps : goes ≡ true → spot.stands ≡ ways.aside
      stands_jumps is =
          stands ∙ ap (way_of ways) t.done
          ∙ way_jumps ways goes (distance o) (pop many (areas_in program f)) is

      stands_goes : goes ≡ false → spot.stands ≡ ways.ahead
      stands_goes is =
          stands ∙ ap (way_of ways) t.done
          ∙ way_goes ways goes (distance o) (pop many (areas_in program f)) is

      lost : spot.stands ≡ false → reason classes spot o (areas_in program f) ≡ Some 5
      lost none =
          astray classes spot o (areas_in program f) _ t.done
          (calm goes (distance o) (pop many (areas_in program f)))
          (falls_either spot.stands spot.is_lost goes (distance o) (pop many (areas_in program f))
          ∙ ap not none)
          t.lacks (t.unfit spot) fits_room t.misplaced

      found : spot.stands ≡ true → reason classes spot o (areas_in program f) ≡ None
      found some =
          free classes spot o (areas_in program f) _ t.done
          (calm goes (distance o) (pop many (areas_in program f)))
          (falls_either spot.stands spot.is_lost goes (distance o) (pop many (areas_in program f))
          ∙ ap not some)
          t.lacks (t.unfit spot) fits_room t.misplaced t.misnamed t.disagrees (t.misreturns spot)
          (t.misused spot.exceptions)

      pub jumps_5 : goes ≡ true → ways.aside ≡ false
          → reason classes spot o (areas_in program f) ≡ Some 5
      jumps_5 is none = lost (stands_jumps is ∙ none)

      pub goes_5 : goes ≡ false → ways.ahead ≡ false
          → reason classes spot o (areas_in program f) ≡ Some 5
      goes_5 is none = lost (stands_goes is ∙ none)

      pub branch_jumps : goes ≡ true → ways.aside ≡ true
          → (reason classes spot o (areas_in program f) ≡ None)
          × (effect classes o (areas_in program f)
          ≡ Jumps (distance o) (areas_in program (popped many f)))
      branch_jumps is some = (
        found (stands_jumps is ∙ some),
        t.done ∙ ap (λ (b : Bool). jumps_if b (distance o) (pop many (areas_in program f))) is,
      )

      pub branch_goes : goes ≡ false → ways.ahead ≡ true
          → (reason classes spot o (areas_in program f) ≡ None)
          × (effect classes o (areas_in program f) ≡ Goes (areas_in program (popped many f)))
      branch_goes is some = (
        found (stands_goes is ∙ some),
        t.done ∙ ap (λ (b : Bool). jumps_if b (distance o) (pop many (areas_in program f))) is,
      )

  -- ---- each of them is a test

  pub jump_tests : (to : ℤ) → IsTest classes (Jump to) 0 true (areas_in program f)
  unfolding effect
  jump_tests to = record {
    lacks = le-ltb _ _ (omega arith);
    unfit = λ spot. refl;
    takes = refl;
    gives = refl;
    misplaced = refl;
    done = refl;
    misnamed = refl;
    disagrees = refl;
    misreturns = λ spot. refl;
    misused = λ exceptions. refl;
  }

  pub jump_if_1 : (test : ℕ) (to : ℤ) → length f.operands < 1
      → reason classes spot (JumpIf test to) (areas_in program f) ≡ Some 1
  jump_if_1 test to few =
      reason_1 classes spot (JumpIf test to) (areas_in program f) (one_lacks f.operands few)

  pub jump_if_2 : (test : ℕ) (to : ℤ) → IsWrong Number f.operands
      → reason classes spot (JumpIf test to) (areas_in program f) ≡ Some 2
  jump_if_2 test to w =
      reason_2 classes spot (JumpIf test to) (areas_in program f) (one_is w.value f.operands w.last)
      (one_unfit classes Number f.operands w)

  pub jump_if_tests : (test : ℕ) (to n : ℤ) → IsLast (Int n) f.operands
      → IsTest classes (JumpIf test to) 1 (compares test n (pos 0)) (areas_in program f)
  unfolding effect
  jump_if_tests test to n last = record {
    lacks = one_is (Int n) f.operands last;
    unfit = λ spot. one_fits classes Number (Int n) f.operands last refl;
    takes = refl;
    gives = refl;
    misplaced = refl;
    done = rw last.is refl;
    misnamed = refl;
    disagrees = refl;
    misreturns = λ spot. refl;
    misused = λ exceptions. refl;
  }

  pub jump_if_both_1 : (test : ℕ) (to : ℤ) → length f.operands < 2
      → reason classes spot (JumpIfBoth test to) (areas_in program f) ≡ Some 1
  jump_if_both_1 test to few =
      reason_1 classes spot (JumpIfBoth test to) (areas_in program f) (two_lack f.operands few)

  pub jump_if_both_2 : (test : ℕ) (to : ℤ) → AreWrong Number f.operands
      → reason classes spot (JumpIfBoth test to) (areas_in program f) ≡ Some 2
  jump_if_both_2 test to w =
      reason_2 classes spot (JumpIfBoth test to) (areas_in program f)
      (two_are w.first w.second f.operands w.last) (two_unfit classes Number f.operands w)

  pub jump_if_both_tests : (test : ℕ) (to first second : ℤ)
      → AreLast (Int first) (Int second) f.operands
      → IsTest classes (JumpIfBoth test to) 2 (compares test first second) (areas_in program f)
  unfolding effect
  jump_if_both_tests test to first second last = record {
    lacks = two_are (Int first) (Int second) f.operands last;
    unfit = λ spot. two_fit classes Number (Int first) (Int second) f.operands last refl refl;
    takes = refl;
    gives = refl;
    misplaced = refl;
    done = rw last.is refl;
    misnamed = refl;
    disagrees = refl;
    misreturns = λ spot. refl;
    misused = λ exceptions. refl;
  }

  pub jump_if_same_1 : (same : Bool) (to : ℤ) → length f.operands < 2
      → reason classes spot (JumpIfSame same to) (areas_in program f) ≡ Some 1
  jump_if_same_1 same to few =
      reason_1 classes spot (JumpIfSame same to) (areas_in program f) (two_lack f.operands few)

  pub jump_if_same_2 : (same : Bool) (to : ℤ) → AreWrong AnyObject f.operands
      → reason classes spot (JumpIfSame same to) (areas_in program f) ≡ Some 2
  jump_if_same_2 same to w =
      reason_2 classes spot (JumpIfSame same to) (areas_in program f)
      (two_are w.first w.second f.operands w.last) (two_unfit classes AnyObject f.operands w)

  pub jump_if_same_tests : (same : Bool) (to : ℤ) (first second : MVal)
      → AreLastReferences first second f.operands
      → IsTest classes (JumpIfSame same to) 2 (comes same (is_same first second))
      (areas_in program f)
  unfolding effect
  jump_if_same_tests same to first second r = record {
    lacks = two_are first second f.operands r.last;
    unfit =
        λ spot. two_fit classes AnyObject first second f.operands r.last (r.right_first classes)
        (r.right_second classes);
    takes = refl;
    gives = refl;
    misplaced = refl;
    done = rw r.last.is refl;
    misnamed = refl;
    disagrees = refl;
    misreturns = λ spot. refl;
    misused = λ exceptions. refl;
  }

  pub jump_if_null_1 : (null : Bool) (to : ℤ) → length f.operands < 1
      → reason classes spot (JumpIfNull null to) (areas_in program f) ≡ Some 1
  jump_if_null_1 null to few =
      reason_1 classes spot (JumpIfNull null to) (areas_in program f) (one_lacks f.operands few)

  pub jump_if_null_2 : (null : Bool) (to : ℤ) → IsWrong AnyObject f.operands
      → reason classes spot (JumpIfNull null to) (areas_in program f) ≡ Some 2
  jump_if_null_2 null to w =
      reason_2 classes spot (JumpIfNull null to) (areas_in program f)
      (one_is w.value f.operands w.last) (one_unfit classes AnyObject f.operands w)

  pub jump_if_null_tests : (null : Bool) (to : ℤ) (v : MVal) → IsLastReference v f.operands
      → IsTest classes (JumpIfNull null to) 1 (comes null (is_same v Null)) (areas_in program f)
  unfolding effect
  jump_if_null_tests null to v r = record {
    lacks = one_is v f.operands r.last;
    unfit = λ spot. one_fits classes AnyObject v f.operands r.last (r.right classes);
    takes = refl;
    gives = refl;
    misplaced = refl;
    done = rw r.last.is refl;
    misnamed = refl;
    disagrees = refl;
    misreturns = λ spot. refl;
    misused = λ exceptions. refl;
  }

pub ruleset jumping_if = (jump_if_1, jump_if_2, jump_if_tests)

pub ruleset jumping_both = (jump_if_both_1, jump_if_both_2, jump_if_both_tests)

pub ruleset jumping_same = (jump_if_same_1, jump_if_same_2, jump_if_same_tests)

pub ruleset jumping_null = (jump_if_null_1, jump_if_null_2, jump_if_null_tests)
