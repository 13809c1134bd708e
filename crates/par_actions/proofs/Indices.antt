-- An index of a wrong kind.
use Rattle.std.proofs.Common.{◌≡◌, ℕ, zero, suc, ◌+◌, ◌-◌, ◌<◌, ◌≤◌, true, false, not}
use Rattle.std.proofs.Common.{nat_lt, List, [], ◌∷◌, length, replicate, Some, None, slice_get, refl}
use Rattle.std.proofs.Common.{ap, ◌∙◌, arith}
use Rattle.std.proofs.lemmas.Bool.{lt-ltb, le-ltb}
use Rattle.std.proofs.lemmas.List.{length-replicate}
use Rattle.par_values.specs.declared.value.MVal.{MVal}
use Rattle.par_values.specs.declared.kind.Kind.{Kind}
use Rattle.par_values.specs.declared.kind.Kind.TheVariants.{AnyObject, Anything}
use Rattle.par_values.specs.Areas.{Name, Areas, fits}
use Rattle.par_values.specs.Operations.{Misnamed}
use Rattle.par_values.specs.Effects.{Goes, effect}
use Rattle.par_values.specs.Reasons.{Spot, all_fit, reason}
use Rattle.par_stack.specs.Frames.{Frame}
use Rattle.par_actions.specs.Done.{areas_in}
use Rattle.par_actions.specs.Last.{IsWrong, IsLastReference}
use Rattle.par_actions.proofs.Reasons.{reason_1, reason_2, too_many, astray, wrong_index}
use Rattle.par_actions.proofs.Shapes.{one_lacks, one_is, one_fits, one_unfit, two_missing, roomy}
use Rattle.par_actions.proofs.Shapes.{negated_true, negated_false}

module _ (classes : List Name) (spot : Spot) (program : Areas) (f : Frame) where
  misnamed_does : (kinds : List Kind) (gives : ℕ)
      → effect classes (Misnamed kinds gives) (areas_in program f) ≡ Goes (areas_in program f)
  unfolding effect
  misnamed_does kinds gives = refl

  -- nothing stands against it but what stands behind it, and its index
  module _ (kinds : List Kind) (gives : ℕ)
      (there : nat_lt (length f.operands) (length kinds) ≡ false)
      (fit : not (all_fit classes kinds f.operands) ≡ false)
      (room : nat_lt spot.room (length f.operands - length kinds + gives) ≡ false) where
    alone_5 : spot.stands ≡ false
        → reason classes spot (Misnamed kinds gives) (areas_in program f) ≡ Some 5
    alone_5 stands =
        astray classes spot (Misnamed kinds gives) (areas_in program f) (Goes (areas_in program f))
        (misnamed_does kinds gives) refl (ap not stands) there fit room refl

    alone_6 : spot.stands ≡ true
        → reason classes spot (Misnamed kinds gives) (areas_in program f) ≡ Some 6
    alone_6 stands =
        wrong_index classes spot (Misnamed kinds gives) (areas_in program f)
        (Goes (areas_in program f)) (misnamed_does kinds gives) refl (ap not stands) there fit room
        refl refl

  -- ---- operands of any kind

  module _ (takes gives : ℕ) where
    any_fit : (n : ℕ) (vs : List MVal) → not (all_fit classes (replicate n Anything) vs) ≡ false
    any_fit zero vs = refl
    any_fit (suc n) [] = refl
    any_fit (suc n) (v ∷ vs) = any_fit n vs

    pub misnamed_1 : length f.operands < takes
        → reason classes spot (Misnamed (replicate takes Anything) gives) (areas_in program f)
        ≡ Some 1
    misnamed_1 few =
        reason_1 classes spot (Misnamed (replicate takes Anything) gives) (areas_in program f)
        (ap (λ (n : ℕ). nat_lt (length f.operands) n) (length-replicate takes Anything)
        ∙ lt-ltb _ _ few)

    module _ (there : takes ≤ length f.operands)
        (room : spot.room ≡ length f.operands + f.free) where
      lacks_none : nat_lt (length f.operands) (length (replicate takes Anything)) ≡ false
      lacks_none =
          ap (λ (n : ℕ). nat_lt (length f.operands) n) (length-replicate takes Anything)
          ∙ le-ltb _ _ there

      over : (many : ℕ) → many ≡ takes
          → nat_lt spot.room (length f.operands - many + gives)
          ≡ nat_lt spot.room (length f.operands - takes + gives)
      over many same = ap (λ (n : ℕ). nat_lt spot.room (length f.operands - n + gives)) same

      within : gives - takes ≤ f.free
          → nat_lt spot.room (length f.operands - length (replicate takes Anything) + gives) ≡ false
      within few =
          over (length (replicate takes Anything)) (length-replicate takes Anything)
          ∙ le-ltb _ _ (omega arith)

      pub misnamed_3 : f.free < gives - takes
          → reason classes spot (Misnamed (replicate takes Anything) gives) (areas_in program f)
          ≡ Some 3
      misnamed_3 many =
          too_many classes spot (Misnamed (replicate takes Anything) gives) (areas_in program f)
          lacks_none (any_fit takes f.operands)
          (over (length (replicate takes Anything)) (length-replicate takes Anything)
          ∙ lt-ltb _ _ (omega arith))

      pub misnamed_5 : gives - takes ≤ f.free → spot.stands ≡ false
          → reason classes spot (Misnamed (replicate takes Anything) gives) (areas_in program f)
          ≡ Some 5
      misnamed_5 few stands =
          alone_5 (replicate takes Anything) gives lacks_none (any_fit takes f.operands)
          (within few) stands

      pub misnamed_6 : gives - takes ≤ f.free → spot.stands ≡ true
          → reason classes spot (Misnamed (replicate takes Anything) gives) (areas_in program f)
          ≡ Some 6
      misnamed_6 few stands =
          alone_6 (replicate takes Anything) gives lacks_none (any_fit takes f.operands)
          (within few) stands

  -- ---- an object whose field is read

  pub misread_1 : length f.operands < 1
      → reason classes spot (Misnamed (AnyObject ∷ []) 1) (areas_in program f) ≡ Some 1
  misread_1 few =
      reason_1 classes spot (Misnamed (AnyObject ∷ []) 1) (areas_in program f)
      (one_lacks f.operands few)

  pub misread_2 : IsWrong AnyObject f.operands
      → reason classes spot (Misnamed (AnyObject ∷ []) 1) (areas_in program f) ≡ Some 2
  misread_2 w =
      reason_2 classes spot (Misnamed (AnyObject ∷ []) 1) (areas_in program f)
      (one_is w.value f.operands w.last) (one_unfit classes AnyObject f.operands w)

  module _ (v : MVal) (last : IsLastReference v f.operands)
      (room : spot.room ≡ length f.operands + f.free) where
    pub misread_5 : spot.stands ≡ false
        → reason classes spot (Misnamed (AnyObject ∷ []) 1) (areas_in program f) ≡ Some 5
    misread_5 stands =
        alone_5 (AnyObject ∷ []) 1 (one_is v f.operands last.last)
        (one_fits classes AnyObject v f.operands last.last (last.right classes))
        (roomy spot.room (length f.operands) f.free 1 1 room (omega arith)
        (omega (arith, ap length last.last.is))) stands

    pub misread_6 : spot.stands ≡ true
        → reason classes spot (Misnamed (AnyObject ∷ []) 1) (areas_in program f) ≡ Some 6
    misread_6 stands =
        alone_6 (AnyObject ∷ []) 1 (one_is v f.operands last.last)
        (one_fits classes AnyObject v f.operands last.last (last.right classes))
        (roomy spot.room (length f.operands) f.free 1 1 room (omega arith)
        (omega (arith, ap length last.last.is))) stands

  -- ---- an object whose field is written

  second_there : (operands : List MVal) (object : MVal) → slice_get operands 1 ≡ Some object
      → 2 ≤ length operands
  second_there [] object there = absurd (cc there)
  second_there (v ∷ []) object there = absurd (cc there)
  second_there (v ∷ (w ∷ rest)) object there = omega arith

  second_unfit : (operands : List MVal) (object : MVal) → slice_get operands 1 ≡ Some object
      → fits classes AnyObject object ≡ false
      → not (all_fit classes (Anything ∷ AnyObject ∷ []) operands) ≡ true
  second_unfit [] object there other = absurd (cc there)
  second_unfit (v ∷ []) object there other = absurd (cc there)
  second_unfit (v ∷ (w ∷ rest)) object there other =
      let same : w ≡ object = cc there in rw (same, other) refl

  second_fits : (operands : List MVal) (object : MVal) → slice_get operands 1 ≡ Some object
      → fits classes AnyObject object ≡ true
      → not (all_fit classes (Anything ∷ AnyObject ∷ []) operands) ≡ false
  second_fits [] object there right = absurd (cc there)
  second_fits (v ∷ []) object there right = absurd (cc there)
  second_fits (v ∷ (w ∷ rest)) object there right =
      let same : w ≡ object = cc there in rw (same, right) refl

  pub miswritten_1 : slice_get f.operands 1 ≡ None
      → reason classes spot (Misnamed (Anything ∷ AnyObject ∷ []) 0) (areas_in program f) ≡ Some 1
  miswritten_1 none =
      reason_1 classes spot (Misnamed (Anything ∷ AnyObject ∷ []) 0) (areas_in program f)
      (lt-ltb _ _ (two_missing f.operands none))

  module _ (object : MVal) (there : slice_get f.operands 1 ≡ Some object) where
    pub miswritten_2 : ((names : List Name) → true ≡ not (fits names AnyObject object))
        → reason classes spot (Misnamed (Anything ∷ AnyObject ∷ []) 0) (areas_in program f)
        ≡ Some 2
    miswritten_2 other =
        reason_2 classes spot (Misnamed (Anything ∷ AnyObject ∷ []) 0) (areas_in program f)
        (le-ltb _ _ (second_there f.operands object there))
        (second_unfit f.operands object there
        (negated_true (fits classes AnyObject object) (other classes)))

    module _ (right : (names : List Name) → false ≡ not (fits names AnyObject object))
        (room : spot.room ≡ length f.operands + f.free) where
      pub miswritten_5 : spot.stands ≡ false
          → reason classes spot (Misnamed (Anything ∷ AnyObject ∷ []) 0) (areas_in program f)
          ≡ Some 5
      miswritten_5 stands =
          let both = second_there f.operands object there in
          alone_5 (Anything ∷ AnyObject ∷ []) 0 (le-ltb _ _ both)
          (second_fits f.operands object there
          (negated_false (fits classes AnyObject object) (right classes)))
          (roomy spot.room (length f.operands) f.free 2 0 room (omega arith) both) stands

      pub miswritten_6 : spot.stands ≡ true
          → reason classes spot (Misnamed (Anything ∷ AnyObject ∷ []) 0) (areas_in program f)
          ≡ Some 6
      miswritten_6 stands =
          let both = second_there f.operands object there in
          alone_6 (Anything ∷ AnyObject ∷ []) 0 (le-ltb _ _ both)
          (second_fits f.operands object there
          (negated_false (fits classes AnyObject object) (right classes)))
          (roomy spot.room (length f.operands) f.free 2 0 room (omega arith) both) stands

pub ruleset misnaming = (misnamed_1, misnamed_3, misnamed_5, misnamed_6)

pub ruleset misreading = (misread_1, misread_2, misread_5, misread_6)

pub ruleset miswriting = (miswritten_1, miswritten_2, miswritten_5, miswritten_6)
