-- Leaving a method.
use Rattle.std.proofs.Common.{◌≡◌, ℕ, ◌+◌, ◌-◌, ◌<◌, ℤ, Bool, true, false, ◌&&◌, ◌||◌}
use Rattle.std.proofs.Common.{if◌then◌else◌, not, nat_lt, List, [], ◌∷◌, length, Some, None}
use Rattle.std.proofs.Common.{slice_index_or, refl, subst, ap, ◌∙◌, sym, arith}
use Rattle.std.proofs.lemmas.Bool.{le-ltb}
use Rattle.par_values.specs.declared.value.MVal.{MVal}
use Rattle.par_values.specs.declared.value.MVal.TheVariants.{Int, Null, Ref}
use Rattle.par_values.specs.declared.kind.Kind.{Kind}
use Rattle.par_values.specs.declared.kind.Kind.TheVariants as kind
use Rattle.par_values.specs.Areas.{Name, Areas, fits, operand}
use Rattle.par_values.specs.Operations.{Leave, LeaveWith, Throw}
use Rattle.par_values.specs.Effects.{Returns, ReturnsWith, ThrowsObject, throws_null, effect}
use Rattle.par_values.specs.Reasons.{Spot, all_fit, unfit_result, is_result, reason}
use Rattle.par_stack.specs.Frames.{Frame}
use Rattle.par_actions.specs.declared.fit.Fit.{Fit}
use Rattle.par_actions.specs.Done.{areas_in, thrown_reason}
use Rattle.par_actions.specs.Fits.{accepts}
use Rattle.par_actions.specs.Last.{IsLast, IsWrong, IsLastReference}
use Rattle.par_actions.specs.Leaving.{GivesNumber, GivesObject, KnowsExceptions}
use Rattle.par_actions.proofs.Reasons.{reason_1, reason_2, misreturned, free, thrown}
use Rattle.par_actions.proofs.Shapes.{one_lacks, one_is, one_fits, one_unfit, roomy}

or_true : (b : Bool) → (b || true) ≡ true
or_true true = refl
or_true false = refl

module _ (classes : List Name) (spot : Spot) (program : Areas) (f : Frame) where
  -- ---- without a result

  leave_does : effect classes Leave (areas_in program f) ≡ Returns
  unfolding effect
  leave_does = refl

  module _ (room : spot.room ≡ length f.operands + f.free) where
    none_taken : nat_lt (length f.operands) 0 ≡ false
    none_taken = le-ltb _ _ (omega arith)

    kept : nat_lt spot.room (length f.operands - 0 + 0) ≡ false
    kept = roomy spot.room (length f.operands) f.free 0 0 room (omega arith) (omega arith)

    pub leave_8 : spot.gives_nothing ≡ false
        → reason classes spot Leave (areas_in program f) ≡ Some 8
    leave_8 gives =
        misreturned classes spot Leave (areas_in program f) Returns leave_does refl refl none_taken
        refl kept refl refl refl (ap not gives)

    pub leave_runs : spot.gives_nothing ≡ true
        → (reason classes spot Leave (areas_in program f) ≡ None)
        × (effect classes Leave (areas_in program f) ≡ Returns)
    leave_runs gives = (
      free classes spot Leave (areas_in program f) Returns leave_does refl refl none_taken refl
          kept refl refl refl (ap not gives) refl,
      leave_does,
    )

    -- ---- with a number

    pub leave_number_1 : length f.operands < 1
        → reason classes spot (LeaveWith kind.Number) (areas_in program f) ≡ Some 1
    leave_number_1 few =
        reason_1 classes spot (LeaveWith kind.Number) (areas_in program f)
        (one_lacks f.operands few)

    pub leave_number_2 : IsWrong kind.Number f.operands
        → reason classes spot (LeaveWith kind.Number) (areas_in program f) ≡ Some 2
    leave_number_2 w =
        reason_2 classes spot (LeaveWith kind.Number) (areas_in program f)
        (one_is w.value f.operands w.last)
        (ap (λ (b : Bool). (not spot.gives_nothing && false) || b)
        (one_unfit classes kind.Number f.operands w) ∙ or_true (not spot.gives_nothing && false))

    module _ (n : ℤ) (last : IsLast (Int n) f.operands) where
      number_does : effect classes (LeaveWith kind.Number) (areas_in program f)
          ≡ ReturnsWith (Int n)
      unfolding effect
      number_does = rw last.is refl

      fits_anyway : (b : Bool)
          → ((not b && false) || not (all_fit classes (kind.Number ∷ []) f.operands)) ≡ false
      fits_anyway true = one_fits classes kind.Number (Int n) f.operands last refl
      fits_anyway false = one_fits classes kind.Number (Int n) f.operands last refl

      given : nat_lt spot.room (length f.operands - 1 + 0) ≡ false
      given =
          roomy spot.room (length f.operands) f.free 1 0 room (omega arith)
          (omega (arith, ap length last.is))

      number_8 : (spot.gives_nothing || not (is_result kind.Number spot.result)) ≡ true
          → reason classes spot (LeaveWith kind.Number) (areas_in program f) ≡ Some 8
      number_8 other =
          misreturned classes spot (LeaveWith kind.Number) (areas_in program f)
          (ReturnsWith (Int n)) number_does refl refl (one_is (Int n) f.operands last)
          (fits_anyway spot.gives_nothing) given refl refl refl other

      pub leave_number_8 : spot.gives_nothing ≡ true
          → reason classes spot (LeaveWith kind.Number) (areas_in program f) ≡ Some 8
      leave_number_8 gives =
          number_8 (ap (λ (b : Bool). b || not (is_result kind.Number spot.result)) gives)

      pub leave_number_other : (fit : Fit) → GivesObject classes spot fit
          → reason classes spot (LeaveWith kind.Number) (areas_in program f) ≡ Some 8
      leave_number_other fit g =
          number_8 (ap (λ (k : Kind). spot.gives_nothing || not (is_result kind.Number k)) g.result
          ∙ or_true spot.gives_nothing)

      pub leave_number_runs : GivesNumber spot
          → (reason classes spot (LeaveWith kind.Number) (areas_in program f) ≡ None)
          × (effect classes (LeaveWith kind.Number) (areas_in program f) ≡ ReturnsWith (Int n))
      leave_number_runs g = (
        free classes spot (LeaveWith kind.Number) (areas_in program f)
            (ReturnsWith (Int n)) number_does refl refl (one_is (Int n) f.operands last)
            (fits_anyway spot.gives_nothing) given refl refl refl
            (ap (λ (b : Bool). b || not (is_result kind.Number spot.result)) g.gives
            ∙ ap (λ (k : Kind). not (is_result kind.Number k)) g.result) refl,
        number_does,
      )

    -- ---- with a reference

    pub leave_object_1 : length f.operands < 1
        → reason classes spot (LeaveWith kind.AnyObject) (areas_in program f) ≡ Some 1
    leave_object_1 few =
        reason_1 classes spot (LeaveWith kind.AnyObject) (areas_in program f)
        (one_lacks f.operands few)

    pub leave_object_2 : IsWrong kind.AnyObject f.operands
        → reason classes spot (LeaveWith kind.AnyObject) (areas_in program f) ≡ Some 2
    leave_object_2 w =
        reason_2 classes spot (LeaveWith kind.AnyObject) (areas_in program f)
        (one_is w.value f.operands w.last)
        (ap
        (λ (b : Bool). (not spot.gives_nothing && unfit_result classes kind.AnyObject spot.result
        (operand 0 (areas_in program f))) || b)
        (one_unfit classes kind.AnyObject f.operands w)
        ∙ or_true (not spot.gives_nothing
        && unfit_result classes kind.AnyObject spot.result (operand 0 (areas_in program f))))

    module _ (v : MVal) (r : IsLastReference v f.operands) where
      object_does : effect classes (LeaveWith kind.AnyObject) (areas_in program f) ≡ ReturnsWith v
      unfolding effect
      object_does = rw r.last.is refl

      handed : nat_lt spot.room (length f.operands - 1 + 0) ≡ false
      handed =
          roomy spot.room (length f.operands) f.free 1 0 room (omega arith)
          (omega (arith, ap length r.last.is))

      pub leave_object_8 : spot.gives_nothing ≡ true
          → reason classes spot (LeaveWith kind.AnyObject) (areas_in program f) ≡ Some 8
      leave_object_8 gives =
          misreturned classes spot (LeaveWith kind.AnyObject) (areas_in program f)
          (ReturnsWith v) object_does refl refl (one_is v f.operands r.last)
          (ap
          (λ (b : Bool).
          (not b && unfit_result classes kind.AnyObject spot.result
          (operand 0 (areas_in program f)))
          || not (all_fit classes (kind.AnyObject ∷ []) f.operands)) gives
          ∙ one_fits classes kind.AnyObject v f.operands r.last (r.right classes))
          handed refl refl refl
          (ap (λ (b : Bool). b || not (is_result kind.AnyObject spot.result)) gives)

      pub leave_object_other : GivesNumber spot
          → reason classes spot (LeaveWith kind.AnyObject) (areas_in program f) ≡ Some 8
      leave_object_other g =
          misreturned classes spot (LeaveWith kind.AnyObject) (areas_in program f)
          (ReturnsWith v) object_does refl refl (one_is v f.operands r.last)
          (rw (
            g.gives,
            g.result,
          ) (one_fits classes kind.AnyObject v f.operands r.last (r.right classes)))
          handed refl refl refl (rw (g.gives, g.result) refl)

      module _ (fit : Fit) (g : GivesObject classes spot fit) where
        asked : (not spot.gives_nothing && unfit_result classes kind.AnyObject spot.result
            (operand 0 (areas_in program f))) ≡ not (accepts fit v)
        asked = rw (g.gives, g.result, r.last.is) (ap not (g.takes v))

        pub leave_object_unfit : accepts fit v ≡ false
            → reason classes spot (LeaveWith kind.AnyObject) (areas_in program f) ≡ Some 2
        leave_object_unfit other =
            reason_2 classes spot (LeaveWith kind.AnyObject) (areas_in program f)
            (one_is v f.operands r.last)
            (ap (λ (b : Bool). b || not (all_fit classes (kind.AnyObject ∷ []) f.operands))
            (asked ∙ ap not other))

        pub leave_object_runs : accepts fit v ≡ true
            → (reason classes spot (LeaveWith kind.AnyObject) (areas_in program f) ≡ None)
            × (effect classes (LeaveWith kind.AnyObject) (areas_in program f) ≡ ReturnsWith v)
        leave_object_runs right = (
          free classes spot (LeaveWith kind.AnyObject) (areas_in program f)
              (ReturnsWith v) object_does refl refl (one_is v f.operands r.last)
              (ap (λ (b : Bool). b || not (all_fit classes (kind.AnyObject ∷ []) f.operands))
              (asked ∙ ap not right)
              ∙ one_fits classes kind.AnyObject v f.operands r.last (r.right classes))
              handed refl refl refl (rw (g.gives, g.result) refl) refl,
          object_does,
        )

    -- ---- by a throw

    pub throw_1 : length f.operands < 1 → reason classes spot Throw (areas_in program f) ≡ Some 1
    throw_1 few = reason_1 classes spot Throw (areas_in program f) (one_lacks f.operands few)

    pub throw_2 : IsWrong kind.AnyObject f.operands
        → reason classes spot Throw (areas_in program f) ≡ Some 2
    throw_2 w =
        reason_2 classes spot Throw (areas_in program f) (one_is w.value f.operands w.last)
        (one_unfit classes kind.AnyObject f.operands w)

    throw_null_at : IsLastReference Null f.operands
        → (reason classes spot Throw (areas_in program f) ≡ thrown_reason None spot)
        × (effect classes Throw (areas_in program f) ≡ throws_null)
    unfolding effect
    throw_null_at r =
        let does : effect classes Throw (areas_in program f) ≡ throws_null = rw r.last.is refl in (
          thrown classes spot Throw (areas_in program f) throws_null false does refl refl
              (one_is Null f.operands r.last)
              (one_fits classes kind.AnyObject Null f.operands r.last refl)
              (roomy spot.room (length f.operands) f.free 1 0 room (omega arith)
              (omega (arith, ap length r.last.is))) refl refl refl refl (rw r.last.is refl),
          does,
        )

    pub throw_null : (v : MVal) → v ≡ Null → IsLastReference v f.operands
        → (reason classes spot Throw (areas_in program f) ≡ thrown_reason None spot)
        × (effect classes Throw (areas_in program f) ≡ throws_null)
    throw_null v is r = throw_null_at (subst (λ (w : MVal). IsLastReference w f.operands) is r)

    module _ (c n : ℕ) (flags : List Bool) (knows : KnowsExceptions spot flags)
        (r : IsLastReference (Ref c n) f.operands) where
      throw_does : effect classes Throw (areas_in program f) ≡ ThrowsObject (Ref c n)
      unfolding effect
      throw_does = rw r.last.is refl

      throw_with : (nine : Bool) → not (slice_index_or flags c false) ≡ nine
          → reason classes spot Throw (areas_in program f)
          ≡ thrown_reason (if nine then Some 9 else None) spot
      throw_with nine is =
          thrown classes spot Throw (areas_in program f) (ThrowsObject (Ref c n)) nine throw_does
          refl refl (one_is (Ref c n) f.operands r.last)
          (one_fits classes kind.AnyObject (Ref c n) f.operands r.last refl)
          (roomy spot.room (length f.operands) f.free 1 0 room (omega arith)
          (omega (arith, ap length r.last.is))) refl refl refl refl
          (rw r.last.is (ap not (knows c)) ∙ is)

    module _ (v : MVal) (c n : ℕ) (flags : List Bool) (knows : KnowsExceptions spot flags)
        (is : v ≡ Ref c n) (r : IsLastReference v f.operands) where
      at_object : IsLastReference (Ref c n) f.operands
      at_object = subst (λ (w : MVal). IsLastReference w f.operands) is r

      pub throw_object : slice_index_or flags c false ≡ true
          → (reason classes spot Throw (areas_in program f) ≡ thrown_reason None spot)
          × (effect classes Throw (areas_in program f) ≡ ThrowsObject v)
      throw_object one = (
        throw_with c n flags knows at_object false (ap not one),
        throw_does c n flags knows at_object ∙ ap ThrowsObject (sym is),
      )

      pub throw_other : slice_index_or flags c false ≡ false
          → (reason classes spot Throw (areas_in program f) ≡ thrown_reason (Some 9) spot)
          × (effect classes Throw (areas_in program f) ≡ ThrowsObject v)
      throw_other none = (
        throw_with c n flags knows at_object true (ap not none),
        throw_does c n flags knows at_object ∙ ap ThrowsObject (sym is),
      )

    -- a number is no reference
    pub no_reference : (v : MVal) (n : ℤ) → v ≡ Int n → IsLastReference v f.operands → ⊥
    no_reference v n is r = absurd (cc (sym (r.right []) ∙ ap (fits [] kind.AnyObject) is))
