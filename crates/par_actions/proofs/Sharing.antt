-- Static fields.
use Rattle.std.proofs.Common.{◌≡◌, ℕ, ◌+◌, ◌-◌, ◌<◌, Bool, true, false, ◌&&◌, not, nat_lt, List, []}
use Rattle.std.proofs.Common.{◌∷◌, length, Some, None, slice_get, slice_set, refl, ap, ◌∙◌, arith}
use Rattle.std.proofs.lemmas.Bool.{le-ltb, lt-ltb}
use Rattle.par_values.specs.declared.value.MVal.{MVal}
use Rattle.par_values.specs.declared.link.FieldLink.{FieldLink}
use Rattle.par_values.specs.declared.run.Event.TheVariants.{Set}
use Rattle.par_values.specs.Areas.{Name, Areas, value_or_null, shown_value}
use Rattle.par_values.specs.Operations.{GetStatic, PutStatic}
use Rattle.par_values.specs.Effects.{Goes, Happens, effect}
use Rattle.par_values.specs.Reasons.{Spot, all_fit, reason}
use Rattle.par_stack.specs.Frames.{Frame, pushed, popped}
use Rattle.par_actions.specs.declared.fields.Field.{Field}
use Rattle.par_actions.specs.Done.{areas_in}
use Rattle.par_actions.specs.Fits.{accepts}
use Rattle.par_actions.specs.Fields.{IsField, with_statics}
use Rattle.par_actions.specs.Last.{IsLast}
use Rattle.par_actions.proofs.Reasons.{reason_1, reason_2, too_many, astray, disagreed, free}
use Rattle.par_actions.proofs.Shapes.{one_lacks, one_missing, one_there, one_is, roomy}

module _ (classes : List Name) (spot : Spot) (program : Areas) (f : Frame) (g : FieldLink)
    (field : Field) (is : IsField classes g field)
    (room : spot.room ≡ length f.operands + f.free) where
  -- ---- read

  module _ (statics : List MVal) (same : program.statics ≡ statics) where
    abbrev read : Frame
    read = pushed (value_or_null (slice_get statics field.place)) f

    get_does : effect classes (GetStatic g) (areas_in program f) ≡ Goes (areas_in program read)
    unfolding effect
    get_does =
        ap (λ (v : MVal). Goes (areas_in program (pushed v f)))
        (ap (λ (xs : List MVal). value_or_null (slice_get xs g.place)) same
        ∙ ap (λ (n : ℕ). value_or_null (slice_get statics n)) is.place)

    none_taken : nat_lt (length f.operands) 0 ≡ false
    none_taken = le-ltb _ _ (omega arith)

    pub get_3 : f.free ≡ 0 → reason classes spot (GetStatic g) (areas_in program f) ≡ Some 3
    get_3 full =
        too_many classes spot (GetStatic g) (areas_in program f) none_taken refl
        (lt-ltb _ _ (omega arith))

    one_more : 0 < f.free → nat_lt spot.room (length f.operands - 0 + 1) ≡ false
    one_more some = le-ltb _ _ (omega arith)

    pub get_5 : 0 < f.free → spot.stands ≡ false
        → reason classes spot (GetStatic g) (areas_in program f) ≡ Some 5
    get_5 some stands =
        astray classes spot (GetStatic g) (areas_in program f) _ get_does refl
        (ap not stands) none_taken refl (one_more some) refl

    pub get_7 : 0 < f.free → spot.stands ≡ true → field.is_static ≡ false
        → reason classes spot (GetStatic g) (areas_in program f) ≡ Some 7
    get_7 some stands own =
        disagreed classes spot (GetStatic g) (areas_in program f) _ get_does refl
        (ap not stands) none_taken refl (one_more some) refl refl
        (ap not (is.is_static ∙ own))

    pub get_runs : 0 < f.free → spot.stands ≡ true → field.is_static ≡ true
        → (reason classes spot (GetStatic g) (areas_in program f) ≡ None)
        × (effect classes (GetStatic g) (areas_in program f) ≡ Goes (areas_in program read))
    get_runs some stands shared = (
      free classes spot (GetStatic g) (areas_in program f) _ get_does refl
          (ap not stands) none_taken refl (one_more some) refl refl
          (ap not (is.is_static ∙ shared)) refl refl,
      get_does,
    )

  -- ---- written

  pub put_1 : slice_get f.operands 0 ≡ None
      → reason classes spot (PutStatic g) (areas_in program f) ≡ Some 1
  put_1 none =
      reason_1 classes spot (PutStatic g) (areas_in program f)
      (one_lacks f.operands (one_missing f.operands none))

  module _ (v : MVal) (there : slice_get f.operands 0 ≡ Some v) (statics : List MVal)
      (same : program.statics ≡ statics) where
    last : IsLast v f.operands
    last = one_there f.operands v there

    abbrev written : Areas
    written = areas_in (with_statics (slice_set statics field.place v) program) (popped 1 f)

    put_does : effect classes (PutStatic g) (areas_in program f)
        ≡ Happens (Set g.class g.name (shown_value classes v)) written
    unfolding effect
    put_does = rw (there, same, is.place) refl

    unfit_is : (b : Bool) → accepts field.fit v ≡ b
        → not (all_fit classes (g.kind ∷ []) f.operands) ≡ not b
    unfit_is b right = rw (last.is, is.takes v, right) (and_true b)
      where
        and_true : (b : Bool) → not (b && true) ≡ not b
        and_true true = refl
        and_true false = refl

    pub put_2 : accepts field.fit v ≡ false
        → reason classes spot (PutStatic g) (areas_in program f) ≡ Some 2
    put_2 other =
        reason_2 classes spot (PutStatic g) (areas_in program f) (one_is v f.operands last)
        (unfit_is false other)

    one_less : nat_lt spot.room (length f.operands - 1 + 0) ≡ false
    one_less =
        roomy spot.room (length f.operands) f.free 1 0 room (omega arith)
        (omega (arith, ap length last.is))

    pub put_5 : accepts field.fit v ≡ true → spot.stands ≡ false
        → reason classes spot (PutStatic g) (areas_in program f) ≡ Some 5
    put_5 right stands =
        astray classes spot (PutStatic g) (areas_in program f) _ put_does refl (ap not stands)
        (one_is v f.operands last) (unfit_is true right) one_less refl

    pub put_7 : accepts field.fit v ≡ true → spot.stands ≡ true → field.is_static ≡ false
        → reason classes spot (PutStatic g) (areas_in program f) ≡ Some 7
    put_7 right stands own =
        disagreed classes spot (PutStatic g) (areas_in program f) _ put_does refl (ap not stands)
        (one_is v f.operands last) (unfit_is true right) one_less
        refl refl (ap not (is.is_static ∙ own))

    pub put_runs : accepts field.fit v ≡ true → spot.stands ≡ true → field.is_static ≡ true
        → (reason classes spot (PutStatic g) (areas_in program f) ≡ None)
        × (effect classes (PutStatic g) (areas_in program f)
        ≡ Happens (Set g.class g.name (shown_value classes v)) written)
    put_runs right stands shared = (
      free classes spot (PutStatic g) (areas_in program f) _ put_does refl (ap not stands)
          (one_is v f.operands last) (unfit_is true right) one_less
          refl refl (ap not (is.is_static ∙ shared)) refl refl,
      put_does,
    )
