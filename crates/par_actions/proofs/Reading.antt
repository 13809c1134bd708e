-- Fields of objects.
use Rattle.std.proofs.Common.{◌≡◌, ℕ, ◌+◌, ◌-◌, true, false, if◌then◌else◌, not, nat_lt, ℤ, List}
use Rattle.std.proofs.Common.{length, Option, Some, None, slice_get, refl, ap, ◌∙◌, arith}
use Rattle.std.specs.Option.{option_and_then}
use Rattle.par_values.specs.declared.value.MVal.{MVal}
use Rattle.par_values.specs.declared.value.MVal.TheVariants.{Int, Null, Ref}
use Rattle.par_values.specs.declared.kind.Kind.TheVariants.{Object}
use Rattle.par_values.specs.declared.link.FieldLink.{FieldLink}
use Rattle.par_values.specs.Areas as areas
use Rattle.par_values.specs.Areas.{Name, Areas, fits, value_or_null, list_or_none}
use Rattle.par_values.specs.Operations.{GetField}
use Rattle.par_values.specs.Effects.{Goes, throws_null, effect}
use Rattle.par_values.specs.Reasons.{Spot, reason}
use Rattle.par_stack.specs.Frames.{Frame, pushed, popped}
use Rattle.par_heap.specs.Heap as heap
use Rattle.par_actions.specs.declared.fields.Field.{Field}
use Rattle.par_actions.specs.Done.{areas_in, thrown_reason}
use Rattle.par_actions.specs.Fields.{IsField}
use Rattle.par_actions.specs.Objects.{AreShown}
use Rattle.par_actions.specs.Last.{IsLast}
use Rattle.par_actions.proofs.Reasons.{reason_1, reason_2, astray, disagreed, free, thrown_static}
use Rattle.par_actions.proofs.Shapes.{one_lacks, one_missing, one_is, one_fits, roomy}

-- what a field of an object holds is what the heap says
held_in : (object : Option (List MVal)) (place : ℕ)
    → value_or_null (slice_get (list_or_none object) place)
    ≡ value_or_null (option_and_then (λ fields. slice_get fields place) object)
held_in None place = refl
held_in (Some fields) place = refl

module _ (classes : List Name) (spot : Spot) (program : Areas) (f : Frame) (g : FieldLink)
    (field : Field) (is : IsField classes g field)
    (room : spot.room ≡ length f.operands + f.free) where
  pub get_field_1 : slice_get f.operands 0 ≡ None
      → reason classes spot (GetField g) (areas_in program f) ≡ Some 1
  get_field_1 none =
      reason_1 classes spot (GetField g) (areas_in program f)
      (one_lacks f.operands (one_missing f.operands none))

  pub get_field_2 : (v : MVal) → IsLast v f.operands → fits classes (Object g.class) v ≡ false
      → reason classes spot (GetField g) (areas_in program f) ≡ Some 2
  get_field_2 v last other =
      reason_2 classes spot (GetField g) (areas_in program f) (one_is v f.operands last)
      (rw (last.is, other) refl)

  module _ (v : MVal) (last : IsLast v f.operands)
      (fit : fits classes (Object g.class) v ≡ true) where
    as_many : nat_lt spot.room (length f.operands - 1 + 1) ≡ false
    as_many =
        roomy spot.room (length f.operands) f.free 1 1 room (omega arith)
        (omega (arith, ap length last.is))

    throws_with : effect classes (GetField g) (areas_in program f) ≡ throws_null
        → (reason classes spot (GetField g) (areas_in program f)
        ≡ thrown_reason (if field.is_static then Some 7 else None) spot)
        × (effect classes (GetField g) (areas_in program f) ≡ throws_null)
    throws_with does = (
      thrown_static classes spot (GetField g)
          (areas_in program f) throws_null field.is_static does refl refl (one_is v f.operands last)
          (one_fits classes (Object g.class) v f.operands last fit) as_many refl refl
          is.is_static refl refl,
      does,
    )

    pub get_field_null : v ≡ Null
        → (reason classes spot (GetField g) (areas_in program f)
        ≡ thrown_reason (if field.is_static then Some 7 else None) spot)
        × (effect classes (GetField g) (areas_in program f) ≡ throws_null)
    unfolding effect
    get_field_null null = throws_with (rw (last.is, null) refl)

    pub get_field_number : (m : ℤ) → v ≡ Int m
        → (reason classes spot (GetField g) (areas_in program f)
        ≡ thrown_reason (if field.is_static then Some 7 else None) spot)
        × (effect classes (GetField g) (areas_in program f) ≡ throws_null)
    unfolding effect
    get_field_number m number = throws_with (rw (last.is, number) refl)

  module _ (c n : ℕ) (last : IsLast (Ref c n) f.operands)
      (fit : fits classes (Object g.class) (Ref c n) ≡ true)
      (shown : heap.Objects) (same : AreShown shown program) where
    abbrev taken : Frame
    taken = pushed (value_or_null (heap.field_at shown c n field.place)) (popped 1 f)

    held_is : areas.field_at c n g.place program
        ≡ value_or_null (heap.field_at shown c n field.place)
    held_is =
        ap (λ (place : ℕ). areas.field_at c n place program) is.place
        ∙ ap (λ (objects : List (List MVal)).
        value_or_null (slice_get (list_or_none (slice_get objects n)) field.place)) (same c)
        ∙ held_in (slice_get (heap.objects_of shown c) n) field.place

    reads : effect classes (GetField g) (areas_in program f)
        ≡ Goes (areas_in program (pushed (areas.field_at c n g.place program) (popped 1 f)))
    unfolding effect
    reads = rw last.is refl

    does : effect classes (GetField g) (areas_in program f) ≡ Goes (areas_in program taken)
    does = reads ∙ ap (λ (v : MVal). Goes (areas_in program (pushed v (popped 1 f)))) held_is

    pub read_5 : spot.stands ≡ false
        → reason classes spot (GetField g) (areas_in program f) ≡ Some 5
    read_5 stands =
        astray classes spot (GetField g) (areas_in program f) _ does refl (ap not stands)
        (one_is (Ref c n) f.operands last)
        (one_fits classes (Object g.class) (Ref c n) f.operands last fit)
        (as_many (Ref c n) last fit) refl

    pub read_7 : spot.stands ≡ true → field.is_static ≡ true
        → reason classes spot (GetField g) (areas_in program f) ≡ Some 7
    read_7 stands shared =
        disagreed classes spot (GetField g) (areas_in program f) _ does refl (ap not stands)
        (one_is (Ref c n) f.operands last)
        (one_fits classes (Object g.class) (Ref c n) f.operands last fit)
        (as_many (Ref c n) last fit) refl refl (is.is_static ∙ shared)

    pub read_runs : spot.stands ≡ true → field.is_static ≡ false
        → (reason classes spot (GetField g) (areas_in program f) ≡ None)
        × (effect classes (GetField g) (areas_in program f) ≡ Goes (areas_in program taken))
    read_runs stands own = (
      free classes spot (GetField g) (areas_in program f) _ does refl (ap not stands)
          (one_is (Ref c n) f.operands last)
          (one_fits classes (Object g.class) (Ref c n) f.operands last fit)
          (as_many (Ref c n) last fit) refl refl (is.is_static ∙ own) refl refl,
      does,
    )
