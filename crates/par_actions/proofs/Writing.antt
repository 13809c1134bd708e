-- Fields of objects that are written.
use Rattle.std.proofs.Common.{◌≡◌, ℕ, zero, suc, ◌+◌, ◌-◌, ◌<◌, ◌≤◌, true, false, if◌then◌else◌}
use Rattle.std.proofs.Common.{not, nat_lt, ℤ, List, [], ◌∷◌, length, set, get_or, Some, None}
use Rattle.std.proofs.Common.{slice_get, refl, ap, sym, ◌∙◌, arith, inl, inr}
use Rattle.std.proofs.lemmas.Bool.{cases_lt}
use Rattle.std.proofs.lemmas.List.{get_or-set_same, get_or-set_other, set_past}
use Rattle.par_values.specs.declared.value.MVal.{MVal}
use Rattle.par_values.specs.declared.value.MVal.TheVariants.{Int, Null, Ref}
use Rattle.par_values.specs.declared.run.Event.TheVariants.{Put}
use Rattle.par_values.specs.declared.kind.Kind.TheVariants.{Object}
use Rattle.par_values.specs.declared.link.FieldLink.{FieldLink}
use Rattle.par_values.specs.Areas as areas
use Rattle.par_values.specs.Areas.{Name, Areas, fits, list_or_none, shown_value, set_field}
use Rattle.par_values.specs.Operations.{PutField}
use Rattle.par_values.specs.Effects.{Happens, throws_null, effect}
use Rattle.par_values.specs.Reasons.{Spot, all_fit, reason}
use Rattle.par_stack.specs.Frames.{Frame, popped}
use Rattle.par_heap.specs.Heap as heap
use Rattle.par_actions.specs.declared.fields.Field.{Field}
use Rattle.par_actions.specs.Done.{areas_in, thrown_reason}
use Rattle.par_actions.specs.Fields.{IsField}
use Rattle.par_actions.specs.Objects.{AreShown}
use Rattle.par_actions.specs.Last.{AreLast}
use Rattle.par_actions.proofs.Reasons.{reason_1, reason_2, astray, disagreed, free, thrown_static}
use Rattle.par_actions.proofs.Shapes.{two_lack, two_are, roomy}

-- ---- lists of lists

-- an empty list stands for one that is not there
pub or_empty : {A : Type 0} (xss : List (List A)) (i : ℕ)
    → list_or_none (slice_get xss i) ≡ get_or xss i []
or_empty [] i = refl
or_empty (xs ∷ xss) zero = refl
or_empty (xs ∷ xss) (suc i) = or_empty xss i

past_empty : {A : Type 0} (xss : List (List A)) (i : ℕ) → length xss ≤ i → get_or xss i [] ≡ []
past_empty [] i past = refl
past_empty (xs ∷ xss) zero past = absurd (omega arith)
past_empty (xs ∷ xss) (suc i) past = past_empty xss i (omega arith)

module _ (one other : List (List (List MVal)))
    (same : (i : ℕ) → get_or one i [] ≡ get_or other i []) (i : ℕ) (after : List (List MVal))
    (none : get_or one i [] ≡ [] → after ≡ []) where
  -- a list that is set where one stood is there, or is empty
  set_there : (all : List (List (List MVal))) → get_or all i [] ≡ get_or one i []
      → get_or (set all i after) i [] ≡ after
  set_there all is =
      elim (cases_lt i (length all)) [
        | inl within ↦ get_or-set_same all i after [] within
        | inr past ↦
            let empty = past_empty all i past in
            ap (λ (xs : List (List (List MVal))). get_or xs i []) (set_past all i after past)
            ∙ empty ∙ sym (none (sym is ∙ empty))
      ]

  set_alike : (k : ℕ) → get_or (set one i after) k [] ≡ get_or (set other i after) k []
  set_alike k =
      elim (cases_lt k i) [
        | inl less ↦ apart (λ (e : k ≡ i). omega (arith, e))
        | inr more ↦
            elim (cases_lt i k) [
              | inl less ↦ apart (λ (e : k ≡ i). omega (arith, e))
              | inr no_more ↦
                  let e : k ≡ i = omega arith in
                  ap (λ (n : ℕ). get_or (set one i after) n []) e ∙ set_there one refl
                  ∙ sym (set_there other (sym (same i)))
                  ∙ sym (ap (λ (n : ℕ). get_or (set other i after) n []) e)
            ]
      ]
    where
      apart : (k ≡ i → ⊥) → get_or (set one i after) k [] ≡ get_or (set other i after) k []
      apart ne =
          get_or-set_other one i k after [] ne ∙ same k
          ∙ sym (get_or-set_other other i k after [] ne)

-- ---- what a heap shows after a write

module _ (program : Areas) (shown : heap.Objects) (same : AreShown shown program) (c n place : ℕ)
    (v : MVal) where
  alike : (k : ℕ) → get_or program.objects k [] ≡ get_or shown k []
  alike k = sym (or_empty program.objects k) ∙ same k

  -- the objects of the class after it
  abbrev class_after : List (List MVal)
  class_after = heap.with_field_in (heap.objects_of shown c) n place v

  after_is : set (areas.objects_of c program) n (set (areas.object_at c n program) place v)
      ≡ class_after
  after_is =
      ap (λ (objects : List (List MVal)).
      set objects n (set (list_or_none (slice_get objects n)) place v)) (same c)
      ∙ ap (λ (object : List MVal). set (heap.objects_of shown c) n (set object place v))
      (or_empty (heap.objects_of shown c) n)

  none_written : get_or program.objects c [] ≡ [] → class_after ≡ []
  none_written none =
      ap (λ (objects : List (List MVal)). heap.with_field_in objects n place v)
      (sym (alike c) ∙ none)

  pub written_shown : AreShown (heap.with_field shown c n place v) (set_field c n place v program)
  written_shown k =
      or_empty (set program.objects c
      (set (areas.objects_of c program) n (set (areas.object_at c n program) place v))) k
      ∙ ap (λ (objects : List (List MVal)). get_or (set program.objects c objects) k []) after_is
      ∙ set_alike program.objects shown alike c class_after none_written k

-- ---- why it cannot be done, and what it does

module _ (classes : List Name) (spot : Spot) (program : Areas) (f : Frame) (g : FieldLink)
    (field : Field) (is : IsField classes g field)
    (room : spot.room ≡ length f.operands + f.free) where
  pub put_field_1 : length f.operands < 2
      → reason classes spot (PutField g) (areas_in program f) ≡ Some 1
  put_field_1 few =
      reason_1 classes spot (PutField g) (areas_in program f) (two_lack f.operands few)

  module _ (first second : MVal) (last : AreLast first second f.operands) where
    pub put_field_2 : fits classes g.kind second ≡ false
        → reason classes spot (PutField g) (areas_in program f) ≡ Some 2
    put_field_2 other =
        reason_2 classes spot (PutField g) (areas_in program f)
        (two_are first second f.operands last) (rw (last.is, other) refl)

    module _ (fit : fits classes g.kind second ≡ true) where
      pub put_field_2_owner : fits classes (Object g.class) first ≡ false
          → reason classes spot (PutField g) (areas_in program f) ≡ Some 2
      put_field_2_owner other =
          reason_2 classes spot (PutField g) (areas_in program f)
          (two_are first second f.operands last) (rw (last.is, fit, other) refl)

      module _ (own : fits classes (Object g.class) first ≡ true) where
        both_fit : not (all_fit classes (g.kind ∷ Object g.class ∷ []) f.operands) ≡ false
        both_fit = rw (last.is, fit, own) refl

        two_fewer : nat_lt spot.room (length f.operands - 2 + 0) ≡ false
        two_fewer =
            roomy spot.room (length f.operands) f.free 2 0 room (omega arith)
            (omega (arith, ap length last.is))

        put_throws : effect classes (PutField g) (areas_in program f) ≡ throws_null
            → (reason classes spot (PutField g) (areas_in program f)
            ≡ thrown_reason (if field.is_static then Some 7 else None) spot)
            × (effect classes (PutField g) (areas_in program f) ≡ throws_null)
        put_throws does = (
          thrown_static classes spot (PutField g)
              (areas_in program f) throws_null field.is_static does refl refl
              (two_are first second f.operands last) both_fit two_fewer refl refl
              is.is_static refl refl,
          does,
        )

        pub put_field_null : first ≡ Null
            → (reason classes spot (PutField g) (areas_in program f)
            ≡ thrown_reason (if field.is_static then Some 7 else None) spot)
            × (effect classes (PutField g) (areas_in program f) ≡ throws_null)
        unfolding effect
        put_field_null null = put_throws (rw (last.is, null) refl)

        pub put_field_number : (m : ℤ) → first ≡ Int m
            → (reason classes spot (PutField g) (areas_in program f)
            ≡ thrown_reason (if field.is_static then Some 7 else None) spot)
            × (effect classes (PutField g) (areas_in program f) ≡ throws_null)
        unfolding effect
        put_field_number m number = put_throws (rw (last.is, number) refl)

  module _ (c n : ℕ) (v : MVal) (last : AreLast (Ref c n) v f.operands)
      (fit : fits classes g.kind v ≡ true)
      (own : fits classes (Object g.class) (Ref c n) ≡ true) where
    abbrev after : Areas
    after = areas_in (set_field c n field.place v program) (popped 2 f)

    writes : effect classes (PutField g) (areas_in program f)
        ≡ Happens (Put g.class n g.name (shown_value classes v)) after
    unfolding effect
    writes = rw (last.is, is.place) refl

    pub write_5 : spot.stands ≡ false
        → reason classes spot (PutField g) (areas_in program f) ≡ Some 5
    write_5 stands =
        astray classes spot (PutField g) (areas_in program f) _ writes refl (ap not stands)
        (two_are (Ref c n) v f.operands last)
        (both_fit (Ref c n) v last fit own) (two_fewer (Ref c n) v last fit own) refl

    pub write_7 : spot.stands ≡ true → field.is_static ≡ true
        → reason classes spot (PutField g) (areas_in program f) ≡ Some 7
    write_7 stands shared =
        disagreed classes spot (PutField g) (areas_in program f) _ writes refl (ap not stands)
        (two_are (Ref c n) v f.operands last)
        (both_fit (Ref c n) v last fit own) (two_fewer (Ref c n) v last fit own) refl refl
        (is.is_static ∙ shared)

    pub write_runs : spot.stands ≡ true → field.is_static ≡ false
        → (reason classes spot (PutField g) (areas_in program f) ≡ None)
        × (effect classes (PutField g) (areas_in program f)
        ≡ Happens (Put g.class n g.name (shown_value classes v)) after)
    write_runs stands own_field = (
      free classes spot (PutField g) (areas_in program f) _ writes refl (ap not stands)
          (two_are (Ref c n) v f.operands last)
          (both_fit (Ref c n) v last fit own) (two_fewer (Ref c n) v last fit own) refl refl
          (is.is_static ∙ own_field) refl refl,
      writes,
    )
