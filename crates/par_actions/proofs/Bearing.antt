-- Objects that are made.
use Rattle.std.proofs.Common.{◌≡◌, ℕ, zero, suc, ◌+◌, ◌-◌, ◌<◌, Bool, true, false, if◌then◌else◌}
use Rattle.std.proofs.Common.{not, nat_lt, List, [], ◌∷◌, ◌++◌, length, map, set, get_or, replicate}
use Rattle.std.proofs.Common.{Some, None, refl, ap, sym, ◌∙◌, arith, inl, inr}
use Rattle.std.proofs.lemmas.Bool.{cases_lt, le-ltb, lt-ltb}
use Rattle.std.proofs.lemmas.List.{get_or-set_same, get_or-set_other, length-append}
use Rattle.std.proofs.lemmas.List.{length-replicate}
use Rattle.par_values.specs.declared.value.MVal.{MVal}
use Rattle.par_values.specs.declared.value.MVal.TheVariants.{Ref}
use Rattle.par_values.specs.declared.run.Event.TheVariants.{Born}
use Rattle.par_values.specs.declared.link.ClassLink.{ClassLink}
use Rattle.par_values.specs.Areas as areas
use Rattle.par_values.specs.Areas.{Name, Areas, first_value, next_number, with_object}
use Rattle.par_values.specs.Operations.{Create}
use Rattle.par_values.specs.Effects.{Effect, Goes, Happens, effect}
use Rattle.par_values.specs.Reasons.{Spot, throws, falls, reason}
use Rattle.par_stack.specs.Frames.{Frame, pushed}
use Rattle.par_heap.specs.Heap as heap
use Rattle.par_actions.specs.Done.{areas_in}
use Rattle.par_actions.specs.Objects.{AreShown}
use Rattle.par_actions.proofs.Reasons.{too_many, astray, misused_9, free}
use Rattle.par_actions.proofs.Writing.{or_empty}

-- nothing stands behind a list that is filled up with nothing
filled_nil : {A : Type 0} (n i : ℕ) → get_or {A = List A} (replicate n []) i [] ≡ []
filled_nil zero i = refl
filled_nil (suc n) zero = refl
filled_nil (suc n) (suc i) = filled_nil n i

filled : {A : Type 0} (xss : List (List A)) (n i : ℕ)
    → get_or (xss ++ replicate n []) i [] ≡ get_or xss i []
filled [] n i = filled_nil n i
filled (xs ∷ xss) n zero = refl
filled (xs ∷ xss) n (suc i) = filled xss n i

module _ (program : Areas) (shown : heap.Objects) (same : AreShown shown program) (c : ℕ)
    (fields : List MVal) (known : c < length program.objects) where
  room_made : c < length (heap.up_to shown c)
  room_made =
      let nothing : List (List MVal) = [] in
      omega (
        arith,
        length-append shown (replicate (suc c - length shown) nothing),
        length-replicate (suc c - length shown) nothing,
      )

  pub born_shown : AreShown (heap.with_object shown c fields) (with_object c fields program)
  born_shown k =
      or_empty (set program.objects c (areas.objects_of c program ++ fields ∷ [])) k
      ∙ ap (λ (objects : List (List MVal)).
      get_or (set program.objects c (objects ++ fields ∷ [])) k []) (same c)
      ∙ elim (cases_lt k c) [
        | inl less ↦ apart (λ (e : k ≡ c). omega (arith, e))
        | inr more ↦
            elim (cases_lt c k) [
              | inl less ↦ apart (λ (e : k ≡ c). omega (arith, e))
              | inr no_more ↦
                  let e : k ≡ c = omega arith in
                  ap (λ (n : ℕ). get_or (set program.objects c after) n []) e
                  ∙ get_or-set_same program.objects c after [] known
                  ∙ sym (get_or-set_same (heap.up_to shown c) c after [] room_made)
                  ∙ sym (ap (λ (n : ℕ). get_or (set (heap.up_to shown c) c after) n []) e)
            ]
      ]
    where
      after : List (List MVal)
      after = heap.objects_of shown c ++ fields ∷ []

      apart : (k ≡ c → ⊥) → get_or (set program.objects c after) k []
          ≡ get_or (set (heap.up_to shown c) c after) k []
      apart ne =
          get_or-set_other program.objects c k after [] ne
          ∙ sym (or_empty program.objects k) ∙ same k
          ∙ sym (filled shown (suc c - length shown) k)
          ∙ sym (get_or-set_other (heap.up_to shown c) c k after [] ne)

module _ (classes : List Name) (spot : Spot) (program : Areas) (f : Frame) (c : ClassLink)
    (room : spot.room ≡ length f.operands + f.free) where
  abbrev grown : ℕ → List MVal → ℕ → Areas
  grown number fields n = areas_in (with_object number fields program) (pushed (Ref number n) f)

  -- an exception is born without an event
  abbrev bears : Bool → ℕ → Areas → Effect
  bears is_exception n after = if is_exception then Goes after else Happens (Born c.name n) after

  makes : effect classes (Create c) (areas_in program f)
      ≡ bears c.is_exception (next_number c.number program)
      (grown c.number (map first_value c.fields) (next_number c.number program))
  unfolding effect
  makes = refl

  none_taken : nat_lt (length f.operands) 0 ≡ false
  none_taken = le-ltb _ _ (omega arith)

  pub create_3 : f.free ≡ 0 → reason classes spot (Create c) (areas_in program f) ≡ Some 3
  create_3 full =
      too_many classes spot (Create c) (areas_in program f) none_taken refl
      (lt-ltb _ _ (omega arith))

  calm : (b : Bool) (n : ℕ) (a : Areas) → throws (bears b n a) ≡ false
  calm true n a = refl
  calm false n a = refl

  goes_on : (b stands lost : Bool) (n : ℕ) (a : Areas)
      → falls stands lost (bears b n a) ≡ not stands
  goes_on true stands lost n a = refl
  goes_on false stands lost n a = refl

  module _ (some : 0 < f.free) where
    one_more : nat_lt spot.room (length f.operands - 0 + 1) ≡ false
    one_more = le-ltb _ _ (omega arith)

    pub create_5 : spot.stands ≡ false
        → reason classes spot (Create c) (areas_in program f) ≡ Some 5
    create_5 stands =
        astray classes spot (Create c) (areas_in program f) _ makes (calm c.is_exception _ _)
        (goes_on c.is_exception spot.stands spot.is_lost _ _ ∙ ap not stands) none_taken refl
        one_more refl

    pub create_9 : spot.stands ≡ true → c.is_made ≡ false
        → reason classes spot (Create c) (areas_in program f) ≡ Some 9
    create_9 stands unmade =
        misused_9 classes spot (Create c) (areas_in program f) _ makes (calm c.is_exception _ _)
        (goes_on c.is_exception spot.stands spot.is_lost _ _ ∙ ap not stands) none_taken refl
        one_more refl refl refl refl (ap not unmade)

    pub create_runs : spot.stands ≡ true → c.is_made ≡ true
        → reason classes spot (Create c) (areas_in program f) ≡ None
    create_runs stands made =
        free classes spot (Create c) (areas_in program f) _ makes (calm c.is_exception _ _)
        (goes_on c.is_exception spot.stands spot.is_lost _ _ ∙ ap not stands) none_taken refl
        one_more refl refl refl refl (ap not made)

  module _ (number : ℕ) (fields : List MVal) (n : ℕ) (is_number : c.number ≡ number)
      (are_fields : map first_value c.fields ≡ fields)
      (count : next_number number program ≡ n) where
    makes_this : effect classes (Create c) (areas_in program f)
        ≡ bears c.is_exception n (grown number fields n)
    makes_this =
        makes
        ∙ ap (λ (m : ℕ). bears c.is_exception (next_number m program)
        (grown m (map first_value c.fields) (next_number m program))) is_number
        ∙ ap (λ (fs : List MVal). bears c.is_exception (next_number number program)
        (grown number fs (next_number number program))) are_fields
        ∙ ap (λ (k : ℕ). bears c.is_exception k (grown number fields k)) count

    pub makes_exception : c.is_exception ≡ true
        → effect classes (Create c) (areas_in program f) ≡ Goes (grown number fields n)
    makes_exception is = makes_this ∙ ap (λ (b : Bool). bears b n (grown number fields n)) is

    pub makes_object : c.is_exception ≡ false
        → effect classes (Create c) (areas_in program f)
        ≡ Happens (Born c.name n) (grown number fields n)
    makes_object is = makes_this ∙ ap (λ (b : Bool). bears b n (grown number fields n)) is
