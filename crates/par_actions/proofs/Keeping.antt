-- Operands that are pushed, popped and kept.
use Rattle.std.proofs.Common.{◌≡◌, ℕ, ◌+◌, ◌-◌, ◌<◌, ◌≤◌, true, false, not, nat_lt, List}
use Rattle.std.proofs.Common.{[], ◌∷◌, length, Option, Some, None, slice_get, refl, ap}
use Rattle.std.proofs.Common.{◌∙◌, arith}
use Rattle.std.proofs.lemmas.Bool.{lt-ltb, le-ltb}
use Rattle.par_values.specs.declared.value.MVal.{MVal}
use Rattle.par_values.specs.declared.kind.Kind.{Kind}
use Rattle.par_values.specs.declared.kind.Kind.TheVariants.{Anything}
use Rattle.par_values.specs.Areas.{Name, Areas, fits, local_value}
use Rattle.par_values.specs.Operations.{Load, Store, Discard, Copy}
use Rattle.par_values.specs.Effects.{Goes, effect}
use Rattle.par_values.specs.Reasons.{Spot, all_fit, holds, reason}
use Rattle.par_stack.specs.Frames.{Frame, pushed, popped, with_local}
use Rattle.par_actions.specs.Done.{areas_in}
use Rattle.par_actions.specs.Last.{IsLast, IsWrong}
use Rattle.par_actions.proofs.Reasons.{reason_1, reason_2, too_many, misheld, astray}
use Rattle.par_actions.proofs.Reasons.{free}
use Rattle.par_actions.proofs.Shapes.{one_lacks, one_is, one_fits, one_unfit, one_there}
use Rattle.par_actions.proofs.Shapes.{one_missing, roomy}

module _ (classes : List Name) (spot : Spot) (program : Areas) (f : Frame) where
  -- ---- into a local

  pub store_1 : (kind : Kind) (place : ℕ) → length f.operands < 1
      → reason classes spot (Store place kind) (areas_in program f) ≡ Some 1
  store_1 kind place few =
      reason_1 classes spot (Store place kind) (areas_in program f) (one_lacks f.operands few)

  pub store_2 : (kind : Kind) (place : ℕ) → IsWrong kind f.operands
      → reason classes spot (Store place kind) (areas_in program f) ≡ Some 2
  store_2 kind place w =
      reason_2 classes spot (Store place kind) (areas_in program f)
      (one_is w.value f.operands w.last) (one_unfit classes kind f.operands w)

  module _ (kind : Kind) (place : ℕ) (v : MVal) (last : IsLast v f.operands)
      (fit : fits classes kind v ≡ true)
      (room : spot.room ≡ length f.operands + f.free) where
    store_does : effect classes (Store place kind) (areas_in program f)
        ≡ Goes (areas_in program (with_local place v (popped 1 f)))
    unfolding effect
    store_does = rw last.is refl

    pub store_4 : length f.locals ≤ place
        → reason classes spot (Store place kind) (areas_in program f) ≡ Some 4
    store_4 few =
        misheld classes spot (Store place kind) (areas_in program f)
        (Goes (areas_in program (with_local place v (popped 1 f)))) store_does refl
        (one_is v f.operands last) (one_fits classes kind v f.operands last fit)
        (roomy spot.room (length f.operands) f.free 1 0 room (omega arith)
        (omega (arith, ap length last.is)))
        (ap not (le-ltb _ _ few))

    pub store_5 : place < length f.locals → spot.stands ≡ false
        → reason classes spot (Store place kind) (areas_in program f) ≡ Some 5
    store_5 there stands =
        astray classes spot (Store place kind) (areas_in program f)
        (Goes (areas_in program (with_local place v (popped 1 f)))) store_does refl
        (ap not stands) (one_is v f.operands last) (one_fits classes kind v f.operands last fit)
        (roomy spot.room (length f.operands) f.free 1 0 room (omega arith)
        (omega (arith, ap length last.is)))
        (ap not (lt-ltb _ _ there))

    pub store_runs : place < length f.locals → spot.stands ≡ true
        → (reason classes spot (Store place kind) (areas_in program f) ≡ None)
        × (effect classes (Store place kind) (areas_in program f)
        ≡ Goes (areas_in program (with_local place v (popped 1 f))))
    store_runs there stands = (
      free classes spot (Store place kind) (areas_in program f)
          (Goes (areas_in program (with_local place v (popped 1 f)))) store_does refl
          (ap not stands) (one_is v f.operands last) (one_fits classes kind v f.operands last fit)
          (roomy spot.room (length f.operands) f.free 1 0 room (omega arith)
          (omega (arith, ap length last.is)))
          (ap not (lt-ltb _ _ there)) refl refl refl refl,
      store_does,
    )

  -- ---- popped

  discard_does : effect classes Discard (areas_in program f) ≡ Goes (areas_in program (popped 1 f))
  unfolding effect
  discard_does = refl

  -- any value does
  anything : not (all_fit classes (Anything ∷ []) f.operands) ≡ false
  anything = any_one f.operands
    where
      any_one : (vs : List MVal) → not (all_fit classes (Anything ∷ []) vs) ≡ false
      any_one [] = refl
      any_one (v ∷ vs) = refl

  pub discard_1 : length f.operands < 1 → reason classes spot Discard (areas_in program f) ≡ Some 1
  discard_1 few = reason_1 classes spot Discard (areas_in program f) (one_lacks f.operands few)

  module _ (some : 0 < length f.operands) (room : spot.room ≡ length f.operands + f.free) where
    pub discard_5 : spot.stands ≡ false → reason classes spot Discard (areas_in program f) ≡ Some 5
    discard_5 stands =
        astray classes spot Discard (areas_in program f)
        (Goes (areas_in program (popped 1 f))) discard_does refl (ap not stands)
        (le-ltb _ _ (omega arith)) anything
        (roomy spot.room (length f.operands) f.free 1 0 room (omega arith) (omega arith)) refl

    pub discard_runs : spot.stands ≡ true
        → (reason classes spot Discard (areas_in program f) ≡ None)
        × (effect classes Discard (areas_in program f) ≡ Goes (areas_in program (popped 1 f)))
    discard_runs stands = (
      free classes spot Discard (areas_in program f)
          (Goes (areas_in program (popped 1 f))) discard_does refl (ap not stands)
          (le-ltb _ _ (omega arith)) anything
          (roomy spot.room (length f.operands) f.free 1 0 room (omega arith) (omega arith)) refl
          refl refl refl refl,
      discard_does,
    )

  -- ---- pushed once more

  pub copy_1 : slice_get f.operands 0 ≡ None
      → reason classes spot Copy (areas_in program f) ≡ Some 1
  copy_1 none =
      reason_1 classes spot Copy (areas_in program f)
      (one_lacks f.operands (one_missing f.operands none))

  module _ (v : MVal) (there : slice_get f.operands 0 ≡ Some v)
      (room : spot.room ≡ length f.operands + f.free) where
    copy_does : effect classes Copy (areas_in program f) ≡ Goes (areas_in program (pushed v f))
    unfolding effect
    copy_does = rw there refl

    full : f.free ≡ 0 → nat_lt spot.room (length f.operands - 1 + 2) ≡ true
    full none =
        let last = one_there f.operands v there in lt-ltb _ _ (omega (arith, ap length last.is))

    fitting : 0 < f.free → nat_lt spot.room (length f.operands - 1 + 2) ≡ false
    fitting some =
        let last = one_there f.operands v there in le-ltb _ _ (omega (arith, ap length last.is))

    pub copy_3 : f.free ≡ 0 → reason classes spot Copy (areas_in program f) ≡ Some 3
    copy_3 none =
        too_many classes spot Copy (areas_in program f)
        (one_is v f.operands (one_there f.operands v there)) anything (full none)

    pub copy_5 : 0 < f.free → spot.stands ≡ false
        → reason classes spot Copy (areas_in program f) ≡ Some 5
    copy_5 some stands =
        astray classes spot Copy (areas_in program f)
        (Goes (areas_in program (pushed v f))) copy_does refl (ap not stands)
        (one_is v f.operands (one_there f.operands v there)) anything (fitting some) refl

    pub copy_runs : 0 < f.free → spot.stands ≡ true
        → (reason classes spot Copy (areas_in program f) ≡ None)
        × (effect classes Copy (areas_in program f) ≡ Goes (areas_in program (pushed v f)))
    copy_runs some stands = (
      free classes spot Copy (areas_in program f)
          (Goes (areas_in program (pushed v f))) copy_does refl (ap not stands)
          (one_is v f.operands (one_there f.operands v there)) anything
          (fitting some) refl refl refl refl refl,
      copy_does,
    )

  -- ---- a local that is pushed

  module _ (kind : Kind) (place : ℕ) (v : MVal)
      (held : local_value (slice_get f.locals place) ≡ Some v) (some : 0 < f.free)
      (room : spot.room ≡ length f.operands + f.free) where
    load_does : effect classes (Load place kind) (areas_in program f)
        ≡ Goes (areas_in program (pushed v f))
    unfolding effect
    load_does = rw held refl

    none_taken : nat_lt (length f.operands) 0 ≡ false
    none_taken = le-ltb _ _ (omega arith)

    one_more : nat_lt spot.room (length f.operands - 0 + 1) ≡ false
    one_more = le-ltb _ _ (omega arith)

    pub load_4 : fits classes kind v ≡ false
        → reason classes spot (Load place kind) (areas_in program f) ≡ Some 4
    load_4 other =
        misheld classes spot (Load place kind)
        (areas_in program f) _ load_does refl none_taken refl one_more
        (ap (λ (h : Option MVal). not (holds classes kind h)) held ∙ ap not other)

    pub load_5 : fits classes kind v ≡ true → spot.stands ≡ false
        → reason classes spot (Load place kind) (areas_in program f) ≡ Some 5
    load_5 fit stands =
        astray classes spot (Load place kind) (areas_in program f) _ load_does refl
        (ap not stands) none_taken refl one_more
        (ap (λ (h : Option MVal). not (holds classes kind h)) held ∙ ap not fit)

    pub load_runs : fits classes kind v ≡ true → spot.stands ≡ true
        → (reason classes spot (Load place kind) (areas_in program f) ≡ None)
        × (effect classes (Load place kind) (areas_in program f)
        ≡ Goes (areas_in program (pushed v f)))
    load_runs fit stands = (
      free classes spot (Load place kind) (areas_in program f) _ load_does refl
          (ap not stands) none_taken refl one_more
          (ap (λ (h : Option MVal). not (holds classes kind h)) held ∙ ap not fit) refl
          refl refl refl,
      load_does,
    )

pub ruleset storing = (store_1, store_2)

pub ruleset discarding = (discard_1, discard_5)

pub ruleset copying = (copy_1, copy_3, copy_5)
