-- What holds of an operation against which no reason stands.
use Rattle.std.proofs.Common.{◌≡◌, ℕ, suc, Bool, true, false, ◌&&◌, ◌||◌, List, ◌∷◌, Option, Some}
use Rattle.std.proofs.Common.{None, refl}
use Rattle.par_values.specs.Areas.{Name, Areas}
use Rattle.par_values.specs.Operations.{Operation}
use Rattle.par_values.specs.Effects.{effect}
use Rattle.par_values.specs.Reasons.{Spot, lacks, misgiven, unfit, throws, exceeds, misplaced}
use Rattle.par_values.specs.Reasons.{falls, misnamed, disagrees, misreturns, misused, least_from}
use Rattle.par_values.specs.Reasons.{reason}
use Rattle.par_method_area.specs.par_step_laws.Step.{or_2}

pub record IsFree (classes : List Name) (spot : Spot) (o : Operation) (a : Areas) : Type 0 where
  pub lacks : lacks o a ≡ false
  pub fits : (misgiven classes spot o a || unfit classes o a) ≡ false
  pub room : ((spot.is_roomless && throws (effect classes o a)) || exceeds spot.room o a) ≡ false
  pub falls : falls spot.stands spot.is_lost (effect classes o a) ≡ false
  pub disagrees : disagrees o ≡ false
  pub misreturns : misreturns spot o ≡ false
  pub misused : misused spot.exceptions o a ≡ false

first_free : (n : ℕ) (applies : Bool) (others : List Bool) → least_from n (applies ∷ others) ≡ None
    → (applies ≡ false) × (least_from (suc n) others ≡ None)
first_free n true others none = absurd (cc)
first_free n false others none = (refl, none)

-- where no reason stands, none of the nine does
pub is_free : (classes : List Name) (spot : Spot) (o : Operation) (a : Areas)
    → reason classes spot o a ≡ None → IsFree classes spot o a
unfolding reason
is_free classes spot o a none =
    let one = first_free 1 (lacks o a) _ none in
    let two = first_free 2 (misgiven classes spot o a || unfit classes o a) _ one.1 in
    let three = first_free 3 ((spot.is_roomless && throws (effect classes o a)) || exceeds spot.room
    o a) _ two.1 in
    let four = first_free 4 (misplaced classes o a) _ three.1 in
    let five = first_free 5 (falls spot.stands spot.is_lost (effect classes o a)) _ four.1 in
    let six = first_free 6 (misnamed o) _ five.1 in
    let seven = first_free 7 (disagrees o) _ six.1 in
    let eight = first_free 8 (misreturns spot o) _ seven.1 in
    let nine = first_free 9 (misused spot.exceptions o a) _ eight.1 in
    record {
      lacks = one.0;
      fits = two.0;
      room = three.0;
      falls = five.0;
      disagrees = seven.0;
      misreturns = eight.0;
      misused = nine.0;
    }

-- nor does the one of a call
pub or_2_none : (applies : Bool) (r : Option ℕ) → or_2 applies r ≡ None
    → (applies ≡ false) × (r ≡ None)
or_2_none false r none = (refl, none)
or_2_none true None none = absurd (cc)
or_2_none true (Some n) none = absurd (cc)
