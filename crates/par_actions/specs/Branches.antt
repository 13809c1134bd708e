-- Operations that go on at a distance or behind themselves.
use Rattle.std.specs.Prelude.{◌≡◌, ℕ, Bool, false, ◌||◌, List, length}
use Rattle.par_values.specs.Areas.{Name, Areas, pop}
use Rattle.par_values.specs.Operations.{Operation, takes, gives}
use Rattle.par_values.specs.Effects.{effect, jumps_if}
use Rattle.par_values.specs.Reasons.{Spot, lacks, misgiven, unfit, misplaced, misnamed, disagrees}
use Rattle.par_values.specs.Reasons.{misreturns, misused}
use Rattle.par_actions.specs.Done.{distance}

-- An operation takes so many operands, which are there and fit, and does no more than go on at its
-- distance or behind itself.
pub record IsTest (classes : List Name) (o : Operation) (many : ℕ) (goes : Bool) (before : Areas) :
    Type 0 where
  pub lacks : lacks o before ≡ false
  pub unfit : (spot : Spot) → (misgiven classes spot o before || unfit classes o before) ≡ false
  pub takes : length (takes o) ≡ many
  pub gives : gives o ≡ 0
  pub misplaced : misplaced classes o before ≡ false
  pub done : effect classes o before ≡ jumps_if goes (distance o) (pop many before)
  pub misnamed : misnamed o ≡ false
  pub disagrees : disagrees o ≡ false
  pub misreturns : (spot : Spot) → misreturns spot o ≡ false
  pub misused : (exceptions : List ℕ) → misused exceptions o before ≡ false
