-- What can be asked of facts.
use Rattle.std.specs.Prelude.{ℕ, List}
use Rattle.par_bits.specs.Sets.{Set}
use Rattle.par_pass_laws.specs.par_program_laws.Rules.{From}

-- a condition where a spot is reached; values are those of the expressions at their points, and
-- policies have their numbers
pub data Condition : Type 0 where
  -- these locks are open there
  Open : (locks : Set) → Condition
  -- the value, specialised to the open locks, is below the policy
  Released : (value policy : ℕ) → Condition
  -- the value is below the policy
  Worth : (value policy : ℕ) → Condition
  -- the value joined with the context is below the policy
  Joined : (value policy : ℕ) → Condition
  -- the context is below the policy
  Context : (policy : ℕ) → Condition
  -- the write effect is below the policy
  Effect : (effect policy : ℕ) → Condition
  -- these locks are among those
  Among : (locks those : Set) → Condition
  -- the spot is not reached
  Never : Condition

-- the way at a spot: of the node at the point, from the parts at their points, the latest first
pub record Spot : Type 0 where
  pub point : ℕ
  pub parts : List ℕ
  pub from : From

-- a rule that is broken at the place where its condition does not hold
pub record Check : Type 0 where
  pub rule : ℕ
  pub at : ℕ
  pub spot : Spot
  pub condition : Condition
