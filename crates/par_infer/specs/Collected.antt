-- Bounds that are collected.
use Rattle.std.specs.Prelude.{◌≡◌, ℕ, ◌<◌, ◌||◌, List, Contains, IsTrue, length, map}
use Rattle.par_bits.specs.Sets.{Set, none, adding, union}
use Rattle.par_program_laws.specs.Lattice.{numbers}
use Rattle.par_program_laws.specs.Facts.{Facts}
use Rattle.par_program_laws.specs.Rules.{way}
use Rattle.par_check.specs.par_check_laws.Asked.{Condition, Open, Released, Worth, Joined}
use Rattle.par_check.specs.par_check_laws.Asked.{Context}
use Rattle.par_check.specs.par_check_laws.Asked.{Effect, Among}
use Rattle.par_check.specs.par_check_laws.Asked.{Never, Check}
use Rattle.par_reached.specs.Reached.{set_at}
use Rattle.par_infer.specs.Bounds.{compared_at}

-- what a condition compares, of a value and a context
abbrev pub compared_of : Set → Set → Condition → Set
compared_of value context (Released v p) = value
compared_of value context (Worth v p) = value
compared_of value context (Joined v p) = union value context
compared_of value context (Context p) = context
compared_of value context (Effect e p) = adding none e
compared_of value context (Open locks) = none
compared_of value context (Among locks those) = none
compared_of value context Never = none

-- what a rule compares at its spot
abbrev pub asked_of : Facts numbers → Check → Set
asked_of f c =
    compared_at f (way numbers (f c.spot.point).entry (map f c.spot.parts) c.spot.from) c.condition

-- the write effect that is asked about is the number of a policy
abbrev pub HasSmallEffect : Condition → Type 0
HasSmallEffect c = (e p : ℕ) → c ≡ Effect e p → e < 256

abbrev pub HaveSmallEffects : List Check → Type 0
HaveSmallEffects cs = (c : Check) → Contains cs c → HasSmallEffect c.condition

-- the sets of these numbers have these members more
pub record Gains (is : Set) (old now : List ℕ) (more : ℕ → Set) : Type 0 where
  pub size : length now ≡ length old
  pub gained : (i n : ℕ) → IsTrue (is i) → set_at now i n ≡ (set_at old i n || more i n)
