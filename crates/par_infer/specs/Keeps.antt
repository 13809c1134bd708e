-- Rules on inferred fields.
use Rattle.std.specs.Prelude.{ℕ, cond, Option, Some, None}
use Rattle.par_bits.specs.Sets.{Set}
use Rattle.par_check.specs.par_check_laws.Asked.{Condition, Open, Released, Worth, Joined}
use Rattle.par_check.specs.par_check_laws.Asked.{Context}
use Rattle.par_check.specs.par_check_laws.Asked.{Effect, Among}
use Rattle.par_check.specs.par_check_laws.Asked.{Never, Check}

-- at an inferred field a value is written as if no lock were open
abbrev pub unopened : Set → Condition → Condition
unopened is (Released v p) = cond (is p) (Worth v p) (Released v p)
unopened is (Open locks) = Open locks
unopened is (Worth v p) = Worth v p
unopened is (Joined v p) = Joined v p
unopened is (Context p) = Context p
unopened is (Effect e p) = Effect e p
unopened is (Among locks those) = Among locks those
unopened is Never = Never

abbrev pub strict : Set → Check → Check
strict is c = record c { condition = unopened is c.condition }

-- the policy that something is to be below
abbrev pub limit : Condition → Option ℕ
limit (Released v p) = Some p
limit (Worth v p) = Some p
limit (Joined v p) = Some p
limit (Context p) = Some p
limit (Effect e p) = Some p
limit (Open locks) = None
limit (Among locks those) = None
limit Never = None
