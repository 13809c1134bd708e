-- A rule is kept where its condition holds of what is known at its spot.
use Rattle.std.proofs.Common.{◌≡◌, ◌↔◌, Option, Some, None, sym, subst}
use Rattle.par_typed.specs.declared.table.Table.{Table}
use Rattle.par_asked.specs.par_program_laws.Lattice.{numbers, joined}
use Rattle.par_asked.specs.par_program_laws.Ways.{Way}
use Rattle.par_asked.specs.par_program_laws.Facts.{Facts}
use Rattle.par_asked.specs.par_program_laws.Rules.{Holds}
use Rattle.par_asked.specs.par_check_laws.Asked.{Condition, Open, Released, Worth, Joined, Context}
use Rattle.par_asked.specs.par_check_laws.Asked.{Effect, Among}
use Rattle.par_asked.specs.par_check_laws.Asked.{Never}
use Rattle.par_asked.specs.par_check_laws.Keeps.{Satisfies}
use Rattle.par_asked.specs.par_check_laws.Verdict.{given, KeepsNumbered}
use Rattle.par_asked.specs.declared.check.Check.{Check}
use Rattle.par_asked.specs.Seen.{seen_check, seen_condition}
use Rattle.par_flow.specs.declared.known.Known.{Known}
use Rattle.par_flow.specs.Standing.{standing, stand, stands}
use Rattle.par_check.specs.Meets.{value_of, Meets}
use Rattle.par_check.specs.Meets.{MeetsThere}
use Rattle.par_check.specs.Spots.{at_spot}

meets_iff : (table : Table) (f : Facts numbers) (o : Option (Way numbers)) (c : Condition)
    → MeetsThere table f (standing o) c
    ↔ Holds numbers o (λ w. Satisfies numbers (joined table.policies) (given table) f w c)
meets_iff table f None c = (λ h. h, λ h. h)
meets_iff table f (Some w) (Open locks) = (λ h. h, λ h. h)
meets_iff table f (Some w) (Released v p) = (λ h. h, λ h. h)
meets_iff table f (Some w) (Worth v p) = (λ h. h, λ h. h)
meets_iff table f (Some w) (Joined v p) = (λ h. h, λ h. h)
meets_iff table f (Some w) (Context p) = (λ h. h, λ h. h)
meets_iff table f (Some w) (Effect e p) = (λ h. h, λ h. h)
meets_iff table f (Some w) (Among locks those) = (λ h. h, λ h. h)
meets_iff table f (Some w) Never = (λ h. h, λ h. h)

abbrev MeetsAt : Table → Facts numbers → Check → Type 0
MeetsAt table f c = MeetsThere table f (at_spot f c.point c.way) (seen_condition c.condition)

keeps_iff : (table : Table) (f : Facts numbers) (c : Check) → MeetsAt table f c
    ↔ KeepsNumbered table f (seen_check c)
unfolding at_spot
keeps_iff table f c = meets_iff table f _ (seen_condition c.condition)

-- where the spot is not reached
pub kept_unreached : (table : Table) (f : Facts numbers) (c : Check)
    → stands None ≡ at_spot f c.point c.way → KeepsNumbered table f (seen_check c)
kept_unreached table f c e =
    (keeps_iff table f c).0 (subst (λ o. MeetsThere table f o (seen_condition c.condition)) e tt)

-- and where it is
pub kept_reached : (table : Table) (f : Facts numbers) (c : Check) (k : Known)
    → stands (Some k) ≡ at_spot f c.point c.way
    → Meets table (value_of f (seen_condition c.condition)) (stand k) (seen_condition c.condition)
    ↔ KeepsNumbered table f (seen_check c)
kept_reached table f c k e = (
  λ h. (keeps_iff table f c).0 (subst (λ o. MeetsThere table f o (seen_condition c.condition)) e h),
  λ h. subst (λ o. MeetsThere table f o (seen_condition c.condition)) (sym e)
      ((keeps_iff table f c).1 h),
)

pub ruleset kept = (kept_unreached, kept_reached)
