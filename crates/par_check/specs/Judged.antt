-- The verdict on the bodies of a program.
use Rattle.std.specs.Prelude.{◌≡◌, ℕ, false, Option, Some, None, List, Contains}
use Rattle.par_typed.specs.declared.table.Table.{Table}
use Rattle.par_refusals.specs.declared.refusal.Refusal.{Refusal}
use Rattle.par_refusals.specs.First.{broken, comes_before}
use Rattle.par_typed.specs.Plain.{Body}
use Rattle.par_asked.specs.par_check_laws.Verdict.{IsAccepted, IsBroken}

-- all closed facts of some body break this rule at its place, and no rule that is broken so comes
-- before it
pub record IsFirstBroken (table : Table) (bs : List Body) (r : Refusal) : Type 0 where
  pub body : Body
  pub there : Contains bs body
  pub breaks : IsBroken table body r.rule r.at
  pub alone : r ≡ broken r.rule r.at
  pub first : (b : Body) (rule at : ℕ) → Contains bs b → IsBroken table b rule at
      → comes_before (broken rule at) r ≡ false

-- each body is accepted, or this is the first broken rule
abbrev pub IsVerdict : Table → List Body → Option Refusal → Type 0
IsVerdict table bs None = (b : Body) → Contains bs b → IsAccepted table b
IsVerdict table bs (Some r) = IsFirstBroken table bs r
