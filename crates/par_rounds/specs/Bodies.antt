-- Least facts of a body of a table.
use Rattle.std.specs.Prelude.{List}
use Rattle.par_typed.specs.declared.table.Table.{Table}
use Rattle.par_typed.specs.Plain.{Body}
use Rattle.par_program_laws.specs.Lattice.{Seen, numbers, policies, unseen}
use Rattle.par_program_laws.specs.Facts.{Facts}
use Rattle.par_program_laws.specs.Declares.{declares}
use Rattle.par_program_laws.specs.Body.{sta}
use Rattle.par_program_laws.specs.Closed.{IsClosed}
use Rattle.par_pass_laws.specs.Seens.{seen_as}
use Rattle.par_pass_laws.specs.Possible.{HasPossibleExits}
use Rattle.par_pass_laws.specs.Result.{AreLeast, AreExact}
use Rattle.par_pass_laws.proofs.Instances.{among, seen, stands, alone}

-- closed facts, at or below all others: over sets of policy numbers, over policies by who sees
-- them, whichever policies have the numbers, and over locks alone. A completion that is not
-- possible has no exit
pub record AreLeastClosed (t : Table) (b : Body) (f : Facts numbers) : Type 0 where
  pub closed : IsClosed numbers (declares t) b f
  pub sets : AreLeast numbers among (declares t) b f
  pub policies : AreLeast (policies t.policies) (seen t.policies) (declares t) b f
  pub whichever : (ps : List Seen) → AreLeast (seen_as ps) (stands ps) (declares t) b f
  pub locks : AreLeast unseen alone (declares t) b f
  pub exact : AreExact (declares t) b f
  pub possible : HasPossibleExits numbers f (sta (declares t) b.body)
