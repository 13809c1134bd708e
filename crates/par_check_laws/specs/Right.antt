-- Facts that a verdict may ask.
use Rattle.std.specs.Prelude.{List, [], ◌∷◌}
use Rattle.par_pass_laws.specs.par_typed.declared.table.Table.{Table}
use Rattle.par_pass_laws.specs.par_typed.Plain.{Body}
use Rattle.par_pass_laws.specs.par_program_laws.Lattice.{Seen, numbers}
use Rattle.par_pass_laws.specs.par_program_laws.Facts.{Facts}
use Rattle.par_pass_laws.specs.par_program_laws.Declares.{declares}
use Rattle.par_pass_laws.specs.par_program_laws.Body.{sta}
use Rattle.par_pass_laws.specs.par_program_laws.Closed.{IsClosed}
use Rattle.par_pass_laws.specs.Seens.{seen_as}
use Rattle.par_pass_laws.specs.Possible.{HasPossibleExits}
use Rattle.par_pass_laws.specs.Result.{AreLeast}
use Rattle.par_pass_laws.proofs.Instances.{seen, stands}
use Rattle.par_check_laws.specs.Verdict.{among}

-- the facts are closed, and at or below all others that are, whichever policies have the numbers; a
-- completion that is not possible has no exit
pub record AreRight (table : Table) (b : Body) (f : Facts numbers) : Type 0 where
  pub closed : IsClosed numbers (declares table) b f
  pub least : AreLeast (among table) (seen table.policies) (declares table) b f
  pub whichever : (ps : List Seen) → AreLeast (seen_as ps) (stands ps) (declares table) b f
  pub possible : HasPossibleExits numbers f (sta (declares table) b.body)

-- those of each body are
abbrev pub AreAllRight : Table → List Body → List (Facts numbers) → Type 0
AreAllRight table [] fs = Unit {0}
AreAllRight table (b ∷ bs) [] = ⊥
AreAllRight table (b ∷ bs) (f ∷ fs) = AreRight table b f × AreAllRight table bs fs
