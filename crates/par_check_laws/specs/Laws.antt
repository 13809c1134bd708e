-- The least facts decide.
use Rattle.std.specs.Prelude.{Contains}
use Rattle.par_pass_laws.specs.par_typed.declared.table.Table.{Table}
use Rattle.par_pass_laws.specs.par_typed.Plain.{Body}
use Rattle.par_pass_laws.specs.par_program_laws.Lattice.{numbers}
use Rattle.par_pass_laws.specs.par_program_laws.Facts.{Facts}
use Rattle.par_pass_laws.specs.par_program_laws.Declares.{declares}
use Rattle.par_pass_laws.specs.par_program_laws.Closed.{IsClosed}
use Rattle.par_pass_laws.specs.Result.{AreLeast}
use Rattle.par_pass_laws.proofs.Instances.{seen}
use Rattle.par_check_laws.specs.Asked.{Check}
use Rattle.par_check_laws.specs.Checks.{checks}
use Rattle.par_check_laws.specs.Verdict.{among, KeepsNumbered, IsAccepted, IsBroken}

-- a body is accepted where closed facts over sets of numbers keep all rules
abbrev pub ClosedFactsThatKeepAccept : Type 0
ClosedFactsThatKeepAccept =
    (table : Table) (b : Body) (f : Facts numbers)
    → IsClosed numbers (declares table) b f
    → ((c : Check) → Contains (checks table b) c → KeepsNumbered table f c)
    → IsAccepted table b

-- what the least facts fail, all closed facts fail at the same place
abbrev pub LeastFactsThatFailRefuse : Type 0
LeastFactsThatFailRefuse =
    (table : Table) (b : Body) (f : Facts numbers)
    → AreLeast (among table) (seen table.policies) (declares table) b f
    → (c : Check) → Contains (checks table b) c → (KeepsNumbered table f c → ⊥)
    → IsBroken table b c.rule c.at
