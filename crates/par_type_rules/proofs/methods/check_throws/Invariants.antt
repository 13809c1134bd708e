use Rattle.std.proofs.Common.{◌≡◌, drop}
use Rattle.par_refusals.specs.First.{first_of}
use Rattle.par_scope.specs.Home.{seen}
use Rattle.par_type_rules.specs.Methods.{throws_faults}
use Rattle.par_type_rules.proofs.methods.check_throws.Given as goal

-- what was found so far, and what is left
abbrev pub invariant-loop-throw : goal.invariant-loop-throw
invariant-loop-throw l =
    first_of l.findings (throws_faults (seen l.home) (drop l.throw-index l.throws))
    ≡ first_of l.fn.findings (throws_faults (seen l.home) l.throws)
