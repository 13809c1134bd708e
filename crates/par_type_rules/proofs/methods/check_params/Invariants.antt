use Rattle.std.proofs.Common.{◌≡◌, drop}
use Rattle.par_refusals.specs.First.{first_of}
use Rattle.par_scope.specs.Home.{seen}
use Rattle.par_type_rules.specs.Methods.{params_faults}
use Rattle.par_type_rules.proofs.methods.check_params.Given as goal

-- what was found so far, and what is left
abbrev pub invariant-loop-param : goal.invariant-loop-param
invariant-loop-param l =
    first_of l.findings (params_faults (seen l.home) (drop l.param-index l.params))
    ≡ first_of l.fn.findings (params_faults (seen l.home) l.params)
