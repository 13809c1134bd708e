use Rattle.std.proofs.Common.{◌≡◌, drop}
use Rattle.par_scope.specs.Home.{seen}
use Rattle.par_type_rules.specs.Methods.{with_params}
use Rattle.par_type_rules.proofs.methods.declare_params.Given as goal

-- what was found so far, and what is left
abbrev pub invariant-loop-param : goal.invariant-loop-param
invariant-loop-param l =
    with_params (seen l.home) l.locals (drop l.param-index l.params)
    ≡ with_params (seen l.home) l.fn.locals l.params
