use Rattle.std.proofs.Common.{◌≡◌, ◌++◌, map, take}
use Rattle.par_names.proofs.body.declare_params.Given as goal

-- those that were gone over are in scope
abbrev pub invariant-loop-param : goal.invariant-loop-param
invariant-loop-param l =
    l.scope ≡ l.fn.scope ++ map (λ param. param.id.name) (take l.param-index l.params)
