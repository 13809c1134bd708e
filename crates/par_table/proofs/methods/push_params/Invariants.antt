use Rattle.std.proofs.Common.{◌≡◌, ◌++◌, drop, map}
use Rattle.par_resolved.specs.Numbers.{type_of}
use Rattle.par_table.specs.Seen.{resolved_seen}
use Rattle.par_table.proofs.methods.push_params.Given as goal

-- those made so far, and those of what is left
abbrev pub invariant-loop-param : goal.invariant-loop-param
invariant-loop-param l =
    l.types ++ map (λ p. type_of (resolved_seen l.resolved).classes p.ty)
    (drop l.param-index l.params)
    ≡ l.fn.types ++ map (λ p. type_of (resolved_seen l.resolved).classes p.ty) l.params
