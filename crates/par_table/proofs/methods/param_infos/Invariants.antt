use Rattle.std.proofs.Common.{◌≡◌, ◌++◌, drop, map}
use Rattle.par_resolved.specs.Resolved.{param_info}
use Rattle.par_table.specs.Seen.{resolved_seen}
use Rattle.par_table.proofs.methods.param_infos.Given as goal

-- those made so far, and those of what is left
abbrev pub invariant-loop-param : goal.invariant-loop-param
invariant-loop-param l =
    l.made ++ map (param_info (resolved_seen l.resolved)) (drop l.param-index l.params)
    ≡ map (param_info (resolved_seen l.resolved)) l.params
