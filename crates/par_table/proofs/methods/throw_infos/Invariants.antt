use Rattle.std.proofs.Common.{◌≡◌, ◌++◌, drop, map}
use Rattle.par_resolved.specs.Resolved.{throw_info}
use Rattle.par_table.specs.Seen.{resolved_seen}
use Rattle.par_table.proofs.methods.throw_infos.Given as goal

-- those made so far, and those of what is left
abbrev pub invariant-loop-throw : goal.invariant-loop-throw
invariant-loop-throw l =
    l.made ++ map (throw_info (resolved_seen l.resolved)) (drop l.throw-index l.throws)
    ≡ map (throw_info (resolved_seen l.resolved)) l.throws
