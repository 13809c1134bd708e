use Rattle.std.proofs.Common.{◌≡◌, ◌++◌, drop, map}
use Rattle.par_resolved.specs.Numbers.{type_of}
use Rattle.par_parts.specs.Gathered.{all_of}
use Rattle.par_table.specs.Seen.{resolved_seen}
use Rattle.par_table.proofs.methods.push_types.Given as goal

-- those made so far, and those of what is left
abbrev pub invariant-loop-item : goal.invariant-loop-item
invariant-loop-item l =
    l.types ++ map (type_of (resolved_seen l.resolved).classes) (all_of (drop l.item-index l.items))
    ≡ l.fn.types ++ map (type_of (resolved_seen l.resolved).classes) (all_of l.items)
