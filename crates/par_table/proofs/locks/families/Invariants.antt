use Rattle.std.proofs.Common.{◌≡◌, ◌+◌, ◌≤◌, ◌++◌, drop, sum_by, length}
use Rattle.par_resolved.specs.declared.limits.TheConstants.{MOST_GROUND_LOCKS}
use Rattle.par_resolved.specs.Numbers.{ground_count}
use Rattle.par_parts.specs.Gathered.{all_of}
use Rattle.par_resolved.specs.Resolved.{ground_locks_from}
use Rattle.par_table.specs.Seen.{resolved_seen}
use Rattle.par_table.proofs.locks.families.Given as goal

-- those made so far, and those of what is left
abbrev pub invariant-loop-decl : goal.invariant-loop-decl
invariant-loop-decl l = record {
  made : l.found ++ ground_locks_from (resolved_seen l.resolved) l.queries l.first
      (all_of (drop l.decl-index l.decls))
      ≡ ground_locks_from (resolved_seen l.resolved) l.queries 0 (all_of l.decls);
  few : l.first + sum_by (ground_count (length (resolved_seen l.resolved).known.numbers.actors))
      (all_of (drop l.decl-index l.decls)) ≤ MOST_GROUND_LOCKS;
}
