use Rattle.std.proofs.Common.{◌≡◌, ◌+◌, ◌≤◌, ◌<◌, ◌^◌, ◌++◌, drop, sum_by}
use Rattle.par_resolved.specs.declared.limits.TheConstants.{MOST_POLICIES}
use Rattle.par_parts.specs.Gathered.{classes_of}
use Rattle.par_resolved.specs.Resolved.{class_infos}
use Rattle.par_table.specs.Room.{inferred_count, class_nodes}
use Rattle.par_table.specs.Seen.{resolved_seen}
use Rattle.par_table.proofs.classes.class_infos.Given as goal

-- those made so far, and those of what is left
abbrev pub invariant-loop-decl : goal.invariant-loop-decl
invariant-loop-decl l = record {
  made : l.made ++ class_infos (resolved_seen l.resolved) l.class l.next
      (classes_of (drop l.decl-index l.decls))
      ≡ class_infos (resolved_seen l.resolved) 0 l.fn.first (classes_of l.decls);
  counted : l.class ≡ l.decl-index;
  few_fields : l.next + sum_by inferred_count (classes_of (drop l.decl-index l.decls))
      ≤ MOST_POLICIES;
  few_nodes : sum_by class_nodes (classes_of (drop l.decl-index l.decls)) < 2 ^ 32;
}
