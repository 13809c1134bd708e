use Rattle.std.proofs.Common.{◌≡◌, ◌<◌, ◌^◌, ◌++◌, drop, map}
use Rattle.par_tree.specs.Shown.{methods}
use Rattle.std.specs.Prelude.{sum_by}
use Rattle.par_tree.specs.Nodes.{method_nodes}
use Rattle.par_resolved.specs.Resolved.{method_info}
use Rattle.par_table.specs.Seen.{resolved_seen}
use Rattle.par_table.proofs.methods.method_infos.Given as goal

-- those made so far, and those of what is left
abbrev pub invariant-loop-method : goal.invariant-loop-method
invariant-loop-method l = record {
  made : l.made ++ map (method_info (resolved_seen l.resolved) l.class)
      (methods (drop l.method-index l.methods))
      ≡ map (method_info (resolved_seen l.resolved) l.class) (methods l.methods);
  few : sum_by method_nodes (methods (drop l.method-index l.methods)) < 2 ^ 32;
}
