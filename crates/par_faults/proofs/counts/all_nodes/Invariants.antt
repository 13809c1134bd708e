use Rattle.std.proofs.Common.{◌≡◌, ◌+◌, ◌<◌, ◌^◌, drop}
use Rattle.std.specs.List.{sum_by}
use Rattle.par_tree.specs.Nodes.{method_nodes}
use Rattle.par_tree.specs.Shown.{methods}
use Rattle.par_parser.specs.Bodies.{methods_size}
use Rattle.par_faults.proofs.counts.all_nodes.Given as goal

abbrev pub invariant-loop-method : goal.invariant-loop-method
invariant-loop-method l = record {
  counted : l.count + sum_by method_nodes (methods (drop l.method-index l.methods))
      ≡ sum_by method_nodes (methods l.methods);
  few : l.count + methods_size (methods (drop l.method-index l.methods)) < 2 ^ 32;
}
