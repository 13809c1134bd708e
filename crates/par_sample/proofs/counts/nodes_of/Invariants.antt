use Rattle.std.proofs.Common.{◌≡◌, ◌+◌, drop}
use Rattle.std.specs.List.{sum_by}
use Rattle.par_sample.specs.Counted.{class_nodes}
use Rattle.par_sample.proofs.counts.nodes_of.Given as goal

abbrev pub invariant-loop-method : goal.invariant-loop-method
invariant-loop-method l =
    l.nodes + sum_by (λ m. m.nodes) (drop l.method-index l.method-items) ≡ class_nodes l.class
