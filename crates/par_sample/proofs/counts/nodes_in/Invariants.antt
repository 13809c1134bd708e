use Rattle.std.proofs.Common.{◌≡◌, ◌+◌, drop}
use Rattle.par_sample.specs.Counted.{node_count}
use Rattle.par_sample.proofs.counts.nodes_in.Given as goal

abbrev pub invariant-loop-class : goal.invariant-loop-class
invariant-loop-class l =
    l.nodes + node_count (drop l.class-index l.classes) ≡ node_count l.classes
