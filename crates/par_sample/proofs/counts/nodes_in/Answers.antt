use Rattle.std.proofs.Common.{arith}
use Rattle.par_sample.specs.Counted.{class_nodes}
use Rattle.par_sample.proofs.Sums.{most_nodes, more-below}
use Rattle.par_sample.proofs.counts.nodes_in.Goals as goal

pub overflow_add-nodes : goal.overflow_add-nodes
overflow_add-nodes c =
    let classes = c.args.classes.now in
    let most = most_nodes classes c.requires.small in
    let more = more-below class_nodes classes c.loop-class.class-index
    c.loop-class.nodes c.class-item.result c.loop-class.invariant c.loop-class-test.true
    c.class-item.is in
    omega (arith, c.requires.few, c.nodes_of-nodes.ensures, most, more)
