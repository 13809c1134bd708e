use Rattle.std.proofs.Common.{true, false}
use Rattle.par_nodes.specs.Seen.{seen_node}
use Rattle.par_nodes.proofs.Branches.{start_is}
use Rattle.par_nodes.proofs.stmt.catch_start.Goals as goal

pub returns-then-has : goal.returns-then-has
returns-then-has c =
    start_is (seen_node c.args.block.now.node.value) c.args.class c.args.before
    c.args.block.now.kinds c.has.result true c.args.block.now.known c.has.ensures c.if-has.true

pub returns-else-has : goal.returns-else-has
returns-else-has c =
    start_is (seen_node c.args.block.now.node.value) c.args.class c.args.before
    c.args.block.now.kinds c.has.result false c.args.block.now.known c.has.ensures c.if-has.false
