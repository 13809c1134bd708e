use Rattle.std.proofs.Common.{◌≡◌, ◌+◌, drop}
use Rattle.par_tree.specs.Shown.{all_shown}
use Rattle.par_tree.specs.Nodes.{args_nodes}
use Rattle.par_tree.proofs.nodes.+expr.Given as goal

-- counted so far, with those of the arguments that are left
abbrev pub invariant-in_args-loop-arg : goal.invariant-in_args-loop-arg
invariant-in_args-loop-arg l =
    l.nodes + args_nodes (all_shown (drop l.arg-index l.args)) ≡ args_nodes (all_shown l.args)
