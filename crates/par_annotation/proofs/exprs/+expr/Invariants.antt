use Rattle.std.proofs.Common.{◌≡◌, ◌+◌, ◌*◌, ◌≤◌, drop}
use Rattle.par_tree.specs.Shown.{all_shown}
use Rattle.par_tree.specs.Nodes.{args_nodes}
use Rattle.par_typed.specs.Shown as typed
use Rattle.par_typed.specs.Nodes as count
use Rattle.par_scope.specs.Home.{seen}
use Rattle.par_type_rules.specs.TypedExprs.{typed_args}
use Rattle.par_annotation.specs.Ints.{args_no_ints}
use Rattle.par_annotation.specs.Seen.{frame_seen}
use Rattle.par_annotation.proofs.NodeForms.{before}
use Rattle.par_annotation.proofs.exprs.+expr.Given as goal

-- what is made, in front of what the arguments that are left come to
abbrev pub invariant-type_args-loop-arg : goal.invariant-type_args-loop-arg
invariant-type_args-loop-arg l = record {
  made : before l.found
      (typed_args (seen l.home) (frame_seen l.frame) l.next (all_shown (drop l.arg-index l.args)))
      ≡ typed_args (seen l.home) (frame_seen l.frame) l.fn.next (all_shown l.args);
  counted : l.next ≡ l.fn.next + count.args_nodes (typed.all_shown l.found);
  small : l.next + 2 * args_nodes (all_shown (drop l.arg-index l.args))
      ≤ l.fn.next + 2 * args_nodes (all_shown l.args);
  ints : args_no_ints (all_shown (drop l.arg-index l.args)) ≡ 0;
}
