use Rattle.std.proofs.Common.{rules, arith}
use Rattle.par_tree.specs.declared.expr.ExprKind.TheViews.{the_lemmas}
use Rattle.par_tree.specs.Nodes.{nodes}
use Rattle.par_tree.proofs.Shown.{shows}
use Rattle.par_tree.proofs.nodes.+expr.Goals as goal

pub in_expr-in_receiver-requires : goal.in_expr-in_receiver-requires
unfolding nodes
in_expr-in_receiver-requires t c = (search (rules, the_lemmas), grind (arith, shows))

pub in_expr-in_args-requires : goal.in_expr-in_args-requires
unfolding nodes
in_expr-in_args-requires t c = (search (rules, the_lemmas), grind (arith, shows))

pub in_expr-in_expr-requires : goal.in_expr-in_expr-requires
unfolding nodes
in_expr-in_expr-requires t c = (search (rules, the_lemmas), grind (arith, shows))

pub in_expr-in_expr-requires-in-Binary : goal.in_expr-in_expr-requires-in-Binary
unfolding nodes
in_expr-in_expr-requires-in-Binary t c = (search (rules, the_lemmas), grind (arith, shows))

pub in_expr-in_expr-requires-in-Field : goal.in_expr-in_expr-requires-in-Field
unfolding nodes
in_expr-in_expr-requires-in-Field t c = (search (rules, the_lemmas), grind (arith, shows))
