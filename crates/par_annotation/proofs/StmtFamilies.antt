-- What each family of statements needs.
use Rattle.std.proofs.Common.{◌≡◌, ℕ, ◌+◌, arith}
use Rattle.par_tree.proofs.Shown as tree
use Rattle.par_typed.specs.Plain.{TExp}
use Rattle.par_typed.specs.Nodes.{nodes, stmt_nodes}
use Rattle.par_typed.proofs.Shown as typed
use Rattle.par_type_rules.specs.TypedStmts.{Target, Nowhere, ToLocal, ToStatic, ToField}
use Rattle.par_type_rules.specs.TypedStmts.{target_nodes}
use Rattle.par_type_rules.specs.TypedStmts.{assignment}
use Rattle.par_annotation.proofs.StmtNodeForms as node
use Rattle.par_annotation.proofs.StmtForms as form

-- an assignment is a node, with those of its target and its value
pub assignment_nodes : (t : Target) (value : TExp) (at p : ℕ)
    → stmt_nodes (assignment t value at p) ≡ 1 + target_nodes t + nodes value
unfolding stmt_nodes
assignment_nodes Nowhere value at p = omega arith
assignment_nodes (ToLocal var) value at p = omega arith
assignment_nodes (ToStatic field) value at p = omega arith
assignment_nodes (ToField of field) value at p = omega arith

pub ruleset return_forms = (node.stmt_nodes_return, typed.does_return)

pub ruleset eval_forms = (node.stmt_nodes_eval, typed.does_eval)

pub ruleset assign_forms = (assignment_nodes)

pub ruleset local_forms = (
  form.typed_sta_declare,
  form.behind_declare,
  node.stmt_nodes_setlocal,
  typed.does_set_local,
)

pub ruleset if_forms = (
  form.typed_sta_if,
  form.behind_if,
  form.locals_in_if,
  form.stmt_nodes_if,
  node.stmt_nodes_if,
  tree.does_if,
  typed.does_if,
)

pub ruleset while_forms = (
  form.typed_sta_while,
  form.behind_while,
  form.locals_in_while,
  form.stmt_nodes_while,
  node.stmt_nodes_while,
  tree.does_while,
  typed.does_while,
)

pub ruleset try_forms = (
  form.typed_sta_try,
  form.behind_try,
  form.locals_in_try,
  form.stmt_nodes_try,
  node.stmt_nodes_try,
  tree.does_try,
  typed.does_try,
)

pub ruleset when_forms = (
  form.typed_sta_when,
  form.behind_when,
  form.locals_in_when,
  form.stmt_nodes_when,
  node.stmt_nodes_when,
  tree.does_when,
  typed.does_when,
)

-- the numbers of the parts
pub ruleset part_ints = (
  form.stmt_no_ints_if,
  form.stmt_no_ints_while,
  form.stmt_no_ints_try,
  form.stmt_no_ints_when,
  tree.does_if,
  tree.does_while,
  tree.does_try,
  tree.does_when,
)

-- what stands behind `else`
pub ruleset else_forms = (
  form.typed_else_noelse,
  form.typed_else_otherwise,
  form.else_locals_noelse,
  form.else_locals_otherwise,
  form.else_nodes_noelse,
  form.else_nodes_otherwise,
  form.else_no_ints_noelse,
  form.else_no_ints_otherwise,
  node.else_nodes_noelse,
  node.else_nodes_otherwise,
)

pub ruleset may_block_forms = (
  form.typed_may_braces_nobraces,
  form.typed_may_braces_some,
  form.may_braces_locals_nobraces,
  form.may_braces_locals_some,
  form.may_braces_nodes_nobraces,
  form.may_braces_nodes_some,
  form.may_braces_no_ints_nobraces,
  form.may_braces_no_ints_some,
  node.else_nodes_noelse,
  node.else_nodes_otherwise,
)

pub ruleset block_forms = (
  form.typed_braces_in,
  form.braces_locals_in,
  form.braces_nodes_in,
  form.braces_no_ints_in,
  node.stmt_nodes_block,
  tree.braces_is,
  typed.does_block,
)

-- statements one after the other
pub ruleset row_forms = (
  form.typed_stas_end,
  form.typed_stas_then,
  form.all_locals_end,
  form.all_locals_then,
  form.all_nodes_end,
  form.all_nodes_then,
  form.all_no_ints_end,
  form.all_no_ints_then,
  node.all_nodes_end,
  node.all_nodes_then,
  node.stmts_before_none,
  node.stmts_before_all,
  node.stmts_before_push,
  node.all_push,
)

pub ruleset catches_forms = (
  form.typed_catches_nocatch,
  form.typed_catches_catch,
  form.caught_on,
  form.catches_locals_nocatch,
  form.catches_locals_catch,
  form.catch_nodes_nocatch,
  form.catch_nodes_catch,
  form.catches_no_ints_nocatch,
  form.catches_no_ints_catch,
  node.catch_nodes_nocatch,
  node.catch_nodes_catch,
  node.catches_before_none,
  node.catches_before_all,
  node.catches_before_push,
  node.catches_push,
  tree.handler_is,
)

pub ruleset handler_forms = (
  form.typed_handler_on,
  form.handler_locals_on,
  form.handler_nodes_on,
  form.handler_no_ints_on,
  tree.handler_is,
)

-- each form where a statement is told by it
pub ruleset told_block = (
  form.typed_sta_block,
  form.behind_block,
  form.locals_in_block,
  form.stmt_nodes_block,
  form.stmt_no_ints_block,
  tree.does_block,
)

pub ruleset told_return = (
  form.typed_sta_return,
  form.behind_return,
  form.stmt_nodes_return,
  form.stmt_no_ints_return,
  tree.does_return,
)

pub ruleset told_break = (
  form.typed_sta_break,
  form.behind_break,
  form.stmt_nodes_break,
  node.stmt_nodes_break,
  tree.does_break,
  typed.does_break,
)

pub ruleset told_continue = (
  form.typed_sta_continue,
  form.behind_continue,
  form.stmt_nodes_continue,
  node.stmt_nodes_continue,
  tree.does_continue,
  typed.does_continue,
)

pub ruleset told_throw = (
  form.typed_sta_throw,
  form.behind_throw,
  form.stmt_nodes_throw,
  node.stmt_nodes_throw,
  tree.does_throw,
  typed.does_throw,
)

pub ruleset told_open = (
  form.typed_sta_open,
  form.behind_open,
  form.stmt_nodes_open,
  node.stmt_nodes_open,
  tree.does_open,
  typed.does_open,
)

pub ruleset told_close = (
  form.typed_sta_close,
  form.behind_close,
  form.stmt_nodes_close,
  node.stmt_nodes_close,
  tree.does_close,
  typed.does_close,
)

pub ruleset told_local = (
  form.locals_in_declare,
  form.stmt_nodes_declare,
  form.stmt_no_ints_declare,
  tree.does_local,
)

pub ruleset told_assign = (
  form.typed_sta_assign,
  form.behind_assign,
  form.stmt_nodes_assign,
  form.stmt_no_ints_assign,
  tree.does_assign,
)

pub ruleset told_call = (
  form.typed_sta_do,
  form.behind_do,
  form.stmt_nodes_do,
  form.stmt_no_ints_do,
  tree.does_call,
)
