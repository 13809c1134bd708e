use Rattle.std.proofs.Common.{rules, arith}
use Rattle.par_tree.specs.declared.stmt.StmtKind.TheViews.{the_lemmas}
use Rattle.par_tree.proofs.Shown.{doings}
use Rattle.par_scope.specs.Own.{locals_in}
use Rattle.par_faults.proofs.locals.+stmt.Goals as goal

pub in_block-in_stmts-requires : goal.in_block-in_stmts-requires
unfolding locals_in
in_block-in_stmts-requires t c = (search (rules, the_lemmas), grind (arith, doings))

pub in_stmt-in_block-requires : goal.in_stmt-in_block-requires
unfolding locals_in
in_stmt-in_block-requires t c = (search (rules, the_lemmas), grind (arith, doings))

pub in_stmt-in_else-requires : goal.in_stmt-in_else-requires
unfolding locals_in
in_stmt-in_else-requires t c = (search (rules, the_lemmas), grind (arith, doings))

pub in_stmt-in_block-requires-in-Try : goal.in_stmt-in_block-requires-in-Try
unfolding locals_in
in_stmt-in_block-requires-in-Try t c = (search (rules, the_lemmas), grind (arith, doings))

pub in_stmt-in_catches-requires : goal.in_stmt-in_catches-requires
unfolding locals_in
in_stmt-in_catches-requires t c = (search (rules, the_lemmas), grind (arith, doings))

pub in_stmt-in_block-requires-in-When : goal.in_stmt-in_block-requires-in-When
unfolding locals_in
in_stmt-in_block-requires-in-When t c = (search (rules, the_lemmas), grind (arith, doings))

pub in_stmt-in_else_block-requires : goal.in_stmt-in_else_block-requires
unfolding locals_in
in_stmt-in_else_block-requires t c = (search (rules, the_lemmas), grind (arith, doings))

pub in_stmt-in_block-requires-in-Block : goal.in_stmt-in_block-requires-in-Block
unfolding locals_in
in_stmt-in_block-requires-in-Block t c = (search (rules, the_lemmas), grind (arith, doings))

pub in_catch-in_block-requires : goal.in_catch-in_block-requires
unfolding locals_in
in_catch-in_block-requires t c = (search (rules, the_lemmas), grind (arith, doings))
