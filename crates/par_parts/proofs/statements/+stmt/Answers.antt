use Rattle.std.proofs.Common.{arith}
use Rattle.par_parts.specs.Statements.{inside}
use Rattle.par_parts.proofs.Gathers.{gathers}
use Rattle.par_parts.proofs.statements.+stmt.Goals as goal

pub in_block-returns : goal.in_block-returns
unfolding inside
in_block-returns t c = grind (arith, gathers)

pub in_stmt-returns-in-Block : goal.in_stmt-returns-in-Block
unfolding inside
in_stmt-returns-in-Block t c = grind (arith, gathers)

pub in_stmt-returns-in_ok-in_block-in-If : goal.in_stmt-returns-in_ok-in_block-in-If
unfolding inside
in_stmt-returns-in_ok-in_block-in-If t c = grind (arith, gathers)

pub in_stmt-returns-in_ok-in_block-in-Try : goal.in_stmt-returns-in_ok-in_block-in-Try
unfolding inside
in_stmt-returns-in_ok-in_block-in-Try t c = grind (arith, gathers)

pub in_stmt-returns-in_ok-in_block-in-When : goal.in_stmt-returns-in_ok-in_block-in-When
unfolding inside
in_stmt-returns-in_ok-in_block-in-When t c = grind (arith, gathers)

pub in_stmt-returns-in-Return : goal.in_stmt-returns-in-Return
unfolding inside
in_stmt-returns-in-Return t c = grind (arith, gathers)

pub in_stmt-returns-in-Return-2 : goal.in_stmt-returns-in-Return-2
unfolding inside
in_stmt-returns-in-Return-2 t c = grind (arith, gathers)

pub in_stmt-returns-in-Return-3 : goal.in_stmt-returns-in-Return-3
unfolding inside
in_stmt-returns-in-Return-3 t c = grind (arith, gathers)

pub in_stmt-returns-in-Return-4 : goal.in_stmt-returns-in-Return-4
unfolding inside
in_stmt-returns-in-Return-4 t c = grind (arith, gathers)

pub in_stmt-returns-in-Return-5 : goal.in_stmt-returns-in-Return-5
unfolding inside
in_stmt-returns-in-Return-5 t c = grind (arith, gathers)

pub in_stmt-returns-in-Return-6 : goal.in_stmt-returns-in-Return-6
unfolding inside
in_stmt-returns-in-Return-6 t c = grind (arith, gathers)

pub in_stmt-returns-in-Return-7 : goal.in_stmt-returns-in-Return-7
unfolding inside
in_stmt-returns-in-Return-7 t c = grind (arith, gathers)

pub in_stmt-returns-in-Return-8 : goal.in_stmt-returns-in-Return-8
unfolding inside
in_stmt-returns-in-Return-8 t c = grind (arith, gathers)

pub in_stmt-returns-in-Return-9 : goal.in_stmt-returns-in-Return-9
unfolding inside
in_stmt-returns-in-Return-9 t c = grind (arith, gathers)

pub in_else-returns-in-None : goal.in_else-returns-in-None
unfolding inside
in_else-returns-in-None t c = grind (arith, gathers)

pub in_else-returns-in_ok-push-in-Some : goal.in_else-returns-in_ok-push-in-Some
unfolding inside
in_else-returns-in_ok-push-in-Some t c = grind (arith, gathers)

pub in_else_block-returns-in-None : goal.in_else_block-returns-in-None
unfolding inside
in_else_block-returns-in-None t c = grind (arith, gathers)

pub in_else_block-returns-in-Some : goal.in_else_block-returns-in-Some
unfolding inside
in_else_block-returns-in-Some t c = grind (arith, gathers)
