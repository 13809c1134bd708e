use Rattle.std.proofs.Common.{arith}
use Rattle.par_erase.specs.Shown.{inputs_of}
use Rattle.par_erase.proofs.Shown as plain
use Rattle.par_code.proofs.ExprForms.{type_is, operand_is}
use Rattle.par_code.proofs.StmtForms as forms
use Rattle.par_code.proofs.StmtForms.{emits}
use Rattle.par_code.proofs.WayForms.{stmts_left, no_stmts_left, catches_left, no_catches_left}
use Rattle.par_code.proofs.stmts.+stmt.Goals as goal

pub put_all-loop-stmt-preserved : goal.put_all-loop-stmt-preserved
put_all-loop-stmt-preserved t c =
    let more =
    stmts_left (inputs_of c.args.plain.now) c.args.stmts.now c.loop-stmt.stmt-index
    c.stmt-item.result c.loop-stmt-test.true c.stmt-item.is in
    grind (arith, emits)

pub put_all-returns : goal.put_all-returns
put_all-returns t c =
    let none =
    no_stmts_left (inputs_of c.args.plain.now) c.args.stmts.now c.loop-stmt.stmt-index
    c.loop-stmt-test.false in
    grind (arith, emits)

pub put_catches-loop-catch-preserved : goal.put_catches-loop-catch-preserved
put_catches-loop-catch-preserved t c =
    let more =
    catches_left (inputs_of c.args.plain.now) c.args.catches.now c.loop-catch.catch-index
    c.catch-item.result c.loop-catch-test.true c.catch-item.is in
    grind (arith, emits)

pub put_catches-returns : goal.put_catches-returns
put_catches-returns t c =
    let none =
    no_catches_left (inputs_of c.args.plain.now) c.args.catches.now c.loop-catch.catch-index
    c.loop-catch-test.false in
    grind (arith, emits)

pub put_stmt-returns-in-Block : goal.put_stmt-returns-in-Block
put_stmt-returns-in-Block t c =
    grind (arith, plain.does_block, forms.block_is)

pub put_stmt-returns-in_ok-put_else-in-If : goal.put_stmt-returns-in_ok-put_else-in-If
put_stmt-returns-in_ok-put_else-in-If t c =
    grind (arith, plain.does_if, forms.if_is)

pub put_stmt-returns-in_ok-put_else-in-LockIf : goal.put_stmt-returns-in_ok-put_else-in-LockIf
put_stmt-returns-in_ok-put_else-in-LockIf t c =
    grind (arith, plain.does_lock_if, forms.when_is)

pub put_stmt-returns-in_ok-jump_if-in-While : goal.put_stmt-returns-in_ok-jump_if-in-While
put_stmt-returns-in_ok-jump_if-in-While t c =
    grind (arith, plain.does_while, forms.while_is)

pub put_stmt-returns-in_ok-put_catches-in-Try : goal.put_stmt-returns-in_ok-put_catches-in-Try
put_stmt-returns-in_ok-put_catches-in-Try t c =
    grind (arith, plain.does_try, forms.try_is)

pub put_stmt-returns-in-Return : goal.put_stmt-returns-in-Return
put_stmt-returns-in-Return t c =
    grind (arith, plain.does_return, forms.return_is)

pub put_stmt-returns-in-Break : goal.put_stmt-returns-in-Break
put_stmt-returns-in-Break t c =
    grind (arith, plain.does_break, forms.break_is)

pub put_stmt-returns-in-Continue : goal.put_stmt-returns-in-Continue
put_stmt-returns-in-Continue t c =
    grind (arith, plain.does_continue, forms.continue_is)

pub put_stmt-returns-in-Throw : goal.put_stmt-returns-in-Throw
put_stmt-returns-in-Throw t c =
    grind (arith, plain.does_throw, forms.throw_is)

pub put_stmt-returns-in-SetLocal : goal.put_stmt-returns-in-SetLocal
put_stmt-returns-in-SetLocal t c =
    grind (arith, plain.does_set_local, forms.set_local_is, type_is)

pub put_stmt-returns-in-SetStatic : goal.put_stmt-returns-in-SetStatic
put_stmt-returns-in-SetStatic t c =
    grind (arith, plain.does_set_static, forms.set_static_is, type_is)

pub put_stmt-returns-in_ok-put_expr-in-SetField : goal.put_stmt-returns-in_ok-put_expr-in-SetField
put_stmt-returns-in_ok-put_expr-in-SetField t c =
    grind (arith, plain.does_set_field, forms.set_field_is, type_is, operand_is)

pub put_stmt-returns-in-Eval : goal.put_stmt-returns-in-Eval
put_stmt-returns-in-Eval t c =
    grind (arith, plain.does_eval, forms.eval_is, type_is)

pub put_stmt-returns-in-LockSet-default-true : goal.put_stmt-returns-in-LockSet-default-true
put_stmt-returns-in-LockSet-default-true t c =
    grind (arith, plain.does_open, forms.open_is)

pub put_stmt-returns-in-LockSet-default-false : goal.put_stmt-returns-in-LockSet-default-false
put_stmt-returns-in-LockSet-default-false t c =
    grind (arith, plain.does_close, forms.close_is)
