use Rattle.std.proofs.Common.{arith}
use Rattle.par_typed.proofs.Shown as typed
use Rattle.par_erase.proofs.Shown as plain
use Rattle.par_erase.proofs.StmtForms as forms
use Rattle.par_erase.proofs.StmtForms.{stas_left, no_stas_left, catches_left, no_catches_left}
use Rattle.par_erase.proofs.StmtForms.{row_forms}
use Rattle.par_erase.proofs.stmts.+stmt.Goals as goal

pub erase_stmts-loop-stmt-preserved : goal.erase_stmts-loop-stmt-preserved
erase_stmts-loop-stmt-preserved t c =
    let more =
    stas_left c.args.stmts.now c.loop-stmt.stmt-index c.stmt-item.result c.loop-stmt-test.true
    c.stmt-item.is in
    grind (arith, row_forms)

pub erase_stmts-returns : goal.erase_stmts-returns
erase_stmts-returns t c =
    let none = no_stas_left c.args.stmts.now c.loop-stmt.stmt-index c.loop-stmt-test.false in
    grind (arith, row_forms)

pub erase_catches-loop-catch-preserved : goal.erase_catches-loop-catch-preserved
erase_catches-loop-catch-preserved t c =
    let more =
    catches_left c.args.catches.now c.loop-catch.catch-index c.catch-item.result
    c.loop-catch-test.true c.catch-item.is in
    grind (arith, row_forms)

pub erase_catches-returns : goal.erase_catches-returns
erase_catches-returns t c =
    let none =
    no_catches_left c.args.catches.now c.loop-catch.catch-index c.loop-catch-test.false in
    grind (arith, row_forms)

pub erase_stmt-returns-in_ok-stmts-in-Block : goal.erase_stmt-returns-in_ok-stmts-in-Block
erase_stmt-returns-in_ok-stmts-in-Block t c =
    grind (arith, typed.does_block, plain.does_block, forms.erased_block)

pub erase_stmt-returns-in_ok-test-in-If : goal.erase_stmt-returns-in_ok-test-in-If
erase_stmt-returns-in_ok-test-in-If t c =
    grind (arith, typed.does_if, plain.does_if, forms.erased_if)

pub erase_stmt-returns-in_ok-test-in-While : goal.erase_stmt-returns-in_ok-test-in-While
erase_stmt-returns-in_ok-test-in-While t c =
    grind (arith, typed.does_while, plain.does_while, forms.erased_while)

pub erase_stmt-returns-in_ok-catches-in-Try : goal.erase_stmt-returns-in_ok-catches-in-Try
erase_stmt-returns-in_ok-catches-in-Try t c =
    grind (arith, typed.does_try, plain.does_try, forms.erased_try)

pub erase_stmt-returns-in_ok-value-in-Return : goal.erase_stmt-returns-in_ok-value-in-Return
erase_stmt-returns-in_ok-value-in-Return t c =
    grind (arith, typed.does_return, plain.does_return, forms.erased_return)

pub erase_stmt-returns-in-Break : goal.erase_stmt-returns-in-Break
erase_stmt-returns-in-Break t c =
    grind (arith, typed.does_break, plain.does_break, forms.erased_break)

pub erase_stmt-returns-in-Continue : goal.erase_stmt-returns-in-Continue
erase_stmt-returns-in-Continue t c =
    grind (arith, typed.does_continue, plain.does_continue, forms.erased_continue)

pub erase_stmt-returns-in-Throw : goal.erase_stmt-returns-in-Throw
erase_stmt-returns-in-Throw t c =
    grind (arith, typed.does_throw, plain.does_throw, forms.erased_throw)

pub erase_stmt-returns-in-OpenLock : goal.erase_stmt-returns-in-OpenLock
erase_stmt-returns-in-OpenLock t c =
    grind (arith, typed.does_open, forms.erased_open)

pub erase_stmt-returns-in-CloseLock : goal.erase_stmt-returns-in-CloseLock
erase_stmt-returns-in-CloseLock t c =
    grind (arith, typed.does_close, forms.erased_close)

pub erase_stmt-returns-in_ok-value-in-SetLocal : goal.erase_stmt-returns-in_ok-value-in-SetLocal
erase_stmt-returns-in_ok-value-in-SetLocal t c =
    grind (arith, typed.does_set_local, plain.does_set_local, forms.erased_set_local)

pub erase_stmt-returns-in_ok-value-in-SetStatic : goal.erase_stmt-returns-in_ok-value-in-SetStatic
erase_stmt-returns-in_ok-value-in-SetStatic t c =
    grind (arith, typed.does_set_static, plain.does_set_static, forms.erased_set_static)

pub erase_stmt-returns-in_ok-value-in-SetField : goal.erase_stmt-returns-in_ok-value-in-SetField
erase_stmt-returns-in_ok-value-in-SetField t c =
    grind (arith, typed.does_set_field, plain.does_set_field, forms.erased_set_field)

pub erase_stmt-returns-in_ok-expr-in-Eval : goal.erase_stmt-returns-in_ok-expr-in-Eval
erase_stmt-returns-in_ok-expr-in-Eval t c =
    grind (arith, typed.does_eval, plain.does_eval, forms.erased_eval)

pub erase_stmt-returns-in_ok-other-in-When : goal.erase_stmt-returns-in_ok-other-in-When
erase_stmt-returns-in_ok-other-in-When t c =
    grind (arith, typed.does_when, plain.does_lock_if, forms.erased_when)
