use Rattle.std.proofs.Common.{arith}
use Rattle.par_code.proofs.AgainForms.{continuing_row}
use Rattle.par_code.proofs.WayForms.{stmts_left, no_stmts_left, catches_left}
use Rattle.par_code.proofs.WayForms.{no_catches_left}
use Rattle.par_erase.proofs.Shown as plain
use Rattle.par_code.proofs.AgainForms as forms
use Rattle.par_code.proofs.again.+continues.Goals as goal

pub some_continue-returns-then-continues : goal.some_continue-returns-then-continues
some_continue-returns-then-continues t c = λ i.
    let more =
    stmts_left i c.args.stmts.now c.loop-stmt.stmt-index c.stmt-item.result c.loop-stmt-test.true
    c.stmt-item.is in
    grind (arith, continuing_row)

pub some_continue-loop-stmt-preserved : goal.some_continue-loop-stmt-preserved
some_continue-loop-stmt-preserved t c = λ i.
    let more =
    stmts_left i c.args.stmts.now c.loop-stmt.stmt-index c.stmt-item.result c.loop-stmt-test.true
    c.stmt-item.is in
    grind (arith, continuing_row)

pub some_continue-returns : goal.some_continue-returns
some_continue-returns t c = λ i.
    let none = no_stmts_left i c.args.stmts.now c.loop-stmt.stmt-index c.loop-stmt-test.false in
    grind (arith, continuing_row)

pub some_catch_continues-returns-then-continues : goal.some_catch_continues-returns-then-continues
some_catch_continues-returns-then-continues t c = λ i.
    let more =
    catches_left i c.args.catches.now c.loop-catch.catch-index c.catch-item.result
    c.loop-catch-test.true c.catch-item.is in
    grind (arith, continuing_row)

pub some_catch_continues-loop-catch-preserved : goal.some_catch_continues-loop-catch-preserved
some_catch_continues-loop-catch-preserved t c = λ i.
    let more =
    catches_left i c.args.catches.now c.loop-catch.catch-index c.catch-item.result
    c.loop-catch-test.true c.catch-item.is in
    grind (arith, continuing_row)

pub some_catch_continues-returns : goal.some_catch_continues-returns
some_catch_continues-returns t c = λ i.
    let none =
    no_catches_left i c.args.catches.now c.loop-catch.catch-index c.loop-catch-test.false in
    grind (arith, continuing_row)

pub continues-returns-in-Block : goal.continues-returns-in-Block
continues-returns-in-Block t c = λ i. grind (arith, plain.does_block, forms.continues_block)

pub continues-returns-in-Continue : goal.continues-returns-in-Continue
continues-returns-in-Continue t c = λ i.
    grind (arith, plain.does_continue, forms.continues_continue)

pub continues-returns-in-While : goal.continues-returns-in-While
continues-returns-in-While t c = λ i. grind (arith, plain.does_while, forms.continues_while)

pub continues-returns-in-Return : goal.continues-returns-in-Return
continues-returns-in-Return t c = λ i. grind (arith, plain.does_return, forms.continues_return)

pub continues-returns-in-Break : goal.continues-returns-in-Break
continues-returns-in-Break t c = λ i. grind (arith, plain.does_break, forms.continues_break)

pub continues-returns-in-Throw : goal.continues-returns-in-Throw
continues-returns-in-Throw t c = λ i. grind (arith, plain.does_throw, forms.continues_throw)

pub continues-returns-in-SetLocal : goal.continues-returns-in-SetLocal
continues-returns-in-SetLocal t c = λ i.
    grind (arith, plain.does_set_local, forms.continues_set_local)

pub continues-returns-in-SetStatic : goal.continues-returns-in-SetStatic
continues-returns-in-SetStatic t c = λ i.
    grind (arith, plain.does_set_static, forms.continues_set_static)

pub continues-returns-in-SetField : goal.continues-returns-in-SetField
continues-returns-in-SetField t c = λ i.
    grind (arith, plain.does_set_field, forms.continues_set_field)

pub continues-returns-in-Eval : goal.continues-returns-in-Eval
continues-returns-in-Eval t c = λ i. grind (arith, plain.does_eval, forms.continues_eval)

pub continues-returns-in-LockSet : goal.continues-returns-in-LockSet
continues-returns-in-LockSet t c = λ i. grind (arith, forms.continues_lock_set)
