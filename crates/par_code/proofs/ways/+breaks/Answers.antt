use Rattle.std.proofs.Common.{arith}
use Rattle.par_code.proofs.WayForms.{breaking_row, stmts_left, no_stmts_left, catches_left}
use Rattle.par_code.proofs.WayForms.{no_catches_left}
use Rattle.par_erase.proofs.Shown as plain
use Rattle.par_code.proofs.WayForms as forms
use Rattle.par_code.proofs.ways.+breaks.Goals as goal

pub some_break-returns-then-breaks : goal.some_break-returns-then-breaks
some_break-returns-then-breaks t c = λ i.
    let more =
    stmts_left i c.args.stmts.now c.loop-stmt.stmt-index c.stmt-item.result c.loop-stmt-test.true
    c.stmt-item.is in
    grind (arith, breaking_row)

pub some_break-loop-stmt-preserved : goal.some_break-loop-stmt-preserved
some_break-loop-stmt-preserved t c = λ i.
    let more =
    stmts_left i c.args.stmts.now c.loop-stmt.stmt-index c.stmt-item.result c.loop-stmt-test.true
    c.stmt-item.is in
    grind (arith, breaking_row)

pub some_break-returns : goal.some_break-returns
some_break-returns t c = λ i.
    let none = no_stmts_left i c.args.stmts.now c.loop-stmt.stmt-index c.loop-stmt-test.false in
    grind (arith, breaking_row)

pub some_catch_breaks-returns-then-breaks : goal.some_catch_breaks-returns-then-breaks
some_catch_breaks-returns-then-breaks t c = λ i.
    let more =
    catches_left i c.args.catches.now c.loop-catch.catch-index c.catch-item.result
    c.loop-catch-test.true c.catch-item.is in
    grind (arith, breaking_row)

pub some_catch_breaks-loop-catch-preserved : goal.some_catch_breaks-loop-catch-preserved
some_catch_breaks-loop-catch-preserved t c = λ i.
    let more =
    catches_left i c.args.catches.now c.loop-catch.catch-index c.catch-item.result
    c.loop-catch-test.true c.catch-item.is in
    grind (arith, breaking_row)

pub some_catch_breaks-returns : goal.some_catch_breaks-returns
some_catch_breaks-returns t c = λ i.
    let none =
    no_catches_left i c.args.catches.now c.loop-catch.catch-index c.loop-catch-test.false in
    grind (arith, breaking_row)

pub breaks-returns-in-Block : goal.breaks-returns-in-Block
breaks-returns-in-Block t c = λ i. grind (arith, plain.does_block, forms.breaks_block)

pub breaks-returns-in-Break : goal.breaks-returns-in-Break
breaks-returns-in-Break t c = λ i. grind (arith, plain.does_break, forms.breaks_break)

pub breaks-returns-in-While : goal.breaks-returns-in-While
breaks-returns-in-While t c = λ i. grind (arith, plain.does_while, forms.breaks_while)

pub breaks-returns-in-Return : goal.breaks-returns-in-Return
breaks-returns-in-Return t c = λ i. grind (arith, plain.does_return, forms.breaks_return)

pub breaks-returns-in-Continue : goal.breaks-returns-in-Continue
breaks-returns-in-Continue t c = λ i. grind (arith, plain.does_continue, forms.breaks_continue)

pub breaks-returns-in-Throw : goal.breaks-returns-in-Throw
breaks-returns-in-Throw t c = λ i. grind (arith, plain.does_throw, forms.breaks_throw)

pub breaks-returns-in-SetLocal : goal.breaks-returns-in-SetLocal
breaks-returns-in-SetLocal t c = λ i. grind (arith, plain.does_set_local, forms.breaks_set_local)

pub breaks-returns-in-SetStatic : goal.breaks-returns-in-SetStatic
breaks-returns-in-SetStatic t c = λ i. grind (arith, plain.does_set_static, forms.breaks_set_static)

pub breaks-returns-in-SetField : goal.breaks-returns-in-SetField
breaks-returns-in-SetField t c = λ i. grind (arith, plain.does_set_field, forms.breaks_set_field)

pub breaks-returns-in-Eval : goal.breaks-returns-in-Eval
breaks-returns-in-Eval t c = λ i. grind (arith, plain.does_eval, forms.breaks_eval)

pub breaks-returns-in-LockSet : goal.breaks-returns-in-LockSet
breaks-returns-in-LockSet t c = λ i. grind (arith, forms.breaks_lock_set)
