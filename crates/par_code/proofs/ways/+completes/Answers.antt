use Rattle.std.proofs.Common.{arith}
use Rattle.par_code.proofs.WayForms.{completing_row, stmts_left, no_stmts_left, catches_left}
use Rattle.par_code.proofs.WayForms.{no_catches_left}
use Rattle.par_erase.proofs.Shown as plain
use Rattle.par_code.proofs.WayForms as forms
use Rattle.par_code.proofs.ways.+completes.Goals as goal

pub last_completes-loop-stmt-preserved : goal.last_completes-loop-stmt-preserved
last_completes-loop-stmt-preserved t c = λ i.
    let more =
    stmts_left i c.args.stmts.now c.loop-stmt.stmt-index c.stmt-item.result c.loop-stmt-test.true
    c.stmt-item.is in
    grind (arith, completing_row)

pub last_completes-returns : goal.last_completes-returns
last_completes-returns t c = λ i.
    let none = no_stmts_left i c.args.stmts.now c.loop-stmt.stmt-index c.loop-stmt-test.false in
    grind (arith, completing_row)

pub some_catch_completes-returns-then-completes
    : goal.some_catch_completes-returns-then-completes
some_catch_completes-returns-then-completes t c = λ i.
    let more =
    catches_left i c.args.catches.now c.loop-catch.catch-index c.catch-item.result
    c.loop-catch-test.true c.catch-item.is in
    grind (arith, completing_row)

pub some_catch_completes-loop-catch-preserved : goal.some_catch_completes-loop-catch-preserved
some_catch_completes-loop-catch-preserved t c = λ i.
    let more =
    catches_left i c.args.catches.now c.loop-catch.catch-index c.catch-item.result
    c.loop-catch-test.true c.catch-item.is in
    grind (arith, completing_row)

pub some_catch_completes-returns : goal.some_catch_completes-returns
some_catch_completes-returns t c = λ i.
    let none =
    no_catches_left i c.args.catches.now c.loop-catch.catch-index c.loop-catch-test.false in
    grind (arith, completing_row)

pub completes-returns-in-Block : goal.completes-returns-in-Block
completes-returns-in-Block t c = λ i. grind (arith, plain.does_block, forms.completes_block)

pub completes-returns-in-Return : goal.completes-returns-in-Return
completes-returns-in-Return t c = λ i. grind (arith, plain.does_return, forms.completes_return)

pub completes-returns-in-Break : goal.completes-returns-in-Break
completes-returns-in-Break t c = λ i. grind (arith, plain.does_break, forms.completes_break)

pub completes-returns-in-Continue : goal.completes-returns-in-Continue
completes-returns-in-Continue t c = λ i.
    grind (arith, plain.does_continue, forms.completes_continue)

pub completes-returns-in-Throw : goal.completes-returns-in-Throw
completes-returns-in-Throw t c = λ i. grind (arith, plain.does_throw, forms.completes_throw)

pub completes-returns-in-SetLocal : goal.completes-returns-in-SetLocal
completes-returns-in-SetLocal t c = λ i.
    grind (arith, plain.does_set_local, forms.completes_set_local)

pub completes-returns-in-SetStatic : goal.completes-returns-in-SetStatic
completes-returns-in-SetStatic t c = λ i.
    grind (arith, plain.does_set_static, forms.completes_set_static)

pub completes-returns-in-SetField : goal.completes-returns-in-SetField
completes-returns-in-SetField t c = λ i.
    grind (arith, plain.does_set_field, forms.completes_set_field)

pub completes-returns-in-Eval : goal.completes-returns-in-Eval
completes-returns-in-Eval t c = λ i. grind (arith, plain.does_eval, forms.completes_eval)

pub completes-returns-in-LockSet : goal.completes-returns-in-LockSet
completes-returns-in-LockSet t c = λ i. grind (arith, forms.completes_lock_set)
