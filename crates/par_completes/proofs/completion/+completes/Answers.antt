use Rattle.std.proofs.Common.{arith}
use Rattle.par_completes.proofs.Forms.{completing, completing_row}
use Rattle.par_completes.proofs.Left.{does_more, does_end, catch_more, catch_end}
use Rattle.par_completes.proofs.completion.+completes.Goals as goal

pub completes-returns-in-Block : goal.completes-returns-in-Block
completes-returns-in-Block t c = grind (arith, completing)

pub completes-returns-in-Return : goal.completes-returns-in-Return
completes-returns-in-Return t c = grind (arith, completing)

pub completes-returns-in-Return-2 : goal.completes-returns-in-Return-2
completes-returns-in-Return-2 t c = grind (arith, completing)

pub completes-returns-in-Return-3 : goal.completes-returns-in-Return-3
completes-returns-in-Return-3 t c = grind (arith, completing)

pub completes-returns-in-Return-4 : goal.completes-returns-in-Return-4
completes-returns-in-Return-4 t c = grind (arith, completing)

pub completes-returns-in-OpenLock : goal.completes-returns-in-OpenLock
completes-returns-in-OpenLock t c = grind (arith, completing)

pub completes-returns-in-OpenLock-2 : goal.completes-returns-in-OpenLock-2
completes-returns-in-OpenLock-2 t c = grind (arith, completing)

pub completes-returns-in-OpenLock-3 : goal.completes-returns-in-OpenLock-3
completes-returns-in-OpenLock-3 t c = grind (arith, completing)

pub completes-returns-in-OpenLock-4 : goal.completes-returns-in-OpenLock-4
completes-returns-in-OpenLock-4 t c = grind (arith, completing)

pub completes-returns-in-OpenLock-5 : goal.completes-returns-in-OpenLock-5
completes-returns-in-OpenLock-5 t c = grind (arith, completing)

pub last_completes-loop-stmt-preserved : goal.last_completes-loop-stmt-preserved
last_completes-loop-stmt-preserved t c =
    let more =
    does_more c.args.stmts.now c.loop-stmt.stmt-index c.stmt-item.result c.loop-stmt-test.true
    c.stmt-item.is in
    grind (arith, completing_row)

pub last_completes-returns : goal.last_completes-returns
last_completes-returns t c =
    let none = does_end c.args.stmts.now c.loop-stmt.stmt-index c.loop-stmt-test.false in
    grind (arith, completing_row)

pub some_catch_completes-returns-then-catch_completes
    : goal.some_catch_completes-returns-then-catch_completes
some_catch_completes-returns-then-catch_completes t c =
    let more =
    catch_more c.args.catches.now c.loop-catch.catch-index c.catch-item.result
    c.loop-catch-test.true c.catch-item.is in
    grind (arith, completing_row)

pub some_catch_completes-loop-catch-preserved : goal.some_catch_completes-loop-catch-preserved
some_catch_completes-loop-catch-preserved t c =
    let more =
    catch_more c.args.catches.now c.loop-catch.catch-index c.catch-item.result
    c.loop-catch-test.true c.catch-item.is in
    grind (arith, completing_row)

pub some_catch_completes-returns : goal.some_catch_completes-returns
some_catch_completes-returns t c =
    let none = catch_end c.args.catches.now c.loop-catch.catch-index c.loop-catch-test.false in
    grind (arith, completing_row)
