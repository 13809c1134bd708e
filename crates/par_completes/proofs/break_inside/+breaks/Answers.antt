use Rattle.std.proofs.Common.{arith}
use Rattle.par_completes.proofs.Forms.{breaking, breaking_row}
use Rattle.par_completes.proofs.Left.{does_more, does_end, catch_more, catch_end}
use Rattle.par_completes.proofs.break_inside.+breaks.Goals as goal

pub breaks-returns-in-Block : goal.breaks-returns-in-Block
breaks-returns-in-Block t c = grind (arith, breaking)

pub breaks-returns-in-Break : goal.breaks-returns-in-Break
breaks-returns-in-Break t c = grind (arith, breaking)

pub breaks-returns-in-While : goal.breaks-returns-in-While
breaks-returns-in-While t c = grind (arith, breaking)

pub breaks-returns-in-While-2 : goal.breaks-returns-in-While-2
breaks-returns-in-While-2 t c = grind (arith, breaking)

pub breaks-returns-in-While-3 : goal.breaks-returns-in-While-3
breaks-returns-in-While-3 t c = grind (arith, breaking)

pub breaks-returns-in-While-4 : goal.breaks-returns-in-While-4
breaks-returns-in-While-4 t c = grind (arith, breaking)

pub breaks-returns-in-While-5 : goal.breaks-returns-in-While-5
breaks-returns-in-While-5 t c = grind (arith, breaking)

pub breaks-returns-in-While-6 : goal.breaks-returns-in-While-6
breaks-returns-in-While-6 t c = grind (arith, breaking)

pub breaks-returns-in-While-7 : goal.breaks-returns-in-While-7
breaks-returns-in-While-7 t c = grind (arith, breaking)

pub breaks-returns-in-While-8 : goal.breaks-returns-in-While-8
breaks-returns-in-While-8 t c = grind (arith, breaking)

pub breaks-returns-in-While-9 : goal.breaks-returns-in-While-9
breaks-returns-in-While-9 t c = grind (arith, breaking)

pub some_break-returns-then-breaks : goal.some_break-returns-then-breaks
some_break-returns-then-breaks t c =
    let more =
    does_more c.args.stmts.now c.loop-stmt.stmt-index c.stmt-item.result c.loop-stmt-test.true
    c.stmt-item.is in
    grind (arith, breaking_row)

pub some_break-loop-stmt-preserved : goal.some_break-loop-stmt-preserved
some_break-loop-stmt-preserved t c =
    let more =
    does_more c.args.stmts.now c.loop-stmt.stmt-index c.stmt-item.result c.loop-stmt-test.true
    c.stmt-item.is in
    grind (arith, breaking_row)

pub some_break-returns : goal.some_break-returns
some_break-returns t c =
    let none = does_end c.args.stmts.now c.loop-stmt.stmt-index c.loop-stmt-test.false in
    grind (arith, breaking_row)

pub some_catch_breaks-returns-then-catch_breaks : goal.some_catch_breaks-returns-then-catch_breaks
some_catch_breaks-returns-then-catch_breaks t c =
    let more =
    catch_more c.args.catches.now c.loop-catch.catch-index c.catch-item.result
    c.loop-catch-test.true c.catch-item.is in
    grind (arith, breaking_row)

pub some_catch_breaks-loop-catch-preserved : goal.some_catch_breaks-loop-catch-preserved
some_catch_breaks-loop-catch-preserved t c =
    let more =
    catch_more c.args.catches.now c.loop-catch.catch-index c.catch-item.result
    c.loop-catch-test.true c.catch-item.is in
    grind (arith, breaking_row)

pub some_catch_breaks-returns : goal.some_catch_breaks-returns
some_catch_breaks-returns t c =
    let none = catch_end c.args.catches.now c.loop-catch.catch-index c.loop-catch-test.false in
    grind (arith, breaking_row)
