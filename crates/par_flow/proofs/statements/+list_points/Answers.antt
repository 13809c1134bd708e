use Rattle.std.proofs.Common.{arith}
use Rattle.par_asked.proofs.Left.{stmts_left, no_stmts_left, catches_left}
use Rattle.par_asked.proofs.Left.{no_catches_left}
use Rattle.par_flow.proofs.Points.{statements}
use Rattle.par_flow.proofs.statements.+list_points.Goals as goal

pub list_points-returns-in-Block : goal.list_points-returns-in-Block
list_points-returns-in-Block t c = grind (arith, statements)

pub list_points-returns-in_ok-list_points-in-If : goal.list_points-returns-in_ok-list_points-in-If
list_points-returns-in_ok-list_points-in-If t c = grind (arith, statements)

pub list_points-returns-in-While : goal.list_points-returns-in-While
list_points-returns-in-While t c = grind (arith, statements)

pub list_points-returns-in_ok-list_points-in-Try : goal.list_points-returns-in_ok-list_points-in-Try
list_points-returns-in_ok-list_points-in-Try t c = grind (arith, statements)

pub list_points-returns-in_ok-list_points-in-When
    : goal.list_points-returns-in_ok-list_points-in-When
list_points-returns-in_ok-list_points-in-When t c = grind (arith, statements)

pub list_points-returns-in-Return : goal.list_points-returns-in-Return
list_points-returns-in-Return t c = grind (arith, statements)

pub list_points-returns-in-Return-2 : goal.list_points-returns-in-Return-2
list_points-returns-in-Return-2 t c = grind (arith, statements)

pub list_points-returns-in-Return-3 : goal.list_points-returns-in-Return-3
list_points-returns-in-Return-3 t c = grind (arith, statements)

pub list_points-returns-in-Return-4 : goal.list_points-returns-in-Return-4
list_points-returns-in-Return-4 t c = grind (arith, statements)

pub list_points-returns-in-OpenLock : goal.list_points-returns-in-OpenLock
list_points-returns-in-OpenLock t c = grind (arith, statements)

pub list_points-returns-in-OpenLock-2 : goal.list_points-returns-in-OpenLock-2
list_points-returns-in-OpenLock-2 t c = grind (arith, statements)

pub list_points-returns-in-OpenLock-3 : goal.list_points-returns-in-OpenLock-3
list_points-returns-in-OpenLock-3 t c = grind (arith, statements)

pub list_points-returns-in-SetLocal : goal.list_points-returns-in-SetLocal
list_points-returns-in-SetLocal t c = grind (arith, statements)

pub list_points-returns-in-SetLocal-2 : goal.list_points-returns-in-SetLocal-2
list_points-returns-in-SetLocal-2 t c = grind (arith, statements)

pub list_points-returns-in-SetField : goal.list_points-returns-in-SetField
list_points-returns-in-SetField t c = grind (arith, statements)

pub list_other-returns-in-None : goal.list_other-returns-in-None
list_other-returns-in-None t c = grind (arith, statements)

pub list_other-returns-in-Some : goal.list_other-returns-in-Some
list_other-returns-in-Some t c = grind (arith, statements)

pub list_all-loop-s-preserved : goal.list_all-loop-s-preserved
list_all-loop-s-preserved t c =
    let more =
    stmts_left c.args.body.now c.loop-s.s-index c.s-item.result c.loop-s-test.true c.s-item.is in
    grind (arith, statements)

pub list_all-returns : goal.list_all-returns
list_all-returns t c =
    let none = no_stmts_left c.args.body.now c.loop-s.s-index c.loop-s-test.false in
    grind (arith, statements)

pub list_catches-loop-catch-preserved : goal.list_catches-loop-catch-preserved
list_catches-loop-catch-preserved t c =
    let more =
    catches_left c.args.catches.now c.loop-catch.catch-index c.catch-item.result
    c.loop-catch-test.true c.catch-item.is in
    grind (arith, statements)

pub list_catches-returns : goal.list_catches-returns
list_catches-returns t c =
    let none =
    no_catches_left c.args.catches.now c.loop-catch.catch-index c.loop-catch-test.false in
    grind (arith, statements)
