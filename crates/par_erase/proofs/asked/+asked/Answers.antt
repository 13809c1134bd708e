use Rattle.std.proofs.Common.{arith}
use Rattle.par_erase.proofs.StmtForms.{stas_left, no_stas_left, catches_left, no_catches_left}
use Rattle.par_erase.proofs.Asks.{rows}
use Rattle.par_typed.proofs.Shown as typed
use Rattle.par_erase.proofs.Asks as asks
use Rattle.par_erase.proofs.asked.+asked.Goals as goal

pub gather_all-loop-stmt-preserved : goal.gather_all-loop-stmt-preserved
gather_all-loop-stmt-preserved t c =
    let more =
    stas_left c.args.stmts.now c.loop-stmt.stmt-index c.stmt-item.result c.loop-stmt-test.true
    c.stmt-item.is in
    grind (arith, rows)

pub gather_all-returns : goal.gather_all-returns
gather_all-returns t c =
    let none = no_stas_left c.args.stmts.now c.loop-stmt.stmt-index c.loop-stmt-test.false in
    grind (arith, rows)

pub gather_catches-loop-catch-preserved : goal.gather_catches-loop-catch-preserved
gather_catches-loop-catch-preserved t c =
    let more =
    catches_left c.args.catches.now c.loop-catch.catch-index c.catch-item.result
    c.loop-catch-test.true c.catch-item.is in
    grind (arith, rows)

pub gather_catches-returns : goal.gather_catches-returns
gather_catches-returns t c =
    let none =
    no_catches_left c.args.catches.now c.loop-catch.catch-index c.loop-catch-test.false in
    grind (arith, rows)

pub gather-returns-in-Block : goal.gather-returns-in-Block
gather-returns-in-Block t c =
    grind (arith, typed.does_block, asks.asks_block)

pub gather-returns-in_ok-gather-in-If : goal.gather-returns-in_ok-gather-in-If
gather-returns-in_ok-gather-in-If t c =
    grind (arith, typed.does_if, asks.asks_if, asks.either_assoc)

pub gather-returns-in-While : goal.gather-returns-in-While
gather-returns-in-While t c =
    grind (arith, typed.does_while, asks.asks_while)

pub gather-returns-in_ok-gather-in-Try : goal.gather-returns-in_ok-gather-in-Try
gather-returns-in_ok-gather-in-Try t c =
    grind (arith, typed.does_try, asks.asks_try, asks.either_assoc)

pub gather-returns-in_ok-gather-in-When : goal.gather-returns-in_ok-gather-in-When
gather-returns-in_ok-gather-in-When t c =
    grind (arith, typed.does_when, asks.asks_when, asks.either_assoc)

pub gather-returns-in-Return : goal.gather-returns-in-Return
gather-returns-in-Return t c =
    grind (arith, typed.does_return, asks.asks_return, asks.either_none)

pub gather-returns-in-Break : goal.gather-returns-in-Break
gather-returns-in-Break t c =
    grind (arith, typed.does_break, asks.asks_break, asks.either_none)

pub gather-returns-in-Continue : goal.gather-returns-in-Continue
gather-returns-in-Continue t c =
    grind (arith, typed.does_continue, asks.asks_continue, asks.either_none)

pub gather-returns-in-Throw : goal.gather-returns-in-Throw
gather-returns-in-Throw t c =
    grind (arith, typed.does_throw, asks.asks_throw, asks.either_none)

pub gather-returns-in-OpenLock : goal.gather-returns-in-OpenLock
gather-returns-in-OpenLock t c =
    grind (arith, typed.does_open, asks.asks_open, asks.either_none)

pub gather-returns-in-CloseLock : goal.gather-returns-in-CloseLock
gather-returns-in-CloseLock t c =
    grind (arith, typed.does_close, asks.asks_close, asks.either_none)

pub gather-returns-in-SetLocal : goal.gather-returns-in-SetLocal
gather-returns-in-SetLocal t c =
    grind (arith, typed.does_set_local, asks.asks_set_local, asks.either_none)

pub gather-returns-in-SetStatic : goal.gather-returns-in-SetStatic
gather-returns-in-SetStatic t c =
    grind (arith, typed.does_set_static, asks.asks_set_static, asks.either_none)

pub gather-returns-in-SetField : goal.gather-returns-in-SetField
gather-returns-in-SetField t c =
    grind (arith, typed.does_set_field, asks.asks_set_field, asks.either_none)

pub gather-returns-in-Eval : goal.gather-returns-in-Eval
gather-returns-in-Eval t c =
    grind (arith, typed.does_eval, asks.asks_eval, asks.either_none)
