use Rattle.std.proofs.Common.{refl}
use Rattle.par_source_state.specs.Stored.{holds}
use Rattle.par_meaning.proofs.Started as started
use Rattle.par_meaning.proofs.stmts.enter_stmt.Goals as goal

pub returns-in-Block : goal.returns-in-Block
returns-in-Block c =
    started.costs_block c.args.machine.now c.args.stmt.now
    c.in-Block.stmts c.as_slice.result _ c.in-Block.is c.as_slice.ensures c.statements.ensures

pub returns-in-If : goal.returns-in-If
returns-in-If c =
    started.costs_if c.args.machine.now c.args.stmt.now
    c.in-If.test c.in-If.body c.in-If.other c.deref.result _
    c.in-If.is refl c.deref.ensures refl c.part.ensures

pub returns-in-While : goal.returns-in-While
returns-in-While c =
    started.costs_while c.args.machine.now c.args.stmt.now
    c.in-While.test c.in-While.body c.deref-in-While.result _
    c.in-While.is refl c.deref-in-While.ensures c.part-in-While.ensures

pub returns-in-Try : goal.returns-in-Try
returns-in-Try c =
    started.costs_try c.args.machine.now c.args.stmt.now
    c.in-Try.body c.in-Try.catches c.deref-in-Try.result c.as_slice-in-Try.result
    c.in-Try.is c.deref-in-Try.ensures c.as_slice-in-Try.ensures

pub returns-in-Return : goal.returns-in-Return
returns-in-Return c =
    started.costs_return c.args.machine.now c.args.stmt.now
    c.in-Return.value _ c.in-Return.is c.enter_return.ensures

pub returns-in-Break : goal.returns-in-Break
returns-in-Break c =
    started.costs_break c.args.machine.now c.args.stmt.now _ c.in-Break.is c.leaves.ensures

pub returns-in-Continue : goal.returns-in-Continue
returns-in-Continue c =
    started.costs_continue c.args.machine.now c.args.stmt.now
    _ c.in-Continue.is c.leaves-in-Continue.ensures

pub returns-in-Throw : goal.returns-in-Throw
returns-in-Throw c =
    started.costs_throw c.args.machine.now c.args.stmt.now
    c.in-Throw.class _ c.in-Throw.is c.leaves-in-Throw.ensures

pub returns-in_ok-open-in-OpenLock : goal.returns-in_ok-open-in-OpenLock
returns-in_ok-open-in-OpenLock c = λ p rest n few.
    started.costs_open c.args.machine.now c.args.stmt.now
    c.in-OpenLock.lock (holds c.open.new.self) c.in-OpenLock.is c.in_ok-open-in-OpenLock.ensures p
    rest n

pub returns-in_ok-close-in-CloseLock : goal.returns-in_ok-close-in-CloseLock
returns-in_ok-close-in-CloseLock c = λ p rest n few.
    started.costs_close c.args.machine.now c.args.stmt.now
    c.in-CloseLock.lock (holds c.close.new.self) c.in-CloseLock.is
    c.in_ok-close-in-CloseLock.ensures
    p rest n

pub returns-in-SetLocal : goal.returns-in-SetLocal
returns-in-SetLocal c =
    started.costs_set_local c.args.machine.now c.args.stmt.now
    c.in-SetLocal.local _ c.in-SetLocal.value _ c.in-SetLocal.is refl c.part-in-SetLocal.ensures

pub returns-in-SetStatic : goal.returns-in-SetStatic
returns-in-SetStatic c =
    started.costs_set_static c.args.machine.now c.args.stmt.now
    c.in-SetStatic.c c.in-SetStatic.f c.in-SetStatic.value _
    c.in-SetStatic.is refl c.part-in-SetStatic.ensures

pub returns-in-SetField : goal.returns-in-SetField
returns-in-SetField c =
    started.costs_set_field c.args.machine.now c.args.stmt.now
    c.in-SetField.of c.in-SetField.c c.in-SetField.f c.in-SetField.value _
    c.in-SetField.is refl refl c.part-in-SetField.ensures

pub returns-in-Eval : goal.returns-in-Eval
returns-in-Eval c =
    started.costs_eval c.args.machine.now c.args.stmt.now
    c.in-Eval.e _ c.in-Eval.is refl c.part-in-Eval.ensures

pub returns-in-When : goal.returns-in-When
returns-in-When c =
    started.costs_when c.args.machine.now c.args.stmt.now
    c.in-When.lock c.in-When.body c.in-When.other c.deref-in-When.result _
    c.in-When.is c.deref-in-When.ensures c.ask.ensures
