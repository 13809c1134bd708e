use Rattle.std.proofs.Common.{refl}
use Rattle.par_meaning.specs.declared.work.Completion.TheVariants.{Abrupt}
use Rattle.par_meaning.specs.declared.work.Then.TheVariants.{Ends}
use Rattle.par_meaning.specs.declared.work.Waiting.TheVariants as waiting
use Rattle.par_meaning.proofs.Taken.{dropped, exited, handed, passes}
use Rattle.par_meaning.proofs.unwind.unwind.Goals as goal

pub returns-in-Argument : goal.returns-in-Argument
returns-in-Argument c =
    dropped c.args.waiting c.in-Argument.field-0 c.in-Argument.count c.in-Argument.field-2
    c.args.exit
    c.args.machine.now c.cut.new.self _ c.in-Argument.is c.leaves.ensures c.cut.ensures

pub returns-in-Loop : goal.returns-in-Loop
returns-in-Loop c =
    exited c.args.waiting (waiting.Loop c.in-Loop.test c.in-Loop.body) c.args.exit
    c.args.machine.now _ _ c.in-Loop.is refl c.leave_turn.ensures

pub returns-in-Catch : goal.returns-in-Catch
returns-in-Catch c =
    exited c.args.waiting (waiting.Catch c.in-Catch.catches) c.args.exit
    c.args.machine.now _ _ c.in-Catch.is refl c.leave_try.ensures

pub returns-in-Leave : goal.returns-in-Leave
returns-in-Leave c =
    handed c.args.waiting (waiting.Leave c.in-Leave.size c.in-Leave.result) c.args.exit
    c.args.machine.now c.leave_by.new.machine _ _ c.in-Leave.is refl c.leave_by.ensures

pub returns-in_default : goal.returns-in_default
returns-in_default c =
    exited c.args.waiting c.args.waiting c.args.exit c.args.machine.now _
    (Ends (Abrupt c.args.exit)) refl c.leaves-in_default.ensures
    (λ p rest below vs s n. passes p rest below vs s n c.args.exit c.args.waiting
    c.in_default.not-Argument c.in_default.not-Loop c.in_default.not-Catch c.in_default.not-Leave)
