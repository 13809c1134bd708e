use Rattle.std.proofs.Common.{refl}
use Rattle.par_meaning.specs.declared.work.Completion.TheVariants.{Normal}
use Rattle.par_values.specs.declared.value.MVal.TheVariants.{Null}
use Rattle.par_meaning.specs.declared.work.Next.TheVariants as next
use Rattle.par_meaning.specs.declared.work.Then.TheVariants.{Goes, Ends}
use Rattle.par_meaning.specs.declared.work.Waiting.TheVariants as waiting
use Rattle.par_meaning.specs.Onward.{setting}
use Rattle.par_meaning.proofs.Entered.{if_ok}
use Rattle.par_meaning.proofs.Taken.{known, goes, local_set}
use Rattle.par_meaning.proofs.accept.accept.Goals as goal

pub returns-in-Field : goal.returns-in-Field
returns-in-Field c =
    known c.args.program.now c.args.waiting
    (waiting.Field c.in-Field.sure c.in-Field.c c.in-Field.f) (Normal c.args.value)
    c.args.machine.now c.read_field.new.machine _ c.in-Field.is c.read_field.ensures

pub returns-in-Output : goal.returns-in-Output
returns-in-Output c = if_ok c.output.result _ _ c.output.ensures (λ on does.
    known c.args.program.now c.args.waiting (waiting.Output c.in-Output.c c.in-Output.k)
    (Normal c.args.value)
    c.args.machine.now c.output.new.machine on c.in-Output.is does)

pub returns-in-Argument : goal.returns-in-Argument
returns-in-Argument c = if_ok c.one_more.result _ _ c.one_more.ensures (λ on does.
    known c.args.program.now c.args.waiting
    (waiting.Argument c.in-Argument.target c.in-Argument.count c.in-Argument.args)
    (Normal c.args.value)
    c.args.machine.now c.one_more.new.machine on c.in-Argument.is
    (λ d. does (setting c.args.program.now d)))

pub returns-in-Decide : goal.returns-in-Decide
returns-in-Decide c =
    goes c.args.program.now c.args.waiting (waiting.Decide c.in-Decide.op c.in-Decide.right)
    (Normal c.args.value)
    c.args.machine.now _ _ c.in-Decide.is refl
    (λ p rest below vs s n. c.decide.ensures p rest below vs s n)

pub returns-in-Operate : goal.returns-in-Operate
returns-in-Operate c =
    goes c.args.program.now c.args.waiting (waiting.Operate c.in-Operate.op c.in-Operate.left)
    (Normal c.args.value)
    c.args.machine.now _ _ c.in-Operate.is refl
    (λ p rest below vs s n. c.operate.ensures p rest below vs s n)

pub returns-in-If : goal.returns-in-If
returns-in-If c =
    goes c.args.program.now c.args.waiting (waiting.If c.in-If.body c.in-If.other)
    (Normal c.args.value)
    c.args.machine.now _ _ c.in-If.is refl
    (λ p rest below vs s n. c.choose.ensures p rest below vs s n)

pub returns-in-Test : goal.returns-in-Test
returns-in-Test c =
    goes c.args.program.now c.args.waiting (waiting.Test c.in-Test.test c.in-Test.body)
    (Normal c.args.value)
    c.args.machine.now _ _ c.in-Test.is refl
    (λ p rest below vs s n. c.turn.ensures p rest below vs s n)

pub returns-in-Block : goal.returns-in-Block
returns-in-Block c =
    goes c.args.program.now c.args.waiting (waiting.Block c.in-Block.stmts) (Normal c.args.value)
    c.args.machine.now _ _ c.in-Block.is refl
    (λ p rest below vs s n. c.statements.ensures p rest below vs s n)

pub returns-in-Loop : goal.returns-in-Loop
returns-in-Loop c =
    goes c.args.program.now c.args.waiting (waiting.Loop c.in-Loop.test c.in-Loop.body)
    (Normal c.args.value)
    c.args.machine.now _ (Goes (next.Turn c.in-Loop.test c.in-Loop.body)) c.in-Loop.is refl
    (λ p rest below vs s n. refl)

pub returns-in-Catch : goal.returns-in-Catch
returns-in-Catch c =
    goes c.args.program.now c.args.waiting (waiting.Catch c.in-Catch.field-0) (Normal c.args.value)
    c.args.machine.now _ _ c.in-Catch.is c.gives-in-Catch.ensures (λ p rest below vs s n. refl)

pub returns-in-Eval : goal.returns-in-Eval
returns-in-Eval c =
    goes c.args.program.now c.args.waiting (waiting.Eval) (Normal c.args.value)
    c.args.machine.now _ (Ends (Normal Null)) c.in-Eval.is refl (λ p rest below vs s n. refl)

pub returns-in-Object : goal.returns-in-Object
returns-in-Object c =
    goes c.args.program.now c.args.waiting
    (waiting.Object c.in-Object.sure c.in-Object.c c.in-Object.f c.in-Object.e)
    (Normal c.args.value)
    c.args.machine.now _ _ c.in-Object.is c.part.ensures (λ p rest below vs s n. refl)

pub returns-in-SetStatic : goal.returns-in-SetStatic
returns-in-SetStatic c = if_ok c.write_static.result _ _ c.write_static.ensures (λ on does.
    known c.args.program.now c.args.waiting (waiting.SetStatic c.in-SetStatic.c c.in-SetStatic.f)
    (Normal c.args.value)
    c.args.machine.now c.write_static.new.machine on c.in-SetStatic.is does)

pub returns-in-SetField : goal.returns-in-SetField
returns-in-SetField c = if_ok c.write_field.result _ _ c.write_field.ensures (λ on does.
    known c.args.program.now c.args.waiting
    (waiting.SetField c.in-SetField.sure c.in-SetField.c c.in-SetField.f c.in-SetField.of)
    (Normal c.args.value)
    c.args.machine.now c.write_field.new.machine on c.in-SetField.is does)

pub returns-in_ok-set-in-SetLocal : goal.returns-in_ok-set-in-SetLocal
returns-in_ok-set-in-SetLocal c =
    local_set c.args.program.now c.args.waiting c.in-SetLocal.local c.args.value c.args.machine.now
    c.set.new.self c.in-SetLocal.is c.in_ok-set-in-SetLocal.ensures.own
    c.in_ok-set-in-SetLocal.ensures.below

pub returns-in-Leave : goal.returns-in-Leave
returns-in-Leave c =
    known c.args.program.now c.args.waiting (waiting.Leave c.in-Leave.size c.in-Leave.result)
    (Normal c.args.value)
    c.args.machine.now c.leave.new.machine _ c.in-Leave.is
    (λ d. c.leave.ensures c.args.value (setting c.args.program.now d))
