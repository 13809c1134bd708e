use Rattle.par_meaning.proofs.Entered.{if_ok}
use Rattle.par_meaning.proofs.Entered as entered
use Rattle.par_meaning.proofs.exprs.enter_expr.Goals as goal

pub returns-in-Int : goal.returns-in-Int
returns-in-Int c =
    entered.costs_int c.args.program.now c.args.machine.now c.args.e.now
    c.in-Int.n _ _ c.in-Int.is c.constant.ensures c.gives.ensures

pub returns-in-Bool : goal.returns-in-Bool
returns-in-Bool c =
    entered.costs_bool c.args.program.now c.args.machine.now c.args.e.now
    c.in-Bool.b _ _ c.in-Bool.is c.truth.ensures c.gives-in-Bool.ensures

pub returns-in-Null : goal.returns-in-Null
returns-in-Null c =
    entered.costs_null c.args.program.now c.args.machine.now c.args.e.now
    _ c.in-Null.is c.gives-in-Null.ensures

pub returns-in-This : goal.returns-in-This
returns-in-This c =
    entered.costs_this c.args.program.now c.args.machine.now c.args.e.now
    _ _ c.in-This.is c.get.ensures c.gives-in-This.ensures

pub returns-in-Local : goal.returns-in-Local
returns-in-Local c =
    entered.costs_local c.args.program.now c.args.machine.now c.args.e.now
    c.in-Local.x _ _ c.in-Local.is c.get-in-Local.ensures c.gives-in-Local.ensures

pub returns-in-Static : goal.returns-in-Static
returns-in-Static c =
    entered.costs_static c.args.program.now c.args.machine.now c.args.e.now
    c.in-Static.c c.in-Static.f _ _ c.in-Static.is c.static_field.ensures c.gives-in-Static.ensures

pub returns-in-Neg : goal.returns-in-Neg
returns-in-Neg c =
    entered.costs_neg c.args.program.now c.args.machine.now c.args.e.now
    c.in-Neg.of _ _ c.in-Neg.is c.deref-in-Neg.ensures c.part-in-Neg.ensures

pub returns-in-Not : goal.returns-in-Not
returns-in-Not c =
    entered.costs_not c.args.program.now c.args.machine.now c.args.e.now
    c.in-Not.of _ _ c.in-Not.is c.deref-in-Not.ensures c.part-in-Not.ensures

pub returns-in-Output : goal.returns-in-Output
returns-in-Output c =
    entered.costs_output c.args.program.now c.args.machine.now c.args.e.now
    c.in-Output.c c.in-Output.k c.in-Output.value _ _
    c.in-Output.is c.deref-in-Output.ensures c.part-in-Output.ensures

pub returns-in-Field : goal.returns-in-Field
returns-in-Field c =
    entered.costs_field c.args.program.now c.args.machine.now c.args.e.now
    c.in-Field.c c.in-Field.f c.in-Field.of c.deref.result c.deref-in-Field.result _
    c.in-Field.is c.deref.ensures c.deref-in-Field.ensures c.part.ensures

pub returns-in-Binary : goal.returns-in-Binary
returns-in-Binary c =
    entered.costs_binary c.args.program.now c.args.machine.now c.args.e.now
    c.in-Binary.op c.in-Binary.left c.in-Binary.right _ _ _
    c.in-Binary.is c.deref-in-Binary.ensures c.deref-in-Binary-2.ensures c.part-in-Binary.ensures

pub returns-in-New : goal.returns-in-New
returns-in-New c = if_ok c.born.result _ _ c.born.ensures (λ on.
    entered.costs_new c.args.program.now c.args.machine.now c.args.e.now
    c.born.new.machine c.in-New.c on c.in-New.is)

pub returns-in-Input : goal.returns-in-Input
returns-in-Input c = if_ok c.input.result _ _ c.input.ensures (λ on.
    entered.costs_input c.args.program.now c.args.machine.now c.args.e.now
    c.input.new.machine c.in-Input.c c.in-Input.k on c.in-Input.is)

pub returns-in-Call : goal.returns-in-Call
returns-in-Call c =
    entered.costs_call c.args.program.now c.args.machine.now c.args.e.now
    c.enter_call.new.machine c.in-Call.c c.in-Call.m c.in-Call.of c.in-Call.args _
    c.in-Call.is c.enter_call.ensures
