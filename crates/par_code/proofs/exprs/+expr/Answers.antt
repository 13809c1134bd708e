use Rattle.std.proofs.Common.{arith}
use Rattle.par_erase.specs.Shown.{inputs_of}
use Rattle.par_erase.proofs.Shown as plain
use Rattle.par_code.proofs.ExprForms as forms
use Rattle.par_code.proofs.ExprForms.{args_left, no_args_left, emits}
use Rattle.par_code.proofs.exprs.+expr.Goals as goal

pub put_args-loop-arg-preserved : goal.put_args-loop-arg-preserved
put_args-loop-arg-preserved t c =
    let more =
    args_left (inputs_of c.args.plain.now) c.args.args.now c.loop-arg.arg-index c.arg-item.result
    c.loop-arg-test.true c.arg-item.is in
    grind (arith, emits)

pub put_args-returns : goal.put_args-returns
put_args-returns t c =
    let none =
    no_args_left (inputs_of c.args.plain.now) c.args.args.now c.loop-arg.arg-index
    c.loop-arg-test.false in
    grind (arith, emits)

pub put_expr-returns-in-Int : goal.put_expr-returns-in-Int
put_expr-returns-in-Int t c =
    grind (arith, plain.shown_int, forms.with_int)

pub put_expr-returns-in-Bool-true : goal.put_expr-returns-in-Bool-true
put_expr-returns-in-Bool-true t c =
    grind (arith, plain.shown_bool, forms.with_true)

pub put_expr-returns-in-Bool-false : goal.put_expr-returns-in-Bool-false
put_expr-returns-in-Bool-false t c =
    grind (arith, plain.shown_bool, forms.with_false)

pub put_expr-returns-in-Null : goal.put_expr-returns-in-Null
put_expr-returns-in-Null t c =
    grind (arith, plain.shown_null, forms.with_null)

pub put_expr-returns-in-This : goal.put_expr-returns-in-This
put_expr-returns-in-This t c =
    grind (arith, plain.shown_this, forms.with_this)

pub put_expr-returns-in-New : goal.put_expr-returns-in-New
put_expr-returns-in-New t c =
    grind (arith, plain.shown_new, forms.new_is)

pub put_expr-returns-in_ok-item-in-Local : goal.put_expr-returns-in_ok-item-in-Local
put_expr-returns-in_ok-item-in-Local t c =
    grind (arith, plain.shown_local, forms.with_local)

pub put_expr-returns-in_ok-item-in-Static : goal.put_expr-returns-in_ok-item-in-Static
put_expr-returns-in_ok-item-in-Static t c =
    grind (arith, plain.shown_static, forms.with_static)

pub put_expr-returns-in_ok-item-in-Field : goal.put_expr-returns-in_ok-item-in-Field
put_expr-returns-in_ok-item-in-Field t c =
    grind (arith, plain.shown_field, forms.with_field)

pub put_expr-returns-in_ok-item-in-Input : goal.put_expr-returns-in_ok-item-in-Input
put_expr-returns-in_ok-item-in-Input t c =
    grind (arith, plain.shown_input, forms.with_input)

pub put_expr-returns-in_ok-item-in-Output : goal.put_expr-returns-in_ok-item-in-Output
put_expr-returns-in_ok-item-in-Output t c =
    grind (arith, plain.shown_output, forms.with_output)

pub put_expr-returns-in_ok-item-in-Call : goal.put_expr-returns-in_ok-item-in-Call
put_expr-returns-in_ok-item-in-Call t c =
    grind (arith, plain.shown_call, forms.call_is)

pub put_expr-returns-in_ok-put_expr-in-Neg : goal.put_expr-returns-in_ok-put_expr-in-Neg
put_expr-returns-in_ok-put_expr-in-Neg t c =
    grind (arith, plain.shown_neg, forms.with_neg)

pub put_expr-returns-in_ok-put_expr-in-Not : goal.put_expr-returns-in_ok-put_expr-in-Not
put_expr-returns-in_ok-put_expr-in-Not t c =
    grind (arith, plain.shown_not, forms.with_not)

pub put_expr-returns-in_ok-put_second-in-Binary : goal.put_expr-returns-in_ok-put_second-in-Binary
put_expr-returns-in_ok-put_second-in-Binary t c =
    grind (arith, plain.shown_binary, forms.binary_is, forms.shape_is, forms.type_is)
