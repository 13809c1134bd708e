use Rattle.std.proofs.Common.{arith}
use Rattle.par_typed.proofs.Shown as typed
use Rattle.par_erase.proofs.Shown as plain
use Rattle.par_erase.proofs.ExprForms as forms
use Rattle.par_erase.proofs.ExprForms.{arg_forms, args_left, no_args_left}
use Rattle.par_erase.proofs.exprs.+expr.Goals as goal

pub erase_args-loop-arg-preserved : goal.erase_args-loop-arg-preserved
erase_args-loop-arg-preserved t c =
    let more =
    args_left c.args.args.now c.loop-arg.arg-index c.arg-item.result c.loop-arg-test.true
    c.arg-item.is in
    grind (arith, arg_forms)

pub erase_args-returns : goal.erase_args-returns
erase_args-returns t c =
    let none = no_args_left c.args.args.now c.loop-arg.arg-index c.loop-arg-test.false in
    grind (arith, arg_forms)

pub erase_kind-returns-in-Int : goal.erase_kind-returns-in-Int
erase_kind-returns-in-Int t c =
    grind (arith, typed.shown_int, plain.shown_int, forms.erased_int)

pub erase_kind-returns-in-Bool : goal.erase_kind-returns-in-Bool
erase_kind-returns-in-Bool t c =
    grind (arith, typed.shown_bool, plain.shown_bool, forms.erased_bool)

pub erase_kind-returns-in-Null : goal.erase_kind-returns-in-Null
erase_kind-returns-in-Null t c =
    grind (arith, typed.shown_null, plain.shown_null, forms.erased_null)

pub erase_kind-returns-in-This : goal.erase_kind-returns-in-This
erase_kind-returns-in-This t c =
    grind (arith, typed.shown_this, plain.shown_this, forms.erased_this)

pub erase_kind-returns-in-New : goal.erase_kind-returns-in-New
erase_kind-returns-in-New t c =
    grind (arith, typed.shown_new, plain.shown_new, forms.erased_new)

pub erase_kind-returns-in-Local : goal.erase_kind-returns-in-Local
erase_kind-returns-in-Local t c =
    grind (arith, typed.shown_local, plain.shown_local, forms.erased_local)

pub erase_kind-returns-in-Static : goal.erase_kind-returns-in-Static
erase_kind-returns-in-Static t c =
    grind (arith, typed.shown_static, plain.shown_static, forms.erased_static)

pub erase_kind-returns-in_ok-of-in-Field : goal.erase_kind-returns-in_ok-of-in-Field
erase_kind-returns-in_ok-of-in-Field t c =
    grind (arith, typed.shown_field, plain.shown_field, forms.erased_field)

pub erase_kind-returns-in-Input : goal.erase_kind-returns-in-Input
erase_kind-returns-in-Input t c =
    grind (arith, typed.shown_input, plain.shown_input, forms.erased_input)

pub erase_kind-returns-in_ok-value-in-Output : goal.erase_kind-returns-in_ok-value-in-Output
erase_kind-returns-in_ok-value-in-Output t c =
    grind (arith, typed.shown_output, plain.shown_output, forms.erased_output)

pub erase_kind-returns-in_ok-args-in-Call : goal.erase_kind-returns-in_ok-args-in-Call
erase_kind-returns-in_ok-args-in-Call t c =
    grind (arith, typed.shown_call, plain.shown_call, forms.erased_call)

pub erase_kind-returns-in_ok-of-in-Neg : goal.erase_kind-returns-in_ok-of-in-Neg
erase_kind-returns-in_ok-of-in-Neg t c =
    grind (arith, typed.shown_neg, plain.shown_neg, forms.erased_neg)

pub erase_kind-returns-in_ok-of-in-Not : goal.erase_kind-returns-in_ok-of-in-Not
erase_kind-returns-in_ok-of-in-Not t c =
    grind (arith, typed.shown_not, plain.shown_not, forms.erased_not)

pub erase_kind-returns-in_ok-right-in-Binary : goal.erase_kind-returns-in_ok-right-in-Binary
erase_kind-returns-in_ok-right-in-Binary t c =
    grind (arith, typed.shown_binary, plain.shown_binary, forms.erased_binary)
