use Rattle.std.proofs.Common.{sym, ap, ◌∙◌, arith}
use Rattle.std.specs.Option.{option_copied}
use Rattle.par_tree.proofs.Shown.{shown_place}
use Rattle.par_names.proofs.ExprForms.{arg_forms, form}
use Rattle.par_names.proofs.Left.{more_args, no_args}
use Rattle.par_names.proofs.expr.+expr.Goals as goal

pub check_args-loop-arg-preserved : goal.check_args-loop-arg-preserved
check_args-loop-arg-preserved t c =
    let more =
    more_args c.args.args.now c.loop-arg.arg-index c.arg-item.result c.loop-arg-test.true
    c.arg-item.is in
    grind (arith, arg_forms)

pub check_args-returns : goal.check_args-returns
check_args-returns t c = let none =
    no_args c.args.args.now c.loop-arg.arg-index c.loop-arg-test.false in grind (arith, arg_forms)

pub check_callee-returns-in-Some-class_before : goal.check_callee-returns-in-Some-class_before
check_callee-returns-in-Some-class_before t c =
    let before = sym c.class_before.ensures ∙ ap option_copied c.in-Some-class_before.is in
    let at = shown_place c.in-Some.of.value.kind c.in-Some.of.value.at in
    grind (arith, form)

pub check_expr-returns-in-Some : goal.check_expr-returns-in-Some
check_expr-returns-in-Some t c =
    let before = sym c.class_before.ensures ∙ ap option_copied c.in-Some.is in
    let at = shown_place c.in-Field.of.value.kind c.in-Field.of.value.at in
    grind (arith, form)
