use Rattle.std.proofs.Common.{arith}
use Rattle.par_completes.proofs.Left.{shown_more, shown_end}
use Rattle.par_type_rules.proofs.Forms.{found}
use Rattle.par_type_rules.proofs.exprs.+expr.Goals as goal

pub check_expr-returns-in-Int : goal.check_expr-returns-in-Int
check_expr-returns-in-Int t c = record {
  found = grind (arith, found);
  typed = grind (arith, found);
}

pub check_expr-returns-in-True : goal.check_expr-returns-in-True
check_expr-returns-in-True t c = record {
  found = grind (arith, found);
  typed = grind (arith, found);
}

pub check_expr-returns-in-True-2 : goal.check_expr-returns-in-True-2
check_expr-returns-in-True-2 t c = record {
  found = grind (arith, found);
  typed = grind (arith, found);
}

pub check_expr-returns-in-Null : goal.check_expr-returns-in-Null
check_expr-returns-in-Null t c = record {
  found = grind (arith, found);
  typed = grind (arith, found);
}

pub check_expr-returns-in-This : goal.check_expr-returns-in-This
check_expr-returns-in-This t c = record {
  found = grind (arith, found);
  typed = grind (arith, found);
}

pub check_expr-returns-in-New : goal.check_expr-returns-in-New
check_expr-returns-in-New t c = record {
  found = grind (arith, found);
  typed = grind (arith, found);
}

pub check_expr-returns-in-Name : goal.check_expr-returns-in-Name
check_expr-returns-in-Name t c = record {
  found = grind (arith, found);
  typed = grind (arith, found);
}

pub check_expr-returns-in-Field : goal.check_expr-returns-in-Field
check_expr-returns-in-Field t c = record {
  found = grind (arith, found);
  typed = grind (arith, found);
}

pub check_expr-returns-in-Call : goal.check_expr-returns-in-Call
check_expr-returns-in-Call t c = record {
  found = grind (arith, found);
  typed = grind (arith, found);
}

pub check_expr-returns-in-Neg : goal.check_expr-returns-in-Neg
check_expr-returns-in-Neg t c = record {
  found = grind (arith, found);
  typed = grind (arith, found);
}

pub check_expr-returns-in-Not : goal.check_expr-returns-in-Not
check_expr-returns-in-Not t c = record {
  found = grind (arith, found);
  typed = grind (arith, found);
}

pub check_expr-returns-in-Binary : goal.check_expr-returns-in-Binary
check_expr-returns-in-Binary t c = record {
  found = grind (arith, found);
  typed = grind (arith, found);
}

pub check_field-returns : goal.check_field-returns
check_field-returns t c = record {
  found = grind (arith, found);
  typed = grind (arith, found);
}

pub check_value-returns : goal.check_value-returns
check_value-returns t c = record {
  found = grind (arith, found);
  typed = grind (arith, found);
}

pub check_receiver-returns-in-None : goal.check_receiver-returns-in-None
check_receiver-returns-in-None t c = record {
  found = grind (arith, found);
  typed = grind (arith, found);
}

pub check_receiver-returns-in-Some : goal.check_receiver-returns-in-Some
check_receiver-returns-in-Some t c = record {
  found = grind (arith, found);
  typed = grind (arith, found);
}

pub check_call-returns : goal.check_call-returns
check_call-returns t c = record {
  found = grind (arith, found);
  typed = grind (arith, found);
}

pub check_args-loop-place-preserved : goal.check_args-loop-place-preserved
check_args-loop-place-preserved t c =
    let more =
    shown_more c.args.args.now c.loop-place.place c.index-args-place.result c.loop-place-test.true
    c.index-args-place.is in
    grind (arith, found)

pub check_args-returns : goal.check_args-returns
check_args-returns t c =
    let none = shown_end c.args.args.now c.loop-place.place c.loop-place-test.false in
    grind (arith, found)
