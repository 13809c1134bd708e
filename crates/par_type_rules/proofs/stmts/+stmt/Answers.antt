use Rattle.std.proofs.Common.{arith, subst, sym}
use Rattle.par_completes.proofs.Left.{does_more, does_end, catch_more, catch_end}
use Rattle.par_tree.specs.Shown.{does}
use Rattle.par_scope.specs.Home.{seen}
use Rattle.par_type_rules.specs.Kept.{IsKept}
use Rattle.par_type_rules.proofs.StmtForms.{of_block, of_if, of_while, of_try, of_when, of_declare}
use Rattle.par_type_rules.proofs.StmtForms.{of_assign, of_do, of_return, of_throw, of_break}
use Rattle.par_type_rules.proofs.StmtForms.{of_continue, of_open, of_close}
use Rattle.par_type_rules.proofs.StmtForms.{part_forms, row_forms, declares_keeps, all_kept}
use Rattle.par_type_rules.proofs.stmts.+stmt.Goals as goal

pub check_stmt-returns-in-Block : goal.check_stmt-returns-in-Block
check_stmt-returns-in-Block t c = record {
  found = grind (arith, of_block);
  declared = grind (arith, of_block);
}

pub check_stmt-returns-in_ok-check_arm-in-If : goal.check_stmt-returns-in_ok-check_arm-in-If
check_stmt-returns-in_ok-check_arm-in-If t c = record {
  found = grind (arith, of_if);
  declared = grind (arith, of_if);
}

pub check_stmt-returns-in-While : goal.check_stmt-returns-in-While
check_stmt-returns-in-While t c = record {
  found = grind (arith, of_while);
  declared = grind (arith, of_while);
}

pub check_stmt-returns-in_ok-check_block-in-Try : goal.check_stmt-returns-in_ok-check_block-in-Try
check_stmt-returns-in_ok-check_block-in-Try t c = record {
  found = grind (arith, of_try);
  declared = grind (arith, of_try);
}

pub check_stmt-returns-in_ok-check_block-in-When : goal.check_stmt-returns-in_ok-check_block-in-When
check_stmt-returns-in_ok-check_block-in-When t c = record {
  found = grind (arith, of_when);
  declared = grind (arith, of_when);
}

pub check_stmt-returns-in-Local : goal.check_stmt-returns-in-Local
check_stmt-returns-in-Local t c = record {
  found = grind (arith, of_declare);
  declared = grind (arith, of_declare);
}

pub check_stmt-returns-in-Assign : goal.check_stmt-returns-in-Assign
check_stmt-returns-in-Assign t c = record {
  found = grind (arith, of_assign);
  declared = grind (arith, of_assign);
}

pub check_stmt-returns-in-Call : goal.check_stmt-returns-in-Call
check_stmt-returns-in-Call t c = record {
  found = grind (arith, of_do);
  declared = grind (arith, of_do);
}

pub check_stmt-returns-in-Return : goal.check_stmt-returns-in-Return
check_stmt-returns-in-Return t c = record {
  found = grind (arith, of_return);
  declared = grind (arith, of_return);
}

pub check_stmt-returns-in-Throw : goal.check_stmt-returns-in-Throw
check_stmt-returns-in-Throw t c = record {
  found = grind (arith, of_throw);
  declared = grind (arith, of_throw);
}

pub check_stmt-returns-in-Break : goal.check_stmt-returns-in-Break
check_stmt-returns-in-Break t c = record {
  found = grind (arith, of_break, of_continue);
  declared = grind (arith, of_break, of_continue);
}

pub check_stmt-returns-in-OpenLock : goal.check_stmt-returns-in-OpenLock
check_stmt-returns-in-OpenLock t c = record {
  found = grind (arith, of_open);
  declared = grind (arith, of_open);
}

pub check_stmt-returns-in-OpenLock-2 : goal.check_stmt-returns-in-OpenLock-2
check_stmt-returns-in-OpenLock-2 t c = record {
  found = grind (arith, of_close);
  declared = grind (arith, of_close);
}

pub check_arm-returns : goal.check_arm-returns
check_arm-returns t c = record {
  found = grind (arith, part_forms);
  left = grind (arith, part_forms);
}

pub check_else-returns-in-None : goal.check_else-returns-in-None
check_else-returns-in-None t c = record {
  found = grind (arith, part_forms);
  left = grind (arith, part_forms);
}

pub check_may_block-returns-in-None : goal.check_may_block-returns-in-None
check_may_block-returns-in-None t c = record {
  found = grind (arith, part_forms);
  left = grind (arith, part_forms);
}

pub check_may_block-returns-in-Some : goal.check_may_block-returns-in-Some
check_may_block-returns-in-Some t c = record {
  found = grind (arith, part_forms);
  left = grind (arith, part_forms);
}

pub check_block-returns : goal.check_block-returns
check_block-returns t c = record {
  found = grind (arith, part_forms);
  left = grind (arith, part_forms);
}

pub check_catch-returns : goal.check_catch-returns
check_catch-returns t c = record {
  found = grind (arith, part_forms);
  left = grind (arith, part_forms);
}

pub check_else-returns-in_ok-check_stmt-in-Some-clause-found
    : goal.check_else-returns-in_ok-check_stmt-in-Some-clause-found
check_else-returns-in_ok-check_stmt-in-Some-clause-found t c = grind (arith, part_forms)

pub check_stmts-loop-stmt-preserved : goal.check_stmts-loop-stmt-preserved
check_stmts-loop-stmt-preserved t c =
    let more =
    does_more c.args.stmts.now c.loop-stmt.stmt-index c.stmt-item.result c.loop-stmt-test.true
    c.stmt-item.is in
    record {
      found = grind (arith, row_forms);
      kept =
          subst (λ scope. IsKept c.args.locals.now scope) (sym c.in_ok-check_stmt.ensures.declared)
          (declares_keeps (seen c.args.home.now) (does c.stmt-item.result) c.args.locals.now
          c.loop-stmt.locals c.loop-stmt.invariant.kept);
    }

pub check_stmts-returns-clause-found : goal.check_stmts-returns-clause-found
check_stmts-returns-clause-found t c =
    let none = does_end c.args.stmts.now c.loop-stmt.stmt-index c.loop-stmt-test.false in
    grind (arith, row_forms)

pub check_catches-loop-catch-preserved : goal.check_catches-loop-catch-preserved
check_catches-loop-catch-preserved t c =
    let more =
    catch_more c.args.catches.now c.loop-catch.catch-index c.catch-item.result
    c.loop-catch-test.true c.catch-item.is in
    record { found = grind (arith, row_forms); left = grind (arith, row_forms) }

pub check_catches-returns-clause-found : goal.check_catches-returns-clause-found
check_catches-returns-clause-found t c =
    let none = catch_end c.args.catches.now c.loop-catch.catch-index c.loop-catch-test.false in
    grind (arith, row_forms)

pub check_else-returns-in_ok-check_stmt-in-Some-clause-left
    : goal.check_else-returns-in_ok-check_stmt-in-Some-clause-left
check_else-returns-in_ok-check_stmt-in-Some-clause-left t c =
    let kept =
    subst (λ scope. IsKept c.args.locals.now scope)
    (sym c.in_ok-check_stmt-in-Some.ensures.declared)
    (declares_keeps (seen c.args.home.now) (does c.deref.result.now) c.args.locals.now
    c.args.locals.now (all_kept c.args.locals.now)) in
    grind (arith, part_forms)
