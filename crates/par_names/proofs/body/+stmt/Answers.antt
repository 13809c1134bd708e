use Rattle.std.proofs.Common.{arith}
use Rattle.par_tree.specs.Shown.{does}
use Rattle.par_names.proofs.StmtForms.{part_forms, row_forms, declares_keeps}
use Rattle.par_names.proofs.Left.{more_stmts, no_stmts, more_catches, no_catches}
use Rattle.par_names.proofs.body.+stmt.Goals as goal

pub check_catches-loop-catch-preserved : goal.check_catches-loop-catch-preserved
check_catches-loop-catch-preserved t c =
    let more =
    more_catches c.args.catches.now c.loop-catch.catch-index c.catch-item.result
    c.loop-catch-test.true c.catch-item.is in
    record { found = grind (arith, row_forms); left = grind (arith, row_forms) }

pub check_catches-returns-clause-found : goal.check_catches-returns-clause-found
check_catches-returns-clause-found t c =
    let none = no_catches c.args.catches.now c.loop-catch.catch-index c.loop-catch-test.false in
    grind (arith, row_forms)

pub check_stmts-loop-s-preserved : goal.check_stmts-loop-s-preserved
check_stmts-loop-s-preserved t c =
    let more =
    more_stmts c.args.stmts.now c.loop-s.s-index c.s-item.result c.loop-s-test.true c.s-item.is in
    let keeps =
    declares_keeps (does c.s-item.result) c.loop-s.scope c.args.scope.now c.loop-s.invariant.kept in
    record { found = grind (arith, row_forms); kept = grind (arith, row_forms) }

pub check_stmts-returns-clause-found : goal.check_stmts-returns-clause-found
check_stmts-returns-clause-found t c =
    let none = no_stmts c.args.stmts.now c.loop-s.s-index c.loop-s-test.false in
    grind (arith, row_forms)
