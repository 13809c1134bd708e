use Rattle.std.proofs.Common.{arith}
use Rattle.par_asked.proofs.Left.{stmts_left, no_stmts_left, catches_left, no_catches_left}
use Rattle.par_asked.proofs.Forms.{statements}
use Rattle.par_asked.proofs.stmt.+stmt.Goals as goal

pub stmts-loop-s-preserved : goal.stmts-loop-s-preserved
stmts-loop-s-preserved t c =
    let more = stmts_left c.args.body.now c.loop-s.s-index c.s-item.result c.loop-s-test.true
    c.s-item.is in
    grind (arith, statements)

pub stmts-returns : goal.stmts-returns
stmts-returns t c =
    let none = no_stmts_left c.args.body.now c.loop-s.s-index c.loop-s-test.false in grind
    (arith, statements)

pub all_catches-loop-catch-preserved : goal.all_catches-loop-catch-preserved
all_catches-loop-catch-preserved t c =
    let more = catches_left c.args.catches.now c.loop-catch.catch-index c.catch-item.result
    c.loop-catch-test.true c.catch-item.is in
    grind (arith, statements)

pub all_catches-returns : goal.all_catches-returns
all_catches-returns t c =
    let none = no_catches_left c.args.catches.now c.loop-catch.catch-index
    c.loop-catch-test.false in grind (arith, statements)
