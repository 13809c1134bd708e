use Rattle.std.proofs.Common.{sym}
use Rattle.std.proofs.lemmas.Result.{IfOk-weaker}
use Rattle.par_program_laws.specs.Declares.{declares}
use Rattle.par_rounds.proofs.Nexts.{block_next}
use Rattle.par_rounds.proofs.next.+points_of.Goals as goal

pub returns-in-Some : goal.returns-in-Some
returns-in-Some t c =
    let s = c.args.stmt.now in
    IfOk-weaker c.points_of.result _ _
    (λ n. block_next (declares c.args.table.now) s.kind s.at s.point c.in-Block.stmts
    c.as_slice.result.now c.in-Some.last.now n c.in-Block.is c.as_slice.ensures
    (sym c.in-Some.ensures.value))
    c.points_of.ensures
