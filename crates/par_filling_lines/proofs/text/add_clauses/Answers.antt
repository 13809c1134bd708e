use Rattle.std.proofs.Common.{arith}
use Rattle.std.specs.Prelude.{codes}
use Rattle.par_filling_lines.specs.Texts.{clause_text}
use Rattle.par_filling_lines.proofs.Joined.{joined-all}
use Rattle.par_filling_lines.proofs.text.add_clauses.Goals as goal

pub returns : goal.returns
returns c =
    joined-all (codes "; ") (clause_text c.args.table.now) c.in-Some.first.now
    c.in-Some.rest.now c.args.clauses.now _ _ _ c.loop-clause.clause-index
    c.in-Some.ensures.cases.0 c.in_ok-add_clause.ensures
    c.loop-clause.invariant (omega (arith, c.loop-clause-test.false))
