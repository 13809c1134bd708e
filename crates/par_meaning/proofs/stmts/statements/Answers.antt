use Rattle.par_meaning.proofs.Started.{next_statement, no_statement}
use Rattle.par_meaning.proofs.stmts.statements.Goals as goal

pub returns-in-Some : goal.returns-in-Some
returns-in-Some c =
    next_statement c.args.stmts.now c.in-Some.first c.in-Some.others c.in-Some.ensures.cases.0

pub returns-in-None : goal.returns-in-None
returns-in-None c = λ p rest below vs s n.
    no_statement c.args.stmts.now p (rest below vs) s n c.in-None.ensures.cases
