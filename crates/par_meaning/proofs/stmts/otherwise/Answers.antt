use Rattle.par_meaning.proofs.Started.{otherwise_some, otherwise_none}
use Rattle.par_meaning.proofs.stmts.otherwise.Goals as goal

pub returns-in-Some : goal.returns-in-Some
returns-in-Some c =
    otherwise_some c.args.other.now c.in-Some.stmt c.deref.result c.in-Some.is c.deref.ensures

pub returns-in-None : goal.returns-in-None
returns-in-None c = λ p rest below vs s n.
    otherwise_none c.args.other.now p (rest below vs) s n c.in-None.is
