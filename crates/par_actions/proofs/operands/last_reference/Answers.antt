use Rattle.std.proofs.Common.{sym}
use Rattle.par_actions.proofs.Shapes.{one_there, wrong_reference, a_reference}
use Rattle.par_actions.proofs.operands.last_reference.Goals as goal

pub returns-then-is_int : goal.returns-then-is_int
returns-then-is_int c =
    wrong_reference _ _ (one_there _ _ (sym c.in-Some.ensures)) c.if-is_int.ensures

pub returns : goal.returns
returns c = a_reference _ _ (one_there _ _ (sym c.in-Some.ensures)) c.if-is_int.ensures
