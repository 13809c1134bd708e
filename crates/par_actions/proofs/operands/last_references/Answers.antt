use Rattle.std.proofs.Common.{sym}
use Rattle.par_actions.proofs.Shapes.{two_there, wrong_second_reference, wrong_first_reference}
use Rattle.par_actions.proofs.Shapes.{two_references}
use Rattle.par_actions.proofs.operands.last_references.Goals as goal

pub returns-then-is_int : goal.returns-then-is_int
returns-then-is_int c =
    let last = two_there _ _ _ (sym c.in-Some.ensures) (sym c.in-Some-operand.ensures) in
    elim c.then-is_int.branch [
      | goal.then-is_int-via-then-is_int w ↦ wrong_second_reference _ _ _ last w.if-is_int.ensures
      | goal.then-is_int-via-else-is_int+then-is_int-2 w ↦
          wrong_first_reference _ _ _ last w.if-is_int.ensures w.if-is_int-2.ensures
    ]

pub returns : goal.returns
returns c =
    two_references _ _ _ (two_there _ _ _ (sym c.in-Some.ensures) (sym c.in-Some-operand.ensures))
    c.if-is_int.ensures c.if-is_int-2.ensures
