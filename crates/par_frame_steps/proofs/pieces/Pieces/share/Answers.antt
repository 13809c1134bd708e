use Rattle.std.proofs.Common.{sym}
use Rattle.par_frame_steps.proofs.pieces.Pieces.share.Goals as goal

pub invariant_of-result : goal.invariant_of-result
invariant_of-result c =
    let list = rw c.in-Some.is at c.self.view_is in
    rw c.in_ok-list-in-Some.ensures.cases (rw (sym list) at c.in_ok-few.ensures)
