use Rattle.par_frame_steps.proofs.Parts.{told_first}
use Rattle.par_frame_steps.proofs.pieces.Pieces.first.Goals as goal

pub of-requires : goal.of-requires
of-requires c =
    let first = told_first c.args.self.now c.args.many c.requires.whole c.requires.many in
    rw (c.in_ok-shared.ensures, c.as_slice.ensures) (rw first at c.in_ok-few.ensures)
