use Rattle.par_frame_steps.proofs.Piled.{told_more}
use Rattle.par_frame_steps.proofs.pieces.Pieces.told_with.Goals as goal

pub returns-in-Some-few : goal.returns-in-Some-few
returns-in-Some-few c =
    let both = rw (c.in-Some-few.ensures, c.in-Some.ensures) at c.and.ensures in
    rw (told_more c.args.self.now c.args.piece.now) both
