use Rattle.par_frames.proofs.Classes.{adds_one, room_left}
use Rattle.par_frames.proofs.pool_classes.place_class.Goals as goal

pub returns-in_err-index-clause-added : goal.returns-in_err-index-clause-added
returns-in_err-index-clause-added c = adds_one _ _ _ c.class.ensures.added

pub returns-clause-room : goal.returns-clause-room
returns-clause-room c = λ spare later h.
    room_left _ _ c.in_ok-index.index _ spare later c.in_ok-index.ensures.named
    (λ i is. (c.in_ok-index.ensures.again i is).1) c.class.ensures.added h

pub returns-clause-added : goal.returns-clause-added
returns-clause-added c = adds_one _ _ _ c.class.ensures.added
