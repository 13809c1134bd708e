use Rattle.par_frames.specs.Names.{class_of}
use Rattle.par_frames.proofs.Classes.{room_behind}
use Rattle.par_frames.proofs.pool_classes.place_again.Goals as goal

pub returns-in-Some-clause-room : goal.returns-in-Some-clause-room
returns-in-Some-clause-room c = λ spare later h.
    room_behind c.args.pool.now spare (class_of c.args.kind.now) later h
