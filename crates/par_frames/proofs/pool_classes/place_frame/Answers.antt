use Rattle.std.proofs.Common.{◌++◌}
use Rattle.par_frames.specs.Names.{classes_of}
use Rattle.par_frames.specs.Room.{SPARE}
use Rattle.par_frames.proofs.Indexing.{first_room, both_room, second_room, first_added, both_added}
use Rattle.par_frames.proofs.Indexing.{indexed, indexed_fits}
use Rattle.par_frames.proofs.pool_classes.place_frame.Goals as goal

pub place_kinds-requires-clause-room : goal.place_kinds-requires-clause-room
place_kinds-requires-clause-room c =
    first_room _ _ c.args.f.now c.as_slice.ensures c.requires.room

pub returns-in_err-locals-clause-added : goal.returns-in_err-locals-clause-added
returns-in_err-locals-clause-added c =
    first_added _ _ _ c.args.f.now c.as_slice.ensures c.place_kinds.ensures.added

pub returns-in_err-stack-clause-added : goal.returns-in_err-stack-clause-added
returns-in_err-stack-clause-added c =
    both_added _ _ _ _ _ c.args.f.now c.as_slice.ensures c.as_slice-2.ensures
    c.place_kinds.ensures.added c.place_kinds-2.ensures.added

pub returns-clause-indexed : goal.returns-clause-indexed
returns-clause-indexed c =
    indexed _ _ _ _ c.args.f.now _ _ c.as_slice.ensures c.as_slice-2.ensures
    c.place_kinds-2.ensures.added c.in_ok-locals.ensures.stand c.in_ok-stack.ensures.stand

pub returns-clause-fits : goal.returns-clause-fits
returns-clause-fits c =
    indexed_fits _ _ _ _ c.args.f.now _ _ _ c.as_slice.ensures c.as_slice-2.ensures
    c.requires.short c.in_ok-locals.ensures.stand c.in_ok-stack.ensures.stand
    c.in_ok-locals.ensures.fit c.in_ok-stack.ensures.fit

pub returns-clause-added : goal.returns-clause-added
returns-clause-added c =
    both_added _ _ _ _ _ c.args.f.now c.as_slice.ensures c.as_slice-2.ensures
    c.place_kinds.ensures.added c.place_kinds-2.ensures.added

pub place_kinds-requires-2-clause-room : goal.place_kinds-requires-2-clause-room
place_kinds-requires-2-clause-room c =
    c.in_ok-locals.ensures.room SPARE (classes_of c.as_slice-2.result.now)
    (second_room c.args.pool.now c.as_slice.result.now c.as_slice-2.result.now c.args.f.now
    c.as_slice.ensures c.as_slice-2.ensures c.requires.room)

pub returns-clause-room : goal.returns-clause-room
returns-clause-room c = λ spare later h.
    c.in_ok-stack.ensures.room spare later
    (c.in_ok-locals.ensures.room spare
    (classes_of c.as_slice-2.result.now ++ later)
    (both_room c.args.pool.now c.as_slice.result.now c.as_slice-2.result.now c.args.f.now spare
    later c.as_slice.ensures c.as_slice-2.ensures h))
