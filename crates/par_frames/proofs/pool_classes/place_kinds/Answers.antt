use Rattle.par_frame_forms.specs.Spelled.{TypeFits}
use Rattle.par_frames.specs.Names.{class_of, StandsFor}
use Rattle.par_frames.proofs.Classes.{kind_kept}
use Rattle.par_frames.proofs.Indexing.{kinds_kept}
use Rattle.par_frames.proofs.Steps.{next, next_room, failed, step, last, all_stand, all_added}
use Rattle.par_frames.proofs.pool_classes.place_kinds.Goals as goal

pub place_again-requires-clause-room : goal.place_again-requires-clause-room
place_again-requires-clause-room c =
    next_room class_of StandsFor TypeFits _ _ _ _ _ _
    (next class_of StandsFor TypeFits _ _ _ _ _ _ c.index-kinds-place.is c.loop-place-test.true
    c.loop-place.invariant)
    c.requires.room

pub place_again-requires-clause-known : goal.place_again-requires-clause-known
place_again-requires-clause-known c =
    kinds_kept _ _ _ c.loop-place.invariant.added _ _ c.requires.known

pub returns-in_err-place_again-clause-added : goal.returns-in_err-place_again-clause-added
returns-in_err-place_again-clause-added c =
    failed class_of StandsFor TypeFits _ _ _ _ _ _ _
    (next class_of StandsFor TypeFits _ _ _ _ _ _ c.index-kinds-place.is c.loop-place-test.true
    c.loop-place.invariant)
    c.place_again.ensures.added

pub returns-in_err-push-clause-added : goal.returns-in_err-push-clause-added
returns-in_err-push-clause-added c =
    failed class_of StandsFor TypeFits _ _ _ _ _ _ _
    (next class_of StandsFor TypeFits _ _ _ _ _ _ c.index-kinds-place.is c.loop-place-test.true
    c.loop-place.invariant)
    c.place_again.ensures.added

pub loop-place-preserved : goal.loop-place-preserved
loop-place-preserved c =
    step class_of StandsFor TypeFits _ _ _ _ _ _ _ _ kind_kept
    (next class_of StandsFor TypeFits _ _ _ _ _ _ c.index-kinds-place.is c.loop-place-test.true
    c.loop-place.invariant)
    c.place_again.ensures.added c.in_ok-place_again.ensures.stands c.in_ok-place_again.ensures.fits
    c.in_ok-place_again.ensures.room _ c.in_ok-push.ensures.ok

pub returns-clause-stand : goal.returns-clause-stand
returns-clause-stand c =
    all_stand class_of StandsFor TypeFits _ _ _ _
    (last class_of StandsFor TypeFits _ _ _ _ _ c.loop-place-test.false
    c.loop-place.invariant)

pub returns-clause-room : goal.returns-clause-room
returns-clause-room c =
    (last class_of StandsFor TypeFits _ _ _ _ _ c.loop-place-test.false
    c.loop-place.invariant).room

pub returns-clause-added : goal.returns-clause-added
returns-clause-added c =
    all_added class_of StandsFor TypeFits _ _ _ _
    (last class_of StandsFor TypeFits _ _ _ _ _ c.loop-place-test.false
    c.loop-place.invariant)
