use Rattle.par_frames.specs.Names.{classes_in}
use Rattle.par_frames.specs.Forms.{IsIndexed, IndexedFits}
use Rattle.par_frames.proofs.Indexing.{indexed_kept, last_known, last_fits, last_stands}
use Rattle.par_frames.proofs.Steps.{next, next_room, failed, step, last, all_stand, all_added}
use Rattle.par_frames.proofs.pool_classes.place_frames.Goals as goal

pub place_frame-requires-clause-room : goal.place_frame-requires-clause-room
place_frame-requires-clause-room c =
    next_room classes_in IsIndexed IndexedFits _ _ _ _ _ _
    (next classes_in IsIndexed IndexedFits _ _ _ _ _ _ c.f-item.is c.loop-f-test.true
    c.loop-f.invariant.placing)
    c.requires.room

pub place_frame-requires-clause-known : goal.place_frame-requires-clause-known
place_frame-requires-clause-known c =
    last_stands _ _ _ _ _ c.last_types-types.ensures c.as_slice.ensures c.loop-f.invariant.known

pub place_frame-requires-clause-fit : goal.place_frame-requires-clause-fit
place_frame-requires-clause-fit c =
    last_fits _ _ _ c.last_types-types.ensures c.as_slice.ensures c.loop-f.invariant.placing.fit

pub returns-in_err-i-clause-added : goal.returns-in_err-i-clause-added
returns-in_err-i-clause-added c =
    failed classes_in IsIndexed IndexedFits _ _ _ _ _ _ _
    (next classes_in IsIndexed IndexedFits _ _ _ _ _ _ c.f-item.is c.loop-f-test.true
    c.loop-f.invariant.placing)
    c.place_frame.ensures.added

pub returns-in_err-push-clause-added : goal.returns-in_err-push-clause-added
returns-in_err-push-clause-added c =
    failed classes_in IsIndexed IndexedFits _ _ _ _ _ _ _
    (next classes_in IsIndexed IndexedFits _ _ _ _ _ _ c.f-item.is c.loop-f-test.true
    c.loop-f.invariant.placing)
    c.place_frame.ensures.added

pub loop-f-preserved : goal.loop-f-preserved
loop-f-preserved c = record {
  placing =
      step classes_in IsIndexed IndexedFits _ _ _ _ _ _ _ _ indexed_kept
      (next classes_in IsIndexed IndexedFits _ _ _ _ _ _ c.f-item.is c.loop-f-test.true
      c.loop-f.invariant.placing)
      c.place_frame.ensures.added c.in_ok-i.ensures.indexed c.in_ok-i.ensures.fits
      c.in_ok-i.ensures.room _ c.in_ok-push.ensures.ok;
  known =
      last_known _ _ _ _ _ _ c.in_ok-i.ensures.indexed c.in_ok-push.ensures.ok
      c.as_slice-earlier.ensures;
}

pub returns-clause-indexed : goal.returns-clause-indexed
returns-clause-indexed c =
    all_stand classes_in IsIndexed IndexedFits _ _ _ _
    (last classes_in IsIndexed IndexedFits _ _ _ _ _ c.loop-f-test.false
    c.loop-f.invariant.placing)

pub returns-clause-room : goal.returns-clause-room
returns-clause-room c =
    (last classes_in IsIndexed IndexedFits _ _ _ _ _ c.loop-f-test.false
    c.loop-f.invariant.placing).room

pub returns-clause-added : goal.returns-clause-added
returns-clause-added c =
    all_added classes_in IsIndexed IndexedFits _ _ _ _
    (last classes_in IsIndexed IndexedFits _ _ _ _ _ c.loop-f-test.false
    c.loop-f.invariant.placing)
