use Rattle.std.proofs.Common.{◌+◌, sym, subst, arith}
use Rattle.par_code_form.specs.declared.labelled.Labelled.{Labelled}
use Rattle.par_code_form.specs.PlaceableFrames.{AreFramesPlaceable}
use Rattle.par_framing.specs.par_frames.Room.{HasRoom, SPARE}
use Rattle.par_framing.specs.par_compile_laws.Framed.{IsPlacedWith, classes_with, entries_with}
use Rattle.par_framing.specs.Added.{AddsConstants, spare_with}
use Rattle.par_compile.specs.Own.{code_in, code_entries, code_classes}
use Rattle.par_compile.specs.Room.{Leaves}
use Rattle.par_compile.proofs.Growing.{room_smaller, spare_few}
use Rattle.par_compile.proofs.Framed.{code_grows, code_stays, placed_fits, placed_short}
use Rattle.par_compile.proofs.methods.placed.Goals as goal

pub place-requires-clause-frames : goal.place-requires-clause-frames
place-requires-clause-frames c = λ t.
    subst AreFramesPlaceable (sym c.in_ok-code.ensures) c.requires.ready.framed

pub place-requires-clause-room : goal.place-requires-clause-room
place-requires-clause-room c =
    let f = c.args.frames in
    let few = code_entries f c.args.plain.now c.args.method.now in
    subst (λ (k : Labelled).
    HasRoom c.args.pool.now (entries_with f k + spare_with f) (classes_with f k))
    (sym c.in_ok-code.ensures)
    (room_smaller c.args.pool.now (few + SPARE) (few + spare_with f)
    (code_classes f c.args.plain.now c.args.method.now) (omega (arith, spare_few f))
    c.requires.room)

pub returns-clause-grows : goal.returns-clause-grows
returns-clause-grows c =
    let l = code_in c.args.plain.now c.args.method.now in
    code_grows c.args.frames c.args.pool.now c.place.new.pool l
    (subst (λ (k : Labelled). AddsConstants c.args.frames c.args.pool.now c.place.new.pool k)
    c.in_ok-code.ensures c.in_ok-attribute.ensures.added)

pub returns-clause-is : goal.returns-clause-is
returns-clause-is c =
    code_stays c.args.frames c.place.new.pool (code_in c.args.plain.now c.args.method.now)
    c.in_ok-attribute.attribute
    (subst (λ (k : Labelled).
    IsPlacedWith c.args.frames c.place.new.pool k c.in_ok-attribute.attribute)
    c.in_ok-code.ensures c.in_ok-attribute.ensures.placed)

pub returns-clause-fits : goal.returns-clause-fits
returns-clause-fits c =
    placed_fits c.place.new.pool c.in_ok-attribute.attribute c.in_ok-attribute.ensures.fits

pub returns-clause-short : goal.returns-clause-short
returns-clause-short c =
    placed_short c.args.frames c.place.new.pool c.in_ok-code.code c.in_ok-attribute.attribute
    c.in_ok-attribute.ensures.placed c.in_ok-attribute.ensures.fits

pub returns-clause-left : goal.returns-clause-left
returns-clause-left c =
    subst (λ (k : Labelled).
    Leaves (entries_with c.args.frames k) (classes_with c.args.frames k) c.args.pool.now
    c.place.new.pool) c.in_ok-code.ensures c.in_ok-attribute.ensures.room
