use Rattle.std.proofs.Common.{List, ℕ, refl, sym, subst}
use Rattle.par_place.specs.par_code_form.PoolNames.{entry_count}
use Rattle.par_place.specs.Labels.{IsPlacedAt}
use Rattle.par_framing.specs.Added.{HasLabelOffsets}
use Rattle.par_framing.proofs.Kept.{fits_kept}
use Rattle.par_framing.proofs.Tables.{constants_then}
use Rattle.par_framing.proofs.Whole.{placed_framed, label_offsets, room_framed}
use Rattle.par_framing.proofs.Whole.{room_plain, room_between}
use Rattle.par_framing.proofs.placement.place.Goals as goal

pub attributes_of-requires-clause-labels : goal.attributes_of-requires-clause-labels
attributes_of-requires-clause-labels c =
    subst (λ (os : List ℕ). HasLabelOffsets c.args.code.now os) (sym c.deref.ensures.value)
    (label_offsets c.place_labels.new.pool c.args.code.now c.in_ok-attr.field-0.attr
    c.in_ok-attr.field-0.offsets.items c.in_ok-attr.ensures.placed)

pub attributes_of-requires-clause-room : goal.attributes_of-requires-clause-room
attributes_of-requires-clause-room c =
    room_framed c.args.frames c.args.pool.now c.place_labels.new.pool c.args.code.now
    c.if-not-frames.false c.in_ok-attr.ensures.added c.requires.room

pub returns-then-not-frames-clause-room : goal.returns-then-not-frames-clause-room
returns-then-not-frames-clause-room c = λ spare later h.
    room_plain c.args.frames c.args.pool.now c.place_labels.new.pool c.args.code.now
    c.if-not-frames.true c.in_ok-attr.ensures.added spare later h

pub returns-in_err-attributes-clause-added : goal.returns-in_err-attributes-clause-added
returns-in_err-attributes-clause-added c =
    constants_then c.args.frames c.args.pool.now c.place_labels.new.pool
    c.attributes_of.new.pool (entry_count c.args.code.now) c.args.code.now
    c.if-not-frames.false c.in_ok-attr.ensures.added c.in_err-attributes.ensures.added

pub returns-clause-added : goal.returns-clause-added
returns-clause-added c =
    constants_then c.args.frames c.args.pool.now c.place_labels.new.pool
    c.attributes_of.new.pool (entry_count c.args.code.now) c.args.code.now
    c.if-not-frames.false c.in_ok-attr.ensures.added c.in_ok-attributes.ensures.added

pub returns-clause-room : goal.returns-clause-room
returns-clause-room c = λ spare later h.
    c.in_ok-attributes.ensures.room spare later
    (room_between c.args.frames c.args.pool.now c.place_labels.new.pool c.args.code.now
    c.if-not-frames.false c.in_ok-attr.ensures.added spare later h)

pub returns-clause-fits : goal.returns-clause-fits
returns-clause-fits c = λ sized.
    let a = c.in_ok-attributes.ensures.added in
    let attr = c.in_ok-attr.field-0.attr in
    fits_kept c.place_labels.new.pool c.attributes_of.new.pool a.more a.behind attr
    (record attr { attributes = c.in_ok-attributes.attributes })
    (record { code = refl; catches = refl; max_stack = refl; max_locals = refl })
    c.in_ok-attr.ensures.fits (c.in_ok-attributes.ensures.fit sized)

pub returns-clause-placed : goal.returns-clause-placed
returns-clause-placed c =
    let a = c.in_ok-attributes.ensures.added in
    let attr = c.in_ok-attr.field-0.attr in
    placed_framed c.args.frames c.place_labels.new.pool c.attributes_of.new.pool a.more
    c.args.code.now attr (record attr { attributes = c.in_ok-attributes.attributes })
    c.deref.result.now c.if-not-frames.false a.behind
    (record { code = refl; catches = refl; max_stack = refl; max_locals = refl })
    (subst (λ (os : List ℕ). IsPlacedAt c.place_labels.new.pool c.args.code.now attr os)
    (sym c.deref.ensures.value) c.in_ok-attr.ensures.placed)
    (c.requires.frames c.if-not-frames.false) c.in_ok-attributes.ensures.are
