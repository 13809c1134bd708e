use Rattle.std.proofs.Common.{◌+◌, List, ◌++◌, sym, subst, arith}
use Rattle.std.specs.Prelude.{All, IfOk, slice_index}
use Rattle.par_kinds.specs.declared.frame.PlacedFrame.{PlacedFrame}
use Rattle.par_frames.specs.Names.{classes_named}
use Rattle.par_frames.specs.Room.{HasRoom, IsShort, Ascend, offsets, SPARE}
use Rattle.par_compile_laws.specs.Framed.{AreAttributes, frames_with}
use Rattle.par_compile_laws.specs.Framed.{frame_classes}
use Rattle.par_framing.proofs.Kept.{room_fewer, among_later}
use Rattle.par_framing.proofs.Tables.{table_none, table_among}
use Rattle.par_framing.proofs.Written.{have_labels, all_short, classes_written}
use Rattle.par_framing.proofs.Climbing.{frames_ascend}
use Rattle.par_framing.specs.Added.{AddsTable}
use Rattle.par_framing.proofs.attribute.attributes_of.Goals as goal

pub frames_at-requires : goal.frames_at-requires
frames_at-requires c = record {
  labels =
      have_labels c.args.code.now c.args.offsets.now c.requires.placeable c.requires.labels;
}

pub table_of-table-requires-clause-ascend : goal.table_of-table-requires-clause-ascend
table_of-table-requires-clause-ascend c =
    subst (λ (fs : List PlacedFrame). Ascend 0 (offsets fs)) (sym c.in_ok-at.ensures)
    (frames_ascend c.args.code.now c.args.offsets.now c.requires.placeable c.requires.labels)

pub table_of-table-requires-clause-short : goal.table_of-table-requires-clause-short
table_of-table-requires-clause-short c =
    subst (λ (fs : List PlacedFrame). All IsShort fs) (sym c.in_ok-at.ensures)
    (all_short (slice_index c.args.offsets.now) c.args.code.now
    (omega (arith, c.requires.few_locals)) (omega (arith, c.requires.few_operands))
    c.requires.placeable)

pub table_of-table-requires-clause-room : goal.table_of-table-requires-clause-room
table_of-table-requires-clause-room c =
    let code = c.args.code.now in
    let f = slice_index c.args.offsets.now in
    subst (λ (fs : List PlacedFrame). HasRoom c.args.pool.now (1 + SPARE) (classes_named fs))
    (sym c.in_ok-at.ensures)
    (room_fewer c.args.pool.now (1 + SPARE) (classes_named (frames_with f code))
    (frame_classes code) (classes_written f code) c.requires.room)

pub returns-in_err-at-clause-added : goal.returns-in_err-at-clause-added
returns-in_err-at-clause-added c =
    table_none c.args.pool.now (frame_classes c.args.code.now)

pub returns-clause-are : goal.returns-clause-are
returns-clause-are c =
    let pool = c.table_of-table.new.pool in
    subst (λ (fs : List PlacedFrame).
    IfOk c.table_of-table.result (λ as'. AreAttributes pool c.args.code.now fs as'))
    c.in_ok-at.ensures c.table_of-table.ensures.are

pub returns-clause-room : goal.returns-clause-room
returns-clause-room c = λ spare later h.
    let code = c.args.code.now in
    let f = slice_index c.args.offsets.now in
    let fs = frames_with f code in
    c.table_of-table.ensures.room spare later
    (subst (λ (gs : List PlacedFrame).
    HasRoom c.args.pool.now (1 + spare) (classes_named gs ++ later)) (sym c.in_ok-at.ensures)
    (room_fewer c.args.pool.now (1 + spare) (classes_named fs ++ later)
    (frame_classes code ++ later)
    (among_later (classes_named fs) (frame_classes code) later (classes_written f code)) h))

pub returns-clause-added : goal.returns-clause-added
returns-clause-added c =
    let code = c.args.code.now in
    let f = slice_index c.args.offsets.now in
    let fs = frames_with f code in
    table_among c.args.pool.now c.table_of-table.new.pool (classes_named fs) (frame_classes code)
    (classes_written f code)
    (subst (λ (gs : List PlacedFrame).
    AddsTable c.args.pool.now c.table_of-table.new.pool (classes_named gs)) c.in_ok-at.ensures
    c.table_of-table.ensures.added)
