use Rattle.std.proofs.Common.{inl}
use Rattle.par_tool.proofs.Spending.{read_alone, on_memory}
use Rattle.par_tool.proofs.Compiling.{all_written, one_failed, cut_short}
use Rattle.par_tool.proofs.sources.compile_file.Goals as goal

-- the source that was read is accepted as this program
pub classes_of-requires-clause-accepted : goal.classes_of-requires-clause-accepted
classes_of-requires-clause-accepted g c =
    let read = c.in_ok-typed.ensures.accepted in (read.0, read.2)

pub classes_of-requires-clause-well_formed : goal.classes_of-requires-clause-well_formed
classes_of-requires-clause-well_formed g c = c.in_ok-typed.ensures.well_formed

pub write_classes-requires : goal.write_classes-requires
write_classes-requires g c =
    rw c.as_slice.ensures (record { apart = c.in_ok-classes.ensures.apart })

-- all are written
pub returns-in-Ok-clause-compiled : goal.returns-in-Ok-clause-compiled
returns-in-Ok-clause-compiled g c =
    let are = c.in_ok-classes.ensures.are in
    let written = rw c.as_slice.ensures at c.in-Ok.ensures.written in
    all_written (g.F.Folder.files c.args.folder.now)
    (g.F.Folder.files c.program_source.new.folder) (g.F.Folder.files c.write_classes.new.folder)
    (g.F.Folder.counts c.args.folder.now) (g.F.Folder.counts c.program_source.new.folder)
    (g.F.Folder.counts c.write_classes.new.folder) c.args.file.now
    c.in_ok-typed.typed c.in_ok-classes.classes are
    c.in_ok-typed.ensures.accepted c.program_source.ensures.kept
    c.program_source.ensures.counted _ c.len.ensures written

-- a write failed
pub returns-in-Err-Failed-clause-failed : goal.returns-in-Err-Failed-clause-failed
returns-in-Err-Failed-clause-failed g c =
    let are = c.in_ok-classes.ensures.are in
    let cut = rw c.in-Err-Failed.field-0-is at rw c.as_slice.ensures at
    c.in-Err-Failed.ensures.cut_off in
    one_failed (g.F.Folder.files c.args.folder.now)
    (g.F.Folder.files c.program_source.new.folder) (g.F.Folder.files c.write_classes.new.folder)
    (g.F.Folder.counts c.args.folder.now) (g.F.Folder.counts c.program_source.new.folder)
    (g.F.Folder.counts c.write_classes.new.folder) c.args.file.now
    c.in_ok-typed.typed c.in_ok-classes.classes are
    c.in_ok-typed.ensures.accepted c.program_source.ensures.kept
    c.program_source.ensures.counted c.program_source.ensures.none_falls.0 cut

-- memory was wanting for the class files
pub returns-in_err-classes-clause-memory : goal.returns-in_err-classes-clause-memory
returns-in_err-classes-clause-memory g c =
    on_memory c.from_residual-in_err-classes.result (
      inl (c.program_source.ensures.kept, c.program_source.ensures.counted),
      read_alone (g.F.Folder.counts c.args.folder.now)
          (g.F.Folder.counts c.program_source.new.folder) c.program_source.ensures.counted,
    )

-- or behind some of them
pub returns-clause-memory : goal.returns-clause-memory
returns-clause-memory g c =
    let are = c.in_ok-classes.ensures.are in
    let cut = rw c.in-Err-Memory.field-0-is at rw c.as_slice.ensures at
    c.in-Err-Memory.ensures.cut_off in
    λ is. cut_short (g.F.Folder.files c.args.folder.now)
    (g.F.Folder.files c.program_source.new.folder) (g.F.Folder.files c.write_classes.new.folder)
    (g.F.Folder.counts c.args.folder.now) (g.F.Folder.counts c.program_source.new.folder)
    (g.F.Folder.counts c.write_classes.new.folder) c.args.file.now
    c.in_ok-typed.typed c.in_ok-classes.classes are
    c.in_ok-typed.ensures.accepted c.program_source.ensures.kept
    c.program_source.ensures.counted c.in_ok-classes.ensures.few cut
