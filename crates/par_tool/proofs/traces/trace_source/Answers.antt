use Rattle.std.proofs.Common.{Option, refl}
use Rattle.par_io.specs.Causes.{FolderCounts, Files}
use Rattle.par_tool.proofs.Spending.{two_reads}
use Rattle.par_tool.proofs.Traced.{traced, untraced, source_stands}
use Rattle.par_tool.proofs.traces.trace_source.Goals as goal

pub returns-in-Ok-clause-traced : goal.returns-in-Ok-clause-traced
returns-in-Ok-clause-traced g c =
    let files : Option Files = g.F.Folder.files c.args.folder.now in
    let ran = c.in-Ok.ensures.ran in
    let given = rw c.program_source.ensures.kept at ran.1 in
    traced files c.args.file.now c.args.name.now c.args.bound c.args.bound c.in_ok-typed.typed
    c.in-Ok.run' ran.0 refl c.in_ok-typed.ensures.accepted given ran.2

pub returns-in-Err-clause-failed : goal.returns-in-Err-clause-failed
returns-in-Err-clause-failed g c =
    let files : Option Files = g.F.Folder.files c.args.folder.now in
    let before : FolderCounts = g.F.Folder.counts c.args.folder.now in
    let between : FolderCounts = g.F.Folder.counts c.program_source.new.folder in
    let after : FolderCounts = g.F.Folder.counts c.run_on.new.folder in
    let unfit = rw c.program_source.ensures.kept at c.in-Err.ensures.failed in
    untraced files before between after c.args.file.now c.args.name.now
    c.in_ok-typed.typed c.in_ok-typed.ensures.accepted
    (two_reads before between after c.program_source.ensures.counted c.run_on.ensures.counted)
    c.program_source.ensures.none_falls c.in-Err.failure unfit

pub returns-in-Err-clause-memory : goal.returns-in-Err-clause-memory
returns-in-Err-clause-memory g c =
    let files : Option Files = g.F.Folder.files c.args.folder.now in
    let before : FolderCounts = g.F.Folder.counts c.args.folder.now in
    let between : FolderCounts = g.F.Folder.counts c.program_source.new.folder in
    let after : FolderCounts = g.F.Folder.counts c.run_on.new.folder in
    λ is. source_stands files before after c.args.file.now c.args.name.now
    c.in_ok-typed.typed c.in_ok-typed.ensures.accepted
    (two_reads before between after c.program_source.ensures.counted c.run_on.ensures.counted)
