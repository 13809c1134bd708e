use Rattle.std.proofs.Common.{◌≡◌, slice_get, subst, inl}
use Rattle.std.specs.Prelude.{Option, Err, Ok, All}
use Rattle.par_io.specs.Causes.{FolderCounts, Files}
use Rattle.par_loader.specs.Ends.{Judges, IsRead}
use Rattle.par_loader.specs.Begun.{BeginsMain}
use Rattle.par_tool.specs.declared.reads.Failure.{Failure}
use Rattle.par_tool.specs.declared.reads.Failure.TheVariants.{Memory}
use Rattle.par_tool.specs.Failures.{IsFailure, failure_of}
use Rattle.par_tool.specs.Outside.{Text}
use Rattle.par_tool.specs.Classes.{NotRun, LacksMemory, AreLoaded}
use Rattle.par_tool.proofs.Beginning.{begins_there}
use Rattle.par_tool.proofs.Linked.{unframed, looked_wants, starts, fails, wants}
use Rattle.par_tool.proofs.Loads.{main_unlinked, rest_unlinked, unlinked_fails, unlinked_wants}
use Rattle.par_tool.proofs.Loads.{handed}
use Rattle.par_tool.proofs.Spending.{on_memory}
use Rattle.par_tool.proofs.classes.started.Goals as goal

pub returns-in_err-file-clause-memory : goal.returns-in_err-file-clause-memory
returns-in_err-file-clause-memory g c =
    let files : Option Files = g.F.Folder.files c.args.folder.now in
    let before : FolderCounts = g.F.Folder.counts c.args.folder.now in
    let after : FolderCounts = g.F.Folder.counts c.main_file.new.folder in
    let main : Text = c.args.main.now in
    let h = c.in_err-file.ensures.step in
    handed c.from_residual.result (failure_of c.in_err-file.field-0.0)
    (λ (failure : Failure). failure ≡ Memory
    → LacksMemory files before after main c.args.name.now) c.from_residual.ensures.1
    (λ is. inl (unlinked_wants files main before after c.in_err-file.field-0.0
    (main_unlinked files main before after h.0 h.1 c.in_err-file.field-0.0 h.2) is))

pub returns-in_err-file-clause-failed : goal.returns-in_err-file-clause-failed
returns-in_err-file-clause-failed g c =
    let files : Option Files = g.F.Folder.files c.args.folder.now in
    let before : FolderCounts = g.F.Folder.counts c.args.folder.now in
    let after : FolderCounts = g.F.Folder.counts c.main_file.new.folder in
    let h = c.in_err-file.ensures.step in
    handed c.from_residual.result (failure_of c.in_err-file.field-0.0)
    (IsFailure (NotRun files before after c.args.main.now c.args.name.now))
    c.from_residual.ensures.1
    (unlinked_fails files c.args.main.now c.args.name.now before after c.in_err-file.field-0.0
    (main_unlinked files c.args.main.now before after h.0 h.1 c.in_err-file.field-0.0 h.2))

pub returns-in_err-linked-clause-failed : goal.returns-in_err-linked-clause-failed
returns-in_err-linked-clause-failed g c =
    let files : Option Files = g.F.Folder.files c.args.folder.now in
    let first : FolderCounts = g.F.Folder.counts c.args.folder.now in
    let before : FolderCounts = g.F.Folder.counts c.main_file.new.folder in
    let after : FolderCounts = g.F.Folder.counts c.linked_program.new.folder in
    let main : Text = c.args.main.now in
    let e = c.in_err-linked.field-0.0 in
    let judged : Judges files main before after (Err e) =
    subst (λ (fs : Option Files). Judges fs main before after (Err e)) c.main_file.ensures.kept
    (subst (λ (n : Text). Judges (g.F.Folder.files c.main_file.new.folder) n before after (Err e))
    c.in_ok-file.ensures.own c.in_err-linked.ensures.judges) in
    handed c.from_residual-in_err-linked.result (failure_of e)
    (IsFailure (NotRun files first after main c.args.name.now))
    c.from_residual-in_err-linked.ensures.1
    (unlinked_fails files main c.args.name.now first after e
    (rest_unlinked files main first before after c.in_ok-file.ensures.step.2.1
    c.main_file.ensures.none_falls e judged))

pub returns-in_err-linked-clause-memory : goal.returns-in_err-linked-clause-memory
returns-in_err-linked-clause-memory g c =
    let first : FolderCounts = g.F.Folder.counts c.args.folder.now in
    let before : FolderCounts = g.F.Folder.counts c.main_file.new.folder in
    let after : FolderCounts = g.F.Folder.counts c.linked_program.new.folder in
    let files : Option Files = g.F.Folder.files c.args.folder.now in
    let main : Text = c.args.main.now in
    let e = c.in_err-linked.field-0.0 in
    let judged : Judges files main before after (Err e) =
    subst (λ (fs : Option Files). Judges fs main before after (Err e)) c.main_file.ensures.kept
    (subst (λ (n : Text). Judges (g.F.Folder.files c.main_file.new.folder) n before after (Err e))
    c.in_ok-file.ensures.own c.in_err-linked.ensures.judges) in
    handed c.from_residual-in_err-linked.result (failure_of e)
    (λ (failure : Failure). failure ≡ Memory
    → LacksMemory files first after main c.args.name.now) c.from_residual-in_err-linked.ensures.1
    (λ is. inl (unlinked_wants files main first after e
    (rest_unlinked files main first before after c.in_ok-file.ensures.step.2.1
    c.main_file.ensures.none_falls e judged) is))

pub returns-in_err-framed-clause-failed : goal.returns-in_err-framed-clause-failed
returns-in_err-framed-clause-failed g c =
    let files : Option Files = g.F.Folder.files c.args.folder.now in
    let first : FolderCounts = g.F.Folder.counts c.args.folder.now in
    let before : FolderCounts = g.F.Folder.counts c.main_file.new.folder in
    let between : FolderCounts = g.F.Folder.counts c.linked_program.new.folder in
    let main : Text = c.args.main.now in
    let all = c.in_ok-linked.linked in
    let judged : Judges files main before between (Ok all) =
    subst (λ (fs : Option Files). Judges fs main before between (Ok all)) c.main_file.ensures.kept
    (subst (λ (n : Text). Judges (g.F.Folder.files c.main_file.new.folder) n before between
    (Ok all)) c.in_ok-file.ensures.own c.in_ok-linked.ensures.judges) in
    handed c.from_residual-in_err-framed.result (failure_of c.in_err-framed.field-0.0)
    (IsFailure (NotRun files first between main c.args.name.now))
    c.from_residual-in_err-framed.ensures.1
    (unframed files main c.args.name.now first before between all c.in_ok-file.ensures.step.2.1
    judged c.in_err-framed.field-0.0 c.in_err-framed.ensures)

pub returns-in_err-framed-clause-memory : goal.returns-in_err-framed-clause-memory
returns-in_err-framed-clause-memory g c =
    let first : FolderCounts = g.F.Folder.counts c.args.folder.now in
    let before : FolderCounts = g.F.Folder.counts c.main_file.new.folder in
    let between : FolderCounts = g.F.Folder.counts c.linked_program.new.folder in
    let files : Option Files = g.F.Folder.files c.args.folder.now in
    let main : Text = c.args.main.now in
    let all = c.in_ok-linked.linked in
    let judged : Judges files main before between (Ok all) =
    subst (λ (fs : Option Files). Judges fs main before between (Ok all)) c.main_file.ensures.kept
    (subst (λ (n : Text). Judges (g.F.Folder.files c.main_file.new.folder) n before between
    (Ok all)) c.in_ok-file.ensures.own c.in_ok-linked.ensures.judges) in
    on_memory c.from_residual-in_err-framed.result
    (looked_wants files main c.args.name.now first before between all
    c.in_ok-file.ensures.step.2.1 judged)

pub returns-in_err-inputs-clause-failed : goal.returns-in_err-inputs-clause-failed
returns-in_err-inputs-clause-failed g c =
    let files : Option Files = g.F.Folder.files c.args.folder.now in
    let first : FolderCounts = g.F.Folder.counts c.args.folder.now in
    let before : FolderCounts = g.F.Folder.counts c.main_file.new.folder in
    let between : FolderCounts = g.F.Folder.counts c.linked_program.new.folder in
    let after : FolderCounts = g.F.Folder.counts c.inputs.new.folder in
    let main : Text = c.args.main.now in
    let all = c.in_ok-linked.linked in
    let judged : Judges files main before between (Ok all) =
    subst (λ (fs : Option Files). Judges fs main before between (Ok all)) c.main_file.ensures.kept
    (subst (λ (n : Text). Judges (g.F.Folder.files c.main_file.new.folder) n before between
    (Ok all)) c.in_ok-file.ensures.own c.in_ok-linked.ensures.judges) in
    let unfit =
    rw (c.linked_program.ensures.kept, c.main_file.ensures.kept) at
    c.in_err-inputs.ensures.failed in
    handed c.from_residual-in_err-inputs.result c.in_err-inputs.field-0.0
    (IsFailure (NotRun files first after main c.args.name.now))
    c.from_residual-in_err-inputs.ensures.1
    (fails files main c.args.name.now first before between after all c.in_ok-file.ensures.step.2.1
    judged c.inputs.ensures.counted c.main_file.ensures.none_falls
    c.linked_program.ensures.none_falls c.in_ok-framed.ensures c.in_err-inputs.field-0.0
    unfit)

pub returns-in_err-inputs-clause-memory : goal.returns-in_err-inputs-clause-memory
returns-in_err-inputs-clause-memory g c =
    let first : FolderCounts = g.F.Folder.counts c.args.folder.now in
    let before : FolderCounts = g.F.Folder.counts c.main_file.new.folder in
    let between : FolderCounts = g.F.Folder.counts c.linked_program.new.folder in
    let after : FolderCounts = g.F.Folder.counts c.inputs.new.folder in
    let files : Option Files = g.F.Folder.files c.args.folder.now in
    let main : Text = c.args.main.now in
    let all = c.in_ok-linked.linked in
    let judged : Judges files main before between (Ok all) =
    subst (λ (fs : Option Files). Judges fs main before between (Ok all)) c.main_file.ensures.kept
    (subst (λ (n : Text). Judges (g.F.Folder.files c.main_file.new.folder) n before between
    (Ok all)) c.in_ok-file.ensures.own c.in_ok-linked.ensures.judges) in
    on_memory c.from_residual-in_err-inputs.result
    (wants files main c.args.name.now first before between after all
    c.in_ok-file.ensures.step.2.1 judged c.inputs.ensures.counted c.in_ok-framed.ensures)

pub start-requires : goal.start-requires
start-requires g c = begins_there (slice_get c.in_ok-linked.linked 0) c.in_ok-linked.ensures.begun

pub returns-in-Ok-clause-started : goal.returns-in-Ok-clause-started
returns-in-Ok-clause-started g c =
    let files : Option Files = g.F.Folder.files c.args.folder.now in
    let first : FolderCounts = g.F.Folder.counts c.args.folder.now in
    let before : FolderCounts = g.F.Folder.counts c.main_file.new.folder in
    let between : FolderCounts = g.F.Folder.counts c.linked_program.new.folder in
    let after : FolderCounts = g.F.Folder.counts c.inputs.new.folder in
    let main : Text = c.args.main.now in
    let all = c.in_ok-linked.linked in
    let judged : Judges files main before between (Ok all) =
    subst (λ (fs : Option Files). Judges fs main before between (Ok all)) c.main_file.ensures.kept
    (subst (λ (n : Text). Judges (g.F.Folder.files c.main_file.new.folder) n before between
    (Ok all)) c.in_ok-file.ensures.own c.in_ok-linked.ensures.judges) in
    let loaded : AreLoaded files main all =
    record {
      read =
          subst (λ (fs : Option Files). All (IsRead fs) all) c.main_file.ensures.kept
          c.in_ok-linked.ensures.read;
      coded = c.in_ok-linked.ensures.coded;
      framed = c.in_ok-framed.ensures;
      begins =
          subst (λ (n : Text). BeginsMain n all) c.in_ok-file.ensures.own
          c.in_ok-linked.ensures.main;
    } in
    let given =
    rw (c.linked_program.ensures.kept, c.main_file.ensures.kept) at c.in_ok-inputs.ensures.given in
    starts files main c.args.name.now first before between after all c.in_ok-file.ensures.step.2.1
    judged c.inputs.ensures.counted
    c.in_ok-file.file c.in_ok-linked.ensures.first c.in_ok-file.ensures.own loaded c.in-Ok.machine
    c.in_ok-inputs.inputs given c.in-Ok.ensures.files c.in-Ok.ensures.state c.in-Ok.ensures.steps

pub returns-in-Err-clause-memory : goal.returns-in-Err-clause-memory
returns-in-Err-clause-memory g c =
    let first : FolderCounts = g.F.Folder.counts c.args.folder.now in
    let before : FolderCounts = g.F.Folder.counts c.main_file.new.folder in
    let between : FolderCounts = g.F.Folder.counts c.linked_program.new.folder in
    let after : FolderCounts = g.F.Folder.counts c.inputs.new.folder in
    let files : Option Files = g.F.Folder.files c.args.folder.now in
    let main : Text = c.args.main.now in
    let all = c.in_ok-linked.linked in
    let judged : Judges files main before between (Ok all) =
    subst (λ (fs : Option Files). Judges fs main before between (Ok all)) c.main_file.ensures.kept
    (subst (λ (n : Text). Judges (g.F.Folder.files c.main_file.new.folder) n before between
    (Ok all)) c.in_ok-file.ensures.own c.in_ok-linked.ensures.judges) in
    λ is. wants files main c.args.name.now first before between after all
    c.in_ok-file.ensures.step.2.1 judged c.inputs.ensures.counted c.in_ok-framed.ensures
