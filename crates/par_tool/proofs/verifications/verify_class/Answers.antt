use Rattle.std.proofs.Common.{◌≡◌, ◌∙◌, subst}
use Rattle.std.specs.Prelude.{Option, Err, Ok}
use Rattle.par_io.specs.Causes.{FolderCounts, Files}
use Rattle.par_loader.specs.declared.error.Unloaded.TheVariants as unloaded
use Rattle.par_loader.specs.Ends.{Judges}
use Rattle.par_loader.specs.Begun.{BeginsMain}
use Rattle.par_tool.specs.declared.reads.Failure.{Failure}
use Rattle.par_tool.specs.declared.reads.Failure.TheVariants.{Memory}
use Rattle.par_tool.specs.Failures.{IsFailure, failure_of}
use Rattle.par_tool.specs.Outside.{Text}
use Rattle.par_tool.specs.Classes.{IsUnlinked}
use Rattle.par_tool.specs.Verifications.{VerifiedSo}
use Rattle.par_tool.proofs.Loads.{main_unlinked, rest_unlinked, unlinked_wants, handed}
use Rattle.par_tool.proofs.Spending.{on_memory}
use Rattle.par_tool.proofs.Verifying.{never_bad, classes_fail, all_fit, all_unfit, all_read}
use Rattle.par_tool.proofs.Verifying.{none_untold}
use Rattle.par_tool.proofs.verifications.verify_class.Goals as goal

pub returns-in_err-file-clause-memory : goal.returns-in_err-file-clause-memory
returns-in_err-file-clause-memory g c =
    let files : Option Files = g.F.Folder.files c.args.folder.now in
    let before : FolderCounts = g.F.Folder.counts c.args.folder.now in
    let after : FolderCounts = g.F.Folder.counts c.main_file.new.folder in
    let main : Text = c.args.main.now in
    let h = c.in_err-file.ensures.step in
    handed c.from_residual.result (failure_of c.in_err-file.field-0.0)
    (λ (failure : Failure). failure ≡ Memory
    → IsUnlinked files before after main unloaded.Memory) c.from_residual.ensures.1
    (unlinked_wants files main before after c.in_err-file.field-0.0
    (main_unlinked files main before after h.0 h.1 c.in_err-file.field-0.0 h.2))

pub returns-in_err-file-clause-failed : goal.returns-in_err-file-clause-failed
returns-in_err-file-clause-failed g c =
    let files : Option Files = g.F.Folder.files c.args.folder.now in
    let before : FolderCounts = g.F.Folder.counts c.args.folder.now in
    let after : FolderCounts = g.F.Folder.counts c.main_file.new.folder in
    let h = c.in_err-file.ensures.step in
    handed c.from_residual.result (failure_of c.in_err-file.field-0.0)
    (IsFailure (VerifiedSo files before after c.args.main.now)) c.from_residual.ensures.1
    (classes_fail files c.args.main.now before after c.in_err-file.field-0.0
    (main_unlinked files c.args.main.now before after h.0 h.1 c.in_err-file.field-0.0 h.2))

pub returns-in_err-linked-clause-failed : goal.returns-in_err-linked-clause-failed
returns-in_err-linked-clause-failed g c =
    let files : Option Files = g.F.Folder.files c.args.folder.now in
    let first : FolderCounts = g.F.Folder.counts c.args.folder.now in
    let before : FolderCounts = g.F.Folder.counts c.main_file.new.folder in
    let after : FolderCounts = g.F.Folder.counts c.linked_program.new.folder in
    let main : Text = c.args.main.now in
    let e = c.in_err-linked.field-0.0 in
    let judged : Judges files main before after (Err e) =
    subst (λ (fs : Option Files). Judges fs main before after (Err e)) c.main_file.ensures.kept
    (subst (λ (n : Text). Judges (g.F.Folder.files c.main_file.new.folder) n before after (Err e))
    c.in_ok-file.ensures.own c.in_err-linked.ensures.judges) in
    handed c.from_residual-in_err-linked.result (failure_of e)
    (IsFailure (VerifiedSo files first after main)) c.from_residual-in_err-linked.ensures.1
    (classes_fail files main first after e
    (rest_unlinked files main first before after c.in_ok-file.ensures.step.2.1
    c.main_file.ensures.none_falls e judged))

pub returns-in_err-linked-clause-memory : goal.returns-in_err-linked-clause-memory
returns-in_err-linked-clause-memory g c =
    let first : FolderCounts = g.F.Folder.counts c.args.folder.now in
    let before : FolderCounts = g.F.Folder.counts c.main_file.new.folder in
    let after : FolderCounts = g.F.Folder.counts c.linked_program.new.folder in
    let files : Option Files = g.F.Folder.files c.args.folder.now in
    let main : Text = c.args.main.now in
    let e = c.in_err-linked.field-0.0 in
    let judged : Judges files main before after (Err e) =
    subst (λ (fs : Option Files). Judges fs main before after (Err e)) c.main_file.ensures.kept
    (subst (λ (n : Text). Judges (g.F.Folder.files c.main_file.new.folder) n before after (Err e))
    c.in_ok-file.ensures.own c.in_err-linked.ensures.judges) in
    handed c.from_residual-in_err-linked.result (failure_of e)
    (λ (failure : Failure). failure ≡ Memory
    → IsUnlinked files first after main unloaded.Memory) c.from_residual-in_err-linked.ensures.1
    (unlinked_wants files main first after e
    (rest_unlinked files main first before after c.in_ok-file.ensures.step.2.1
    c.main_file.ensures.none_falls e judged))

pub returns-clause-verified : goal.returns-clause-verified
returns-clause-verified g c =
    let files : Option Files = g.F.Folder.files c.args.folder.now in
    let first : FolderCounts = g.F.Folder.counts c.args.folder.now in
    let before : FolderCounts = g.F.Folder.counts c.main_file.new.folder in
    let after : FolderCounts = g.F.Folder.counts c.linked_program.new.folder in
    let main : Text = c.args.main.now in
    let all = c.in_ok-linked.linked in
    let judged : Judges files main before after (Ok all) =
    subst (λ (fs : Option Files). Judges fs main before after (Ok all)) c.main_file.ensures.kept
    (subst (λ (n : Text). Judges (g.F.Folder.files c.main_file.new.folder) n before after (Ok all))
    c.in_ok-file.ensures.own c.in_ok-linked.ensures.judges) in
    all_fit files main first before after all c.in_ok-file.ensures.step.2.1 judged
    c.verified.result
    (never_bad main all c.count.ensures.linked c.in_ok-linked.ensures.coded
    (subst (λ (n : Text). BeginsMain n all) c.in_ok-file.ensures.own
    c.in_ok-linked.ensures.main))
    c.verified.ensures.verified

pub returns-clause-failed : goal.returns-clause-failed
returns-clause-failed g c =
    let files : Option Files = g.F.Folder.files c.args.folder.now in
    let first : FolderCounts = g.F.Folder.counts c.args.folder.now in
    let before : FolderCounts = g.F.Folder.counts c.main_file.new.folder in
    let after : FolderCounts = g.F.Folder.counts c.linked_program.new.folder in
    let main : Text = c.args.main.now in
    let all = c.in_ok-linked.linked in
    let judged : Judges files main before after (Ok all) =
    subst (λ (fs : Option Files). Judges fs main before after (Ok all)) c.main_file.ensures.kept
    (subst (λ (n : Text). Judges (g.F.Folder.files c.main_file.new.folder) n before after (Ok all))
    c.in_ok-file.ensures.own c.in_ok-linked.ensures.judges) in
    all_unfit files main first before after all c.in_ok-file.ensures.step.2.1 judged
    c.verified.result c.verified.ensures.failed

pub returns-clause-memory : goal.returns-clause-memory
returns-clause-memory g c =
    let first : FolderCounts = g.F.Folder.counts c.args.folder.now in
    let before : FolderCounts = g.F.Folder.counts c.main_file.new.folder in
    let after : FolderCounts = g.F.Folder.counts c.linked_program.new.folder in
    let files : Option Files = g.F.Folder.files c.args.folder.now in
    let main : Text = c.args.main.now in
    let all = c.in_ok-linked.linked in
    let judged : Judges files main before after (Ok all) =
    subst (λ (fs : Option Files). Judges fs main before after (Ok all)) c.main_file.ensures.kept
    (subst (λ (n : Text). Judges (g.F.Folder.files c.main_file.new.folder) n before after (Ok all))
    c.in_ok-file.ensures.own c.in_ok-linked.ensures.judges) in
    on_memory c.verified.result
    (all_read files main first before after all c.in_ok-file.ensures.step.2.1 judged)

pub returns-clause-faults_are_told : goal.returns-clause-faults_are_told
returns-clause-faults_are_told g c =
    λ alone. none_untold c.verified.result _ _
    (c.in_ok-linked.ensures.faults_are_told alone ∙ c.in_ok-file.ensures.faults_are_told alone)
