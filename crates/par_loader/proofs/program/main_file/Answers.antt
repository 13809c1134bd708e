use Rattle.par_loader.proofs.Ended.{first_lacks, first_found, first_answered, first_stand}
use Rattle.par_loader.proofs.program.main_file.Goals as goal

pub returns-in_err-name-clause-step : goal.returns-in_err-name-clause-step
returns-in_err-name-clause-step g c =
    first_lacks (g.F.Folder.files c.args.folder.now) c.args.main.now
    (g.F.Folder.counts c.args.folder.now)
    (g.F.Folder.counts c.args.folder.now) c.from_residual.result c.from_residual.ensures.1

pub returns-in-Ok-clause-step : goal.returns-in-Ok-clause-step
returns-in-Ok-clause-step g c =
    first_found (g.F.Folder.files c.args.folder.now) c.args.main.now
    (g.F.Folder.counts c.args.folder.now) (g.F.Folder.counts c.class_file.new.folder)
    c.in-Ok.file c.class_file.ensures.counted (rw c.as_bytes.ensures.value at c.in-Ok.ensures.found)

pub returns-clause-step : goal.returns-clause-step
returns-clause-step g c =
    let told = rw c.as_bytes-in-Err.ensures.value at c.first_unloaded.ensures in
    let found = rw c.as_bytes.ensures.value at c.in-Err.ensures.found in
    first_answered (g.F.Folder.files c.args.folder.now) c.args.main.now
    (g.F.Folder.counts c.args.folder.now) (g.F.Folder.counts c.class_file.new.folder)
    c.in-Err.unfound c.first_unloaded.result c.class_file.ensures.counted told
    c.in-Err.ensures.rose found

pub returns-clause-faults_are_told : goal.returns-clause-faults_are_told
returns-clause-faults_are_told g c =
    λ alone. first_stand _ c.in-Err.unfound c.first_unloaded.result _ _ c.first_unloaded.ensures
    (c.in-Err.ensures.faults_are_told alone)
