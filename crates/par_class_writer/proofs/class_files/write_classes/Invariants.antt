use Rattle.std.proofs.Common.{take}
use Rattle.par_class_writer.proofs.Changes.{IsUnderWay}
use Rattle.par_class_writer.proofs.class_files.write_classes.Given as goal

abbrev pub invariant-loop-place : goal.invariant-loop-place
invariant-loop-place g l =
    IsUnderWay g.F.Folder.counts_faults_alone (take l.place l.classes)
    (g.F.Folder.files l.fn.folder) (g.F.Folder.files l.folder)
    (g.F.Folder.counts l.fn.folder) (g.F.Folder.counts l.folder)
