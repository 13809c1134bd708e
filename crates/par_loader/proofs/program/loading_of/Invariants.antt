use Rattle.std.proofs.Common.{◌≡◌}
use Rattle.std.specs.Prelude.{IsTrue}
use Rattle.par_loader.proofs.Loop.{IsLoading}
use Rattle.par_loader.proofs.program.loading_of.Given as goal

abbrev pub invariant-loop : goal.invariant-loop
invariant-loop g l =
    (g.F.Folder.files l.folder ≡ g.F.Folder.files l.initial.folder)
    × (IsTrue g.F.Folder.counts_faults_alone
    → (g.F.Folder.counts l.folder).faults ≡ (g.F.Folder.counts l.initial.folder).faults)
    × IsLoading (g.F.Folder.files l.initial.folder) l.fn.file l.loading.files l.counter
    (g.F.Folder.counts l.initial.folder) (g.F.Folder.counts l.folder)
