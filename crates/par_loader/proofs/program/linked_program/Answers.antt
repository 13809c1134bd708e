use Rattle.std.proofs.Common.{sym, ap, subst}
use Rattle.std.proofs.lemmas.Result.{IfOk-weaker}
use Rattle.std.specs.List.{All}
use Rattle.par_single.specs.Members.{own_name}
use Rattle.par_loader.specs.Begun.{AreCoded}
use Rattle.par_loader.specs.Ends.{IsRead}
use Rattle.par_loader.specs.Judged.{name_of}
use Rattle.par_loader.proofs.Coded.{are_coded}
use Rattle.par_loader.proofs.Judging.{judges}
use Rattle.par_loader.proofs.Loop.{all_spelled}
use Rattle.par_loader.proofs.Mains.{program_begins}
use Rattle.par_loader.proofs.program.linked_program.Goals as goal

pub linked-requires-clause-spelled : goal.linked-requires-clause-spelled
linked-requires-clause-spelled g c =
    all_spelled (g.F.Folder.files c.args.folder.now) c.in_ok-loading.loading.files
    c.in_ok-loading.ensures.read

pub returns-clause-judges : goal.returns-clause-judges
returns-clause-judges g c =
    judges (g.F.Folder.files c.args.folder.now) (own_name c.args.file)
    (g.F.Folder.counts c.args.folder.now) (g.F.Folder.counts c.loading_of.new.folder)
    c.in_ok-loading.loading c.linked.result c.in_ok-loading.ensures.loads
    (ap name_of c.in_ok-loading.ensures.first) c.linked.ensures.links

pub returns-clause-read : goal.returns-clause-read
returns-clause-read g c =
    IfOk-weaker c.linked.result _ _
    (λ linked is. subst (All (IsRead (g.F.Folder.files c.args.folder.now))) (sym is)
    c.in_ok-loading.ensures.read) c.linked.ensures.files

pub returns-clause-coded : goal.returns-clause-coded
returns-clause-coded g c =
    let files = c.in_ok-loading.loading.files in
    IfOk-weaker c.linked.result _ _
    (λ linked is. subst AreCoded (sym is)
    (are_coded files (all_spelled (g.F.Folder.files c.args.folder.now) files
    c.in_ok-loading.ensures.read))) c.linked.ensures.files

pub returns-clause-main : goal.returns-clause-main
returns-clause-main g c =
    program_begins c.linked.result c.in_ok-loading.loading.files c.args.file
    c.linked.ensures.unbroken c.linked.ensures.files c.linked.ensures.begun
    c.in_ok-loading.ensures.first
