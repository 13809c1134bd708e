use Rattle.std.proofs.Common.{refl}
use Rattle.par_method_area.specs.par_step_laws.Classes.{class_names}
use Rattle.par_method_area.specs.par_step_laws.Links.{link_at}
use Rattle.par_machine.specs.Running.{here}
use Rattle.par_machine.specs.Site.{areas_at, spot_of, operation_at}
use Rattle.par_machine.proofs.Coming.{is_at}
use Rattle.par_machine.proofs.Owned.{work_own, work_unbranched}
use Rattle.par_machine.proofs.Performed.{performs}
use Rattle.par_machine.proofs.run.Running.work.Goals as goal

pub returns : goal.returns
returns c =
    let files = c.args.area.now.files in
    let r = c.args.self.now in
    let own = work_own (link_at files (here r).class) c.args.site.instr c.requires.instr in
    let at = is_at files r c.args.site c.args.ahead c.requires.there
    (work_unbranched c.args.site.instr c.requires.instr) in
    performs c.args.area.now r c.args.site c.args.ahead c.work.result c.work.new.stack
    c.args.site.instr (operation_at files r c.args.site)
    c.requires.sound c.requires.there refl own.unput own.uncalled refl own.unwritten
    (c.work.ensures.done (link_at files (here r).class) (class_names files)
    (spot_of files r c.args.site) (areas_at files r) at)
    c.work.ensures.kept c.work.ensures.still
