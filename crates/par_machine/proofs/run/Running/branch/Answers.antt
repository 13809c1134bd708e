use Rattle.std.proofs.Common.{refl, sym}
use Rattle.par_method_area.specs.par_actions.declared.done.Ways.{Ways}
use Rattle.par_method_area.specs.par_step_laws.Classes.{class_names}
use Rattle.par_method_area.specs.par_step_laws.Links.{link_at}
use Rattle.par_machine.specs.Running.{here}
use Rattle.par_machine.specs.Site.{areas_at, spot_of, operation_at}
use Rattle.par_machine.proofs.Coming.{is_at_fork}
use Rattle.par_machine.proofs.Owned.{branch_own, aside_is}
use Rattle.par_machine.proofs.Performed.{performs}
use Rattle.par_machine.proofs.run.Running.branch.Goals as goal

pub returns : goal.returns
returns c =
    let files = c.args.area.now.files in
    let r = c.args.self.now in
    let s = c.args.site in
    let own = branch_own (link_at files (here r).class) s.instr c.requires.instr in
    let ways : Ways = record { ahead = c.args.ahead; aside = s.aside } in
    let at = is_at_fork files r s c.args.ahead c.requires.there ways refl
    (aside_is files r s s.aside c.requires.there.point (sym c.requires.there.is_aside)) in
    performs c.args.area.now r s c.args.ahead c.branch-self.result c.branch-self.new.stack s.instr
    (operation_at files r s)
    c.requires.sound c.requires.there refl own.unput own.uncalled refl own.unwritten
    (c.branch-self.ensures.done (link_at files (here r).class) (class_names files)
    (spot_of files r s) (areas_at files r) at)
    c.branch-self.ensures.kept c.branch-self.ensures.still
