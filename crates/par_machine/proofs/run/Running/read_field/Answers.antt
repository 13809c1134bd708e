use Rattle.std.proofs.Common.{[], ◌∷◌, refl, ap, ◌∙◌}
use Rattle.par_instr.specs.declared.instr.Instr.TheVariants.{Getfield}
use Rattle.par_values.specs.declared.kind.Kind.TheVariants.{AnyObject}
use Rattle.par_values.specs.Operations.{GetField, Misnamed, of_field}
use Rattle.par_method_area.specs.par_step_laws.Classes.{class_names}
use Rattle.par_method_area.specs.par_step_laws.Links.{link_at}
use Rattle.par_machine.specs.Instructions.{is_branch}
use Rattle.par_machine.specs.Site.{areas_at, spot_of}
use Rattle.par_machine.proofs.Asked.{at_instr, field_known, field_unknown}
use Rattle.par_machine.proofs.Coming.{is_at}
use Rattle.par_machine.proofs.Held.{are_shown}
use Rattle.par_machine.proofs.Performed.{performs, missed}
use Rattle.par_machine.proofs.run.Running.read_field.Goals as goal

pub returns-in-Some : goal.returns-in-Some
returns-in-Some c =
    let files = c.args.area.now.files in
    let known = field_known (class_names files) (link_at files c.args.site.point.class c.args.index)
    c.in-Some.named c.in-Some.ensures in
    let at = is_at files c.args.self.now c.args.site c.args.ahead c.requires.there
    (ap is_branch c.requires.instr) in
    performs c.args.area.now c.args.self.now c.args.site c.args.ahead c.get_field.result
    c.get_field.new.stack (Getfield c.args.index)
    (GetField known.0) c.requires.sound c.requires.there c.requires.instr refl refl
    (at_instr files c.args.self.now c.args.site (Getfield c.args.index) c.requires.there.point
    c.requires.instr
    ∙ ap (of_field GetField (Misnamed (AnyObject ∷ []) 1)) known.1) refl
    (c.get_field.ensures.done (class_names files) (spot_of files c.args.self.now c.args.site)
    (areas_at files c.args.self.now) known.0 known.2.is known.2.owner
    (are_shown files c.args.self.now.heap (areas_at files c.args.self.now) c.requires.sound.objects
    refl) at)
    c.get_field.ensures.kept c.get_field.ensures.still

pub returns-in-None : goal.returns-in-None
returns-in-None c =
    let files = c.args.area.now.files in
    let at = is_at files c.args.self.now c.args.site c.args.ahead c.requires.there
    (ap is_branch c.requires.instr) in
    missed c.args.area.now c.args.self.now c.args.site c.args.ahead c.misnamed_read.result
    (Getfield c.args.index) (AnyObject ∷ []) 1
    c.requires.sound c.requires.there c.requires.instr refl refl
    (at_instr files c.args.self.now c.args.site (Getfield c.args.index) c.requires.there.point
    c.requires.instr
    ∙ field_unknown (class_names files) (link_at files c.args.site.point.class c.args.index)
    GetField (AnyObject ∷ []) 1 c.in-None.ensures)
    (c.misnamed_read.ensures (class_names files) (spot_of files c.args.self.now c.args.site)
    (areas_at files c.args.self.now) at)
