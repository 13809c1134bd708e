use Rattle.std.proofs.Common.{[], refl, ap, subst, ◌∙◌, ◌<◌, arith}
use Rattle.std.proofs.lemmas.Result.{IfOk-weaker}
use Rattle.par_instr.specs.declared.instr.Instr.TheVariants.{New}
use Rattle.par_values.specs.Operations.{of_class}
use Rattle.par_method_area.specs.par_step_laws.Classes.{class_names}
use Rattle.par_method_area.specs.par_step_laws.Links.{link_at}
use Rattle.par_machine.specs.Instructions.{is_branch}
use Rattle.par_machine.specs.Objects.{count_classes}
use Rattle.par_machine.specs.Site.{areas_at, spot_of}
use Rattle.par_machine.proofs.Asked.{at_instr, class_known, class_unknown}
use Rattle.par_machine.proofs.Coming.{is_at}
use Rattle.par_machine.proofs.Held.{are_shown, length-objects_in}
use Rattle.par_machine.proofs.Made.{is_right, first_wide, make_performed}
use Rattle.par_machine.proofs.Performed.{missed}
use Rattle.par_machine.proofs.run.Running.make.Goals as goal

pub create-requires-clause-same : goal.create-requires-clause-same
create-requires-clause-same c = λ made.
    let files = c.args.area.now.files in
    let known = class_known (class_names files) (link_at files c.args.site.point.class c.args.index)
    c.in-Some.class c.in-Some.ensures in
    first_wide files known.0 c.args.self.now.heap c.in-Some.class c.requires.sound.objects
    (is_right files known.0 c.args.site.point.class c.args.index known.1) known.2.is made

pub returns-in-Some-clause-done : goal.returns-in-Some-clause-done
returns-in-Some-clause-done c =
    let files = c.args.area.now.files in
    let a = areas_at files c.args.self.now in
    let known = class_known (class_names files) (link_at files c.args.site.point.class c.args.index)
    c.in-Some.class c.in-Some.ensures in
    let right = is_right files known.0 c.args.site.point.class c.args.index known.1 in
    let at = is_at files c.args.self.now c.args.site c.args.ahead c.requires.there
    (ap is_branch c.requires.instr) in
    let within : c.in-Some.class.number < count_classes files =
    subst (λ n. n < count_classes files) known.2.is.number right.within in
    let many = length-objects_in (count_classes files) c.args.self.now.heap in
    make_performed c.args.area.now c.args.self.now c.args.site c.args.ahead c.requires.sound
    c.requires.there c.args.index c.requires.instr
    known.0
    (at_instr files c.args.self.now c.args.site (New c.args.index) c.requires.there.point
    c.requires.instr ∙ ap of_class known.1) right
    c.create.result c.create.new.stack c.create.new.heap c.create.ensures.kept
    (IfOk-weaker c.create.result _ _
    (λ d is. is (class_names files) (spot_of files c.args.self.now c.args.site) a known.0 known.2.is
    (are_shown files c.args.self.now.heap a c.requires.sound.objects refl)
    (omega (arith, within, many)) at) c.create.ensures.done)
    c.create.ensures.still c.create.ensures.unmade

pub returns-in-None-clause-done : goal.returns-in-None-clause-done
returns-in-None-clause-done c =
    let files = c.args.area.now.files in
    let at = is_at files c.args.self.now c.args.site c.args.ahead c.requires.there
    (ap is_branch c.requires.instr) in
    missed c.args.area.now c.args.self.now c.args.site c.args.ahead c.misnamed.result
    (New c.args.index) [] 1
    c.requires.sound c.requires.there c.requires.instr refl refl
    (at_instr files c.args.self.now c.args.site (New c.args.index) c.requires.there.point
    c.requires.instr
    ∙ class_unknown (class_names files) (link_at files c.args.site.point.class c.args.index)
    c.in-None.ensures)
    (c.misnamed.ensures (class_names files) (spot_of files c.args.self.now c.args.site)
    (areas_at files c.args.self.now) at)
