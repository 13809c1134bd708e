use Rattle.std.proofs.Common.{[], false, refl, ap, ◌∙◌}
use Rattle.std.proofs.lemmas.Result.{IfOk-weaker}
use Rattle.par_instr.specs.declared.instr.Instr.TheVariants.{Invokestatic}
use Rattle.par_method_area.specs.par_link.Linked.{named_at}
use Rattle.par_values.specs.Operations.{InvokeStatic, Misnamed, of_method}
use Rattle.par_method_area.specs.par_step_laws.Classes.{class_names}
use Rattle.par_method_area.specs.par_step_laws.Links.{link_at}
use Rattle.par_method_area.specs.par_step_laws.Step.{called_on_object, is_misreceived}
use Rattle.par_machine.specs.Instructions.{is_branch}
use Rattle.par_machine.specs.Running.{here}
use Rattle.par_machine.specs.Site.{areas_at, spot_of}
use Rattle.par_machine.proofs.Asked.{at_instr}
use Rattle.par_machine.proofs.Called.{method_known, method_unknown, static_leaves}
use Rattle.par_machine.proofs.Coming.{is_at}
use Rattle.par_machine.proofs.Invoking.{performed}
use Rattle.par_machine.proofs.Performed.{missed}
use Rattle.par_machine.proofs.Standing.{may_put}
use Rattle.par_machine.proofs.run.Running.call_static.Goals as goal

pub returns-in-Some-clause-done : goal.returns-in-Some-clause-done
returns-in-Some-clause-done c =
    let files = c.args.area.now.files in
    let old = c.args.self.now in
    let n = named_at files c.args.site.point.class c.args.index in
    let known = method_known c.args.area.now n (link_at files c.args.site.point.class c.args.index)
    c.in-Some.callee c.in-Some.ensures in
    performed c.args.area.now old c.args.site c.args.ahead c.requires.sound c.requires.there
    (ap may_put c.requires.instr) false
    (ap (λ i. is_misreceived files (here old).class (called_on_object i) (areas_at files old))
    c.requires.instr)
    c.invoke_static.new.stack c.invoke_static.new.lines c.invoke_static.ensures.named known.0
    c.in-Some.callee n c.args.index known.2 known.1
    (InvokeStatic known.0)
    (at_instr files old c.args.site (Invokestatic c.args.index) c.requires.there.point
    c.requires.instr ∙ ap (of_method InvokeStatic (Misnamed [] 0)) known.1)
    refl refl (static_leaves (class_names files) known.0 (areas_at files old)) refl
    c.invoke_static.result
    (IfOk-weaker c.invoke_static.result _ _
    (λ d is. is (class_names files) (spot_of files old c.args.site) (areas_at files old) known.0
    (known.2.is _ c.requires.sound.lines) (λ class name. refl)
    (is_at files old c.args.site c.args.ahead c.requires.there (ap is_branch c.requires.instr)))
    c.invoke_static.ensures.done)
    c.invoke_static.ensures.kept c.invoke_static.ensures.waits c.invoke_static.ensures.still
    c.invoke_static.ensures.untaken

pub returns-in-None-clause-done : goal.returns-in-None-clause-done
returns-in-None-clause-done c =
    let files = c.args.area.now.files in
    let n = named_at files c.args.site.point.class c.args.index in
    let at = is_at files c.args.self.now c.args.site c.args.ahead c.requires.there
    (ap is_branch c.requires.instr) in
    missed c.args.area.now c.args.self.now c.args.site c.args.ahead c.misnamed.result
    (Invokestatic c.args.index) [] 0
    c.requires.sound c.requires.there c.requires.instr refl refl
    (at_instr files c.args.self.now c.args.site (Invokestatic c.args.index) c.requires.there.point
    c.requires.instr
    ∙ method_unknown c.args.area.now n (link_at files c.args.site.point.class c.args.index)
    InvokeStatic [] 0 c.in-None.ensures)
    (c.misnamed.ensures (class_names files) (spot_of files c.args.self.now c.args.site)
    (areas_at files c.args.self.now) at)
