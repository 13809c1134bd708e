use Rattle.std.proofs.Common.{[], ◌∷◌, length, refl, ap, ◌∙◌}
use Rattle.std.proofs.lemmas.Result.{IfOk-weaker}
use Rattle.par_instr.specs.declared.instr.Instr.TheVariants.{Invokespecial}
use Rattle.par_method_area.specs.par_link.Linked.{named_at}
use Rattle.par_values.specs.Areas.{operand}
use Rattle.par_values.specs.declared.kind.Kind.TheVariants.{Anything}
use Rattle.par_values.specs.Operations.{InvokeSpecial, Misnamed, of_method}
use Rattle.par_method_area.specs.par_step_laws.Classes.{class_names, exceptions}
use Rattle.par_method_area.specs.par_step_laws.Links.{link_at}
use Rattle.par_method_area.specs.par_actions.Calls.{is_misreceived}
use Rattle.par_machine.specs.Instructions.{is_branch}
use Rattle.par_machine.specs.Site.{areas_at, spot_of}
use Rattle.par_machine.proofs.Asked.{at_instr}
use Rattle.par_machine.proofs.Called.{method_known, method_unknown, received_known}
use Rattle.par_machine.proofs.Called.{received_unknown, special_leaves}
use Rattle.par_machine.proofs.Coming.{is_at}
use Rattle.par_machine.proofs.Invoking.{received_on, performed, call_missed}
use Rattle.par_machine.proofs.Standing.{may_put}
use Rattle.par_machine.proofs.run.Running.call_special.Goals as goal

pub returns-in-Some-clause-done : goal.returns-in-Some-clause-done
returns-in-Some-clause-done c =
    let files = c.args.area.now.files in
    let old = c.args.self.now in
    let n = named_at files c.args.site.point.class c.args.index in
    let known = method_known c.args.area.now n (link_at files c.args.site.point.class c.args.index)
    c.in-Some.callee c.in-Some.ensures in
    performed c.args.area.now old c.args.site c.args.ahead c.requires.sound c.requires.there
    (ap may_put c.requires.instr)
    (is_misreceived c.in-Some.callee.only_exceptions (exceptions files)
    (operand (length known.0.takes) (areas_at files old)))
    (received_on files old c.args.site (Invokespecial c.args.index) c.args.index
    c.requires.there.point c.requires.instr refl
    ∙ received_known files c.args.site.point.class c.args.index known.0
    c.in-Some.callee.only_exceptions (areas_at files old) known.1 n refl known.2.only_exceptions)
    c.invoke_special.new.stack c.invoke_special.new.lines c.invoke_special.ensures.named known.0
    c.in-Some.callee n c.args.index known.2 known.1
    (InvokeSpecial known.0)
    (at_instr files old c.args.site (Invokespecial c.args.index) c.requires.there.point
    c.requires.instr ∙ ap (of_method InvokeSpecial (Misnamed (Anything ∷ []) 0)) known.1)
    refl refl (special_leaves (class_names files) known.0 (areas_at files old)) refl
    c.invoke_special.result
    (IfOk-weaker c.invoke_special.result _ _
    (λ d is. is (class_names files) (spot_of files old c.args.site) (areas_at files old) known.0
    (known.2.is _ c.requires.sound.lines) (λ class name. refl)
    (c.exceptions.ensures (spot_of files old c.args.site) refl)
    (is_at files old c.args.site c.args.ahead c.requires.there (ap is_branch c.requires.instr)))
    c.invoke_special.ensures.done)
    c.invoke_special.ensures.kept c.invoke_special.ensures.waits c.invoke_special.ensures.still
    c.invoke_special.ensures.untaken

pub returns-in-None-clause-done : goal.returns-in-None-clause-done
returns-in-None-clause-done c =
    let files = c.args.area.now.files in
    let old = c.args.self.now in
    let n = named_at files c.args.site.point.class c.args.index in
    let at = is_at files old c.args.site c.args.ahead c.requires.there
    (ap is_branch c.requires.instr) in
    call_missed c.args.area.now old c.args.site c.args.ahead c.requires.sound c.requires.there
    (ap may_put c.requires.instr) c.misnamed.result (Anything ∷ []) 0
    (received_on files old c.args.site (Invokespecial c.args.index) c.args.index
    c.requires.there.point c.requires.instr refl
    ∙ received_unknown c.args.area.now c.args.site.point.class c.args.index
    (operand 0 (areas_at files old)) n refl c.in-None.ensures)
    (at_instr files old c.args.site (Invokespecial c.args.index) c.requires.there.point
    c.requires.instr
    ∙ method_unknown c.args.area.now n (link_at files c.args.site.point.class c.args.index)
    InvokeSpecial (Anything ∷ []) 0 c.in-None.ensures)
    (c.misnamed.ensures (class_names files) (spot_of files old c.args.site) (areas_at files old) at)
