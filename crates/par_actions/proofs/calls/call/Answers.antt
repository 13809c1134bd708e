use Rattle.std.proofs.Common.{rules, FitsSigned, w32, refl, ap, ◌∙◌}
use Rattle.std.proofs.lemmas.Int.{to_z-of_z}
use Rattle.par_lines.specs.Lines.{channels_of}
use Rattle.par_lines.proofs.Taking.{channels_stay}
use Rattle.par_actions.proofs.Calling.{input_target, output_target, code_target, nothing_target}
use Rattle.par_actions.proofs.calls.call.Goals as goal

pub returns-in-Input-clause-named : goal.returns-in-Input-clause-named
returns-in-Input-clause-named c =
    ap channels_of c.next.ensures.left ∙ channels_stay c.in-Input.line c.args.lines.now

pub returns-in-Input-clause-done : goal.returns-in-Input-clause-done
returns-in-Input-clause-done c = λ classes spot program o is left.
    let fits : FitsSigned w32 c.next.result = search rules in
    let pushes = rw (to_z-of_z w32 c.next.result fits, c.pop.ensures) at c.push.ensures in
    input_target classes spot o program c.args.stack.now c.push.new.self c.args.many c.args.target
    c.args.lines.now c.next.new.self is left
    c.in-Input.line c.next.result c.in-Input.is c.next.ensures.number c.next.ensures.left pushes

pub returns-in-Output-clause-done : goal.returns-in-Output-clause-done
returns-in-Output-clause-done c = λ classes spot program o is left.
    let fits : FitsSigned w32 c.last_or_zero-number.result = search rules in
    rw (to_z-of_z w32 c.last_or_zero-number.result fits)
    (output_target classes spot o program c.args.stack.now c.pop-in-Output.new.self c.args.many
    c.args.target c.args.lines.now c.args.lines.now is left
    c.last_or_zero-number.result c.in-Output.is c.last_or_zero-number.ensures refl
    c.pop-in-Output.ensures)

pub returns-in_ok-enter-in-Code-clause-done : goal.returns-in_ok-enter-in-Code-clause-done
returns-in_ok-enter-in-Code-clause-done c = λ classes spot program o is left.
    code_target classes spot o program c.args.stack.now c.enter.new.self c.args.many c.args.target
    c.args.lines.now c.args.lines.now is left
    c.in-Code.class c.in-Code.method c.in-Code.locals c.in-Code.room c.in-Code.is refl
    c.in_ok-enter-in-Code.ensures.called

pub returns-in-Nothing-clause-done : goal.returns-in-Nothing-clause-done
returns-in-Nothing-clause-done c = λ classes spot program o is left.
    nothing_target classes spot o program c.args.stack.now c.pop-in-Nothing.new.self c.args.many
    c.args.target c.args.lines.now c.args.lines.now is left
    c.in-Nothing.is refl c.pop-in-Nothing.ensures
