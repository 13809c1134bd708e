use Rattle.std.proofs.Common.{◌≡◌, ap, ◌∙◌, rules, to_z, of_z, w32}
use Rattle.std.proofs.lemmas.Result.{IfOk-weaker}
use Rattle.par_method_area.specs.par_actions.Done.{out_by}
use Rattle.par_machine.proofs.Told.{sets_told, puts_told, born_told, outs_told}
use Rattle.par_machine.proofs.outcome.event.Goals as goal

pub returns-in-Sets : goal.returns-in-Sets
returns-in-Sets c =
    rw c.in-Sets.is
    (IfOk-weaker c.set_event.result _ _
    (λ e given before old come. sets_told c.args.area.now.files before c.args.site old
    c.in-Sets.value e come given) c.set_event.ensures)

pub returns-in-Puts : goal.returns-in-Puts
returns-in-Puts c =
    rw c.in-Puts.is
    (IfOk-weaker c.put_event.result _ _
    (λ e given before old come. puts_told c.args.area.now.files before c.args.site old c.in-Puts.n
    c.in-Puts.value e come given) c.put_event.ensures)

pub returns-in-Born : goal.returns-in-Born
returns-in-Born c =
    rw c.in-Born.is
    (IfOk-weaker c.born_event.result _ _
    (λ e given before old come. born_told c.args.area.now.files before c.args.site old c.in-Born.n e
    come given) c.born_event.ensures)

pub returns-in-Outs : goal.returns-in-Outs
returns-in-Outs c =
    let whole : to_z w32 (of_z w32 c.in-Outs.number) ≡ c.in-Outs.number = search rules in
    rw c.in-Outs.is
    (IfOk-weaker c.out_event.result _ _
    (λ e given before old come.
    outs_told c.args.area.now.files before c.args.site old c.in-Outs.number e come
    (λ m l. given m l ∙ ap (λ n. out_by m.target n) whole)) c.out_event.ensures)
