use Rattle.std.proofs.Common.{ap, ◌∙◌}
use Rattle.par_values.specs.declared.run.Event.TheVariants.{Put}
use Rattle.par_values.specs.declared.run.Val.{Val}
use Rattle.par_values.specs.Areas.{Name, shown_value}
use Rattle.par_method_area.specs.par_step_laws.Classes.{class_names}
use Rattle.par_machine.proofs.Named.{field_at}
use Rattle.par_machine.proofs.events.put_event.Goals as goal

pub new-requires : goal.new-requires
new-requires c =
    (field_at c.args.area.now.files c.args.site c.index.result c.member-names.result
    c.requires.tellable c.index.ensures c.member-names.ensures).class

pub new-requires-2 : goal.new-requires-2
new-requires-2 c =
    (field_at c.args.area.now.files c.args.site c.index.result c.member-names.result
    c.requires.tellable c.index.ensures c.member-names.ensures).name

pub shown-requires : goal.shown-requires
shown-requires c = c.requires.named

pub returns : goal.returns
returns c = λ f is.
    let has = field_at c.args.area.now.files c.args.site c.index.result c.member-names.result
    c.requires.tellable c.index.ensures c.member-names.ensures in
    let written = shown_value (class_names c.args.area.now.files) c.args.value in
    ap (λ (v : Val). Put c.in_ok-class.class c.args.n c.in_ok-name.name v) c.in_ok-shown.ensures
    ∙ ap (λ (class : Name). Put class c.args.n c.in_ok-name.name written)
    (c.in_ok-class.ensures ∙ has.owned f is)
    ∙ ap (λ (name : Name). Put f.class c.args.n name written)
    (c.in_ok-name.ensures ∙ has.named f is)
