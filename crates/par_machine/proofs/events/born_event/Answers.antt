use Rattle.std.proofs.Common.{ap, sym, ◌∙◌, Some, None}
use Rattle.par_values.specs.declared.run.Event.TheVariants.{Born}
use Rattle.par_values.specs.Areas.{Name}
use Rattle.par_method_area.specs.par_step_laws.Classes.{class_names}
use Rattle.par_machine.specs.Site.{named_by}
use Rattle.par_machine.proofs.Named.{made_known, made_unknown, class_at}
use Rattle.par_machine.proofs.events.born_event.Goals as goal

pub unreachable-requires : goal.unreachable-requires
unreachable-requires c =
    made_unknown (class_names c.args.area.now.files) (named_by c.args.area.now.files c.args.site)
    c.requires
    (class_at c.args.area.now.files c.args.site c.index.result None c.index.ensures
    c.in_default.ensures)

pub new-requires : goal.new-requires
new-requires c =
    c.class_name.ensures.name
    (made_known (class_names c.args.area.now.files) (named_by c.args.area.now.files c.args.site)
    c.in-Some.class c.requires
    (class_at c.args.area.now.files c.args.site c.index.result (Some c.in-Some.class)
    c.index.ensures c.in-Some.ensures)).numbered

pub returns : goal.returns
returns c = λ d is.
    let has =
    made_known (class_names c.args.area.now.files) (named_by c.args.area.now.files c.args.site)
    c.in-Some.class c.requires
    (class_at c.args.area.now.files c.args.site c.index.result (Some c.in-Some.class)
    c.index.ensures c.in-Some.ensures) in
    ap (λ (name : Name). Born name c.args.n) (c.in_ok-new.ensures ∙ c.class_name.ensures.is
    ∙ sym (has.named d is))
