use Rattle.std.proofs.Common.{◌≡◌, Some, subst, ap, ◌∙◌}
use Rattle.par_step_laws.specs.par_link.entry.Named.TheVariants as named
use Rattle.par_step_laws.specs.par_link.Linked.{named_at}
use Rattle.par_values.specs.declared.link.Link.{Link}
use Rattle.par_step_laws.specs.Classes.{class_names}
use Rattle.par_method_area.specs.Area.{Area}
use Rattle.par_method_area.specs.Known.{KnowsField}
use Rattle.par_method_area.proofs.Linking.{linked}
use Rattle.par_method_area.proofs.area.MethodArea.field.Goals as goal

pub returns-in-Field : goal.returns-in-Field
returns-in-Field c =
    let files = c.args.self.now.files in
    let is : named.Field c.in-Field.declared ≡ named_at files c.args.class c.args.index =
    c.in-Field.ensures ∙ ap (λ (a : Area). named_at a.files c.args.class c.args.index)
    c.self.view_is in
    subst (λ (l : Link). KnowsField (class_names c.args.self.now.files) l c.declared_field.result)
    (linked files c.args.class c.args.index (named.Field c.in-Field.declared) is (λ none. cc none))
    (c.declared_field.ensures)

pub returns-in-Lock : goal.returns-in-Lock
returns-in-Lock c =
    let files = c.args.self.now.files in
    let is : named.Lock c.in-Lock.number ≡ named_at files c.args.class c.args.index =
    c.in-Lock.ensures ∙ ap (λ (a : Area). named_at a.files c.args.class c.args.index)
    c.self.view_is in
    subst (λ (l : Link). KnowsField (class_names c.args.self.now.files) l (Some c.lock.result))
    (linked files c.args.class c.args.index (named.Lock c.in-Lock.number) is (λ none. cc none))
    (c.lock.ensures)
