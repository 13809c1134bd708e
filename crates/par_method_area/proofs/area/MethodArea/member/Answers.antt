use Rattle.std.proofs.Common.{◌≡◌, subst, ap, ◌∙◌}
use Rattle.par_step_laws.specs.par_link.entry.Named.TheVariants as named
use Rattle.par_step_laws.specs.par_link.Linked.{named_at}
use Rattle.par_values.specs.declared.link.Link.{Link}
use Rattle.par_method_area.specs.Area.{Area}
use Rattle.par_method_area.specs.Known.{KnowsNames}
use Rattle.par_method_area.proofs.Linking.{linked}
use Rattle.par_method_area.proofs.area.MethodArea.member.Goals as goal

pub returns-in-Field : goal.returns-in-Field
returns-in-Field c =
    let files = c.args.self.now.files in
    let is : named.Field c.in-Field.declared ≡ named_at files c.args.class c.args.index =
    c.in-Field.ensures ∙ ap (λ (a : Area). named_at a.files c.args.class c.args.index)
    c.self.view_is in
    subst (λ (l : Link). KnowsNames l c.field_names.result)
    (linked files c.args.class c.args.index (named.Field c.in-Field.declared) is (λ none. cc none))
    (c.field_names.ensures)

pub returns-in-Method : goal.returns-in-Method
returns-in-Method c =
    let files = c.args.self.now.files in
    let is : named.Method c.in-Method.declared ≡ named_at files c.args.class c.args.index =
    c.in-Method.ensures ∙ ap (λ (a : Area). named_at a.files c.args.class c.args.index)
    c.self.view_is in
    subst (λ (l : Link). KnowsNames l c.method_names.result)
    (linked files c.args.class c.args.index (named.Method c.in-Method.declared) is
    (λ none. cc none))
    (c.method_names.ensures)
