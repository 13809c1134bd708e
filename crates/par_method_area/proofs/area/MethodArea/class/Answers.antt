use Rattle.std.proofs.Common.{◌≡◌, Some, subst, ap, ◌∙◌}
use Rattle.par_step_laws.specs.par_link.entry.Named.TheVariants as named
use Rattle.par_step_laws.specs.par_link.Linked.{named_at}
use Rattle.par_values.specs.declared.link.Link.{Link}
use Rattle.par_step_laws.specs.Classes.{class_names}
use Rattle.par_method_area.specs.Area.{Area}
use Rattle.par_method_area.specs.Known.{KnowsClass}
use Rattle.par_method_area.proofs.Linking.{linked}
use Rattle.par_method_area.proofs.area.MethodArea.class.Goals as goal

pub returns-in-Class : goal.returns-in-Class
returns-in-Class c =
    let files = c.args.self.now.files in
    let is : named.Class c.in-Class.named ≡ named_at files c.args.class c.args.index =
    c.in-Class.ensures ∙ ap (λ (a : Area). named_at a.files c.args.class c.args.index)
    c.self.view_is in
    subst (λ (l : Link). KnowsClass (class_names c.args.self.now.files) l c.listed_class.result)
    (linked files c.args.class c.args.index (named.Class c.in-Class.named) is (λ none. cc none))
    (c.listed_class.ensures)

pub returns-in-Builtin : goal.returns-in-Builtin
returns-in-Builtin c =
    let files = c.args.self.now.files in
    let is : named.Builtin c.in-Builtin.named ≡ named_at files c.args.class c.args.index =
    c.in-Builtin.ensures ∙ ap (λ (a : Area). named_at a.files c.args.class c.args.index)
    c.self.view_is in
    subst (λ (l : Link). KnowsClass (class_names c.args.self.now.files) l
    (Some c.builtin_class.result))
    (linked files c.args.class c.args.index (named.Builtin c.in-Builtin.named) is (λ none. cc none))
    (c.builtin_class.ensures)
