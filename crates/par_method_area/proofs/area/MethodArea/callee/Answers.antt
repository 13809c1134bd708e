use Rattle.std.proofs.Common.{◌≡◌, subst, ap, ◌∙◌}
use Rattle.par_step_laws.specs.par_link.entry.Named.{Named}
use Rattle.par_step_laws.specs.par_link.entry.Named.TheVariants as named
use Rattle.par_step_laws.specs.par_link.Linked.{named_at}
use Rattle.par_values.specs.declared.link.Link.{Link}
use Rattle.par_step_laws.specs.Links.{link_of}
use Rattle.par_method_area.specs.Area.{Area}
use Rattle.par_method_area.specs.Known.{KnowsMethod}
use Rattle.par_method_area.proofs.Linking.{linked}
use Rattle.par_method_area.proofs.area.MethodArea.callee.Goals as goal

pub returns-in-Method : goal.returns-in-Method
returns-in-Method c =
    let files = c.args.self.now.files in
    let is : named.Method c.in-Method.declared ≡ named_at files c.args.class c.args.index =
    c.in-Method.ensures ∙ ap (λ (a : Area). named_at a.files c.args.class c.args.index)
    c.self.view_is in
    subst (λ (l : Link). KnowsMethod c.args.self.now
    (named_at files c.args.class c.args.index) l c.declared_method.result)
    (linked files c.args.class c.args.index (named.Method c.in-Method.declared) is
    (λ none. cc none))
    (subst (λ (n : Named). KnowsMethod c.args.self.now n
    (link_of files (named.Method c.in-Method.declared)) c.declared_method.result) is
    c.declared_method.ensures)

pub returns-in-Initializer : goal.returns-in-Initializer
returns-in-Initializer c =
    let files = c.args.self.now.files in
    let is : named.Initializer c.in-Initializer.named ≡ named_at files c.args.class c.args.index =
    c.in-Initializer.ensures ∙ ap
    (λ (a : Area). named_at a.files c.args.class c.args.index) c.self.view_is in
    subst (λ (l : Link). KnowsMethod c.args.self.now
    (named_at files c.args.class c.args.index) l c.initializer.result)
    (linked files c.args.class c.args.index (named.Initializer c.in-Initializer.named) is
    (λ none. cc none))
    (subst (λ (n : Named). KnowsMethod c.args.self.now n
    (link_of files (named.Initializer c.in-Initializer.named)) c.initializer.result) is
    c.initializer.ensures)
