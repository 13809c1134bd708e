use Rattle.std.proofs.Common.{ℕ, List, ◌++◌, ◌∙◌, ap, sym, map}
use Rattle.par_names.proofs.Lookups.{map-map, methods-map}
use Rattle.par_tree.specs.declared.decl.MethodDecl.{MethodDecl}
use Rattle.par_tree.specs.Plain.{Method}
use Rattle.par_tree.specs.Shown.{method}
use Rattle.par_faults.proofs.places.method_places.Goals as goal

pub returns : goal.returns
returns c =
    let at = λ (m : Method). m.id.at in
    let methods = c.args.methods.now in
    c.in_ok-push_places.ensures
    ∙ ap (λ (ps : List ℕ). ps ++ map (λ (m : MethodDecl). m.id.at) methods)
    c.new-places.ensures.items
    ∙ sym (ap (map at) (methods-map methods) ∙ map-map at method methods)
