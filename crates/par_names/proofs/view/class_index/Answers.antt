use Rattle.std.proofs.Common.{sym, ap, ◌∙◌, map}
use Rattle.std.specs.Borrow.{Bor}
use Rattle.par_tree.specs.declared.decl.ClassDecl.{ClassDecl}
use Rattle.par_tree.specs.Shown.{class_of}
use Rattle.par_names.specs.declared.lookup.ClassNames.{ClassNames}
use Rattle.par_names.proofs.Lookups.{map-map}
use Rattle.par_names.proofs.view.class_index.Goals as goal

pub returns : goal.returns
returns c =
    let members = c.in_ok-classes.classes.members in
    sym (map-map class_of (λ (class : ClassNames). class.decl.now) members)
    ∙ ap (map class_of) c.in_ok-classes.ensures
    ∙ map-map class_of (λ (decl : Bor ClassDecl). decl.now) c.as_slice.result.now
    ∙ ap (map (λ (decl : Bor ClassDecl). class_of decl.now)) c.as_slice.ensures.value
    ∙ c.in_ok-decls.ensures
