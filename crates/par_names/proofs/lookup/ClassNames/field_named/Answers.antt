use Rattle.std.proofs.Common.{sym, ap, ◌∙◌, Some, None}
use Rattle.std.specs.List.{position}
use Rattle.std.specs.Str.{bytes_eq}
use Rattle.par_tree.specs.declared.ident.Ident.{Ident}
use Rattle.par_tree.specs.declared.decl.FieldDecl.{FieldDecl}
use Rattle.par_names.proofs.Lookups.{found, map-map}
use Rattle.par_names.proofs.lookup.ClassNames.field_named.Goals as goal

pub returns-in-None : goal.returns-in-None
returns-in-None c =
    let p = bytes_eq c.args.name.now in
    let xs = c.args.self.now.decl.now.fields in
    let names = c.args.self.now.named.fields
    ∙ map-map (λ (id : Ident). id.name) (λ (x : FieldDecl). x.id) xs in
    let place = sym c.in-None.is ∙ c.place.ensures ∙ ap (position p) names in
    sym (found p (λ x. x.id.name) xs None place)

pub returns-in-Some : goal.returns-in-Some
returns-in-Some c =
    let p = bytes_eq c.args.name.now in
    let xs = c.args.self.now.decl.now.fields in
    let names = c.args.self.now.named.fields
    ∙ map-map (λ (id : Ident). id.name) (λ (x : FieldDecl). x.id) xs in
    let place = sym c.in-Some.is ∙ c.place.ensures ∙ ap (position p) names in
    c.get.ensures.item ∙ sym (found p (λ x. x.id.name) xs (Some c.in-Some.place) place)
