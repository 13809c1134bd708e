use Rattle.std.proofs.Common.{sym, ap, ◌∙◌, map, Some, None}
use Rattle.std.specs.List.{find, position}
use Rattle.std.specs.Str.{bytes_eq}
use Rattle.par_tree.specs.declared.ident.Ident.{Ident}
use Rattle.par_tree.specs.declared.decl.MethodDecl.{MethodDecl}
use Rattle.par_tree.specs.Plain.{Method}
use Rattle.par_tree.specs.Shown.{method}
use Rattle.par_names.proofs.Lookups.{found, seen-at, map-map, methods-map}
use Rattle.par_names.proofs.lookup.ClassNames.method_named.Goals as goal

pub returns-in-None : goal.returns-in-None
returns-in-None c =
    let p = bytes_eq c.args.name.now in
    let ms = c.args.self.now.decl.now.methods in
    let names =
    c.args.self.now.named.methods ∙ map-map (λ (id : Ident). id.name) (λ (m : MethodDecl). m.id) ms
    ∙ sym (map-map (λ (m : Method). m.id.name) method ms) in
    let place = sym c.in-None.is ∙ c.place.ensures ∙ ap (position p) names in
    sym (ap (find (λ m. p m.id.name)) (methods-map ms)
    ∙ found p (λ m. m.id.name) (map method ms) None place)

pub returns-in-Some : goal.returns-in-Some
returns-in-Some c =
    let p = bytes_eq c.args.name.now in
    let ms = c.args.self.now.decl.now.methods in
    let names =
    c.args.self.now.named.methods ∙ map-map (λ (id : Ident). id.name) (λ (m : MethodDecl). m.id) ms
    ∙ sym (map-map (λ (m : Method). m.id.name) method ms) in
    let place = sym c.in-Some.is ∙ c.place.ensures ∙ ap (position p) names in
    seen-at method ms c.get.result c.in-Some.place c.get.ensures.item
    ∙ sym (ap (find (λ m. p m.id.name)) (methods-map ms)
    ∙ found p (λ m. m.id.name) (map method ms) (Some c.in-Some.place) place)
