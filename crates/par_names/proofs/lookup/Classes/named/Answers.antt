use Rattle.std.proofs.Common.{sym, ap, ◌∙◌, map, Some, None}
use Rattle.std.specs.List.{position}
use Rattle.std.specs.Str.{bytes_eq}
use Rattle.par_tree.specs.declared.ident.Ident.{Ident}
use Rattle.par_tree.specs.declared.decl.ClassDecl.{ClassDecl}
use Rattle.par_tree.specs.Plain.{Class}
use Rattle.par_tree.specs.Shown.{class_of}
use Rattle.par_names.specs.declared.lookup.ClassNames.{ClassNames}
use Rattle.par_names.proofs.Lookups.{found, seen-at, map-map}
use Rattle.par_names.proofs.lookup.Classes.named.Goals as goal

pub returns-in-None : goal.returns-in-None
returns-in-None c =
    let p = bytes_eq c.args.name.now in
    let cs = c.args.self.now.members in
    let shows = λ (class : ClassNames). class_of class.decl.now in
    let names =
    c.args.self.now.named.names
    ∙ map-map (λ (id : Ident). id.name) (λ (d : ClassDecl). d.id)
    (map (λ (class : ClassNames). class.decl.now) cs)
    ∙ map-map (λ (d : ClassDecl). d.id.name) (λ (class : ClassNames). class.decl.now) cs
    ∙ sym (map-map (λ (class : Class). class.id.name) shows cs) in
    let place = sym c.in-None.is ∙ c.place.ensures ∙ ap (position p) names in
    sym (found p (λ class. class.id.name) (map shows cs) None place)

pub returns-in-Some : goal.returns-in-Some
returns-in-Some c =
    let p = bytes_eq c.args.name.now in
    let cs = c.args.self.now.members in
    let shows = λ (class : ClassNames). class_of class.decl.now in
    let names =
    c.args.self.now.named.names
    ∙ map-map (λ (id : Ident). id.name) (λ (d : ClassDecl). d.id)
    (map (λ (class : ClassNames). class.decl.now) cs)
    ∙ map-map (λ (d : ClassDecl). d.id.name) (λ (class : ClassNames). class.decl.now) cs
    ∙ sym (map-map (λ (class : Class). class.id.name) shows cs) in
    let place = sym c.in-Some.is ∙ c.place.ensures ∙ ap (position p) names in
    seen-at shows cs c.get.result c.in-Some.place c.get.ensures.item
    ∙ sym (found p (λ class. class.id.name) (map shows cs) (Some c.in-Some.place) place)
