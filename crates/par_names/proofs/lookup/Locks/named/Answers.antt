use Rattle.std.proofs.Common.{sym, ap, ◌∙◌, map, Some, None}
use Rattle.std.specs.Option.{option_copied}
use Rattle.std.specs.Borrow.{Bor}
use Rattle.std.specs.List.{position}
use Rattle.std.specs.Str.{bytes_eq}
use Rattle.par_tree.specs.declared.ident.Ident.{Ident}
use Rattle.par_tree.specs.declared.decl.LockDecl.{LockDecl}
use Rattle.par_names.proofs.Lookups.{found, seen-at, copied-is, copied-map, map-map}
use Rattle.par_names.proofs.lookup.Locks.named.Goals as goal

pub returns-in-None : goal.returns-in-None
returns-in-None c =
    let p = bytes_eq c.args.name.now in
    let shows = λ (lock : Bor LockDecl). lock.now in
    let xs = map shows c.args.self.now.decls in
    let names = c.args.self.now.named.names
    ∙ map-map (λ (id : Ident). id.name) (λ (x : LockDecl). x.id) xs in
    let place = sym c.in-None.is ∙ c.place.ensures ∙ ap (position p) names in
    sym (found p (λ lock. lock.id.name) xs None place)

pub returns-in-Some : goal.returns-in-Some
returns-in-Some c =
    let p = bytes_eq c.args.name.now in
    let decls = c.args.self.now.decls in
    let shows = λ (lock : Bor LockDecl). lock.now in
    let xs = map shows decls in
    let names = c.args.self.now.named.names
    ∙ map-map (λ (id : Ident). id.name) (λ (x : LockDecl). x.id) xs in
    let place = sym c.in-Some.is ∙ c.place.ensures ∙ ap (position p) names in
    ap option_copied c.copied.ensures ∙ copied-is (option_copied c.get.result)
    ∙ sym (copied-map shows c.get.result)
    ∙ seen-at shows decls c.get.result c.in-Some.place c.get.ensures.item
    ∙ sym (found p (λ lock. lock.id.name) xs (Some c.in-Some.place) place)
