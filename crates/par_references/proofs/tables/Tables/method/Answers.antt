use Rattle.std.proofs.Common.{◌≡◌, ap, ◌∙◌}
use Rattle.par_single.specs.Members.{class_name_at, member_at}
use Rattle.par_references.proofs.Keyed.{method-found}
use Rattle.par_references.specs.declared.entry.Named.TheVariants as named
use Rattle.par_references.specs.Named.{class_named, declared, methods_of}
use Rattle.par_references.specs.Placed.{key_of, key_place}
use Rattle.par_references.proofs.tables.Tables.method.Goals as goal

pub returns-in-Class : goal.returns-in-Class
returns-in-Class c =
    let files = c.args.self.now.files.now in
    let entries = c.args.from.now.file.now.pool.entries in
    let place = c.in-Class.place in
    let name = class_name_at entries c.args.class in
    let is : named.Class place ≡ class_named files name =
    c.in-Class.ensures ∙ ap (λ fs. class_named fs name) c.requires in
    c.listed_method.ensures
    ∙ ap (λ key. declared named.Method place (key_place methods_of files place key))
    (c.key_at.ensures c.args.class
    ∙ ap (λ fs. key_of fs (member_at entries c.args.class c.args.member)) c.requires)
    ∙ method-found files entries c.args.class c.args.member place is
