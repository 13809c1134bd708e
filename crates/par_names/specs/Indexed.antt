-- What an index of declarations keeps: its names are theirs, in their order.
use Rattle.std.specs.Prelude.{◌≡◌, List, map}
use Rattle.par_index.specs.declared.names.NameIndex.{NameIndex}
use Rattle.par_index.specs.Texts.{texts}
use Rattle.par_tree.specs.declared.decl.LockDecl.{LockDecl}
use Rattle.par_tree.specs.declared.decl.ClassDecl.{ClassDecl}

pub record AreLocks (decls : List LockDecl) (index : NameIndex) : Type 0 where
  pub names : texts index.names.items ≡ map (λ id. id.name) (map (λ decl. decl.id) decls)

pub record AreMembers (decl : ClassDecl) (f c m : NameIndex) : Type 0 where
  pub fields : texts f.names.items ≡ map (λ id. id.name) (map (λ field. field.id) decl.fields)
  pub channels : texts c.names.items
      ≡ map (λ id. id.name) (map (λ channel. channel.id) decl.channels)
  pub methods : texts m.names.items ≡ map (λ id. id.name) (map (λ method. method.id) decl.methods)

pub record AreClasses (decls : List ClassDecl) (index : NameIndex) : Type 0 where
  pub names : texts index.names.items ≡ map (λ id. id.name) (map (λ decl. decl.id) decls)
