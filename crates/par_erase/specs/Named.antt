-- What a table calls its classes and their members are names.
use Rattle.std.specs.List.{AllByRecursion}
use Rattle.par_base.specs.Names.{IsName}
use Rattle.par_typed.specs.declared.table.ClassInfo.{ClassInfo}
use Rattle.par_typed.specs.declared.table.Table.{Table}

pub record IsNamed (class : ClassInfo) : Type 0 where
  pub name : IsName class.name
  pub fields : AllByRecursion (λ field. IsName field.name) class.fields
  pub channels : AllByRecursion (λ channel. IsName channel.name) class.channels
  pub methods : AllByRecursion (λ method. IsName method.name) class.methods

pub record AreNamed (table : Table) : Type 0 where
  pub classes : AllByRecursion IsNamed table.classes
