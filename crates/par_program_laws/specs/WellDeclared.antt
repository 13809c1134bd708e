-- What later layers may ask of a table.
use Rattle.std.specs.Prelude.{◌≤◌, length}
use Rattle.par_typed.specs.declared.table.ClassInfo.{ClassInfo}
use Rattle.par_typed.specs.declared.table.Table.{Table}
use Rattle.par_program_laws.specs.TableNames.{AreNamesApart}
use Rattle.par_program_laws.specs.Births.{AreBirthsBelow}
use Rattle.par_program_laws.specs.Inferred.{AreOfFields}
use Rattle.par_program_laws.specs.Policies.{ArePoliciesShared}

-- the fields of the class have numbers
abbrev pub HasFewFields : ClassInfo → Type 0
HasFewFields c = length c.fields ≤ 65536

-- Names differ, births are below the fields of objects, inferred numbers are those of fields alone,
-- and each policy that is written stands in the table once.
pub record IsWellDeclared (table : Table) : Type 0 where
  pub names : AreNamesApart table
  pub births : AreBirthsBelow table
  pub inferred : AreOfFields table
  pub policies : ArePoliciesShared table
