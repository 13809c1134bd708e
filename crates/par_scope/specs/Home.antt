-- Where a body stands.
use Rattle.std.specs.Prelude.{ℕ, List, Option, Some, None}
use Rattle.par_tree.specs.declared.types.TypeTree.{TypeTree}
use Rattle.par_tree.specs.declared.types.TypeTree.TheVariants as type
use Rattle.par_typed.specs.declared.ty.Ty.{Ty}
use Rattle.par_typed.specs.declared.ty.Ty.TheVariants as ty
use Rattle.par_typed.specs.declared.table.Table.{Table}
use Rattle.par_scope.specs.declared.home.Home as code
use Rattle.par_scope.specs.Names.{Names, number_in}

-- the table with its names, the number of the own class, and the type of the result
pub record Home : Type 0 where
  pub table : Table
  pub names : Names
  pub class : ℕ
  pub result : Option Ty

abbrev pub seen : code.Home → Home
seen h = record { table = h.table.now; names = h.names.now; class = h.class; result = h.result }

-- the number of the class of a name
abbrev pub class_named : Names → List ℕ → Option ℕ
class_named names name = number_in names.classes name

abbrev pub class_type : Option ℕ → Option Ty
class_type None = None
class_type (Some class) = Some (ty.Class class)

-- the type that is written; none where it names no class
abbrev pub type_written : Names → TypeTree → Option Ty
type_written names (type.Int at) = Some ty.Int
type_written names (type.Boolean at) = Some ty.Boolean
type_written names (type.Class id) = class_type (class_named names id.name)

-- the type of what a method gives
abbrev pub result_written : Names → Option TypeTree → Option Ty
result_written names None = Some ty.Void
result_written names (Some t) = type_written names t
