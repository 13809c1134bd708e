-- The method of a body in its table, and bodies whose numbers are in order and in range.
use Rattle.std.specs.Prelude.{◌≡◌, ℕ, Option, Some, None, length}
use Rattle.par_typed.specs.declared.table.Table.{Table}
use Rattle.par_typed.specs.declared.table.MethodInfo.{MethodInfo}
use Rattle.par_typed.specs.Members.{method_at}
use Rattle.par_typed.specs.Plain.{Body}
use Rattle.par_program_laws.specs.Declares.{declares}
use Rattle.par_program_laws.specs.Ranges.{IsOrderly}

-- the body is that of this method, and its numbers are in order and in range
pub record IsOrderlyOf (table : Table) (b : Body) (m : MethodInfo) : Type 0 where
  pub method : method_at table b.class b.method ≡ Some m
  pub orderly : IsOrderly (declares table) (length m.locals) b

abbrev pub IsOrderlyBody : Table → Body → Type 0
IsOrderlyBody table b = (m : MethodInfo) × IsOrderlyOf table b m

abbrev pub locals_of : Option MethodInfo → ℕ
locals_of None = 0
locals_of (Some m) = length m.locals

-- a body has as many locals as its method, and none where there is no such method
abbrev pub locals_in : Table → Body → ℕ
locals_in table b = locals_of (method_at table b.class b.method)
