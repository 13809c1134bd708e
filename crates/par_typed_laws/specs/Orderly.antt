-- Bodies over a table, as the rules of flow need them.
use Rattle.std.specs.Prelude.{◌≡◌, Some, length}
use Rattle.par_program_laws.specs.par_typed.declared.table.MethodInfo.{MethodInfo}
use Rattle.par_program_laws.specs.par_typed.declared.table.Table.{Table}
use Rattle.par_program_laws.specs.par_typed.Plain.{Body}
use Rattle.par_program_laws.specs.par_typed.Nodes.{stmt_nodes}
use Rattle.par_type_rules.specs.Points.{count_from, stmt_points}
use Rattle.par_typed_laws.specs.Numbers.{StaInRange}
use Rattle.par_program_laws.specs.par_typed.Members.{method_at}
use Rattle.par_program_laws.specs.Locals.{set_by_call}
use Rattle.par_typed_laws.specs.SetFirst.{SetsFirst}

-- the body of this method: its points are the numbers below the count of its nodes, each once, in
-- their order, its locals, locks and policies are those of the method and the table, and locals are
-- set before they are read
pub record IsBodyOf (table : Table) (b : Body) (m : MethodInfo) : Type 0 where
  pub method : method_at table b.class b.method ≡ Some m
  pub points : stmt_points b.body ≡ count_from 0 (stmt_nodes b.body)
  pub numbers : StaInRange table (length m.locals) b.body
  pub set_first : SetsFirst (set_by_call m) b.body

abbrev pub HasMethod : Table → Body → Type 0
HasMethod table b = (m : MethodInfo) × IsBodyOf table b m
