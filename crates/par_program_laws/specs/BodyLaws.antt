-- What a proper body is, one thing by itself.
use Rattle.par_completes.specs.par_typed.declared.table.Table.{Table}
use Rattle.par_completes.specs.par_typed.Plain.{Body}
use Rattle.par_program_laws.specs.BodyNames.{StaNames}
use Rattle.par_program_laws.specs.Makes.{MakesObjects}
use Rattle.par_program_laws.specs.Uses.{LeavesThis}
use Rattle.par_program_laws.specs.Proper.{IsProper}

-- the classes and members that it names are those that it should
abbrev pub ProperBodiesNameMembers : Type 0
ProperBodiesNameMembers = (table : Table) (b : Body) → IsProper table b → StaNames table b.body

-- it makes objects of classes that are no exceptions, and has `this` where there is a receiver
abbrev pub ProperBodiesMakeObjects : Type 0
ProperBodiesMakeObjects = (table : Table) (b : Body) → IsProper table b → MakesObjects table b

-- local 0 of an instance method is never set, and a lock that a `when` asks for has a policy
abbrev pub ProperBodiesLeaveThis : Type 0
ProperBodiesLeaveThis = (table : Table) (b : Body) → IsProper table b → LeavesThis table b
