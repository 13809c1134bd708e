-- The rules on types of a whole program.
use Rattle.std.specs.Prelude.{List, [], ◌∷◌, ◌++◌}
use Rattle.par_tree.specs.Plain.{Declaration, Source, Actors, Lock, Policy, Declared}
use Rattle.par_completes.specs.par_typed.declared.table.Table.{Table}
use Rattle.par_refusals.specs.declared.refusal.Refusal.{Refusal}
use Rattle.par_scope.specs.Names.{Names, names_of}
use Rattle.par_scope.specs.Home.{class_named}
use Rattle.par_type_rules.specs.Methods.{class_faults}

unfoldable pub declaration_faults : Table → Names → Declaration → List Refusal
declaration_faults table names (Actors ids) = []
declaration_faults table names (Lock lock) = []
declaration_faults table names (Policy policy) = []
declaration_faults table names (Declared class) =
    class_faults table names (class_named names class.id.name) class

unfoldable pub declarations_faults : Table → Names → List Declaration → List Refusal
declarations_faults table names [] = []
declarations_faults table names (d ∷ ds) =
    declaration_faults table names d ++ declarations_faults table names ds

-- all broken rules on types
abbrev pub type_faults : Table → Source → List Refusal
type_faults table source = declarations_faults table (names_of table) source
