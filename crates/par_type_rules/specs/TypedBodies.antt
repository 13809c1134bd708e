-- The typed bodies of a program.
use Rattle.std.specs.Prelude.{ℕ, Bool, true, false, List, [], ◌∷◌, ◌++◌, Option, Some, None}
use Rattle.std.specs.Prelude.{slice_get}
use Rattle.par_tree.specs.declared.decl.ParamDecl.{ParamDecl}
use Rattle.par_tree.specs.Plain.{Method, Class, Declaration, Source, Actors, Lock}
use Rattle.par_tree.specs.Plain.{Policy}
use Rattle.par_tree.specs.Plain.{Declared}
use Rattle.par_completes.specs.par_typed.declared.table.Table.{Table}
use Rattle.par_completes.specs.par_typed.Plain.{Body}
use Rattle.par_scope.specs.Names.{Names, names_of, number_in, methods_in}
use Rattle.par_scope.specs.Locals.{no_locals}
use Rattle.par_scope.specs.Home.{Home, class_named, result_written}
use Rattle.par_type_rules.specs.Methods.{home_of, param_slot}
use Rattle.par_type_rules.specs.Frames.{Frame, with_local}
use Rattle.par_type_rules.specs.TypedExprs.{numbered}
use Rattle.par_type_rules.specs.TypedStmts.{Written, typed_braces}

-- `this` has number 0 in an instance method
abbrev pub first_number : Bool → ℕ
first_number true = 0
first_number false = 1

abbrev pub no_frame : Bool → Frame
no_frame is_static = record { scope = no_locals; vars = []; next = first_number is_static }

unfoldable pub with_params : Home → Frame → List ParamDecl → Frame
with_params home frame [] = frame
with_params home frame (p ∷ ps) =
    with_params home (with_local frame p.id.name (param_slot home p) None) ps

abbrev pub typed_body : Written → Home → Method → Body
typed_body w home m = record {
  class = home.class;
  method =
      numbered (number_in (methods_in (slice_get home.names.members home.class)) m.id.name);
  body = typed_braces w home (with_params home (no_frame m.is_static) m.params) 0 m.body;
}

abbrev pub typed_method : Written → Table → Names → ℕ → Method → Body
typed_method w table names class m =
    typed_body w (home_of table names class (result_written names m.result)) m

unfoldable pub typed_methods : Written → Table → Names → ℕ → List Method → List Body
typed_methods w table names class [] = []
typed_methods w table names class (m ∷ ms) =
    typed_method w table names class m ∷ typed_methods w table names class ms

unfoldable pub typed_class : Written → Table → Names → Option ℕ → Class → List Body
typed_class w table names None c = []
typed_class w table names (Some class) c = typed_methods w table names class c.methods

unfoldable pub typed_declaration : Written → Table → Names → Declaration → List Body
typed_declaration w table names (Actors ids) = []
typed_declaration w table names (Lock lock) = []
typed_declaration w table names (Policy policy) = []
typed_declaration w table names (Declared class) =
    typed_class w table names (class_named names class.id.name) class

unfoldable pub typed_declarations : Written → Table → Names → List Declaration → List Body
typed_declarations w table names [] = []
typed_declarations w table names (d ∷ ds) =
    typed_declaration w table names d ++ typed_declarations w table names ds

-- the bodies of all methods, in the order of the source
abbrev pub typed_program : Written → Table → Source → List Body
typed_program w table source = typed_declarations w table (names_of table) source
