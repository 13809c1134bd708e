-- The rules on types in the members of a class.
use Rattle.std.specs.Prelude.{ℕ, false, not, ◌||◌, List, [], ◌∷◌, ◌++◌, Option, Some}
use Rattle.std.specs.Prelude.{None}
use Rattle.par_tree.specs.declared.types.TypeTree.{TypeTree}
use Rattle.par_tree.specs.declared.decl.FieldDecl.{FieldDecl}
use Rattle.par_tree.specs.declared.decl.ParamDecl.{ParamDecl}
use Rattle.par_tree.specs.declared.decl.ThrowDecl.{ThrowDecl}
use Rattle.par_tree.specs.Plain.{Method, Class}
use Rattle.par_completes.specs.par_typed.declared.ty.Ty.{Ty}
use Rattle.par_completes.specs.par_typed.declared.ty.Ty.TheVariants as ty
use Rattle.par_completes.specs.par_typed.declared.table.Table.{Table}
use Rattle.par_refusals.specs.declared.refusal.Refusal.{Refusal}
use Rattle.par_refusals.specs.First.{when, broken}
use Rattle.par_completes.specs.Completes.{braces_complete}
use Rattle.par_scope.specs.declared.locals.Slot.{Slot}
use Rattle.par_scope.specs.Names.{Names}
use Rattle.par_scope.specs.Locals.{Scope, declared, no_locals}
use Rattle.par_scope.specs.Home.{Home, type_written, result_written}
use Rattle.par_type_rules.specs.Fits.{is_void}
use Rattle.par_type_rules.specs.Stmts.{type_fault, throw_fault, braces_faults}

-- what a parameter may hold
abbrev pub param_slot : Home → ParamDecl → Slot
param_slot home p = record { ty = type_written home.names p.ty; notnull = p.notnull }

-- the parameters in scope
unfoldable pub with_params : Home → Scope → List ParamDecl → Scope
with_params home scope [] = scope
with_params home scope (p ∷ ps) =
    with_params home (declared scope p.id.name (param_slot home p)) ps

unfoldable pub params_faults : Home → List ParamDecl → List Refusal
params_faults home [] = []
params_faults home (p ∷ ps) = type_fault home p.ty ++ params_faults home ps

unfoldable pub throws_faults : Home → List ThrowDecl → List Refusal
throws_faults home [] = []
throws_faults home (t ∷ ts) = throw_fault home t.class ++ throws_faults home ts

unfoldable pub fields_faults : Home → List FieldDecl → List Refusal
fields_faults home [] = []
fields_faults home (f ∷ fs) = type_fault home f.ty ++ fields_faults home fs

unfoldable pub result_fault : Home → Option TypeTree → List Refusal
result_fault home None = []
result_fault home (Some t) = type_fault home t

-- 203: a body with a result that can complete normally
abbrev pub end_fault : Home → Method → List Refusal
end_fault home m =
    when (not (is_void home.result || not (braces_complete m.body))) (broken 203 m.id.at)

abbrev pub home_of : Table → Names → ℕ → Option Ty → Home
home_of table names class result =
    record { table = table; names = names; class = class; result = result }

-- what breaks a rule behind the head of a method
abbrev pub inner_faults : Home → Method → List Refusal
inner_faults home m =
    braces_faults home false (with_params home no_locals m.params) m.body ++ end_fault home m

abbrev pub body_faults : Home → Method → List Refusal
body_faults home m =
    result_fault home m.result ++ params_faults home m.params ++ throws_faults home m.throws
    ++ braces_faults home false (with_params home no_locals m.params) m.body
    ++ end_fault home m

abbrev pub method_faults : Table → Names → ℕ → Method → List Refusal
method_faults table names class m =
    body_faults (home_of table names class (result_written names m.result)) m

unfoldable pub methods_faults : Table → Names → ℕ → List Method → List Refusal
methods_faults table names class [] = []
methods_faults table names class (m ∷ ms) =
    method_faults table names class m ++ methods_faults table names class ms

-- the class of this number
unfoldable pub class_faults : Table → Names → Option ℕ → Class → List Refusal
class_faults table names None c = []
class_faults table names (Some class) c =
    fields_faults (home_of table names class None) c.fields
    ++ methods_faults table names class c.methods
