-- The broken rules of each list of members and declarations, as a pass finds them.
use Rattle.std.proofs.Common.{◌≡◌, ℕ, ◌+◌, ◌<◌, ◌≤◌, ◌++◌, List, [], ◌∷◌, Some, None}
use Rattle.std.proofs.Common.{length, get_or, drop, refl, ap}
use Rattle.par_tree.specs.declared.ident.Ident.{Ident}
use Rattle.par_tree.specs.declared.types.TypeTree.{TypeTree}
use Rattle.par_tree.specs.declared.decl.LockDecl.{LockDecl}
use Rattle.par_tree.specs.declared.decl.PolicyDecl.{PolicyDecl}
use Rattle.par_tree.specs.declared.decl.FieldDecl.{FieldDecl}
use Rattle.par_tree.specs.declared.decl.ParamDecl.{ParamDecl}
use Rattle.par_tree.specs.declared.decl.ThrowDecl.{ThrowDecl}
use Rattle.par_tree.specs.declared.decl.MethodDecl.{MethodDecl}
use Rattle.par_tree.specs.declared.decl.Decl.{Decl}
use Rattle.par_tree.specs.Plain.{Method, Class, Declaration, Actors, Lock, Policy, Declared}
use Rattle.par_tree.specs.Shown as tree
use Rattle.par_completes.specs.par_typed.declared.table.Table.{Table}
use Rattle.par_refusals.proofs.First.{firsts}
use Rattle.par_completes.proofs.Left.{left_more, left_none}
use Rattle.par_scope.specs.Names.{Names}
use Rattle.par_scope.specs.Locals.{Scope, declared}
use Rattle.par_scope.specs.Home.{Home, class_named}
use Rattle.par_type_rules.specs.Stmts.{type_fault, throw_fault}
use Rattle.par_type_rules.specs.Methods.{with_params, param_slot, params_faults, throws_faults}
use Rattle.par_type_rules.specs.Methods.{fields_faults, result_fault}
use Rattle.par_type_rules.specs.Methods.{home_of, method_faults, methods_faults, class_faults}
use Rattle.par_type_rules.specs.Program.{declaration_faults, declarations_faults}

pub with_params_end : (home : Home) (scope : Scope) →
    with_params home scope []
    ≡ (scope)
unfolding with_params
with_params_end home scope = refl

pub with_params_more : (home : Home) (scope : Scope) (p : ParamDecl) (ps : List ParamDecl) →
    with_params home scope (p ∷ ps)
    ≡ (with_params home (declared scope p.id.name (param_slot home p)) ps)
unfolding with_params
with_params_more home scope p ps = refl

pub params_faults_end : (home : Home) →
    params_faults home []
    ≡ ([])
unfolding params_faults
params_faults_end home = refl

pub params_faults_more : (home : Home) (p : ParamDecl) (ps : List ParamDecl) →
    params_faults home (p ∷ ps)
    ≡ (type_fault home p.ty ++ params_faults home ps)
unfolding params_faults
params_faults_more home p ps = refl

pub throws_faults_end : (home : Home) →
    throws_faults home []
    ≡ ([])
unfolding throws_faults
throws_faults_end home = refl

pub throws_faults_more : (home : Home) (t : ThrowDecl) (ts : List ThrowDecl) →
    throws_faults home (t ∷ ts)
    ≡ (throw_fault home t.class ++ throws_faults home ts)
unfolding throws_faults
throws_faults_more home t ts = refl

pub fields_faults_end : (home : Home) →
    fields_faults home []
    ≡ ([])
unfolding fields_faults
fields_faults_end home = refl

pub fields_faults_more : (home : Home) (f : FieldDecl) (fs : List FieldDecl) →
    fields_faults home (f ∷ fs)
    ≡ (type_fault home f.ty ++ fields_faults home fs)
unfolding fields_faults
fields_faults_more home f fs = refl

pub result_fault_none : (home : Home) →
    result_fault home None
    ≡ ([])
unfolding result_fault
result_fault_none home = refl

pub result_fault_some : (home : Home) (t : TypeTree) →
    result_fault home (Some t)
    ≡ (type_fault home t)
unfolding result_fault
result_fault_some home t = refl

pub methods_faults_end : (table : Table) (names : Names) (class : ℕ) →
    methods_faults table names class []
    ≡ ([])
unfolding methods_faults
methods_faults_end table names class = refl

pub methods_faults_more : (table : Table) (names : Names) (class : ℕ) (m : Method)
    (ms : List Method) →
    methods_faults table names class (m ∷ ms)
    ≡ (method_faults table names class m ++ methods_faults table names class ms)
unfolding methods_faults
methods_faults_more table names class m ms = refl

pub class_faults_none : (table : Table) (names : Names) (c : Class) →
    class_faults table names None c
    ≡ ([])
unfolding class_faults
class_faults_none table names c = refl

pub class_faults_some : (table : Table) (names : Names) (class : ℕ) (c : Class) →
    class_faults table names (Some class) c
    ≡ (fields_faults (home_of table names class None) c.fields
    ++ methods_faults table names class c.methods)
unfolding class_faults
class_faults_some table names class c = refl

pub declaration_faults_actors : (table : Table) (names : Names) (ids : List Ident) →
    declaration_faults table names (Actors ids)
    ≡ ([])
unfolding declaration_faults
declaration_faults_actors table names ids = refl

pub declaration_faults_lock : (table : Table) (names : Names) (lock : LockDecl) →
    declaration_faults table names (Lock lock)
    ≡ ([])
unfolding declaration_faults
declaration_faults_lock table names lock = refl

pub declaration_faults_policy : (table : Table) (names : Names) (policy : PolicyDecl) →
    declaration_faults table names (Policy policy)
    ≡ ([])
unfolding declaration_faults
declaration_faults_policy table names policy = refl

pub declaration_faults_declared : (table : Table) (names : Names) (class : Class) →
    declaration_faults table names (Declared class)
    ≡ (class_faults table names (class_named names class.id.name) class)
unfolding declaration_faults
declaration_faults_declared table names class = refl

pub declarations_faults_end : (table : Table) (names : Names) →
    declarations_faults table names []
    ≡ ([])
unfolding declarations_faults
declarations_faults_end table names = refl

pub declarations_faults_more : (table : Table) (names : Names) (d : Declaration)
    (ds : List Declaration) →
    declarations_faults table names (d ∷ ds)
    ≡ (declaration_faults table names d ++ declarations_faults table names ds)
unfolding declarations_faults
declarations_faults_more table names d ds = refl

pub ruleset found_in = (
  with_params_end,
  with_params_more,
  params_faults_end,
  params_faults_more,
  throws_faults_end,
  throws_faults_more,
  fields_faults_end,
  fields_faults_more,
  result_fault_none,
  result_fault_some,
  methods_faults_end,
  methods_faults_more,
  class_faults_none,
  class_faults_some,
  declaration_faults_actors,
  declaration_faults_lock,
  declaration_faults_policy,
  declaration_faults_declared,
  declarations_faults_end,
  declarations_faults_more,
  firsts,
)

-- what is left of the methods and of the declarations
pub methods_left : (ms : List MethodDecl) (i : ℕ) (m : MethodDecl) → i < length ms
    → m ≡ get_or ms i m
    → tree.methods (drop i ms) ≡ tree.method m ∷ tree.methods (drop (i + 1) ms)
methods_left ms i m lt is = ap tree.methods (left_more ms i m lt is)

pub no_methods_left : (ms : List MethodDecl) (i : ℕ) → length ms ≤ i → tree.methods (drop i ms) ≡ []
no_methods_left ms i le = ap tree.methods (left_none ms i le)

pub decls_left : (ds : List Decl) (i : ℕ) (d : Decl) → i < length ds → d ≡ get_or ds i d
    → tree.all_declared (drop i ds) ≡ tree.declared d ∷ tree.all_declared (drop (i + 1) ds)
decls_left ds i d lt is = ap tree.all_declared (left_more ds i d lt is)

pub no_decls_left : (ds : List Decl) (i : ℕ) → length ds ≤ i → tree.all_declared (drop i ds) ≡ []
no_decls_left ds i le = ap tree.all_declared (left_none ds i le)
