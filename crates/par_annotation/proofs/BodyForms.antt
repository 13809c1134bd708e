-- The typed bodies of each form of declaration, and what is left of lists of them.
use Rattle.std.proofs.Common.{◌≡◌, ℕ, ◌+◌, ◌<◌, ◌≤◌, List, [], ◌∷◌, ◌++◌, Some, None, refl}
use Rattle.std.proofs.Common.{ap, sym, subst, length, get_or, drop}
use Rattle.std.proofs.lemmas.List.{append_assoc, append-nil}
use Rattle.par_tree.specs.declared.decl.ParamDecl.{ParamDecl}
use Rattle.par_tree.specs.declared.decl.MethodDecl.{MethodDecl}
use Rattle.par_tree.specs.declared.decl.Decl.{Decl}
use Rattle.par_tree.specs.declared.ident.Ident.{Ident}
use Rattle.par_tree.specs.declared.decl.LockDecl.{LockDecl}
use Rattle.par_tree.specs.declared.decl.PolicyDecl.{PolicyDecl}
use Rattle.par_tree.specs.Plain.{Method, Class, Declaration, Actors, Lock, Policy, Declared}
use Rattle.par_tree.specs.Shown.{method, methods, declared, all_declared}
use Rattle.par_completes.proofs.Left.{left_more, left_none}
use Rattle.par_typed.specs.declared.table.Table.{Table}
use Rattle.par_typed.specs.declared.program.TBody.{TBody}
use Rattle.par_typed.specs.Shown.{body, bodies}
use Rattle.par_scope.specs.Names.{Names}
use Rattle.par_scope.specs.Home.{Home, class_named}
use Rattle.par_type_rules.specs.Methods.{param_slot}
use Rattle.par_type_rules.specs.Frames.{Frame, with_local}
use Rattle.par_type_rules.specs.TypedStmts.{Written}
use Rattle.par_type_rules.specs.TypedBodies.{with_params, typed_method, typed_methods, typed_class}
use Rattle.par_type_rules.specs.TypedBodies.{typed_declaration, typed_declarations}
use Rattle.par_annotation.specs.Small.{IsSmallSource}

pub params_none : (home : Home) (frame : Frame) → with_params home frame [] ≡ frame
unfolding with_params
params_none home frame = refl

pub params_more : (home : Home) (frame : Frame) (p : ParamDecl) (ps : List ParamDecl)
    → with_params home frame (p ∷ ps)
    ≡ with_params home (with_local frame p.id.name (param_slot home p) None) ps
unfolding with_params
params_more home frame p ps = refl

module _ (w : Written) (table : Table) (names : Names) where
  pub methods_none : (class : ℕ) → typed_methods w table names class [] ≡ []
  unfolding typed_methods
  methods_none class = refl

  pub methods_more : (class : ℕ) (m : Method) (ms : List Method)
      → typed_methods w table names class (m ∷ ms)
      ≡ typed_method w table names class m ∷ typed_methods w table names class ms
  unfolding typed_methods
  methods_more class m ms = refl

  pub class_none : (c : Class) → typed_class w table names None c ≡ []
  unfolding typed_class
  class_none c = refl

  pub class_some : (class : ℕ) (c : Class)
      → typed_class w table names (Some class) c ≡ typed_methods w table names class c.methods
  unfolding typed_class
  class_some class c = refl

  pub of_actors : (ids : List Ident) → typed_declaration w table names (Actors ids) ≡ []
  unfolding typed_declaration
  of_actors ids = refl

  pub of_lock : (lock : LockDecl) → typed_declaration w table names (Lock lock) ≡ []
  unfolding typed_declaration
  of_lock lock = refl

  pub of_policy : (policy : PolicyDecl) → typed_declaration w table names (Policy policy) ≡ []
  unfolding typed_declaration
  of_policy policy = refl

  pub of_class : (class : Class) → typed_declaration w table names (Declared class)
      ≡ typed_class w table names (class_named names class.id.name) class
  unfolding typed_declaration
  of_class class = refl

  pub declarations_none : typed_declarations w table names [] ≡ []
  unfolding typed_declarations
  declarations_none = refl

  pub declarations_more : (d : Declaration) (ds : List Declaration)
      → typed_declarations w table names (d ∷ ds)
      ≡ typed_declaration w table names d ++ typed_declarations w table names ds
  unfolding typed_declarations
  declarations_more d ds = refl

pub one_body : (bs : List TBody) (b : TBody) → bodies (bs ++ b ∷ []) ≡ bodies bs ++ body b ∷ []
one_body [] b = refl
one_body (x ∷ bs) b = ap (λ xs. body x ∷ xs) (one_body bs b)

-- what is left of a list
pub methods_left : (ms : List MethodDecl) (i : ℕ) (m : MethodDecl) → i < length ms
    → m ≡ get_or ms i m
    → methods (drop i ms) ≡ method m ∷ methods (drop (i + 1) ms)
methods_left ms i m lt is = ap methods (left_more ms i m lt is)

pub no_methods_left : (ms : List MethodDecl) (i : ℕ) → length ms ≤ i → methods (drop i ms) ≡ []
no_methods_left ms i le = ap methods (left_none ms i le)

pub decls_left : (ds : List Decl) (i : ℕ) (d : Decl) → i < length ds → d ≡ get_or ds i d
    → all_declared (drop i ds) ≡ declared d ∷ all_declared (drop (i + 1) ds)
decls_left ds i d lt is = ap all_declared (left_more ds i d lt is)

pub no_decls_left : (ds : List Decl) (i : ℕ) → length ds ≤ i → all_declared (drop i ds) ≡ []
no_decls_left ds i le = ap all_declared (left_none ds i le)

-- the declarations as they are read are as small
pub small_as_read : (names n : Names) (ds es : List Decl) → n ≡ names → ds ≡ es
    → IsSmallSource names (all_declared es) → IsSmallSource n (all_declared ds)
small_as_read names n ds es same read small =
    subst (λ (m : Names). IsSmallSource m (all_declared ds)) (sym same)
    (subst (λ (xs : List Decl). IsSmallSource names (all_declared xs)) (sym read) small)

pub ruleset typed_bodies = (
  params_none,
  params_more,
  methods_none,
  methods_more,
  class_none,
  class_some,
  of_actors,
  of_lock,
  of_policy,
  of_class,
  declarations_none,
  declarations_more,
  one_body,
  append_assoc,
  append-nil,
)
