-- The declarations in the table of a source have the types and exceptions that they may have.
use Rattle.std.proofs.Common.{◌≡◌, ℕ, ◌+◌, Bool, true, false, List, [], ◌∷◌, ◌++◌, length, Option}
use Rattle.std.proofs.Common.{Some, None, refl, sym, ap, subst, ◌∙◌, append_assoc, map}
use Rattle.std.specs.Prelude.{flat_map, slice_get, count_by, if◌then◌else◌, codes}
use Rattle.std.specs.List.{AllByRecursion}
use Rattle.std.proofs.lemmas.List.{length-append}
use Rattle.par_program_laws.specs.par_tree.declared.types.TypeTree.{TypeTree}
use Rattle.par_program_laws.specs.par_tree.declared.policy.PolicyExpr.{PolicyExpr}
use Rattle.par_program_laws.specs.par_tree.declared.decl.FieldDecl.{FieldDecl}
use Rattle.par_program_laws.specs.par_tree.declared.decl.ParamDecl.{ParamDecl}
use Rattle.par_program_laws.specs.par_tree.declared.decl.ThrowDecl.{ThrowDecl}
use Rattle.par_program_laws.specs.par_tree.Plain.{Class, Method, Declaration, Source}
use Rattle.par_program_laws.specs.par_tree.Plain as plain
use Rattle.par_program_laws.specs.par_typed.declared.ty.Ty.{Ty}
use Rattle.par_program_laws.specs.par_typed.declared.ty.Ty.TheVariants as ty
use Rattle.par_program_laws.specs.par_typed.declared.table.Table.{Table}
use Rattle.par_source_laws.specs.par_names.Declarations.{classes, builtin, builtins, classes_in}
use Rattle.par_source_laws.specs.par_names.Declarations.{declared_classes, doubles}
use Rattle.par_source_laws.specs.par_names.Members.{callee_ids}
use Rattle.par_source_laws.specs.par_names.Methods as named
use Rattle.par_source_laws.specs.par_names.Methods.{field_faults, channel_faults, inferred_fault}
use Rattle.par_source_laws.specs.par_names.Methods.{param_faults}
use Rattle.par_source_laws.specs.par_names.Policies.{may_policy_faults, type_fault, result_fault}
use Rattle.par_source_laws.specs.par_names.Program.{view_behind, name_faults}
use Rattle.par_type_rules.specs.par_scope.Names.{names_of}
use Rattle.par_type_rules.specs.par_scope.Locals.{no_locals}
use Rattle.par_type_rules.specs.par_scope.Home.{Home, class_named, result_written}
use Rattle.par_type_rules.specs.Stmts as types
use Rattle.par_type_rules.specs.Stmts.{throw_fault, braces_faults}
use Rattle.par_type_rules.specs.Methods as rules
use Rattle.par_type_rules.specs.Methods.{home_of, params_faults, throws_faults}
use Rattle.par_type_rules.specs.Methods.{fields_faults, end_fault}
use Rattle.par_type_rules.specs.Methods.{method_faults, methods_faults}
use Rattle.par_type_rules.specs.Methods.{class_faults}
use Rattle.par_type_rules.specs.Program.{declaration_faults}
use Rattle.par_type_rules.specs.Program.{declarations_faults}
use Rattle.par_type_rules.specs.Program.{type_faults}
use Rattle.par_faults.specs.par_resolved.Numbers.{type_of, result_of}
use Rattle.par_faults.specs.par_resolved.Resolved.{Resolved, resolved, field_infos, channel_info}
use Rattle.par_faults.specs.par_resolved.Resolved.{param_info}
use Rattle.par_faults.specs.par_resolved.Resolved.{throw_info, this_type, local_types, method_info}
use Rattle.par_faults.specs.par_resolved.Resolved.{class_info}
use Rattle.par_faults.specs.par_resolved.Resolved.{class_infos, table_of}
use Rattle.par_parts.specs.Statements.{in_braces}
use Rattle.par_parts.specs.Written.{stmt_types}
use Rattle.par_faults.specs.Faults.{all_faults}
use Rattle.par_source_laws.specs.Order.{IsBare, IsInOrder}
use Rattle.par_program_laws.specs.Makes.{IsOrdinary}
use Rattle.par_program_laws.specs.BodyNames.{IsException}
use Rattle.par_typed_laws.specs.Signatures.{HasNoMembers, IsValueType, IsResultType, FieldHasType}
use Rattle.par_typed_laws.specs.Signatures.{ParamHasType, ThrowsException, HasSignature}
use Rattle.par_typed_laws.specs.Signatures.{HasSignatures, AreSigned}
use Rattle.par_typed_laws.proofs.Lists.{none_left, none_right, none_of, all_mapped, of_both}
use Rattle.par_typed_laws.proofs.Lists.{of_parts}
use Rattle.par_typed_laws.proofs.Programs.{class_number, class_stands}
use Rattle.par_typed_laws.proofs.Unbroken.{is_kept, IsKeptClass, IsKeptMethod, classes_kept}
use Rattle.par_typed_laws.proofs.Unbroken.{methods_kept, head_kept, body_kept, names_kept}
use Rattle.par_typed_laws.proofs.NamedStatements.{thrown_is}
use Rattle.par_typed_laws.proofs.Fitted.{head_types}
use Rattle.par_typed_laws.proofs.Declares as written
use Rattle.par_typed_laws.proofs.Declares.{Writes, braces_write}

as_result : (table : Table) (t : Ty) → IsValueType table t → IsResultType table t
as_result table ty.Int h = h
as_result table ty.Boolean h = h
as_result table (ty.Class class) h = h
as_result table ty.Null h = h
as_result table ty.Void h = tt

module _ (source : Source) (class n : ℕ) (c : Class)
    (stands : slice_get (table_of source).classes class
    ≡ Some (class_info (resolved source) class n c)) where
  abbrev t : Table
  t = table_of source

  abbrev r : Resolved
  r = resolved source

  abbrev home : Option Ty → Home
  home result = home_of t (names_of t) class result

  abbrev IsValue : TypeTree → Type 0
  IsValue y = IsValueType t (type_of r.classes y)

  value : (result : Option Ty) (past : List (List ℕ)) (y : TypeTree)
      → type_fault (view_behind source past) y ≡ [] → types.type_fault (home result) y ≡ []
      → IsValue y
  value result past y said none =
      written.written source class n c result stands past false y said none

  -- ---- members

  fields_have : (past : List (List ℕ)) (birth : Option PolicyExpr) (next : ℕ) (fs : List FieldDecl)
      → AllByRecursion (λ f. field_faults (view_behind source past) birth f ≡ []) fs
      → fields_faults (home None) fs ≡ []
      → AllByRecursion (FieldHasType t) (field_infos r next fs)
  unfolding fields_faults
  fields_have past birth next [] said none = tt
  fields_have past birth next (f ∷ fs) said none =
      let v = view_behind source past in
      let policy = may_policy_faults v f.policy in
      let own = type_fault v f.ty in
      let one = types.type_fault (home None) f.ty in
      let more = fields_faults (home None) fs in (
        value None past f.ty
            (none_right policy own (none_left (policy ++ own) (inferred_fault birth f) said.0))
            (none_left one more none),
        fields_have past birth (if f.inferred then next + 1 else next) fs said.1
            (none_right one more none),
      )

  params_have : (result : Option Ty) (past : List (List ℕ)) (ps : List ParamDecl)
      → AllByRecursion (λ p. param_faults (view_behind source past) p ≡ []) ps
      → params_faults (home result) ps ≡ [] → AllByRecursion (λ p. IsValue p.ty) ps
  unfolding params_faults
  params_have result past [] said none = tt
  params_have result past (p ∷ ps) said none =
      let v = view_behind source past in
      let one = types.type_fault (home result) p.ty in
      let more = params_faults (home result) ps in (
        value result past p.ty
            (none_right (may_policy_faults v p.policy) (type_fault v p.ty) said.0)
            (none_left one more none),
        params_have result past ps said.1 (none_right one more none),
      )

  result_has : (result : Option Ty) (past : List (List ℕ)) (o : Option TypeTree)
      → result_fault (view_behind source past) o ≡ [] → rules.result_fault (home result) o ≡ []
      → IsResultType t (result_of r.classes o)
  unfolding result_fault rules.result_fault result_of
  result_has result past None said none = tt
  result_has result past (Some y) said none =
      as_result t (type_of r.classes y) (value result past y said none)

  throws_have : (result : Option Ty) (xs : List ThrowDecl) → throws_faults (home result) xs ≡ []
      → AllByRecursion (ThrowsException t) (map (throw_info r) xs)
  unfolding throws_faults
  throws_have result [] none = tt
  throws_have result (x ∷ xs) none =
      let one = throw_fault (home result) x.class in
      let more = throws_faults (home result) xs in (
        subst (λ k. IsException (slice_get t.classes k)) (written.class_number source x.class.name)
            (thrown_is t (class_named (names_of t) x.class.name)
            (is_kept _ _ (none_left one more none))),
        throws_have result xs (none_right one more none),
      )

  -- ---- methods, of a class that is no exception

  module _ (ordinary : c.exception ≡ false) where
    own_class : IsOrdinary (slice_get t.classes class)
    own_class = subst IsOrdinary (sym stands) ordinary

    this_has : (b : Bool) → AllByRecursion (IsValueType t) (this_type class b)
    this_has true = tt
    this_has false = (own_class, tt)

    locals_have : (result : Option Ty) (past : List (List ℕ)) (m : Method)
        → named.method_faults (view_behind source past) c m ≡ []
        → AllByRecursion (λ p. IsValue p.ty) m.params
        → braces_faults (home result) false (rules.with_params (home result) no_locals m.params)
        m.body ≡ []
        → AllByRecursion (IsValueType t) (local_types r.classes class m)
    locals_have result past m said params none =
        let wrote = of_parts (Writes source class n c result stands past m.is_static) IsValue
        stmt_types (in_braces m.body) (λ s is. is)
        (braces_write source class n c result stands past m.is_static false
        (map (λ p. p.id.name) m.params) (rules.with_params (home result) no_locals m.params) m.body
        (body_kept source past c m said) none) in
        of_both (IsValueType t) _ _
        (of_both (IsValueType t) (this_type class m.is_static) _ (this_has m.is_static)
        (all_mapped (λ p. IsValue p.ty) (IsValueType t) (λ p. type_of r.classes p.ty) m.params
        (λ p is. is) params))
        (all_mapped IsValue (IsValueType t) (type_of r.classes)
        (flat_map stmt_types (in_braces m.body)) (λ y is. is) wrote)

    method_has : (m : Method) → IsKeptMethod source c m → method_faults t (names_of t) class m ≡ []
        → HasSignature t (method_info r class m)
    method_has m (past, said) none =
        let result = result_written (names_of t) m.result in
        let own = home result in
        let heads = head_types (view_behind source past) m (head_kept source past c m said) in
        let gives = rules.result_fault own m.result in
        let takes = params_faults own m.params in
        let throws = throws_faults own m.throws in
        let body = braces_faults own false (rules.with_params own no_locals m.params) m.body in
        let to_body = none_left (gives ++ takes ++ throws ++ body) (end_fault own m) none in
        let to_throws = none_left (gives ++ takes ++ throws) body to_body in
        let to_params = none_left (gives ++ takes) throws to_throws in
        let params = params_have result past m.params heads.params
        (none_right gives takes to_params) in
        record {
          result = result_has result past m.result heads.result (none_left gives takes to_params);
          params =
              all_mapped (λ p. IsValue p.ty) (ParamHasType t) (param_info r) m.params (λ p is. is)
              params;
          locals =
              locals_have result past m said params
              (none_right (gives ++ takes ++ throws) body to_body);
          throws = throws_have result m.throws (none_right (gives ++ takes) throws to_throws);
        }

    methods_have : (ms : List Method) → AllByRecursion (IsKeptMethod source c) ms
        → methods_faults t (names_of t) class ms ≡ []
        → AllByRecursion (HasSignature t) (map (method_info r class) ms)
    unfolding methods_faults
    methods_have [] keeps none = tt
    methods_have (m ∷ ms) keeps none =
        let one = method_faults t (names_of t) class m in
        let more = methods_faults t (names_of t) class ms in (
          method_has m keeps.0 (none_left one more none),
          methods_have ms keeps.1 (none_right one more none),
        )

  -- ---- the class

  bare_info : (next : ℕ) → IsBare c → c.exception ≡ true → HasNoMembers (class_info r class next c)
  bare_info next bare is =
      let none = bare is in record {
        fields = ap (field_infos r next) none.fields;
        channels = ap (map (channel_info r)) none.channels;
        methods = ap (map (method_info r class)) none.methods;
      }

  all_have : IsKeptClass source c → IsBare c → methods_faults t (names_of t) class c.methods ≡ []
      → AllByRecursion (HasSignature t) (map (method_info r class) c.methods)
  all_have keeps bare none = by c.exception refl where
    by : (b : Bool) → c.exception ≡ b
        → AllByRecursion (HasSignature t) (map (method_info r class) c.methods)
    by true is =
        subst (λ ms. AllByRecursion (HasSignature t) (map (method_info r class) ms))
        (sym ((bare is).methods)) tt
    by false is = methods_have is c.methods (methods_kept source c keeps) none

  pub class_has : (next : ℕ) → IsKeptClass source c → IsBare c
      → class_faults t (names_of t) (Some class) c ≡ []
      → HasSignatures t (class_info r class next c)
  unfolding class_faults
  class_has next (past, said) bare none =
      let v = view_behind source past in
      let to_channels = none_left _ (flat_map (named.method_faults v c) c.methods) said in
      let to_callees = none_left _ (flat_map (channel_faults v) c.channels) to_channels in
      let to_fields = none_left _ (doubles (callee_ids c)) to_callees in
      let each = none_of (field_faults v c.birth) c.fields
      (none_right _ (flat_map (field_faults v c.birth) c.fields) to_fields) in
      let fields = fields_faults (home None) c.fields in
      let methods = methods_faults t (names_of t) class c.methods in
      record {
        fields = fields_have past c.birth next c.fields each (none_left fields methods none);
        methods = all_have (past, said) bare (none_right fields methods none);
        bare = bare_info next bare;
      }

-- ---- the table

-- no rule on types is broken in the class
abbrev IsTypedClass : Source → Class → Type 0
IsTypedClass source c =
    let t = table_of source in
    class_faults t (names_of t) (class_named (names_of t) c.id.name) c ≡ []

classes_typed : (source : Source) (ds : List Declaration)
    → declarations_faults (table_of source) (names_of (table_of source)) ds ≡ []
    → AllByRecursion (IsTypedClass source) (flat_map classes_in ds)
unfolding declarations_faults declaration_faults
classes_typed source [] none = tt
classes_typed source (plain.Actors ids ∷ ds) none = classes_typed source ds none
classes_typed source (plain.Lock lock ∷ ds) none = classes_typed source ds none
classes_typed source (plain.Policy policy ∷ ds) none = classes_typed source ds none
classes_typed source (plain.Declared c ∷ ds) none =
    let t = table_of source in
    let one = class_faults t (names_of t) (class_named (names_of t) c.id.name) c in
    let more = declarations_faults t (names_of t) ds in
    (none_left one more none, classes_typed source ds (none_right one more none))

module _ (source : Source) (ordered : IsInOrder source) (none : all_faults source ≡ []) where
  abbrev table : Table
  table = table_of source

  abbrev made_by : Resolved
  made_by = resolved source

  abbrev names : name_faults source ≡ []
  names = names_kept source none

  classes_have : (before cs : List Class) (next : ℕ) → classes source ≡ before ++ cs
      → AllByRecursion (IsKeptClass source) cs → AllByRecursion IsBare cs
      → AllByRecursion (IsTypedClass source) cs
      → AllByRecursion (HasSignatures table) (class_infos made_by (length before) next cs)
  classes_have before [] next is keeps bare typed = tt
  classes_have before (c ∷ cs) next is keeps bare typed =
      let number = class_number source ordered names before cs c is in
      let stands = class_stands source ordered names before cs c is in
      let own : class_faults table (names_of table) (Some (length before)) c ≡ [] =
      ap (λ o. class_faults table (names_of table) o c) (sym number) ∙ typed.0 in
      let later = next + count_by (λ f. f.inferred) c.fields in (
        class_has source (length before) stands.0 c stands.1 next keeps.0 bare.0 own,
        subst (λ k. AllByRecursion (HasSignatures table) (class_infos made_by k later cs))
            (length-append before (c ∷ []))
            (classes_have (before ++ c ∷ []) cs later (is ∙ sym (append_assoc before (c ∷ []) cs))
            keeps.1 bare.1 typed.1),
      )

  -- a class that every program has
  builtin_has : (class : ℕ) (name : List ℕ)
      → HasSignatures table (class_info made_by class 0 (builtin name))
  builtin_has class name = record {
    fields = tt;
    methods = tt;
    bare = λ is. record { fields = refl; channels = refl; methods = refl };
  }

  pub tables_are_signed : type_faults table source ≡ [] → AreSigned table
  tables_are_signed typed = (
    builtin_has 0 (codes "ArithmeticException"),
    (
      builtin_has 1 (codes "NullPointerException"),
      classes_have builtins (declared_classes source) _ refl (classes_kept source names)
          ordered.exceptions (classes_typed source source typed),
    ),
  )
