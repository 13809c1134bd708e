-- The bodies of a source make objects of ordinary classes, and have `this` in instance methods.
use Rattle.std.proofs.Common.{◌≡◌, ℕ, false, List, [], ◌∷◌, ◌++◌, length, Some, None, refl, sym, ap}
use Rattle.std.proofs.Common.{subst, ◌∙◌, append_assoc, map}
use Rattle.std.specs.Prelude.{flat_map, slice_get}
use Rattle.std.specs.List.{AllByRecursion}
use Rattle.par_program_laws.specs.par_tree.Plain.{Class, Method, Declaration, Source}
use Rattle.par_program_laws.specs.par_tree.Plain as plain
use Rattle.par_program_laws.specs.par_typed.declared.table.Table.{Table}
use Rattle.par_source_laws.specs.par_names.Declarations.{classes, builtins, classes_in}
use Rattle.par_source_laws.specs.par_names.Program.{name_faults}
use Rattle.par_type_rules.specs.par_scope.Names.{names_of}
use Rattle.par_type_rules.specs.par_scope.Locals.{no_locals}
use Rattle.par_type_rules.specs.par_scope.Home.{class_named, result_written}
use Rattle.par_type_rules.specs.Stmts.{braces_faults}
use Rattle.par_type_rules.specs.Methods as rules
use Rattle.par_type_rules.specs.Methods.{home_of, end_fault, fields_faults}
use Rattle.par_type_rules.specs.Methods.{method_faults}
use Rattle.par_type_rules.specs.Methods.{methods_faults, class_faults}
use Rattle.par_type_rules.specs.Program.{declaration_faults}
use Rattle.par_type_rules.specs.Program.{declarations_faults}
use Rattle.par_type_rules.specs.Program.{type_faults}
use Rattle.par_type_rules.specs.TypedStmts.{Written}
use Rattle.par_type_rules.specs.TypedBodies.{no_frame, with_params, typed_body, typed_methods}
use Rattle.par_type_rules.specs.TypedBodies.{typed_class}
use Rattle.par_type_rules.specs.TypedBodies.{typed_declaration, typed_declarations}
use Rattle.par_faults.specs.par_resolved.Resolved.{Resolved, resolved, class_info, method_info}
use Rattle.par_faults.specs.par_resolved.Resolved.{table_of}
use Rattle.par_faults.specs.Faults.{all_faults}
use Rattle.par_source_laws.specs.Order.{Ascend, IsInOrder}
use Rattle.par_program_laws.specs.par_typed.Members.{method_at}
use Rattle.par_program_laws.specs.Makes.{StaMakes, MakesObjects}
use Rattle.par_typed_laws.specs.Typed.{written_in, bodies_of}
use Rattle.par_typed_laws.proofs.Lists.{none_left, none_right, of_both}
use Rattle.par_typed_laws.proofs.Places.{Differ}
use Rattle.par_typed_laws.proofs.Programs.{class_number, class_stands, method_names_differ}
use Rattle.par_typed_laws.proofs.Programs.{method_number, method_stands}
use Rattle.par_typed_laws.proofs.Unbroken.{IsKept, IsKeptClass, IsKeptMethod, kept, methods_kept}
use Rattle.par_typed_laws.proofs.Unbroken.{body_kept, names_kept}
use Rattle.par_typed_laws.proofs.NamedStatements.{scope-params}
use Rattle.par_typed_laws.proofs.MakesStatements.{params_known, braces_makes}

module _ (source : Source) (ordered : IsInOrder source) (none : all_faults source ≡ []) where
  abbrev t : Table
  t = table_of source

  abbrev r : Resolved
  r = resolved source

  abbrev w : Written
  w = written_in source

  abbrev names : name_faults source ≡ []
  names = names_kept source none

  method_makes : (class n : ℕ) (c : Class) (m : Method)
      → slice_get t.classes class ≡ Some (class_info r class n c)
      → IsKeptMethod source c m → method_faults t (names_of t) class m ≡ []
      → StaMakes t m.is_static (typed_body w (home_of t (names_of t) class
      (result_written (names_of t) m.result)) m).body
  method_makes class n c m stands (past, said) types =
      let result = result_written (names_of t) m.result in
      let home = home_of t (names_of t) class result in
      let frame = with_params home (no_frame m.is_static) m.params in
      let body = braces_faults home false (rules.with_params home no_locals m.params) m.body in
      let right : body ≡ [] = none_right _ body (none_left _ (end_fault home m) types) in
      braces_makes w source class n c result stands past m.is_static frame 0 false
      (map (λ p. p.id.name) m.params) m.body
      (params_known home (no_frame m.is_static) [] m.params (record { names = refl; vars = refl }))
      (body_kept source past c m said)
      (ap (λ scope. braces_faults home false scope m.body)
      (scope-params home (no_frame m.is_static) m.params) ∙ right)

  methods_make : (class n : ℕ) (c : Class) (before ms : List Method)
      → slice_get t.classes class ≡ Some (class_info r class n c)
      → c.methods ≡ before ++ ms → Differ (map (λ k. k.id.name) c.methods)
      → AllByRecursion (IsKeptMethod source c) ms → methods_faults t (names_of t) class ms ≡ []
      → AllByRecursion (MakesObjects t) (typed_methods w t (names_of t) class ms)
  unfolding typed_methods methods_faults
  methods_make class n c before [] stands is apart_names keeps types = tt
  methods_make class n c before (m ∷ ms) stands is apart_names keeps types =
      let one = method_faults t (names_of t) class m in
      let more = methods_faults t (names_of t) class ms in
      let number =
      method_number source ordered names class n c before ms m stands is apart_names in (
        (
          method_info r class m,
          record {
            method =
                ap (method_at t class) number
                ∙ method_stands source ordered names class n c before ms m stands is;
            makes = method_makes class n c m stands keeps.0 (none_left one more types);
          },
        ),
        methods_make class n c (before ++ m ∷ []) ms stands
            (is ∙ sym (append_assoc before (m ∷ []) ms)) apart_names keeps.1
            (none_right one more types),
      )

  class_makes : (before rest : List Class) (c : Class) → classes source ≡ before ++ c ∷ rest
      → IsKeptClass source c → Ascend 0 (map (λ m. m.id.at) c.methods)
      → class_faults t (names_of t) (class_named (names_of t) c.id.name) c ≡ []
      → AllByRecursion (MakesObjects t) (typed_class w t (names_of t) (class_named (names_of t)
      c.id.name) c)
  unfolding typed_class class_faults
  class_makes before rest c is keeps up types =
      let number = class_number source ordered names before rest c is in
      let stands = class_stands source ordered names before rest c is in
      let numbered : class_faults t (names_of t) (Some (length before)) c ≡ [] =
      ap (λ o. class_faults t (names_of t) o c) (sym number) ∙ types in
      subst (λ o. AllByRecursion (MakesObjects t) (typed_class w t (names_of t) o c)) (sym number)
      (methods_make (length before) stands.0 c [] c.methods stands.1 refl
      (method_names_differ source ordered names c keeps up) (methods_kept source c keeps)
      (none_right (fields_faults (home_of t (names_of t) (length before) None) c.fields)
      (methods_faults t (names_of t) (length before) c.methods) numbered))

  declarations_make : (before : List Class) (ds : List Declaration)
      → classes source ≡ before ++ flat_map classes_in ds
      → AllByRecursion (IsKept source) ds
      → AllByRecursion (λ c. Ascend 0 (map (λ m. m.id.at) c.methods)) (flat_map classes_in ds)
      → declarations_faults t (names_of t) ds ≡ []
      → AllByRecursion (MakesObjects t) (typed_declarations w t (names_of t) ds)
  unfolding typed_declarations typed_declaration declarations_faults declaration_faults
  declarations_make before [] is keeps up types = tt
  declarations_make before (plain.Actors ids ∷ ds) is keeps up types =
      declarations_make before ds is keeps.1 up types
  declarations_make before (plain.Lock lock ∷ ds) is keeps up types =
      declarations_make before ds is keeps.1 up types
  declarations_make before (plain.Policy policy ∷ ds) is keeps up types =
      declarations_make before ds is keeps.1 up types
  declarations_make before (plain.Declared c ∷ ds) is keeps up types =
      let one = class_faults t (names_of t) (class_named (names_of t) c.id.name) c in
      let more = declarations_faults t (names_of t) ds in
      of_both (MakesObjects t) _ _
      (class_makes before (flat_map classes_in ds) c is keeps.0 up.0 (none_left one more types))
      (declarations_make (before ++ c ∷ []) ds
      (is ∙ sym (append_assoc before (c ∷ []) (flat_map classes_in ds))) keeps.1 up.1
      (none_right one more types))

  pub bodies_make_objects : type_faults t source ≡ []
      → AllByRecursion (MakesObjects t) (bodies_of source)
  bodies_make_objects types =
      declarations_make builtins source refl (kept source names) ordered.methods types
