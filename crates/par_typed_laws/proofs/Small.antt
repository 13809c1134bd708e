-- Each typed body of a source is within the limit of nodes.
use Rattle.std.proofs.Common.{◌≡◌, ℕ, ◌≤◌, List, [], ◌∷◌, ◌++◌, length, Some, None, refl, sym, ap}
use Rattle.std.proofs.Common.{subst, ◌∙◌, map, append_assoc}
use Rattle.std.specs.Prelude.{flat_map, slice_get, nat_le}
use Rattle.std.specs.List.{AllByRecursion}
use Rattle.std.proofs.lemmas.Bool.{leb-true}
use Rattle.par_program_laws.specs.par_tree.Nodes.{method_nodes}
use Rattle.par_program_laws.specs.par_tree.Plain as plain
use Rattle.par_program_laws.specs.par_tree.Plain.{Class, Method, Declaration, Source}
use Rattle.par_program_laws.specs.par_typed.declared.table.Table.{Table}
use Rattle.par_source_laws.specs.par_names.Declarations.{classes, builtins, declared_classes}
use Rattle.par_source_laws.specs.par_names.Declarations.{classes_in}
use Rattle.par_source_laws.specs.par_names.Program.{name_faults}
use Rattle.par_faults.specs.declared.limit.TheConstants.{CLASSES, NODES, PARAMS, LOCALS}
use Rattle.par_faults.specs.Limits.{over, method_limits, class_limits, one_too_many}
use Rattle.par_faults.specs.Limits.{declared_limits, class_places, class_counts}
use Rattle.par_type_rules.specs.par_scope.Own.{method_locals}
use Rattle.par_type_rules.specs.par_scope.Names.{names_of}
use Rattle.par_type_rules.specs.par_scope.Home.{class_named}
use Rattle.par_type_rules.specs.Methods.{home_of, fields_faults, method_faults}
use Rattle.par_type_rules.specs.Methods.{methods_faults}
use Rattle.par_type_rules.specs.Methods.{class_faults}
use Rattle.par_type_rules.specs.Program.{declaration_faults}
use Rattle.par_type_rules.specs.Program.{declarations_faults}
use Rattle.par_type_rules.specs.Program.{type_faults}
use Rattle.par_faults.specs.par_resolved.Resolved.{Resolved, resolved, class_info, method_info}
use Rattle.par_faults.specs.par_resolved.Resolved.{table_of}
use Rattle.par_type_rules.specs.TypedStmts.{Written}
use Rattle.par_type_rules.specs.TypedBodies.{typed_methods, typed_class, typed_declaration}
use Rattle.par_type_rules.specs.TypedBodies.{typed_declarations}
use Rattle.par_faults.specs.Faults.{all_faults}
use Rattle.par_program_laws.specs.par_typed.Members.{method_at}
use Rattle.par_typed_laws.specs.Sizes.{IsSmallBody}
use Rattle.par_source_laws.specs.Order.{Ascend, IsInOrder}
use Rattle.par_typed_laws.specs.Typed.{written_in, bodies_of}
use Rattle.par_typed_laws.proofs.Lists.{none_left, none_right, none_of, of_both, each_is}
use Rattle.par_typed_laws.proofs.Places.{Differ}
use Rattle.par_typed_laws.proofs.Unbroken.{is_kept, IsKept, IsKeptClass, kept, names_kept}
use Rattle.par_typed_laws.proofs.Unbroken.{counts_kept}
use Rattle.par_typed_laws.proofs.Programs.{class_number, class_stands, method_names_differ}
use Rattle.par_typed_laws.proofs.Programs.{method_number, method_stands}
use Rattle.par_typed_laws.proofs.BodySizes.{method_size}

-- what is not over a limit is within it
within : (m : Method) → method_limits m ≡ [] → method_nodes m ≤ 2000
within m none =
    leb-true _ _ (is_kept (nat_le (method_nodes m) NODES.most) _
    (none_left (over NODES (method_nodes m) m.id.at) (over PARAMS (length m.params) m.id.at)
    (none_left _ (over LOCALS (method_locals m) m.id.at) none)))

module _ (source : Source) (ordered : IsInOrder source) (none : all_faults source ≡ []) where
  abbrev t : Table
  t = table_of source

  abbrev r : Resolved
  r = resolved source

  abbrev w : Written
  w = written_in source

  abbrev names : name_faults source ≡ []
  names = names_kept source none

  abbrev AreLimited : Class → Type 0
  AreLimited c = AllByRecursion (λ m. method_limits m ≡ []) c.methods

  limited : AllByRecursion AreLimited (declared_classes source)
  limited =
      each_is (λ c. class_limits c ≡ []) AreLimited (declared_classes source)
      (λ c is. none_of method_limits c.methods (none_right _ (flat_map method_limits c.methods) is))
      (none_of class_limits (declared_classes source)
      (none_right (one_too_many CLASSES (class_places source))
      (flat_map class_limits (declared_classes source))
      (none_right (declared_limits source) (class_counts source) (counts_kept source none))))

  small : (class n : ℕ) (c : Class) (before ms : List Method)
      → slice_get t.classes class ≡ Some (class_info r class n c)
      → c.methods ≡ before ++ ms → Differ (map (λ k. k.id.name) c.methods)
      → AllByRecursion (λ m. method_limits m ≡ []) ms
      → methods_faults t (names_of t) class ms ≡ []
      → AllByRecursion (IsSmallBody t) (typed_methods w t (names_of t) class ms)
  unfolding typed_methods methods_faults
  small class n c before [] stands is apart_names few types = tt
  small class n c before (m ∷ ms) stands is apart_names few types =
      let number =
      method_number source ordered names class n c before ms m stands is apart_names in (
        (
          method_info r class m,
          record {
            method =
                ap (method_at t class) number ∙ method_stands source ordered names class n c before
                ms m stands is;
            nodes =
                method_size w t class m (none_left (method_faults t (names_of t) class m)
                (methods_faults t (names_of t) class ms) types);
            few = within m few.0;
          },
        ),
        small class n c (before ++ m ∷ []) ms stands (is ∙ sym (append_assoc before (m ∷ []) ms))
            apart_names few.1
            (none_right (method_faults t (names_of t) class m) (methods_faults t (names_of t) class
            ms) types),
      )

  small_class : (before rest : List Class) (c : Class) → classes source ≡ before ++ c ∷ rest
      → IsKeptClass source c
      → Ascend 0 (map (λ m. m.id.at) c.methods) → AreLimited c
      → class_faults t (names_of t) (class_named (names_of t) c.id.name) c ≡ []
      → AllByRecursion (IsSmallBody t) (typed_class w t (names_of t) (class_named (names_of t)
      c.id.name) c)
  unfolding typed_class class_faults
  small_class before rest c is keeps up few types =
      let number = class_number source ordered names before rest c is in
      let stands = class_stands source ordered names before rest c is in
      let numbered : class_faults t (names_of t) (Some (length before)) c ≡ [] =
      ap (λ o. class_faults t (names_of t) o c) (sym number) ∙ types in
      subst (λ o. AllByRecursion (IsSmallBody t) (typed_class w t (names_of t) o c)) (sym number)
      (small (length before) stands.0 c [] c.methods stands.1 refl (method_names_differ source
      ordered names c keeps up) few
      (none_right (fields_faults (home_of t (names_of t) (length before) None) c.fields)
      (methods_faults t (names_of t) (length before) c.methods) numbered))

  small_declarations : (before : List Class) (ds : List Declaration)
      → classes source ≡ before ++ flat_map classes_in ds
      → AllByRecursion (IsKept source) ds
      → AllByRecursion (λ c. Ascend 0 (map (λ m. m.id.at) c.methods)) (flat_map classes_in ds)
      → AllByRecursion AreLimited (flat_map classes_in ds)
      → declarations_faults t (names_of t) ds ≡ []
      → AllByRecursion (IsSmallBody t) (typed_declarations w t (names_of t) ds)
  unfolding typed_declarations typed_declaration declarations_faults declaration_faults
  small_declarations before [] is keeps up few types = tt
  small_declarations before (plain.Actors ids ∷ ds) is keeps up few types =
      small_declarations before ds is keeps.1 up few types
  small_declarations before (plain.Lock lock ∷ ds) is keeps up few types =
      small_declarations before ds is keeps.1 up few types
  small_declarations before (plain.Policy policy ∷ ds) is keeps up few types =
      small_declarations before ds is keeps.1 up few types
  small_declarations before (plain.Declared c ∷ ds) is keeps up few types =
      of_both (IsSmallBody t) _ _
      (small_class before (flat_map classes_in ds) c is keeps.0 up.0 few.0
      (none_left _ (declarations_faults t (names_of t) ds) types))
      (small_declarations (before ++ c ∷ []) ds
      (is ∙ sym (append_assoc before (c ∷ []) (flat_map classes_in ds))) keeps.1 up.1 few.1
      (none_right (class_faults t (names_of t) (class_named (names_of t) c.id.name) c)
      (declarations_faults t (names_of t) ds) types))

  pub bodies_are_small : type_faults t source ≡ []
      → AllByRecursion (IsSmallBody t) (bodies_of source)
  bodies_are_small types =
      small_declarations builtins source refl (kept source names) ordered.methods limited types
