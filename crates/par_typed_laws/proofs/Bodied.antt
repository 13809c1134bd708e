-- Each method of the table of a source has one body.
use Rattle.std.proofs.Common.{◌≡◌, ℕ, ◌+◌, List, [], ◌∷◌, ◌++◌, length, Some, refl, sym, ap}
use Rattle.std.proofs.Common.{◌∙◌, append_assoc, map}
use Rattle.std.specs.Prelude.{flat_map, slice_get, count_by}
use Rattle.std.specs.List.{AllByRecursion, range_with_len}
use Rattle.std.proofs.lemmas.List.{length-map, length-append, map-append}
use Rattle.par_program_laws.specs.par_tree.Plain.{Class, Method, Declaration, Source}
use Rattle.par_program_laws.specs.par_tree.Plain as plain
use Rattle.par_program_laws.specs.par_typed.declared.table.Table.{Table}
use Rattle.par_source_laws.specs.par_names.Declarations.{classes, builtins, classes_in}
use Rattle.par_source_laws.specs.par_names.Program.{name_faults}
use Rattle.par_type_rules.specs.par_scope.Names.{names_of}
use Rattle.par_type_rules.specs.par_scope.Home.{class_named}
use Rattle.par_type_rules.specs.TypedStmts.{Written}
use Rattle.par_type_rules.specs.TypedBodies.{typed_methods, typed_class, typed_declaration}
use Rattle.par_type_rules.specs.TypedBodies.{typed_declarations}
use Rattle.par_faults.specs.par_resolved.Resolved.{Resolved, resolved, class_info, class_infos}
use Rattle.par_faults.specs.par_resolved.Resolved.{method_info}
use Rattle.par_faults.specs.par_resolved.Resolved.{table_of}
use Rattle.par_source_laws.specs.Order.{Ascend, IsInOrder}
use Rattle.par_typed_laws.specs.Bodied.{Spot, spot_of, methods_from, AreBodiesOf}
use Rattle.par_typed_laws.specs.Typed.{written_in, bodies_of}
use Rattle.par_typed_laws.proofs.Places.{Differ}
use Rattle.par_typed_laws.proofs.Programs.{class_number, class_stands, method_names_differ}
use Rattle.par_typed_laws.proofs.Programs.{method_number}
use Rattle.par_typed_laws.proofs.Unbroken.{IsKept, IsKeptClass, kept}

module _ (source : Source) (ordered : IsInOrder source) (none : name_faults source ≡ []) where
  abbrev t : Table
  t = table_of source

  abbrev r : Resolved
  r = resolved source

  abbrev w : Written
  w = written_in source

  abbrev spots : ℕ → ℕ → ℕ → List Spot
  spots class first count = map (λ method. (class, method)) (range_with_len first count)

  methods_spotted : (class n : ℕ) (c : Class) (before ms : List Method)
      → slice_get t.classes class ≡ Some (class_info r class n c)
      → c.methods ≡ before ++ ms → Differ (map (λ k. k.id.name) c.methods)
      → map spot_of (typed_methods w t (names_of t) class ms)
      ≡ spots class (length before) (length ms)
  unfolding typed_methods
  methods_spotted class n c before [] stands is apart_names = refl
  methods_spotted class n c before (m ∷ ms) stands is apart_names =
      let number = method_number source ordered none class n c before ms m stands is apart_names in
      let later = methods_spotted class n c (before ++ m ∷ []) ms stands
      (is ∙ sym (append_assoc before (m ∷ []) ms)) apart_names in
      ap (λ k. (class, k) ∷ map spot_of (typed_methods w t (names_of t) class ms)) number
      ∙ ap (λ xs. (class, length before) ∷ xs) (later
      ∙ ap (λ k. spots class k (length ms)) (length-append before (m ∷ [])))

  class_spotted : (before rest : List Class) (c : Class) → classes source ≡ before ++ c ∷ rest
      → IsKeptClass source c
      → Ascend 0 (map (λ m. m.id.at) c.methods)
      → map spot_of (typed_class w t (names_of t) (class_named (names_of t) c.id.name) c)
      ≡ spots (length before) 0 (length c.methods)
  unfolding typed_class
  class_spotted before rest c is keeps up =
      let stands = class_stands source ordered none before rest c is in
      ap (λ o. map spot_of (typed_class w t (names_of t) o c))
      (class_number source ordered none before rest c is)
      ∙ methods_spotted (length before) stands.0 c [] c.methods stands.1 refl
      (method_names_differ source ordered none c keeps up)

  -- the methods of the classes of these declarations
  abbrev listed : ℕ → ℕ → List Declaration → List Spot
  listed class next ds = methods_from class (class_infos r class next (flat_map classes_in ds))

  declarations_spotted : (before : List Class) (next : ℕ) (ds : List Declaration)
      → classes source ≡ before ++ flat_map classes_in ds → AllByRecursion (IsKept source) ds
      → AllByRecursion (λ c. Ascend 0 (map (λ m. m.id.at) c.methods)) (flat_map classes_in ds)
      → map spot_of (typed_declarations w t (names_of t) ds) ≡ listed (length before) next ds
  unfolding typed_declarations typed_declaration
  declarations_spotted before next [] is keeps up = refl
  declarations_spotted before next (plain.Actors ids ∷ ds) is keeps up =
      declarations_spotted before next ds is keeps.1 up
  declarations_spotted before next (plain.Lock lock ∷ ds) is keeps up =
      declarations_spotted before next ds is keeps.1 up
  declarations_spotted before next (plain.Policy policy ∷ ds) is keeps up =
      declarations_spotted before next ds is keeps.1 up
  declarations_spotted before next (plain.Declared c ∷ ds) is keeps up =
      let own = typed_class w t (names_of t) (class_named (names_of t) c.id.name) c in
      let more = typed_declarations w t (names_of t) ds in
      let later = next + count_by (λ f. f.inferred) c.fields in
      let class = length before in
      let here = class_spotted before (flat_map classes_in ds) c is keeps.0 up.0 in
      let there = declarations_spotted (before ++ c ∷ []) later ds
      (is ∙ sym (append_assoc before (c ∷ []) (flat_map classes_in ds))) keeps.1 up.1 in
      map-append spot_of own more ∙ ap (λ xs. xs ++ map spot_of more) here
      ∙ ap (λ xs. spots class 0 (length c.methods) ++ xs) there
      ∙ ap (λ k. spots class 0 (length c.methods) ++ listed k later ds)
      (length-append before (c ∷ []))
      ∙ ap (λ n. spots class 0 n ++ listed (class + 1) later ds)
      (sym (length-map c.methods (method_info r class)))

  pub methods_have_bodies : AreBodiesOf t (bodies_of source)
  methods_have_bodies =
      declarations_spotted builtins _ source refl (kept source none) ordered.methods
