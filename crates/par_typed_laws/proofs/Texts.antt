-- The names and descriptors of a table are those of its source.
use Rattle.std.proofs.Common.{◌≡◌, ℕ, zero, suc, ◌+◌, ◌<◌, true, List, [], ◌∷◌, length, get_or}
use Rattle.std.proofs.Common.{Option, Some, None, refl, sym, ap, subst, ◌∙◌, arith, map, ◌++◌}
use Rattle.std.specs.Prelude.{flat_map, slice_get, unwrap_or, count_by, if◌then◌else◌}
use Rattle.std.specs.List.{AllByRecursion, position}
use Rattle.std.specs.Option.{is_some}
use Rattle.std.specs.Str.{bytes_eq}
use Rattle.std.proofs.lemmas.List.{length-map}
use Rattle.std.proofs.lemmas.List.Quantifiers.{position-Some}
use Rattle.std.proofs.lemmas.Slice.Eq.{bytes_eq-Decides}
use Rattle.par_program_laws.specs.par_tree.declared.types.TypeTree.{TypeTree}
use Rattle.par_program_laws.specs.par_tree.declared.types.TypeTree.TheVariants as type
use Rattle.par_program_laws.specs.par_tree.declared.policy.PolicyExpr.{PolicyExpr}
use Rattle.par_program_laws.specs.par_tree.declared.decl.FieldDecl.{FieldDecl}
use Rattle.par_program_laws.specs.par_tree.declared.decl.ChannelDecl.{ChannelDecl}
use Rattle.par_program_laws.specs.par_tree.declared.decl.ParamDecl.{ParamDecl}
use Rattle.par_program_laws.specs.par_tree.Plain as plain
use Rattle.par_program_laws.specs.par_tree.Plain.{Class, Method, Declaration, Source}
use Rattle.par_program_laws.specs.par_typed.declared.table.ClassInfo.{ClassInfo}
use Rattle.par_program_laws.specs.par_typed.declared.table.Table.{Table}
use Rattle.par_source_laws.specs.par_names.Declarations.{classes, classes_in, declared_classes}
use Rattle.par_source_laws.specs.par_names.Declarations.{doubles}
use Rattle.par_source_laws.specs.par_names.Members.{callee_ids}
use Rattle.par_source_laws.specs.par_names.Methods.{inferred_fault, field_faults, channel_faults}
use Rattle.par_source_laws.specs.par_names.Methods.{param_faults}
use Rattle.par_source_laws.specs.par_names.Methods.{method_faults}
use Rattle.par_source_laws.specs.par_names.Policies.{may_policy_faults, type_fault, result_fault}
use Rattle.par_source_laws.specs.par_names.Program.{view_behind, name_faults}
use Rattle.par_source_laws.proofs.par_names.Lookups.{at, found}
use Rattle.par_faults.specs.par_resolved.Numbers.{type_of, result_of}
use Rattle.par_faults.specs.par_resolved.Resolved.{Resolved, resolved, field_infos, channel_info}
use Rattle.par_faults.specs.par_resolved.Resolved.{param_info}
use Rattle.par_faults.specs.par_resolved.Resolved.{method_info, class_infos, table_of}
use Rattle.par_source_laws.specs.Sizes as source
use Rattle.par_source_laws.specs.Sizes.{source_texts}
use Rattle.par_typed_laws.specs.Texts.{name_size, channels_size, type_size, params_size}
use Rattle.par_typed_laws.specs.Texts.{fields_size, methods_size, classes_size, table_texts}
use Rattle.par_typed_laws.proofs.Lists.{none_left, none_right, none_of}
use Rattle.par_typed_laws.proofs.Unbroken.{is_kept, IsKeptClass, IsKeptMethod, classes_kept}
use Rattle.par_typed_laws.proofs.Unbroken.{methods_kept, head_kept}
use Rattle.par_typed_laws.proofs.Programs.{names-class_infos}
use Rattle.par_typed_laws.proofs.Fitted.{head_types}

-- the name of the class at a place
name_there : (cs : List ClassInfo) (k : ℕ) → k < length cs
    → name_size (slice_get cs k) ≡ length (get_or (map (λ c. c.name) cs) k [])
name_there [] k lt = absurd (omega arith)
name_there (c ∷ cs) zero lt = refl
name_there (c ∷ cs) (suc k) lt = name_there cs k (omega arith)

-- the texts of some classes of a source
abbrev declared_texts : List Class → ℕ
declared_texts [] = 0
declared_texts (c ∷ cs) = source.class_size c + declared_texts cs

of_declarations : (ds : List Declaration)
    → declared_texts (flat_map classes_in ds) ≡ source_texts ds
of_declarations [] = refl
of_declarations (plain.Actors ids ∷ ds) = let rest = of_declarations ds in omega (arith, rest)
of_declarations (plain.Lock lock ∷ ds) = let rest = of_declarations ds in omega (arith, rest)
of_declarations (plain.Policy policy ∷ ds) = let rest = of_declarations ds in omega (arith, rest)
of_declarations (plain.Declared c ∷ ds) = let rest = of_declarations ds in omega (arith, rest)

module _ (program : Source) where
  abbrev t : Table
  t = table_of program

  abbrev r : Resolved
  r = resolved program

  -- ---- types

  name_is : (name : List ℕ) (o : Option ℕ) → position (bytes_eq name) r.classes ≡ o
      → is_some (at (classes program) o) ≡ true
      → name_size (slice_get t.classes (unwrap_or o 0)) ≡ length name
  name_is name None is there = absurd (cc there)
  name_is name (Some k) is there =
      let here = position-Some (bytes_eq name) r.classes k [] is in
      let same : name ≡ get_or r.classes k [] =
      (bytes_eq-Decides name (get_or r.classes k [])).0 here.1 in
      let names : map (λ c. c.name) t.classes ≡ r.classes =
      names-class_infos r 0 (length r.policies) (classes program) in
      let many : length (map (λ c. c.name) t.classes) ≡ length t.classes =
      length-map t.classes (λ c. c.name) in
      let within : k < length t.classes =
      subst (λ n. k < n) (sym (ap length names) ∙ many) here.0 in
      name_there t.classes k within ∙ ap (λ ns. length (get_or ns k [])) names
      ∙ sym (ap length same)

  type_is : (past : List (List ℕ)) (y : TypeTree) → type_fault (view_behind program past) y ≡ []
      → type_size t (type_of r.classes y) ≡ source.type_size y
  unfolding type_fault type_of
  type_is past (type.Int at) none = refl
  type_is past (type.Boolean at) none = refl
  type_is past (type.Class id) none =
      let number = position (bytes_eq id.name) r.classes in
      let one = found (bytes_eq id.name) (λ c. c.id.name) (classes program) number refl in
      ap (λ n. n + 2)
      (name_is id.name number refl (sym (ap is_some one) ∙ is_kept _ _ none))

  result_is : (past : List (List ℕ)) (o : Option TypeTree)
      → result_fault (view_behind program past) o ≡ []
      → type_size t (result_of r.classes o) ≡ source.result_size o
  unfolding result_fault result_of
  result_is past None none = refl
  result_is past (Some y) none = type_is past y none

  -- ---- members

  fields_are : (past : List (List ℕ)) (birth : Option PolicyExpr) (next : ℕ) (fs : List FieldDecl)
      → AllByRecursion (λ f. field_faults (view_behind program past) birth f ≡ []) fs
      → fields_size t (field_infos r next fs) ≡ source.fields_size fs
  fields_are past birth next [] kept = refl
  fields_are past birth next (f ∷ fs) kept =
      let v = view_behind program past in
      let policy = may_policy_faults v f.policy in
      let written = type_fault v f.ty in
      let one = type_is past f.ty
      (none_right policy written (none_left (policy ++ written) (inferred_fault birth f) kept.0)) in
      let rest = fields_are past birth (if f.inferred then next + 1 else next) fs kept.1 in
      omega (arith, one, rest)

  channels_are : (cs : List ChannelDecl)
      → channels_size (map (channel_info r) cs) ≡ source.channels_size cs
  channels_are [] = refl
  channels_are (c ∷ cs) = let rest = channels_are cs in omega (arith, rest)

  params_are : (past : List (List ℕ)) (ps : List ParamDecl)
      → AllByRecursion (λ p. param_faults (view_behind program past) p ≡ []) ps
      → params_size t (map (param_info r) ps) ≡ source.params_size ps
  params_are past [] kept = refl
  params_are past (p ∷ ps) kept =
      let v = view_behind program past in
      let one = type_is past p.ty
      (none_right (may_policy_faults v p.policy) (type_fault v p.ty) kept.0) in
      let rest = params_are past ps kept.1 in
      omega (arith, one, rest)

  methods_are : (class : ℕ) (c : Class) (ms : List Method)
      → AllByRecursion (IsKeptMethod program c) ms
      → methods_size t (map (method_info r class) ms) ≡ source.methods_size ms
  methods_are class c [] kept = refl
  methods_are class c (m ∷ ms) kept =
      let past = kept.0.0 in
      let types = head_types (view_behind program past) m (head_kept program past c m kept.0.1) in
      let params = params_are past m.params types.params in
      let result = result_is past m.result types.result in
      let rest = methods_are class c ms kept.1 in
      omega (arith, params, result, rest)

  -- ---- classes

  classes_are : (class next : ℕ) (cs : List Class) → AllByRecursion (IsKeptClass program) cs
      → classes_size t (class_infos r class next cs) ≡ declared_texts cs
  classes_are class next [] kept = refl
  classes_are class next (c ∷ cs) kept =
      let past = kept.0.0 in
      let v = view_behind program past in
      let to_channels = none_left _ (flat_map (method_faults v c) c.methods) kept.0.1 in
      let to_callees = none_left _ (flat_map (channel_faults v) c.channels) to_channels in
      let to_fields = none_left _ (doubles (callee_ids c)) to_callees in
      let each = none_of (field_faults v c.birth) c.fields
      (none_right _ (flat_map (field_faults v c.birth) c.fields) to_fields) in
      let fields = fields_are past c.birth next c.fields each in
      let channels = channels_are c.channels in
      let methods = methods_are class c c.methods (methods_kept program c kept.0) in
      let rest = classes_are (class + 1) (next + count_by (λ f. f.inferred) c.fields) cs kept.1 in
      omega (arith, fields, channels, methods, rest)

  pub tables_have_texts : name_faults program ≡ [] → table_texts t ≡ source_texts program
  tables_have_texts none =
      classes_are 2 _ (declared_classes program) (classes_kept program none)
      ∙ of_declarations program
