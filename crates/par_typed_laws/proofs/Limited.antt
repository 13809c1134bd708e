-- Each class of the table of a source is within the limits.
use Rattle.std.proofs.Common.{◌≡◌, ℕ, suc, ◌+◌, ◌≤◌, List, [], ◌∷◌, ◌++◌, map, length, take}
use Rattle.std.proofs.Common.{drop, refl, sym, ap, ◌∙◌, subst, arith}
use Rattle.std.specs.Prelude.{if◌then◌else◌, count_by, codes}
use Rattle.std.specs.List.{AllByRecursion, sum_by}
use Rattle.std.proofs.lemmas.List.{length-map, length-append, length-take, length-drop}
use Rattle.std.proofs.lemmas.List.Sums.{sum_by-cons}
use Rattle.par_program_laws.specs.par_tree.declared.decl.FieldDecl.{FieldDecl}
use Rattle.par_program_laws.specs.par_tree.Nodes.{method_nodes}
use Rattle.par_program_laws.specs.par_tree.Plain.{Class, Method, Source}
use Rattle.par_program_laws.specs.par_typed.declared.table.ClassInfo.{ClassInfo}
use Rattle.par_program_laws.specs.par_typed.declared.table.MethodInfo.{MethodInfo}
use Rattle.par_refusals.specs.First.{when}
use Rattle.par_source_laws.specs.par_names.Declarations.{builtin, builtins, declared_classes}
use Rattle.par_faults.specs.par_resolved.Resolved.{Resolved, resolved, field_infos, channel_info}
use Rattle.par_faults.specs.par_resolved.Resolved.{param_info}
use Rattle.par_faults.specs.par_resolved.Resolved.{method_info, class_info, class_infos, table_of}
use Rattle.par_faults.specs.Limits.{told, in_order, earlier}
use Rattle.par_faults.specs.Limits.{member_places}
use Rattle.par_faults.specs.Limits.{method_limits, class_limits}
use Rattle.par_faults.specs.Faults.{all_faults}
use Rattle.par_faults.proofs.Within.{limits_kept, class_within, method_within}
use Rattle.par_typed_laws.specs.Limits.{TakesFew, HaveFewParams, HasFewParams, IsLimitedClass}
use Rattle.par_typed_laws.specs.Limits.{HasFewMembers, HasFewClasses}
use Rattle.par_typed_laws.proofs.Lists.{all_mapped}

-- ---- a class

-- none of two lists in order is lost
ordered : (xs ys : List ℕ) → length (in_order xs ys) ≡ length xs + length ys
unfolding in_order
ordered [] ys = omega arith
ordered (x ∷ xs) ys =
    let n = earlier ys x in
    let rest = ordered xs (drop n ys) in
    let front = length-take n ys in
    let back = length-drop n ys in
    let whole = length-append (take n ys) (x ∷ in_order xs (drop n ys)) in
    omega (arith, rest, front, back, whole)

module _ (r : Resolved) where
  many_fields : (next : ℕ) (fs : List FieldDecl) → length (field_infos r next fs) ≡ length fs
  many_fields next [] = refl
  many_fields next (f ∷ fs) = ap suc (many_fields (if f.inferred then next + 1 else next) fs)

  same_nodes : (class : ℕ) (ms : List Method)
      → sum_by (λ (i : MethodInfo). i.nodes) (map (method_info r class) ms)
      ≡ sum_by method_nodes ms
  same_nodes class [] = refl
  same_nodes class (m ∷ ms) =
      sum_by-cons (λ (i : MethodInfo). i.nodes) (method_info r class m)
      (map (method_info r class) ms)
      ∙ ap (λ n. method_nodes m + n) (same_nodes class ms) ∙ sym (sum_by-cons method_nodes m ms)

  few_params : (class : ℕ) (m : Method) → method_limits m ≡ []
      → TakesFew (method_info r class m)
  few_params class m none =
      subst (λ n. n ≤ 16) (sym (length-map m.params (param_info r))) (method_within m none).params

  limited_class : (class next : ℕ) (c : Class) → class_limits c ≡ []
      → IsLimitedClass (class_info r class next c)
  limited_class class next c none =
      let within = class_within c none in
      let places : length (member_places c) ≤ 256 = within.members in
      let listed : length c.methods ≤ 128 = within.methods in
      let both = ordered (map (λ f. f.id.at) c.fields) (map (λ h. h.id.at) c.channels) in
      let field_places = length-map c.fields (λ f. f.id.at) in
      let channel_places = length-map c.channels (λ h. h.id.at) in
      let fields = many_fields next c.fields in
      let channels = length-map c.channels (channel_info r) in
      let infos = length-map c.methods (method_info r class) in
      record {
        members =
            omega (arith, places, both, field_places, channel_places, fields, channels);
        methods = omega (arith, listed, infos);
        nodes = subst (λ n. n ≤ 8000) (sym (same_nodes class c.methods)) within.nodes;
      }

  have_few_params : (class next : ℕ) (c : Class) → class_limits c ≡ []
      → HaveFewParams (class_info r class next c)
  have_few_params class next c none =
      all_mapped (λ m. method_limits m ≡ []) TakesFew (method_info r class) c.methods
      (few_params class) (class_within c none).each_method

  -- what holds of each class that exceeds no limit
  each_class : (Q : ClassInfo → Type 0)
      → ((class next : ℕ) (c : Class) → class_limits c ≡ [] → Q (class_info r class next c))
      → (class next : ℕ) (cs : List Class) → AllByRecursion (λ c. class_limits c ≡ []) cs
      → AllByRecursion Q (class_infos r class next cs)
  each_class Q each class next [] limits = tt
  each_class Q each class next (c ∷ cs) limits = (
    each class next c limits.0,
    each_class Q each (class + 1) (next + count_by (λ f. f.inferred) c.fields) cs limits.1,
  )

  many_classes : (class next : ℕ) (cs : List Class)
      → length (class_infos r class next cs) ≡ length cs
  many_classes class next [] = refl
  many_classes class next (c ∷ cs) =
      ap suc (many_classes (class + 1) (next + count_by (λ f. f.inferred) c.fields) cs)

-- those that every program has are empty
builtin_limits : (name : List ℕ) → class_limits (builtin name) ≡ []
unfolding told in_order when
builtin_limits name = refl

module _ (source : Source) (none : all_faults source ≡ []) where
  limits : AllByRecursion (λ c. class_limits c ≡ []) (builtins ++ declared_classes source)
  limits =
      let declared = (limits_kept source none).class_limits_kept in (
        builtin_limits (codes "ArithmeticException"),
        (builtin_limits (codes "NullPointerException"), declared),
      )

  pub methods_take_few : HasFewParams (table_of source)
  methods_take_few =
      each_class (resolved source) HaveFewParams (have_few_params (resolved source)) 0 _
      (builtins ++ declared_classes source) limits

  pub classes_have_few_members : HasFewMembers (table_of source)
  classes_have_few_members =
      each_class (resolved source) IsLimitedClass (limited_class (resolved source)) 0 _
      (builtins ++ declared_classes source) limits

  pub tables_have_few_classes : HasFewClasses (table_of source)
  tables_have_few_classes =
      let all = builtins ++ declared_classes source in
      let few : length (declared_classes source) ≤ 128 = (limits_kept source none).few_classes in
      let infos : length (table_of source).classes ≡ length all =
      many_classes (resolved source) 0 _ all in
      let whole = length-append builtins (declared_classes source) in
      omega (arith, few, infos, whole)
