-- The types of values in the bodies of a source fit where they stand.
use Rattle.std.proofs.Common.{◌≡◌, ℕ, ◌+◌, Bool, true, false, cond, List, [], ◌∷◌, ◌++◌, length}
use Rattle.std.proofs.Common.{Option, Some, None, refl, sym, ap, subst, ◌∙◌, append_assoc}
use Rattle.std.proofs.Common.{append-nil, add-zero, map}
use Rattle.std.specs.Prelude.{flat_map, slice_get}
use Rattle.std.specs.List.{AllByRecursion}
use Rattle.std.proofs.lemmas.List.{length-map, length-append}
use Rattle.par_program_laws.specs.par_tree.declared.decl.ParamDecl.{ParamDecl}
use Rattle.par_program_laws.specs.par_tree.declared.types.TypeTree.{TypeTree}
use Rattle.par_program_laws.specs.par_tree.Plain.{Sta, Block, If, While, Try, Return, Break}
use Rattle.par_program_laws.specs.par_tree.Plain.{Continue}
use Rattle.par_program_laws.specs.par_tree.Plain.{Throw, Open}
use Rattle.par_program_laws.specs.par_tree.Plain.{Close}
use Rattle.par_program_laws.specs.par_tree.Plain.{Declare, Assign, Do, When, Class, Method}
use Rattle.par_program_laws.specs.par_tree.Plain.{Declaration}
use Rattle.par_program_laws.specs.par_tree.Plain.{Source}
use Rattle.par_program_laws.specs.par_tree.Plain as plain
use Rattle.par_program_laws.specs.par_typed.declared.ty.Ty.{Ty}
use Rattle.par_program_laws.specs.par_typed.declared.table.Table.{Table}
use Rattle.par_source_laws.specs.par_names.Declarations.{classes, builtins, classes_in, doubles}
use Rattle.par_source_laws.specs.par_names.Methods as named
use Rattle.par_source_laws.specs.par_names.Methods.{head_faults, param_faults, effect_faults}
use Rattle.par_source_laws.specs.par_names.Methods.{throw_faults}
use Rattle.par_source_laws.specs.par_names.Policies.{View, policy_faults, may_policy_faults}
use Rattle.par_source_laws.specs.par_names.Policies.{lock_faults}
use Rattle.par_source_laws.specs.par_names.Policies.{type_fault, result_fault}
use Rattle.par_source_laws.specs.par_names.Program.{view_behind, name_faults}
use Rattle.par_type_rules.specs.par_scope.Names.{names_of}
use Rattle.par_type_rules.specs.par_scope.Locals.{no_locals}
use Rattle.par_type_rules.specs.par_scope.Home.{Home, class_named, result_written}
use Rattle.par_type_rules.specs.Stmts.{braces_faults}
use Rattle.par_type_rules.specs.Methods as rules
use Rattle.par_type_rules.specs.Methods.{home_of, param_slot, end_fault}
use Rattle.par_type_rules.specs.Methods.{fields_faults}
use Rattle.par_type_rules.specs.Methods.{method_faults}
use Rattle.par_type_rules.specs.Methods.{methods_faults, class_faults}
use Rattle.par_type_rules.specs.Program.{declaration_faults}
use Rattle.par_type_rules.specs.Program.{declarations_faults}
use Rattle.par_type_rules.specs.Program.{type_faults}
use Rattle.par_type_rules.specs.Frames.{Frame, with_local}
use Rattle.par_type_rules.specs.TypedStmts.{Written}
use Rattle.par_type_rules.specs.TypedBodies.{first_number, no_frame, with_params, typed_body}
use Rattle.par_type_rules.specs.TypedBodies.{typed_methods, typed_class, typed_declaration}
use Rattle.par_type_rules.specs.TypedBodies.{typed_declarations}
use Rattle.par_faults.specs.par_resolved.Numbers.{type_of, result_of}
use Rattle.par_faults.specs.par_resolved.Resolved.{Resolved, resolved, class_info, method_info}
use Rattle.par_faults.specs.par_resolved.Resolved.{param_info}
use Rattle.par_faults.specs.par_resolved.Resolved.{this_type, local_types, table_of}
use Rattle.par_parts.specs.Statements.{in_braces}
use Rattle.par_parts.specs.Written.{stmt_types}
use Rattle.par_faults.specs.Faults.{all_faults}
use Rattle.par_source_laws.specs.Order.{Ascend, IsInOrder}
use Rattle.par_program_laws.specs.par_typed.Members.{method_at}
use Rattle.par_program_laws.specs.Locals.{arriving, arriving_sure, BeginsWith}
use Rattle.par_typed_laws.specs.Fits.{StaFits, ValuesFit}
use Rattle.par_typed_laws.specs.Typed.{written_in, bodies_of}
use Rattle.par_typed_laws.proofs.Lists.{none_left, none_right, none_of, of_both}
use Rattle.par_typed_laws.proofs.Members.{IsThere}
use Rattle.par_typed_laws.proofs.Places.{Differ}
use Rattle.par_typed_laws.proofs.Programs.{at_length, map-map, class_number, class_stands}
use Rattle.par_typed_laws.proofs.Programs.{method_names_differ, method_number, method_stands}
use Rattle.par_typed_laws.proofs.Programs.{next_params, this_count}
use Rattle.par_typed_laws.proofs.Unbroken.{IsKept, IsKeptClass, IsKeptMethod, kept, methods_kept}
use Rattle.par_typed_laws.proofs.Unbroken.{head_kept, body_kept, names_kept}
use Rattle.par_typed_laws.proofs.NamedStatements.{scope-params}
use Rattle.par_typed_laws.proofs.MakesStatements.{params_known}
use Rattle.par_typed_laws.proofs.Known.{Holds, held_push}
use Rattle.par_typed_laws.proofs.FittingStatements.{AreListed, written_is, braces_fit}

-- ---- lists that stand in others

-- these stand one by one from this place on
abbrev pub AreAt : {A : Type 0} → List A → ℕ → List A → Type 0
AreAt xs n [] = Unit {0}
AreAt xs n (y ∷ ys) = (slice_get xs n ≡ Some y) × AreAt xs (n + 1) ys

run_at : {A : Type 0} (xs front ys rest : List A) (n : ℕ) → xs ≡ front ++ (ys ++ rest)
    → length front ≡ n → AreAt xs n ys
run_at xs front [] rest n is len = tt
run_at xs front (y ∷ ys) rest n is len = (
  ap (slice_get xs) (sym len) ∙ ap (λ zs. slice_get zs (length front)) is
      ∙ at_length front (ys ++ rest) y,
  run_at xs (front ++ y ∷ []) ys rest (n + 1) (is ∙ sym (append_assoc front (y ∷ []) (ys ++ rest)))
      (length-append front (y ∷ []) ∙ ap (λ k. k + 1) len),
)

-- whether the locals that a statement declares are never null
abbrev pub stmt_sures : Sta → List Bool
stmt_sures (Declare local at) = local.notnull ∷ []
stmt_sures (Block b at) = []
stmt_sures (If e b o at) = []
stmt_sures (While e b at) = []
stmt_sures (Try b cs at) = []
stmt_sures (Return e at) = []
stmt_sures (Break at) = []
stmt_sures (Continue at) = []
stmt_sures (Throw class at) = []
stmt_sures (Open lock at) = []
stmt_sures (Close lock at) = []
stmt_sures (Assign target value at) = []
stmt_sures (Do call at) = []
stmt_sures (When lock b o at) = []

module _ (names : List (List ℕ)) (listed : List Ty) (sures : List Bool) where
  skipped : (p : ℕ) (ss : List Sta) → AreListed names listed sures p ss
      → AreListed names listed sures (p + 0) ss
  skipped p ss h = subst (λ k. AreListed names listed sures k ss) (sym (add-zero p)) h

  all_listed : (p : ℕ) (ss : List Sta)
      → AreAt listed p (map (type_of names) (flat_map stmt_types ss))
      → AreAt sures p (flat_map stmt_sures ss) → AreListed names listed sures p ss
  unfolding stmt_types
  all_listed p [] h k = tt
  all_listed p (Declare local at ∷ ss) h k = ((h.0, k.0), all_listed (p + 1) ss h.1 k.1)
  all_listed p (Block b at ∷ ss) h k = (tt, skipped p ss (all_listed p ss h k))
  all_listed p (If e b o at ∷ ss) h k = (tt, skipped p ss (all_listed p ss h k))
  all_listed p (While e b at ∷ ss) h k = (tt, skipped p ss (all_listed p ss h k))
  all_listed p (Try b cs at ∷ ss) h k = (tt, skipped p ss (all_listed p ss h k))
  all_listed p (Return e at ∷ ss) h k = (tt, skipped p ss (all_listed p ss h k))
  all_listed p (Break at ∷ ss) h k = (tt, skipped p ss (all_listed p ss h k))
  all_listed p (Continue at ∷ ss) h k = (tt, skipped p ss (all_listed p ss h k))
  all_listed p (Throw id at ∷ ss) h k = (tt, skipped p ss (all_listed p ss h k))
  all_listed p (Open lock at ∷ ss) h k = (tt, skipped p ss (all_listed p ss h k))
  all_listed p (Close lock at ∷ ss) h k = (tt, skipped p ss (all_listed p ss h k))
  all_listed p (Assign e x at ∷ ss) h k = (tt, skipped p ss (all_listed p ss h k))
  all_listed p (Do call at ∷ ss) h k = (tt, skipped p ss (all_listed p ss h k))
  all_listed p (When lock b o at ∷ ss) h k = (tt, skipped p ss (all_listed p ss h k))

-- ---- what stands before a body

-- no rule on names is broken in the types of the result and the parameters
pub record KnowsTypes (v : View) (m : Method) : Type 0 where
  pub result : result_fault v m.result ≡ []
  pub params : AllByRecursion (λ p. param_faults v p ≡ []) m.params

pub head_types : (v : View) (m : Method) → head_faults v m ≡ [] → KnowsTypes v m
head_types v m h =
    let to_closes = none_left _ (doubles (map (λ t. t.class) m.throws))
    (none_left _ (flat_map (throw_faults v) m.throws) h) in
    let to_opens = none_left _ (flat_map (lock_faults v) m.closes) to_closes in
    let to_expects = none_left _ (flat_map (lock_faults v) m.opens) to_opens in
    let to_policies = none_left _ (flat_map (lock_faults v) m.expects) to_expects in
    let to_effects = none_left _ (flat_map (policy_faults v) m.effects) to_policies in
    let to_params = none_left _ (effect_faults m.effects) to_effects in
    let params = flat_map (param_faults v) m.params in
    let to_names = none_left _ params to_params in
    let to_result = none_left _ (doubles (map (λ p. p.id) m.params)) to_names in
    record {
      result = none_right (may_policy_faults v m.policy) (result_fault v m.result) to_result;
      params = none_of (param_faults v) m.params (none_right _ params to_params);
    }

module _ (source : Source) (ordered : IsInOrder source) (none : all_faults source ≡ []) where
  abbrev t : Table
  t = table_of source

  abbrev r : Resolved
  r = resolved source

  abbrev w : Written
  w = written_in source

  abbrev names : name_faults source ≡ []
  names = names_kept source none

  -- ---- one method

  module _ (class n : ℕ) (c : Class) (m : Method)
      (stands : slice_get t.classes class ≡ Some (class_info r class n c)) (past : List (List ℕ))
    where
      abbrev v : View
      v = view_behind source past

      abbrev listed : List Ty
      listed = local_types r.classes class m

      abbrev own_sure : List Bool
      own_sure = cond m.is_static [] (true ∷ [])

      abbrev sures : List Bool
      sures =
          own_sure ++ map (λ p. p.notnull) m.params ++ flat_map stmt_sures (in_braces m.body)

      abbrev gives : Ty
      gives = result_of r.classes m.result

      abbrev home : Option Ty → Home
      home result = home_of t (names_of t) class result

      type_is : (y : TypeTree) → type_fault v y ≡ []
          → result_written (names_of t) (Some y) ≡ Some (type_of r.classes y)
      type_is y kept =
          written_is w source class n c gives stands past m.is_static listed sures y kept

      pub result_by : (o : Option TypeTree) → result_fault v o ≡ []
          → result_written (names_of t) o ≡ Some (result_of r.classes o)
      unfolding result_fault result_of
      result_by None kept = refl
      result_by (Some y) kept = type_is y kept

      params_hold : (result : Option Ty) (frame : Frame) (ps : List ParamDecl)
          → Holds listed sures frame → AllByRecursion (λ p. param_faults v p ≡ []) ps
          → AreAt listed frame.next (map (λ p. type_of r.classes p.ty) ps)
          → AreAt sures frame.next (map (λ p. p.notnull) ps)
          → Holds listed sures (with_params (home result) frame ps)
      unfolding with_params
      params_hold result frame [] holds kept is sure = holds
      params_hold result frame (p ∷ ps) holds kept is sure =
          let written = type_is p.ty
          (none_right (may_policy_faults v p.policy) (type_fault v p.ty) kept.0) in
          params_hold result (with_local frame p.id.name (param_slot (home result) p) None) ps
          (held_push listed sures frame.vars frame.scope.slots
          (record { number = frame.next; policy = None }) (param_slot (home result) p) holds
          (written ∙ sym is.0, subst IsThere (sym written) tt, sure.0))
          kept.1 is.1 sure.1

      -- ---- its locals

      this_sure : (b : Bool) → length (cond b [] (true ∷ [])) ≡ first_number b
      this_sure true = refl
      this_sure false = refl

      abbrev first : ℕ
      first = first_number m.is_static

      abbrev param_types : List Ty
      param_types = map (λ p. type_of r.classes p.ty) m.params

      abbrev body_types : List Ty
      body_types = map (type_of r.classes) (flat_map stmt_types (in_braces m.body))

      abbrev param_sures : List Bool
      param_sures = map (λ p. p.notnull) m.params

      abbrev body_sures : List Bool
      body_sures = flat_map stmt_sures (in_braces m.body)

      abbrev this_types : List Ty
      this_types = this_type class m.is_static

      params_listed : AreAt listed first param_types
      params_listed =
          run_at listed this_types param_types body_types first
          (append_assoc this_types param_types body_types)
          (this_count source ordered names class m.is_static)

      params_sure : AreAt sures first param_sures
      params_sure =
          run_at sures own_sure param_sures body_sures first
          (append_assoc own_sure param_sures body_sures) (this_sure m.is_static)

      body_listed : AreAt listed (first + length m.params) body_types
      body_listed =
          run_at listed (this_types ++ param_types) body_types [] (first + length m.params)
          (ap (λ xs. this_types ++ param_types ++ xs) (sym (append-nil body_types)))
          (length-append this_types param_types
          ∙ ap (λ k. k + length param_types) (this_count source ordered names class m.is_static)
          ∙ ap (λ k. first + k) (length-map m.params (λ p. type_of r.classes p.ty)))

      body_sure : AreAt sures (first + length m.params) body_sures
      body_sure =
          run_at sures (own_sure ++ param_sures) body_sures [] (first + length m.params)
          (ap (λ xs. own_sure ++ param_sures ++ xs) (sym (append-nil body_sures)))
          (length-append own_sure param_sures
          ∙ ap (λ k. k + length param_sures) (this_sure m.is_static)
          ∙ ap (λ k. first + k) (length-map m.params (λ p. p.notnull)))

      types_arrive : BeginsWith (arriving class (method_info r class m)) listed
      types_arrive = (
        body_types,
        ap (λ xs. this_types ++ xs ++ body_types)
            (sym (map-map (λ p. p.ty) (param_info r) m.params)),
      )

      sures_arrive : BeginsWith (arriving_sure (method_info r class m)) sures
      sures_arrive = (
        body_sures,
        ap (λ xs. own_sure ++ xs ++ body_sures)
            (sym (map-map (λ p. p.notnull) (param_info r) m.params)),
      )

      -- ---- its body

      abbrev Right : Option Ty → Type 0
      Right result =
          braces_faults (home result) false
          (rules.with_params (home result) no_locals m.params) m.body
          ≡ []

      abbrev BodyFits : Option Ty → Type 0
      BodyFits result = StaFits t class listed sures gives (typed_body w (home result) m).body

      body_by : named.method_faults v c m ≡ [] → Right (Some gives) → BodyFits (Some gives)
      body_by kept right =
          let start = no_frame m.is_static in
          let own = home (Some gives) in
          let next = next_params source ordered names own start m.params in
          let types = head_types v m (head_kept source past c m kept) in
          braces_fit w source class n c gives stands past m.is_static listed sures
          (with_params own start m.params) 0 false (map (λ p. p.id.name) m.params) m.body
          (params_known own start [] m.params (record { names = refl; vars = refl }))
          (params_hold (Some gives) start m.params tt types.params params_listed params_sure)
          (body_kept source past c m kept)
          (ap (λ scope. braces_faults own false scope m.body) (scope-params own start m.params)
          ∙ right)
          (subst (λ k. AreListed r.classes listed sures k (in_braces m.body)) (sym next)
          (all_listed r.classes listed sures (first + length m.params)
          (in_braces m.body) body_listed
          body_sure))

      pub body_fits : named.method_faults v c m ≡ [] → method_faults t (names_of t) class m ≡ []
          → BodyFits (result_written (names_of t) m.result)
      body_fits kept right =
          let result = result_written (names_of t) m.result in
          let own = home result in
          let types = head_types v m (head_kept source past c m kept) in
          let body = braces_faults own false (rules.with_params own no_locals m.params) m.body in
          let is : result ≡ Some gives = result_by m.result types.result in
          subst (λ o. Right o → BodyFits o) (sym is) (body_by kept)
          (none_right _ body (none_left _ (end_fault own m) right))

  -- ---- whole sources

  methods_fit : (class n : ℕ) (c : Class) (before ms : List Method)
      → slice_get t.classes class ≡ Some (class_info r class n c)
      → c.methods ≡ before ++ ms → Differ (map (λ k. k.id.name) c.methods)
      → AllByRecursion (IsKeptMethod source c) ms → methods_faults t (names_of t) class ms ≡ []
      → AllByRecursion (ValuesFit t) (typed_methods w t (names_of t) class ms)
  unfolding typed_methods methods_faults
  methods_fit class n c before [] stands is apart_names keeps right = tt
  methods_fit class n c before (m ∷ ms) stands is apart_names keeps right =
      let one = method_faults t (names_of t) class m in
      let more = methods_faults t (names_of t) class ms in
      let number = method_number source ordered names class n c before ms m stands is apart_names in
      let past = keeps.0.0 in (
        (
          method_info r class m,
          sures class n c m stands past,
          record {
            method =
                ap (method_at t class) number
                ∙ method_stands source ordered names class n c before ms m stands is;
            arrive = types_arrive class n c m stands past;
            arrive_sure = sures_arrive class n c m stands past;
            fits = body_fits class n c m stands past keeps.0.1 (none_left one more right);
          },
        ),
        methods_fit class n c (before ++ m ∷ []) ms stands
            (is ∙ sym (append_assoc before (m ∷ []) ms)) apart_names keeps.1
            (none_right one more right),
      )

  class_fits : (before rest : List Class) (c : Class) → classes source ≡ before ++ c ∷ rest
      → IsKeptClass source c → Ascend 0 (map (λ m. m.id.at) c.methods)
      → class_faults t (names_of t) (class_named (names_of t) c.id.name) c ≡ []
      → AllByRecursion (ValuesFit t) (typed_class w t (names_of t) (class_named (names_of t)
      c.id.name) c)
  unfolding typed_class class_faults
  class_fits before rest c is keeps up right =
      let number = class_number source ordered names before rest c is in
      let stands = class_stands source ordered names before rest c is in
      let numbered : class_faults t (names_of t) (Some (length before)) c ≡ [] =
      ap (λ o. class_faults t (names_of t) o c) (sym number) ∙ right in
      subst (λ o. AllByRecursion (ValuesFit t) (typed_class w t (names_of t) o c)) (sym number)
      (methods_fit (length before) stands.0 c [] c.methods stands.1 refl
      (method_names_differ source ordered names c keeps up) (methods_kept source c keeps)
      (none_right (fields_faults (home_of t (names_of t) (length before) None) c.fields)
      (methods_faults t (names_of t) (length before) c.methods) numbered))

  declarations_fit : (before : List Class) (ds : List Declaration)
      → classes source ≡ before ++ flat_map classes_in ds
      → AllByRecursion (IsKept source) ds
      → AllByRecursion (λ c. Ascend 0 (map (λ m. m.id.at) c.methods)) (flat_map classes_in ds)
      → declarations_faults t (names_of t) ds ≡ []
      → AllByRecursion (ValuesFit t) (typed_declarations w t (names_of t) ds)
  unfolding typed_declarations typed_declaration declarations_faults declaration_faults
  declarations_fit before [] is keeps up right = tt
  declarations_fit before (plain.Actors ids ∷ ds) is keeps up right =
      declarations_fit before ds is keeps.1 up right
  declarations_fit before (plain.Lock lock ∷ ds) is keeps up right =
      declarations_fit before ds is keeps.1 up right
  declarations_fit before (plain.Policy policy ∷ ds) is keeps up right =
      declarations_fit before ds is keeps.1 up right
  declarations_fit before (plain.Declared c ∷ ds) is keeps up right =
      let one = class_faults t (names_of t) (class_named (names_of t) c.id.name) c in
      let more = declarations_faults t (names_of t) ds in
      of_both (ValuesFit t) _ _
      (class_fits before (flat_map classes_in ds) c is keeps.0 up.0 (none_left one more right))
      (declarations_fit (before ++ c ∷ []) ds
      (is ∙ sym (append_assoc before (c ∷ []) (flat_map classes_in ds))) keeps.1 up.1
      (none_right one more right))

  pub values_fit : type_faults t source ≡ [] → AllByRecursion (ValuesFit t) (bodies_of source)
  values_fit right =
      declarations_fit builtins source refl (kept source names) ordered.methods right
