-- Rules on names are broken at places of the tree.
use Rattle.std.proofs.Common.{ℕ, ◌+◌, ◌≤◌, Bool, true, false, List}
use Rattle.std.proofs.Common.{[], ◌∷◌, ◌++◌, map, drop, Option, Some, None, arith}
use Rattle.std.proofs.Common.{if◌then◌else◌}
use Rattle.std.specs.Prelude.{codes}
use Rattle.std.specs.List.{AllByRecursion, flat_map}
use Rattle.par_index.specs.Texts.{has}
use Rattle.par_tree.specs.declared.ident.Ident.{Ident}
use Rattle.par_tree.specs.declared.types.TypeTree.{TypeTree}
use Rattle.par_tree.specs.declared.types.TypeTree.TheVariants as type
use Rattle.par_tree.specs.declared.policy.LockTree.{LockTree}
use Rattle.par_tree.specs.declared.policy.ClauseTree.{ClauseTree}
use Rattle.par_tree.specs.declared.policy.PolicyTerm.{PolicyTerm}
use Rattle.par_tree.specs.declared.policy.PolicyTerm.TheVariants.{Clauses, Named, Bottom}
use Rattle.par_tree.specs.declared.policy.PolicyTerm.TheVariants.{Top}
use Rattle.par_tree.specs.declared.policy.PolicyExpr.{PolicyExpr}
use Rattle.par_tree.specs.declared.decl.FieldDecl.{FieldDecl}
use Rattle.par_tree.specs.declared.decl.ChannelDecl.{ChannelDecl}
use Rattle.par_tree.specs.declared.decl.ParamDecl.{ParamDecl}
use Rattle.par_tree.specs.declared.decl.ThrowDecl.{ThrowDecl}
use Rattle.par_tree.specs.declared.decl.LockDecl.{LockDecl}
use Rattle.par_tree.specs.declared.decl.PolicyDecl.{PolicyDecl}
use Rattle.par_tree.specs.Plain as plain
use Rattle.par_tree.specs.Plain.{Exp, Exps, MayExp, Sta, Stas, Braces, In, MayBraces}
use Rattle.par_tree.specs.Plain.{Else, Catches}
use Rattle.par_tree.specs.Plain.{Catch, NoCatch, Handler, On, Local, Method, Class}
use Rattle.par_tree.specs.Plain.{Declaration}
use Rattle.par_tree.specs.Plain.{Source, place}
use Rattle.par_refusals.specs.declared.refusal.Refusal.{Refusal}
use Rattle.par_span_laws.specs.Within.{IdentIn, AreIn, TypeIn, ResultIn, LockIn, LocksIn, ClauseIn}
use Rattle.par_span_laws.specs.Within.{TermIn, PolicyIn, MayPolicyIn, ExpIn, MayExpIn, ExpsIn}
use Rattle.par_span_laws.specs.Within.{LocalIn}
use Rattle.par_span_laws.specs.Within.{StaIn, BracesIn, MayBracesIn, ElseIn, StasIn, CatchesIn}
use Rattle.par_span_laws.specs.Within.{HandlerIn, FieldIn, ChannelIn, ParamIn, ThrowIn, MethodIn}
use Rattle.par_span_laws.specs.Within.{ClassIn, LockDeclIn, PolicyDeclIn, DeclarationIn, IsWithin}
use Rattle.par_names.specs.Declarations.{actors_in, locks_in, policies_in, classes_in, actors}
use Rattle.par_names.specs.Declarations.{locks, policies, builtin, builtins, declared_classes}
use Rattle.par_names.specs.Declarations.{classes, doubles}
use Rattle.par_names.specs.Members.{callee_ids, selected_named, callee_named, is_static}
use Rattle.par_names.specs.Policies.{View, actor_fault, arity_fault, lock_faults, clause_faults}
use Rattle.par_names.specs.Policies.{term_faults, policy_faults, may_policy_faults, class_fault}
use Rattle.par_names.specs.Policies.{type_fault, result_fault}
use Rattle.par_names.specs.Exprs.{Home, own_fault, name_fault, static_fault}
use Rattle.par_names.specs.Exprs.{member_faults, expr_faults, callee_faults, args_faults}
use Rattle.par_names.specs.Exprs.{value_faults}
use Rattle.par_names.specs.Stmts.{taken_fault, local_faults, declares, all_caught}
use Rattle.par_names.specs.Stmts.{stmt_faults, braces_faults, may_braces_faults, else_faults}
use Rattle.par_names.specs.Stmts.{stmts_faults, catches_faults, handler_faults}
use Rattle.par_names.specs.Methods.{field_faults, channel_faults, param_faults}
use Rattle.par_names.specs.Methods.{effect_faults, throw_faults, head_faults, method_faults}
use Rattle.par_names.specs.Methods.{class_faults}
use Rattle.par_names.specs.Program.{declaration_faults, declarations_faults, mains}
use Rattle.par_names.specs.Program.{mains_faults, program_doubles, name_faults}
use Rattle.par_span_laws.proofs.Built.{place_in}
use Rattle.par_span_laws.proofs.Broken.{both, each, mapped, filtered, behind_first}
use Rattle.par_refusals.specs.First.{when}
use Rattle.par_span_laws.proofs.Broken as broken
use Rattle.par_names.specs.Places.{NamesAreBrokenWithin}

module _ (m : ℕ) where
  abbrev Within : List Refusal → Type 0
  Within faults = broken.Within m faults

  abbrev P : Refusal → Type 0
  P f = broken.P m f

  abbrev there : (b : Bool) (f : Refusal) → f.at ≤ m → Within (when b f)
  there b f h = broken.there m b f h

  abbrev join : (xs ys : List Refusal) → Within xs → Within ys → Within (xs ++ ys)
  join xs ys p q = broken.join m xs ys p q

  -- ---- policies, locks, types

  doubles_in : (ids : List Ident) → AreIn m ids → Within (doubles ids)
  doubles_in ids h = each (IdentIn m) P _ ids (λ id h. there _ _ h) h

  actor_in : (v : View) (id : Ident) → IdentIn m id → Within (actor_fault v id)
  actor_in v id h = there _ _ h

  arity_in : (o : Option LockDecl) (lock : LockTree) → IdentIn m lock.id
      → Within (arity_fault o lock)
  unfolding arity_fault
  arity_in None lock h = there _ _ h
  arity_in (Some d) lock h = there _ _ h

  lock_in : (v : View) (lock : LockTree) → LockIn m lock → Within (lock_faults v lock)
  lock_in v lock h =
      join _ _ (arity_in _ lock h.0) (each (IdentIn m) P _ lock.actors (actor_in v) h.1)

  locks_within : (v : View) (ls : List LockTree) → LocksIn m ls
      → Within (flat_map (lock_faults v) ls)
  locks_within v ls h = each (LockIn m) P _ ls (lock_in v) h

  clause_in : (v : View) (c : ClauseTree) → ClauseIn m c → Within (clause_faults v c)
  clause_in v c h = join _ _ (actor_in v c.actor h.0) (locks_within v c.locks h.1)

  term_in : (v : View) (t : PolicyTerm) → TermIn m t → Within (term_faults v t)
  unfolding term_faults
  term_in v (Clauses cs) h = each (ClauseIn m) P _ cs (clause_in v) h
  term_in v (Named id) h = there _ _ h
  term_in v Bottom h = tt
  term_in v Top h = tt

  policy_in : (v : View) (p : PolicyExpr) → PolicyIn m p → Within (policy_faults v p)
  policy_in v p h = each (TermIn m) P _ p.terms (term_in v) h.1

  may_policy_in : (v : View) (o : Option PolicyExpr) → MayPolicyIn m o
      → Within (may_policy_faults v o)
  unfolding may_policy_faults
  may_policy_in v None h = tt
  may_policy_in v (Some p) h = policy_in v p h

  class_in : (v : View) (id : Ident) → IdentIn m id → Within (class_fault v id)
  class_in v id h = there _ _ h

  type_in : (v : View) (t : TypeTree) → TypeIn m t → Within (type_fault v t)
  unfolding type_fault
  type_in v (type.Int at) h = tt
  type_in v (type.Boolean at) h = tt
  type_in v (type.Class id) h = class_in v id h

  result_in : (v : View) (o : Option TypeTree) → ResultIn m o → Within (result_fault v o)
  unfolding result_fault
  result_in v None h = tt
  result_in v (Some t) h = type_in v t h

  -- ---- expressions

  own_in : (in_static : Bool) (o : Option Bool) (at : ℕ) → at ≤ m
      → Within (own_fault in_static o at)
  unfolding own_fault
  own_in in_static None at h = there _ _ h
  own_in in_static (Some s) at h = there _ _ h

  name_in : (home : Home) (locals : List (List ℕ)) (name : List ℕ) (at : ℕ) → at ≤ m
      → Within (name_fault home locals name at)
  name_in home locals name at h = in_case (has locals name) where
    in_case : (b : Bool) → Within
        (if b then [] else own_fault home.is_static (selected_named home.own name) at)
    in_case true = tt
    in_case false = own_in home.is_static (selected_named home.own name) at h

  static_in : (named : Class → List ℕ → Option Bool) (o : Option Class) (at : ℕ) (member : Ident)
      → at ≤ m → IdentIn m member → Within (static_fault named o at member)
  unfolding static_fault
  static_in named None at member h k = there _ _ h
  static_in named (Some c) at member h k = there _ _ k

  member_in : (v : View) (named : Class → List ℕ → Option Bool) (o : Option (List ℕ)) (at : ℕ)
      (member : Ident) (faults : List Refusal)
      → at ≤ m → IdentIn m member → Within faults
      → Within (member_faults v named o at member faults)
  unfolding member_faults
  member_in v named None at member faults h k w = w
  member_in v named (Some class) at member faults h k w = static_in named _ at member h k

  mutual
    unfolding expr_faults ExpIn

    exp_in : (v : View) (home : Home) (locals : List (List ℕ)) (e : Exp) → ExpIn m e
        → Within (expr_faults v home locals e)
    exp_in v home locals (plain.Int n at) h = tt
    exp_in v home locals (plain.True at) h = tt
    exp_in v home locals (plain.False at) h = tt
    exp_in v home locals (plain.Null at) h = tt
    exp_in v home locals (plain.This at) h = there _ _ h
    exp_in v home locals (plain.New class at) h = class_in v class h.0
    exp_in v home locals (plain.Name name at) h = name_in home locals name at h
    exp_in v home locals (plain.Field e f at) h =
        member_in v selected_named _ (place e) f _ (place_in m e h.0) h.1
        (exp_in v home locals e h.0)
    exp_in v home locals (plain.Call o f es at) h =
        join _ _ (callee_in v home locals o f h.0 h.1) (args_in v home locals es h.2)
    exp_in v home locals (plain.Neg e at) h = exp_in v home locals e h.0
    exp_in v home locals (plain.Not e at) h = exp_in v home locals e h.0
    exp_in v home locals (plain.Binary op a b at) h =
        join _ _ (exp_in v home locals a h.0) (exp_in v home locals b h.1)

    callee_in : (v : View) (home : Home) (locals : List (List ℕ)) (o : MayExp) (f : Ident)
        → MayExpIn m o → IdentIn m f → Within (callee_faults v home locals o f)
    callee_in v home locals plain.Absent f h k = own_in home.is_static _ f.at k
    callee_in v home locals (plain.Present e) f h k =
        member_in v callee_named _ (place e) f _ (place_in m e h) k (exp_in v home locals e h)

    args_in : (v : View) (home : Home) (locals : List (List ℕ)) (es : Exps) → ExpsIn m es
        → Within (args_faults v home locals es)
    args_in v home locals plain.NoExps h = tt
    args_in v home locals (plain.More e es) h =
        join _ _ (exp_in v home locals e h.0) (args_in v home locals es h.1)

  value_in : (v : View) (home : Home) (locals : List (List ℕ)) (o : MayExp) → MayExpIn m o
      → Within (value_faults v home locals o)
  unfolding value_faults ExpIn
  value_in v home locals plain.Absent h = tt
  value_in v home locals (plain.Present e) h = exp_in v home locals e h

  -- ---- statements

  taken_in : (locals : List (List ℕ)) (id : Ident) → IdentIn m id → Within (taken_fault locals id)
  taken_in locals id h = there _ _ h

  local_in : (v : View) (home : Home) (locals : List (List ℕ)) (l : Local) → LocalIn m l
      → Within (local_faults v home locals l)
  local_in v home locals l h =
      join _ _ (join _ _ (join _ _ (may_policy_in v l.policy h.2) (type_in v l.ty h.1))
      (exp_in v home locals l.value h.3)) (taken_in locals l.id h.0)

  caught_in : (cs : Catches) → CatchesIn m cs → AreIn m (all_caught cs)
  unfolding all_caught StaIn
  caught_in NoCatch h = tt
  caught_in (Catch (On class name b) cs) h = (h.0.0, caught_in cs h.1)

  mutual
    unfolding stmt_faults StaIn

    sta_in : (v : View) (home : Home) (locals : List (List ℕ)) (s : Sta) → StaIn m s
        → Within (stmt_faults v home locals s)
    sta_in v home locals (plain.Block b at) h = braces_in v home locals b h.0
    sta_in v home locals (plain.If e b o at) h =
        join _ _ (join _ _ (exp_in v home locals e h.0) (braces_in v home locals b h.1))
        (else_in v home locals o h.2)
    sta_in v home locals (plain.While e b at) h =
        join _ _ (exp_in v home locals e h.0) (braces_in v home locals b h.1)
    sta_in v home locals (plain.Try b cs at) h =
        join _ _ (join _ _ (braces_in v home locals b h.0) (doubles_in _ (caught_in cs h.1)))
        (catches_in v home locals cs h.1)
    sta_in v home locals (plain.Return o at) h = value_in v home locals o h.0
    sta_in v home locals (plain.Break at) h = tt
    sta_in v home locals (plain.Continue at) h = tt
    sta_in v home locals (plain.Throw class at) h = class_in v class h.0
    sta_in v home locals (plain.Open lock at) h = lock_in v lock h.0
    sta_in v home locals (plain.Close lock at) h = lock_in v lock h.0
    sta_in v home locals (plain.Declare l at) h = local_in v home locals l h.0
    sta_in v home locals (plain.Assign target value at) h =
        join _ _ (exp_in v home locals target h.0) (exp_in v home locals value h.1)
    sta_in v home locals (plain.Do call at) h = exp_in v home locals call h.0
    sta_in v home locals (plain.When lock b o at) h =
        join _ _ (join _ _ (lock_in v lock h.0) (braces_in v home locals b h.1))
        (may_braces_in v home locals o h.2)

    braces_in : (v : View) (home : Home) (locals : List (List ℕ)) (b : Braces) → BracesIn m b
        → Within (braces_faults v home locals b)
    braces_in v home locals (In ss at) h = stas_in v home locals ss h.0

    may_braces_in : (v : View) (home : Home) (locals : List (List ℕ)) (o : MayBraces)
        → MayBracesIn m o → Within (may_braces_faults v home locals o)
    may_braces_in v home locals plain.NoBraces h = tt
    may_braces_in v home locals (plain.Some b) h = braces_in v home locals b h

    else_in : (v : View) (home : Home) (locals : List (List ℕ)) (o : Else) → ElseIn m o
        → Within (else_faults v home locals o)
    else_in v home locals plain.NoElse h = tt
    else_in v home locals (plain.Otherwise s) h = sta_in v home locals s h

    stas_in : (v : View) (home : Home) (locals : List (List ℕ)) (ss : Stas) → StasIn m ss
        → Within (stmts_faults v home locals ss)
    stas_in v home locals plain.End h = tt
    stas_in v home locals (plain.Then s ss) h =
        join _ _ (sta_in v home locals s h.0) (stas_in v home (declares s locals) ss h.1)

    catches_in : (v : View) (home : Home) (locals : List (List ℕ)) (cs : Catches) → CatchesIn m cs
        → Within (catches_faults v home locals cs)
    catches_in v home locals NoCatch h = tt
    catches_in v home locals (Catch c cs) h =
        join _ _ (handler_in v home locals c h.0) (catches_in v home locals cs h.1)

    handler_in : (v : View) (home : Home) (locals : List (List ℕ)) (c : Handler) → HandlerIn m c
        → Within (handler_faults v home locals c)
    handler_in v home locals (On class name b) h =
        join _ _ (join _ _ (class_in v class h.0) (taken_in locals name h.1))
        (braces_in v home locals b h.2)

  -- ---- members

  field_in : (v : View) (birth : Option PolicyExpr) (f : FieldDecl) → FieldIn m f
      → Within (field_faults v birth f)
  field_in v birth f h =
      join _ _ (join _ _ (may_policy_in v f.policy h.2) (type_in v f.ty h.1)) (there _ _ h.0)

  channel_in : (v : View) (c : ChannelDecl) → ChannelIn m c → Within (channel_faults v c)
  channel_in v c h = may_policy_in v c.policy h.1

  param_in : (v : View) (p : ParamDecl) → ParamIn m p → Within (param_faults v p)
  param_in v p h = join _ _ (may_policy_in v p.policy h.2) (type_in v p.ty h.1)

  throw_in : (v : View) (t : ThrowDecl) → ThrowIn m t → Within (throw_faults v t)
  throw_in v t h = join _ _ (class_in v t.class h.0) (policy_in v t.policy h.1)

  effects_in : (ps : List PolicyExpr) → AllByRecursion (PolicyIn m) ps → Within (effect_faults ps)
  effects_in ps h =
      each (PolicyIn m) P _ (drop 1 ps) (λ p h. there true _ h.0) (behind_first (PolicyIn m) ps h)

  head_in : (v : View) (f : Method) → MethodIn m f → Within (head_faults v f)
  head_in v f h =
      let first =
      join _ _ (join _ _ (may_policy_in v f.policy h.policy) (result_in v f.result h.result))
      (doubles_in _ (mapped (ParamIn m) (IdentIn m) _ f.params (λ p h. h.0) h.params)) in
      let params = join _ _ first (each (ParamIn m) P _ f.params (param_in v) h.params) in
      let effects =
      join _ _ (join _ _ params (effects_in f.effects h.effects))
      (each (PolicyIn m) P _ f.effects (policy_in v) h.effects) in
      let locks =
      join _ _ (join _ _ (join _ _ effects (locks_within v f.expects h.expects))
      (locks_within v f.opens h.opens)) (locks_within v f.closes h.closes) in
      join _ _
      (join _ _ locks (doubles_in _
      (mapped (ThrowIn m) (IdentIn m) _ f.throws (λ t h. h.0) h.throws)))
      (each (ThrowIn m) P _ f.throws (throw_in v) h.throws)

  method_in : (v : View) (c : Class) (f : Method) → MethodIn m f → Within (method_faults v c f)
  method_in v c f h = join _ _ (head_in v f h) (braces_in v _ _ f.body h.body)

  callee_ids_in : (c : Class) → ClassIn m c → AreIn m (callee_ids c)
  callee_ids_in c h =
      both (IdentIn m) _ _ (mapped (ChannelIn m) (IdentIn m) _ c.channels (λ x h. h.0) h.channels)
      (mapped (MethodIn m) (IdentIn m) _ c.methods (λ x h. h.id) h.methods)

  members_in : (v : View) (c : Class) → ClassIn m c → Within (class_faults v c)
  members_in v c h =
      let fields =
      join _ _ (join _ _ (may_policy_in v c.birth h.birth)
      (doubles_in _ (mapped (FieldIn m) (IdentIn m) _ c.fields (λ f h. h.0) h.fields)))
      (each (FieldIn m) P _ c.fields (field_in v c.birth) h.fields) in
      let channels =
      join _ _ (join _ _ fields (doubles_in _ (callee_ids_in c h)))
      (each (ChannelIn m) P _ c.channels (channel_in v) h.channels) in
      join _ _ channels (each (MethodIn m) P _ c.methods (method_in v c) h.methods)

  -- ---- the program

  declaration_in : (v : View) (d : Declaration) → DeclarationIn m d
      → Within (declaration_faults v d)
  declaration_in v (plain.Actors ids) h = tt
  declaration_in v (plain.Lock l) h = may_policy_in v l.policy h.1
  declaration_in v (plain.Policy p) h = policy_in v p.policy h.1
  declaration_in v (plain.Declared c) h = members_in v c h

  declarations_in : (source : Source) (before : List (List ℕ)) (ds : List Declaration)
      → IsWithin m ds → Within (declarations_faults source before ds)
  unfolding declarations_faults
  declarations_in source before [] h = tt
  declarations_in source before (d ∷ ds) h =
      join _ _ (declaration_in _ d h.0)
      (declarations_in source (before ++ map (λ p. p.id.name) (policies_in d)) ds h.1)

  actors_within : (d : Declaration) → DeclarationIn m d → AreIn m (actors_in d)
  actors_within (plain.Actors ids) h = h
  actors_within (plain.Lock l) h = tt
  actors_within (plain.Policy p) h = tt
  actors_within (plain.Declared c) h = tt

  locks_are : (d : Declaration) → DeclarationIn m d → AllByRecursion (LockDeclIn m) (locks_in d)
  locks_are (plain.Actors ids) h = tt
  locks_are (plain.Lock l) h = (h, tt)
  locks_are (plain.Policy p) h = tt
  locks_are (plain.Declared c) h = tt

  policies_are : (d : Declaration) → DeclarationIn m d
      → AllByRecursion (PolicyDeclIn m) (policies_in d)
  policies_are (plain.Actors ids) h = tt
  policies_are (plain.Lock l) h = tt
  policies_are (plain.Policy p) h = (h, tt)
  policies_are (plain.Declared c) h = tt

  classes_are : (d : Declaration) → DeclarationIn m d → AllByRecursion (ClassIn m) (classes_in d)
  classes_are (plain.Actors ids) h = tt
  classes_are (plain.Lock l) h = tt
  classes_are (plain.Policy p) h = tt
  classes_are (plain.Declared c) h = (h, tt)

  builtin_in : (name : List ℕ) → ClassIn m (builtin name)
  builtin_in name =
      record { id = omega arith; birth = tt; fields = tt; channels = tt; methods = tt }

  all_classes_in : (source : Source) → IsWithin m source
      → AllByRecursion (ClassIn m) (classes source)
  all_classes_in source h =
      both (ClassIn m) builtins (declared_classes source)
      (builtin_in (codes "ArithmeticException"), (builtin_in (codes "NullPointerException"), tt))
      (each (DeclarationIn m) (ClassIn m) _ source classes_are h)

  mains_in : (source : Source) → IsWithin m source → AllByRecursion (MethodIn m) (mains source)
  mains_in source h =
      filtered (MethodIn m) _ _ (each (ClassIn m) (MethodIn m) _ (classes source) (λ c h. h.methods)
      (all_classes_in source h))

  mains_faults_in : (ms : List Method) → AllByRecursion (MethodIn m) ms → Within (mains_faults ms)
  mains_faults_in ms h =
      join _ _ (join _ _ (there _ _ (omega arith))
      (each (MethodIn m) P _ ms (λ f h. there _ _ h.id) h))
      (each (MethodIn m) P _ (drop 1 ms) (λ f h. there true _ h.id)
      (behind_first (MethodIn m) ms h))

  program_doubles_in : (source : Source) → IsWithin m source → Within (program_doubles source)
  program_doubles_in source h =
      let actors_are = each (DeclarationIn m) (IdentIn m) _ source actors_within h in
      let locks_in_it =
      mapped (LockDeclIn m) (IdentIn m) (λ (l : LockDecl). l.id) (locks source) (λ l h. h.0)
      (each (DeclarationIn m) (LockDeclIn m) _ source locks_are h) in
      let policies_in_it =
      mapped (PolicyDeclIn m) (IdentIn m) (λ (p : PolicyDecl). p.id) (policies source) (λ p h. h.0)
      (each (DeclarationIn m) (PolicyDeclIn m) _ source policies_are h) in
      let classes_in_it =
      mapped (ClassIn m) (IdentIn m) (λ (c : Class). c.id) (classes source) (λ c h. h.id)
      (all_classes_in source h) in
      join _ _ (join _ _ (join _ _ (doubles_in _ actors_are) (doubles_in _ locks_in_it))
      (doubles_in _ policies_in_it))
      (doubles_in (map (λ (c : Class). c.id) (classes source)) classes_in_it)

  pub names_in : (source : Source) → IsWithin m source → Within (name_faults source)
  names_in source h =
      join _ _ (join _ _ (program_doubles_in source h) (declarations_in source [] source h))
      (mains_faults_in _ (mains_in source h))

pub names_broken_within : NamesAreBrokenWithin
names_broken_within m source h = names_in m source h
