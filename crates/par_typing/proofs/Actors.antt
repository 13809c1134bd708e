-- The actors in the policies of a source that breaks no rule on names are declared.
use Rattle.std.proofs.Common.{◌≡◌, ℕ, ◌<◌, List, [], ◌++◌, Option, Some, None, length, map}
use Rattle.std.specs.Prelude.{flat_map}
use Rattle.std.specs.List.{AllByRecursion}
use Rattle.std.specs.Option.{option_to_list}
use Rattle.par_tree.specs.declared.policy.ClauseTree.{ClauseTree}
use Rattle.par_tree.specs.declared.policy.PolicyTerm.{PolicyTerm}
use Rattle.par_tree.specs.declared.policy.PolicyTerm.TheVariants.{Clauses, Named, Bottom, Top}
use Rattle.par_tree.specs.declared.policy.PolicyExpr.{PolicyExpr}
use Rattle.par_tree.specs.declared.decl.FieldDecl.{FieldDecl}
use Rattle.par_tree.specs.declared.decl.ParamDecl.{ParamDecl}
use Rattle.par_tree.specs.declared.decl.ThrowDecl.{ThrowDecl}
use Rattle.par_tree.specs.Plain as plain
use Rattle.par_tree.specs.Plain.{Sta, Stas, Braces, In, MayBraces, Else, Catches, Catch, NoCatch}
use Rattle.par_tree.specs.Plain.{Handler, On, Method, Class, Declaration, Source}
use Rattle.par_names.specs.Declarations.{actors, doubles}
use Rattle.par_names.specs.Members.{callee_ids}
use Rattle.par_names.specs.Policies.{View, lock_faults, clause_faults, term_faults}
use Rattle.par_names.specs.Policies.{policy_faults, may_policy_faults, type_fault, result_fault}
use Rattle.par_names.specs.Policies.{class_fault}
use Rattle.par_names.specs.Exprs.{Home, expr_faults}
use Rattle.par_names.specs.Stmts.{taken_fault, declares, all_caught, stmt_faults}
use Rattle.par_names.specs.Stmts.{braces_faults, may_braces_faults, else_faults, stmts_faults}
use Rattle.par_names.specs.Stmts.{catches_faults, handler_faults}
use Rattle.par_names.specs.Methods.{field_faults, inferred_fault, channel_faults, param_faults}
use Rattle.par_names.specs.Methods.{effect_faults, throw_faults, head_faults, method_faults}
use Rattle.par_names.specs.Methods.{class_faults}
use Rattle.par_names.specs.Program.{view_behind, declaration_faults}
use Rattle.par_typed_laws.specs.par_resolved.Numbers.{numbers, actor_number}
use Rattle.par_parts.specs.Statements.{inside, in_braces, in_may_braces, in_else}
use Rattle.par_parts.specs.Statements.{in_all}
use Rattle.par_parts.specs.Statements.{in_catches, in_handler}
use Rattle.par_parts.specs.Written.{stmt_policies, method_policies}
use Rattle.par_parts.specs.Written.{class_policies}
use Rattle.par_parts.specs.Written.{declaration_policies, written}
use Rattle.par_typed_laws.proofs.Lists.{none_left, none_right, none_of, each_is, all_mapped}
use Rattle.par_typed_laws.proofs.Lists.{of_both, of_parts}
use Rattle.par_typed_laws.proofs.Unbroken.{actor_within, IsKept}

module _ (source : Source) where
  -- the actors of the clauses have numbers of declared ones
  abbrev pub ClauseKnows : ClauseTree → Type 0
  ClauseKnows c = actor_number (numbers source) c.actor < length (actors source)

  abbrev pub TermKnows : PolicyTerm → Type 0
  TermKnows (Clauses cs) = AllByRecursion ClauseKnows cs
  TermKnows (Named id) = Unit {0}
  TermKnows Bottom = Unit {0}
  TermKnows Top = Unit {0}

  abbrev pub Knows : PolicyExpr → Type 0
  Knows e = AllByRecursion TermKnows e.terms

  abbrev AllKnow : List PolicyExpr → Type 0
  AllKnow es = AllByRecursion Knows es

  module _ (before : List (List ℕ)) where
    abbrev v : View
    v = view_behind source before

    clause_knows : (c : ClauseTree) → clause_faults v c ≡ [] → ClauseKnows c
    clause_knows c h =
        actor_within source c.actor (none_left _ (flat_map (lock_faults v) c.locks) h)

    term_knows : (t : PolicyTerm) → term_faults v t ≡ [] → TermKnows t
    unfolding term_faults
    term_knows (Clauses cs) h =
        each_is (λ c. clause_faults v c ≡ []) ClauseKnows cs clause_knows
        (none_of (clause_faults v) cs h)
    term_knows (Named id) h = tt
    term_knows Bottom h = tt
    term_knows Top h = tt

    policy_knows : (e : PolicyExpr) → policy_faults v e ≡ [] → Knows e
    policy_knows e h =
        each_is (λ t. term_faults v t ≡ []) TermKnows e.terms term_knows
        (none_of (term_faults v) e.terms h)

    may_know : (o : Option PolicyExpr) → may_policy_faults v o ≡ [] → AllKnow (option_to_list o)
    unfolding may_policy_faults
    may_know None h = tt
    may_know (Some e) h = (policy_knows e h, tt)

    -- ---- statements

    abbrev StaKnows : Sta → Type 0
    StaKnows s = AllKnow (stmt_policies s)

    abbrev StasKnow : List Sta → Type 0
    StasKnow ss = AllByRecursion StaKnows ss

    abbrev join : (xs ys : List Sta) → StasKnow xs → StasKnow ys → StasKnow (xs ++ ys)
    join xs ys h k = of_both StaKnows xs ys h k

    own_knows : (home : Home) (locals : List (List ℕ)) (s : Sta)
        → stmt_faults v home locals s ≡ [] → StaKnows s
    unfolding stmt_policies stmt_faults
    own_knows home locals (plain.Declare l at) h =
        may_know l.policy
        (none_left _ (type_fault v l.ty) (none_left _ (expr_faults v home locals l.value)
        (none_left _ (taken_fault locals l.id) h)))
    own_knows home locals (plain.Block b at) h = tt
    own_knows home locals (plain.If e b o at) h = tt
    own_knows home locals (plain.While e b at) h = tt
    own_knows home locals (plain.Try b cs at) h = tt
    own_knows home locals (plain.Return o at) h = tt
    own_knows home locals (plain.Break at) h = tt
    own_knows home locals (plain.Continue at) h = tt
    own_knows home locals (plain.Throw class at) h = tt
    own_knows home locals (plain.Open lock at) h = tt
    own_knows home locals (plain.Close lock at) h = tt
    own_knows home locals (plain.Assign target value at) h = tt
    own_knows home locals (plain.Do call at) h = tt
    own_knows home locals (plain.When lock b o at) h = tt

    mutual
      unfolding inside stmt_faults

      inside_know : (home : Home) (locals : List (List ℕ)) (s : Sta)
          → stmt_faults v home locals s ≡ [] → StasKnow (inside s)
      inside_know home locals (plain.Block b at) h = braces_know home locals b h
      inside_know home locals (plain.If e b o at) h =
          join (in_braces b) (in_else o)
          (braces_know home locals b (none_right (expr_faults v home locals e) _
          (none_left _ (else_faults v home locals o) h)))
          (else_know home locals o
          (none_right (expr_faults v home locals e ++ braces_faults v home locals b) _ h))
      inside_know home locals (plain.While e b at) h =
          braces_know home locals b (none_right (expr_faults v home locals e) _ h)
      inside_know home locals (plain.Try b cs at) h =
          join (in_braces b) (in_catches cs)
          (braces_know home locals b
          (none_left _ (doubles (all_caught cs)) (none_left _ (catches_faults v home locals cs) h)))
          (catches_know home locals cs
          (none_right (braces_faults v home locals b ++ doubles (all_caught cs)) _ h))
      inside_know home locals (plain.Return o at) h = tt
      inside_know home locals (plain.Break at) h = tt
      inside_know home locals (plain.Continue at) h = tt
      inside_know home locals (plain.Throw class at) h = tt
      inside_know home locals (plain.Open lock at) h = tt
      inside_know home locals (plain.Close lock at) h = tt
      inside_know home locals (plain.Declare l at) h = tt
      inside_know home locals (plain.Assign target value at) h = tt
      inside_know home locals (plain.Do call at) h = tt
      inside_know home locals (plain.When lock b o at) h =
          join (in_braces b) (in_may_braces o)
          (braces_know home locals b (none_right (lock_faults v lock) _
          (none_left _ (may_braces_faults v home locals o) h)))
          (may_braces_know home locals o
          (none_right (lock_faults v lock ++ braces_faults v home locals b) _ h))

      braces_know : (home : Home) (locals : List (List ℕ)) (b : Braces)
          → braces_faults v home locals b ≡ [] → StasKnow (in_braces b)
      braces_know home locals (In ss at) h = stas_know home locals ss h

      may_braces_know : (home : Home) (locals : List (List ℕ)) (o : MayBraces)
          → may_braces_faults v home locals o ≡ [] → StasKnow (in_may_braces o)
      may_braces_know home locals plain.NoBraces h = tt
      may_braces_know home locals (plain.Some b) h = braces_know home locals b h

      else_know : (home : Home) (locals : List (List ℕ)) (o : Else)
          → else_faults v home locals o ≡ [] → StasKnow (in_else o)
      else_know home locals plain.NoElse h = tt
      else_know home locals (plain.Otherwise s) h =
          (own_knows home locals s h, inside_know home locals s h)

      stas_know : (home : Home) (locals : List (List ℕ)) (ss : Stas)
          → stmts_faults v home locals ss ≡ [] → StasKnow (in_all ss)
      stas_know home locals plain.End h = tt
      stas_know home locals (plain.Then s ss) h =
          let first = none_left _ (stmts_faults v home (declares s locals) ss) h in
          let rest = none_right (stmt_faults v home locals s) _ h in (
            own_knows home locals s first,
            join (inside s) (in_all ss) (inside_know home locals s first)
                (stas_know home (declares s locals) ss rest),
          )

      catches_know : (home : Home) (locals : List (List ℕ)) (cs : Catches)
          → catches_faults v home locals cs ≡ [] → StasKnow (in_catches cs)
      catches_know home locals NoCatch h = tt
      catches_know home locals (Catch c cs) h =
          join (in_handler c) (in_catches cs)
          (handler_knows home locals c (none_left _ (catches_faults v home locals cs) h))
          (catches_know home locals cs (none_right (handler_faults v home locals c) _ h))

      handler_knows : (home : Home) (locals : List (List ℕ)) (c : Handler)
          → handler_faults v home locals c ≡ [] → StasKnow (in_handler c)
      handler_knows home locals (On class name b) h =
          braces_know home locals b
          (none_right (class_fault v class ++ taken_fault locals name) _ h)

    -- ---- members

    abbrev also : (xs ys : List PolicyExpr) → AllKnow xs → AllKnow ys → AllKnow (xs ++ ys)
    also xs ys h k = of_both Knows xs ys h k

    param_knows : (p : ParamDecl) → param_faults v p ≡ [] → AllKnow (option_to_list p.policy)
    param_knows p h = may_know p.policy (none_left _ (type_fault v p.ty) h)

    field_knows : (birth : Option PolicyExpr) (f : FieldDecl) → field_faults v birth f ≡ []
        → AllKnow (option_to_list f.policy)
    field_knows birth f h =
        may_know f.policy (none_left _ (type_fault v f.ty) (none_left _ (inferred_fault birth f) h))

    throw_knows : (t : ThrowDecl) → throw_faults v t ≡ [] → Knows t.policy
    throw_knows t h = policy_knows t.policy (none_right (class_fault v t.class) _ h)

    head_knows : (m : Method) → head_faults v m ≡ []
        → AllKnow (option_to_list m.policy ++ flat_map (λ p. option_to_list p.policy) m.params
        ++ m.effects ++ map (λ t. t.policy) m.throws)
    head_knows m h =
        let throws = none_right ((((((((((may_policy_faults v m.policy ++ result_fault v m.result)
        ++ doubles (map (λ p. p.id) m.params)) ++ flat_map (param_faults v) m.params)
        ++ effect_faults m.effects) ++ flat_map (policy_faults v) m.effects)
        ++ flat_map (lock_faults v) m.expects) ++ flat_map (lock_faults v) m.opens)
        ++ flat_map (lock_faults v) m.closes)) ++ doubles (map (λ t. t.class) m.throws)) _ h in
        let up_to_closes = none_left _ (doubles (map (λ t. t.class) m.throws))
        (none_left _ (flat_map (throw_faults v) m.throws) h) in
        let up_to_effects = none_left _ (flat_map (lock_faults v) m.expects)
        (none_left _ (flat_map (lock_faults v) m.opens)
        (none_left _ (flat_map (lock_faults v) m.closes) up_to_closes)) in
        let effects = none_right ((((may_policy_faults v m.policy ++ result_fault v m.result)
        ++ doubles (map (λ p. p.id) m.params)) ++ flat_map (param_faults v) m.params)
        ++ effect_faults m.effects) _ up_to_effects in
        let up_to_params = none_left _ (effect_faults m.effects)
        (none_left _ (flat_map (policy_faults v) m.effects) up_to_effects) in
        let params = none_right ((may_policy_faults v m.policy ++ result_fault v m.result)
        ++ doubles (map (λ p. p.id) m.params)) _ up_to_params in
        let policy = none_left _ (result_fault v m.result)
        (none_left _ (doubles (map (λ p. p.id) m.params))
        (none_left _ (flat_map (param_faults v) m.params) up_to_params)) in
        also _ (map (λ t. t.policy) m.throws)
        (also _ m.effects
        (also (option_to_list m.policy) _ (may_know m.policy policy)
        (of_parts (λ p. param_faults v p ≡ []) Knows (λ p. option_to_list p.policy) m.params
        param_knows (none_of (param_faults v) m.params params)))
        (each_is (λ e. policy_faults v e ≡ []) Knows m.effects policy_knows
        (none_of (policy_faults v) m.effects effects)))
        (all_mapped (λ t. throw_faults v t ≡ []) Knows (λ t. t.policy) m.throws throw_knows
        (none_of (throw_faults v) m.throws throws))

    method_knows : (c : Class) (m : Method) → method_faults v c m ≡ [] → AllKnow (method_policies m)
    method_knows c m h =
        also _ (flat_map stmt_policies (in_braces m.body))
        (head_knows m (none_left (head_faults v m) _ h))
        (of_parts StaKnows Knows stmt_policies (in_braces m.body) (λ s k. k)
        (braces_know (record { own = c; is_static = m.is_static }) (map (λ p. p.id.name) m.params)
        m.body (none_right (head_faults v m) _ h)))

    class_knows : (c : Class) → class_faults v c ≡ [] → AllKnow (class_policies c)
    class_knows c h =
        let methods = none_right (((((may_policy_faults v c.birth
        ++ doubles (map (λ f. f.id) c.fields)) ++ flat_map (field_faults v c.birth) c.fields)
        ++ doubles (callee_ids c)) ++ flat_map (channel_faults v) c.channels)) _ h in
        let up_to_channels = none_left _ (flat_map (method_faults v c) c.methods) h in
        let channels = none_right ((((may_policy_faults v c.birth
        ++ doubles (map (λ f. f.id) c.fields)) ++ flat_map (field_faults v c.birth) c.fields)
        ++ doubles (callee_ids c))) _ up_to_channels in
        let up_to_fields = none_left _ (doubles (callee_ids c))
        (none_left _ (flat_map (channel_faults v) c.channels) up_to_channels) in
        let fields = none_right (may_policy_faults v c.birth
        ++ doubles (map (λ f. f.id) c.fields)) _ up_to_fields in
        let birth = none_left _ (doubles (map (λ f. f.id) c.fields))
        (none_left _ (flat_map (field_faults v c.birth) c.fields) up_to_fields) in
        also _ (flat_map method_policies c.methods)
        (also _ (flat_map (λ k. option_to_list k.policy) c.channels)
        (also (option_to_list c.birth) (flat_map (λ f. option_to_list f.policy) c.fields)
        (may_know c.birth birth)
        (of_parts (λ f. field_faults v c.birth f ≡ []) Knows (λ f. option_to_list f.policy) c.fields
        (field_knows c.birth) (none_of (field_faults v c.birth) c.fields fields)))
        (of_parts (λ k. channel_faults v k ≡ []) Knows (λ k. option_to_list k.policy) c.channels
        (λ k is. may_know k.policy is) (none_of (channel_faults v) c.channels channels)))
        (of_parts (λ m. method_faults v c m ≡ []) Knows method_policies c.methods (method_knows c)
        (none_of (method_faults v c) c.methods methods))

    declaration_knows : (d : Declaration) → declaration_faults v d ≡ []
        → AllKnow (declaration_policies d)
    declaration_knows (plain.Actors ids) h = tt
    declaration_knows (plain.Lock l) h = may_know l.policy h
    declaration_knows (plain.Policy p) h = (policy_knows p.policy h, tt)
    declaration_knows (plain.Declared c) h = class_knows c h

  -- so do all policies that are written
  pub written_know : AllByRecursion (IsKept source) source → AllByRecursion Knows (written source)
  written_know kept =
      of_parts (IsKept source) Knows declaration_policies source one kept where
        one : (d : Declaration) → IsKept source d → AllKnow (declaration_policies d)
        one d (before, is) = declaration_knows before d is
