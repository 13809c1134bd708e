-- The policies that are written in a tree lie within it, and so do the locks that are asked for.
use Rattle.std.proofs.Common.{ℕ, List, ◌++◌, Option, Some, None}
use Rattle.std.specs.List.{AllByRecursion}
use Rattle.std.specs.Option.{option_to_list}
use Rattle.par_tree.specs.declared.policy.LockTree.{LockTree}
use Rattle.par_tree.specs.declared.policy.PolicyExpr.{PolicyExpr}
use Rattle.par_tree.specs.Plain as plain
use Rattle.par_tree.specs.Plain.{Sta, Stas, Braces, In, MayBraces, Else, Catches}
use Rattle.par_tree.specs.Plain.{Catch, NoCatch}
use Rattle.par_tree.specs.Plain.{Handler, On, Method, Class, Declaration, Source}
use Rattle.par_faults.specs.par_span_laws.Within.{LockIn, PolicyIn, MayPolicyIn, StaIn}
use Rattle.par_faults.specs.par_span_laws.Within.{BracesIn}
use Rattle.par_faults.specs.par_span_laws.Within.{MayBracesIn}
use Rattle.par_faults.specs.par_span_laws.Within.{ElseIn, StasIn, CatchesIn, HandlerIn}
use Rattle.par_faults.specs.par_span_laws.Within.{FieldIn}
use Rattle.par_faults.specs.par_span_laws.Within.{ChannelIn}
use Rattle.par_faults.specs.par_span_laws.Within.{ParamIn, ThrowIn, MethodIn, ClassIn}
use Rattle.par_faults.specs.par_span_laws.Within.{DeclarationIn, IsWithin}
use Rattle.par_faults.proofs.par_span_laws.Broken.{both, each, mapped}
use Rattle.par_parts.specs.Statements.{inside, in_braces, in_may_braces, in_else}
use Rattle.par_parts.specs.Statements.{in_all}
use Rattle.par_parts.specs.Statements.{in_catches, in_handler}
use Rattle.par_parts.specs.Written.{stmt_policies, stmt_queries, method_policies}
use Rattle.par_parts.specs.Written.{class_policies}
use Rattle.par_parts.specs.Written.{declaration_policies, written, method_queries}
use Rattle.par_parts.specs.Written.{declaration_queries, queried}

module _ (m : ℕ) where
  abbrev Stmts : List Sta → Type 0
  Stmts ss = AllByRecursion (StaIn m) ss

  abbrev join : (xs ys : List Sta) → Stmts xs → Stmts ys → Stmts (xs ++ ys)
  join xs ys p q = both (StaIn m) xs ys p q

  mutual
    unfolding inside StaIn

    inside_in : (s : Sta) → StaIn m s → Stmts (inside s)
    inside_in (plain.Block b at) h = braces_in b h.0
    inside_in (plain.If e b o at) h = join _ _ (braces_in b h.1) (else_in o h.2)
    inside_in (plain.While e b at) h = braces_in b h.1
    inside_in (plain.Try b cs at) h = join _ _ (braces_in b h.0) (catches_in cs h.1)
    inside_in (plain.Return o at) h = tt
    inside_in (plain.Break at) h = tt
    inside_in (plain.Continue at) h = tt
    inside_in (plain.Throw class at) h = tt
    inside_in (plain.Open lock at) h = tt
    inside_in (plain.Close lock at) h = tt
    inside_in (plain.Declare l at) h = tt
    inside_in (plain.Assign target value at) h = tt
    inside_in (plain.Do call at) h = tt
    inside_in (plain.When lock b o at) h = join _ _ (braces_in b h.1) (may_braces_in o h.2)

    braces_in : (b : Braces) → BracesIn m b → Stmts (in_braces b)
    braces_in (In ss at) h = stas_in ss h.0

    may_braces_in : (o : MayBraces) → MayBracesIn m o → Stmts (in_may_braces o)
    may_braces_in plain.NoBraces h = tt
    may_braces_in (plain.Some b) h = braces_in b h

    else_in : (o : Else) → ElseIn m o → Stmts (in_else o)
    else_in plain.NoElse h = tt
    else_in (plain.Otherwise s) h = (h, inside_in s h)

    stas_in : (ss : Stas) → StasIn m ss → Stmts (in_all ss)
    stas_in plain.End h = tt
    stas_in (plain.Then s ss) h = (h.0, join _ _ (inside_in s h.0) (stas_in ss h.1))

    catches_in : (cs : Catches) → CatchesIn m cs → Stmts (in_catches cs)
    catches_in NoCatch h = tt
    catches_in (Catch c cs) h = join _ _ (handler_in c h.0) (catches_in cs h.1)

    handler_in : (c : Handler) → HandlerIn m c → Stmts (in_handler c)
    handler_in (On class name b) h = braces_in b h.2

  -- ---- policies

  abbrev Policies : List PolicyExpr → Type 0
  Policies es = AllByRecursion (PolicyIn m) es

  abbrev also : (xs ys : List PolicyExpr) → Policies xs → Policies ys → Policies (xs ++ ys)
  also xs ys p q = both (PolicyIn m) xs ys p q

  may_in : (o : Option PolicyExpr) → MayPolicyIn m o → Policies (option_to_list o)
  may_in None h = tt
  may_in (Some e) h = (h, tt)

  stmt_in : (s : Sta) → StaIn m s → Policies (stmt_policies s)
  unfolding stmt_policies StaIn
  stmt_in (plain.Declare l at) h = may_in l.policy h.0.2
  stmt_in (plain.Block b at) h = tt
  stmt_in (plain.If e b o at) h = tt
  stmt_in (plain.While e b at) h = tt
  stmt_in (plain.Try b cs at) h = tt
  stmt_in (plain.Return o at) h = tt
  stmt_in (plain.Break at) h = tt
  stmt_in (plain.Continue at) h = tt
  stmt_in (plain.Throw class at) h = tt
  stmt_in (plain.Open lock at) h = tt
  stmt_in (plain.Close lock at) h = tt
  stmt_in (plain.Assign target value at) h = tt
  stmt_in (plain.Do call at) h = tt
  stmt_in (plain.When lock b o at) h = tt

  method_in : (f : Method) → MethodIn m f → Policies (method_policies f)
  method_in f h =
      let params =
      also _ _ (may_in f.policy h.policy)
      (each (ParamIn m) (PolicyIn m) _ f.params (λ p h. may_in p.policy h.2) h.params) in
      let throws =
      also _ _ (also _ _ params h.effects)
      (mapped (ThrowIn m) (PolicyIn m) _ f.throws (λ t h. h.1) h.throws) in
      also _ _ throws (each (StaIn m) (PolicyIn m) _ (in_braces f.body) stmt_in
      (braces_in f.body h.body))

  class_in : (c : Class) → ClassIn m c → Policies (class_policies c)
  class_in c h =
      let fields =
      also _ _ (may_in c.birth h.birth)
      (each (FieldIn m) (PolicyIn m) _ c.fields (λ f h. may_in f.policy h.2) h.fields) in
      let channels =
      also _ _ fields (each (ChannelIn m) (PolicyIn m) _ c.channels
      (λ x h. may_in x.policy h.1) h.channels) in
      also _ _ channels (each (MethodIn m) (PolicyIn m) _ c.methods method_in h.methods)

  declaration_in : (d : Declaration) → DeclarationIn m d → Policies (declaration_policies d)
  declaration_in (plain.Actors ids) h = tt
  declaration_in (plain.Lock l) h = may_in l.policy h.1
  declaration_in (plain.Policy p) h = (h.1, tt)
  declaration_in (plain.Declared c) h = class_in c h

  pub written_in : (source : Source) → IsWithin m source → Policies (written source)
  written_in source h = each (DeclarationIn m) (PolicyIn m) _ source declaration_in h

  -- ---- queries

  abbrev Queries : List LockTree → Type 0
  Queries ls = AllByRecursion (LockIn m) ls

  query_in : (s : Sta) → StaIn m s → Queries (stmt_queries s)
  unfolding stmt_queries StaIn
  query_in (plain.When lock b o at) h = (h.0, tt)
  query_in (plain.Block b at) h = tt
  query_in (plain.If e b o at) h = tt
  query_in (plain.While e b at) h = tt
  query_in (plain.Try b cs at) h = tt
  query_in (plain.Return o at) h = tt
  query_in (plain.Break at) h = tt
  query_in (plain.Continue at) h = tt
  query_in (plain.Throw class at) h = tt
  query_in (plain.Open lock at) h = tt
  query_in (plain.Close lock at) h = tt
  query_in (plain.Declare l at) h = tt
  query_in (plain.Assign target value at) h = tt
  query_in (plain.Do call at) h = tt

  queries_in : (f : Method) → MethodIn m f → Queries (method_queries f)
  queries_in f h = each (StaIn m) (LockIn m) _ (in_braces f.body) query_in (braces_in f.body h.body)

  asked_in : (d : Declaration) → DeclarationIn m d → Queries (declaration_queries d)
  asked_in (plain.Actors ids) h = tt
  asked_in (plain.Lock l) h = tt
  asked_in (plain.Policy p) h = tt
  asked_in (plain.Declared c) h = each (MethodIn m) (LockIn m) _ c.methods queries_in h.methods

  pub queried_in : (source : Source) → IsWithin m source → Queries (queried source)
  queried_in source h = each (DeclarationIn m) (LockIn m) _ source asked_in h
