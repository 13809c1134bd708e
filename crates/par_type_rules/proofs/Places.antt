-- Rules on types are broken at places of the tree.
use Rattle.std.proofs.Common.{ℕ, ◌+◌, ◌≤◌, Bool, true, false, List, []}
use Rattle.std.proofs.Common.{◌∷◌, ◌++◌, Option, Some, None}
use Rattle.std.specs.List.{AllByRecursion}
use Rattle.par_tree.specs.declared.ident.Ident.{Ident}
use Rattle.par_tree.specs.declared.types.TypeTree.{TypeTree}
use Rattle.par_tree.specs.declared.types.TypeTree.TheVariants as type
use Rattle.par_tree.specs.declared.decl.FieldDecl.{FieldDecl}
use Rattle.par_tree.specs.declared.decl.ParamDecl.{ParamDecl}
use Rattle.par_tree.specs.declared.decl.ThrowDecl.{ThrowDecl}
use Rattle.par_tree.specs.Plain as plain
use Rattle.par_tree.specs.Plain.{Exp, Exps, MayExp, Sta, Stas, Braces, In, MayBraces, Else, Catches}
use Rattle.par_tree.specs.Plain.{Catch, NoCatch, Handler, On, Local, Method, Declaration}
use Rattle.par_tree.specs.Plain.{place}
use Rattle.par_completes.specs.par_typed.declared.ty.Ty.{Ty}
use Rattle.par_completes.specs.par_typed.declared.table.Table.{Table}
use Rattle.par_refusals.specs.declared.refusal.Refusal.{Refusal}
use Rattle.par_refusals.specs.First.{when, broken}
use Rattle.par_span_laws.specs.Within.{IdentIn, TypeIn, ResultIn, ExpIn, MayExpIn, ExpsIn, LocalIn}
use Rattle.par_span_laws.specs.Within.{StaIn, BracesIn, MayBracesIn, ElseIn, StasIn, CatchesIn}
use Rattle.par_span_laws.specs.Within.{HandlerIn, FieldIn, ParamIn, ThrowIn, MethodIn, ClassIn}
use Rattle.par_span_laws.specs.Within.{DeclarationIn, IsWithin}
use Rattle.par_span_laws.proofs.Built.{place_in}
use Rattle.par_span_laws.proofs.Broken as broken
use Rattle.par_completes.specs.Completes.{completes}
use Rattle.par_scope.specs.declared.locals.Slot.{Slot}
use Rattle.par_scope.specs.declared.meaning.Receiver.{Receiver}
use Rattle.par_scope.specs.declared.meaning.Receiver.TheVariants as receiver
use Rattle.par_scope.specs.declared.meaning.Callee.{Callee}
use Rattle.par_scope.specs.Names.{Names}
use Rattle.par_scope.specs.Locals.{Scope}
use Rattle.par_scope.specs.Home.{Home}
use Rattle.par_scope.specs.Members.{any_value, value_of}
use Rattle.par_scope.specs.Meaning.{param_at}
use Rattle.par_type_rules.specs.Fits.{is_void, operand}
use Rattle.par_completes.specs.par_typed.declared.ty.Ty.TheVariants as ty
use Rattle.par_type_rules.specs.Exprs.{misfits, number_fault, is_number, unless_number}
use Rattle.par_type_rules.specs.Exprs.{exception_fault}
use Rattle.par_type_rules.specs.Exprs.{member_fault, count_fault, misfit, expr_faults}
use Rattle.par_type_rules.specs.Exprs.{receiver_faults}
use Rattle.par_type_rules.specs.Exprs.{args_faults, value_faults}
use Rattle.par_type_rules.specs.Stmts.{stmt_place, type_fault, throw_fault, slot_of}
use Rattle.par_type_rules.specs.Stmts.{target_slot, result_slot, local_faults}
use Rattle.par_type_rules.specs.Stmts.{result_faults, declares, stmt_faults, braces_faults}
use Rattle.par_type_rules.specs.Stmts.{may_braces_faults, else_faults, stmts_faults, catches_faults}
use Rattle.par_type_rules.specs.Stmts.{handler_faults}
use Rattle.par_type_rules.specs.Methods.{params_faults, throws_faults, fields_faults}
use Rattle.par_type_rules.specs.Methods.{result_fault, body_faults}
use Rattle.par_type_rules.specs.Methods.{methods_faults, class_faults}
use Rattle.par_type_rules.specs.Program.{declaration_faults, declarations_faults}
use Rattle.par_type_rules.specs.Places.{TypesAreBrokenWithin}

module _ (m : ℕ) where
  abbrev Within : List Refusal → Type 0
  Within faults = broken.Within m faults

  abbrev there : (b : Bool) (f : Refusal) → f.at ≤ m → Within (when b f)
  there b f h = broken.there m b f h

  abbrev join : (xs ys : List Refusal) → Within xs → Within ys → Within (xs ++ ys)
  join xs ys p q = broken.join m xs ys p q

  -- ---- expressions

  misfits_in : (wanted : Slot) (t : Option Ty) (sure : Bool) (at : ℕ) → at ≤ m
      → Within (misfits wanted t sure at)
  misfits_in wanted t sure at h = join _ _ (there _ _ h) (there _ _ h)

  misfit_in : (home : Home) (scope : Scope) (wanted : Slot) (e : Exp) → ExpIn m e
      → Within (misfit home scope wanted e)
  misfit_in home scope wanted e h = misfits_in wanted _ _ (place e) (place_in m e h)

  number_in : (n at : ℕ) → at ≤ m → Within (number_fault n at)
  number_in n at h = there _ _ h

  unless_in : (b : Bool) (fs : List Refusal) → Within fs → Within (unless_number b fs)
  unfolding unless_number
  unless_in true fs h = tt
  unless_in false fs h = h

  exception_in : (home : Home) (class : Ident) → IdentIn m class
      → Within (exception_fault home class)
  exception_in home class h = there _ _ h

  member_in : (r : Receiver) (known : Bool) (at : ℕ) → at ≤ m → Within (member_fault r known at)
  unfolding member_fault
  member_in receiver.Own known at h = tt
  member_in (receiver.Class class) known at h = tt
  member_in (receiver.Object None) known at h = tt
  member_in (receiver.Object (Some t)) known at h = there _ _ h

  count_in : (o : Option ℕ) (n at : ℕ) → at ≤ m → Within (count_fault o n at)
  unfolding count_fault
  count_in None n at h = tt
  count_in (Some wanted) n at h = there _ _ h

  mutual
    unfolding expr_faults ExpIn

    exp_in : (home : Home) (scope : Scope) (e : Exp) → ExpIn m e → Within (expr_faults home scope e)
    exp_in home scope (plain.Int n at) h = number_in n at h
    exp_in home scope (plain.True at) h = tt
    exp_in home scope (plain.False at) h = tt
    exp_in home scope (plain.Null at) h = tt
    exp_in home scope (plain.This at) h = tt
    exp_in home scope (plain.New class at) h = exception_in home class h.0
    exp_in home scope (plain.Name name at) h = tt
    exp_in home scope (plain.Field e f at) h =
        join _ _ (join _ _ (exp_in home scope e h.0) (misfit_in home scope any_value e h.0))
        (member_in _ _ f.at h.1)
    exp_in home scope (plain.Call o f es at) h =
        join _ _ (join _ _ (join _ _ (receiver_in home scope o h.0) (member_in _ _ f.at h.1))
        (args_in home scope _ 0 es h.2)) (count_in _ _ f.at h.1)
    exp_in home scope (plain.Neg e at) h =
        unless_in (is_number e) _
        (join _ _ (exp_in home scope e h.0) (misfit_in home scope (value_of ty.Int) e h.0))
    exp_in home scope (plain.Not e at) h =
        join _ _ (exp_in home scope e h.0) (misfit_in home scope (value_of ty.Boolean) e h.0)
    exp_in home scope (plain.Binary op a b at) h =
        join _ _
        (join _ _ (join _ _ (exp_in home scope a h.0) (misfit_in home scope (operand op) a h.0))
        (join _ _ (exp_in home scope b h.1) (misfit_in home scope (operand op) b h.1)))
        (there _ _ h.2)

    receiver_in : (home : Home) (scope : Scope) (o : MayExp) → MayExpIn m o
        → Within (receiver_faults home scope o)
    receiver_in home scope plain.Absent h = tt
    receiver_in home scope (plain.Present e) h =
        join _ _ (exp_in home scope e h) (misfit_in home scope any_value e h)

    args_in : (home : Home) (scope : Scope) (callee : Callee) (k : ℕ) (es : Exps) → ExpsIn m es
        → Within (args_faults home scope callee k es)
    args_in home scope callee k plain.NoExps h = tt
    args_in home scope callee k (plain.More e es) h =
        join _ _ (join _ _ (exp_in home scope e h.0)
        (misfit_in home scope (param_at home.table callee k) e h.0))
        (args_in home scope callee (k + 1) es h.1)

  value_in : (home : Home) (scope : Scope) (wanted : Slot) (e : Exp) → ExpIn m e
      → Within (value_faults home scope wanted e)
  value_in home scope wanted e h =
      join _ _ (exp_in home scope e h) (misfit_in home scope wanted e h)

  -- ---- statements

  type_in : (home : Home) (t : TypeTree) → TypeIn m t → Within (type_fault home t)
  unfolding type_fault
  type_in home (type.Int at) h = tt
  type_in home (type.Boolean at) h = tt
  type_in home (type.Class class) h = exception_in home class h

  throw_in : (home : Home) (class : Ident) → IdentIn m class → Within (throw_fault home class)
  throw_in home class h = there _ _ h

  local_in : (home : Home) (scope : Scope) (l : Local) → LocalIn m l
      → Within (local_faults home scope l)
  local_in home scope l h =
      join _ _ (type_in home l.ty h.1) (value_in home scope (slot_of home l) l.value h.3)

  result_in : (home : Home) (scope : Scope) (o : MayExp) (at : ℕ) → MayExpIn m o → at ≤ m
      → Within (result_faults home scope o at)
  unfolding result_faults ExpIn
  result_in home scope plain.Absent at h k = there _ _ k
  result_in home scope (plain.Present e) at h k =
      join _ _ (value_in home scope (result_slot (is_void home.result) home.result) e h)
      (there _ _ k)

  sta_place_in : (s : Sta) → StaIn m s → stmt_place s ≤ m
  unfolding StaIn stmt_place
  sta_place_in (plain.Block b at) h = h.1
  sta_place_in (plain.If e b o at) h = h.3
  sta_place_in (plain.While e b at) h = h.2
  sta_place_in (plain.Try b cs at) h = h.2
  sta_place_in (plain.Return o at) h = h.1
  sta_place_in (plain.Break at) h = h
  sta_place_in (plain.Continue at) h = h
  sta_place_in (plain.Throw class at) h = h.1
  sta_place_in (plain.Open lock at) h = h.1
  sta_place_in (plain.Close lock at) h = h.1
  sta_place_in (plain.Declare l at) h = h.1
  sta_place_in (plain.Assign target value at) h = h.2
  sta_place_in (plain.Do call at) h = h.1
  sta_place_in (plain.When lock b o at) h = h.3

  mutual
    unfolding stmt_faults StaIn

    sta_in : (home : Home) (looped : Bool) (scope : Scope) (s : Sta) → StaIn m s
        → Within (stmt_faults home looped scope s)
    sta_in home looped scope (plain.Block b at) h = braces_in home looped scope b h.0
    sta_in home looped scope (plain.If e b o at) h =
        join _ _ (join _ _ (value_in home scope (value_of ty.Boolean) e h.0)
        (braces_in home looped scope b h.1)) (else_in home looped scope o h.2)
    sta_in home looped scope (plain.While e b at) h =
        join _ _ (value_in home scope (value_of ty.Boolean) e h.0) (braces_in home true scope b h.1)
    sta_in home looped scope (plain.Try b cs at) h =
        join _ _ (braces_in home looped scope b h.0) (catches_in home looped scope cs h.1)
    sta_in home looped scope (plain.Return o at) h = result_in home scope o at h.0 h.1
    sta_in home looped scope (plain.Break at) h = there _ _ h
    sta_in home looped scope (plain.Continue at) h = there _ _ h
    sta_in home looped scope (plain.Throw class at) h = throw_in home class h.0
    sta_in home looped scope (plain.Open lock at) h = tt
    sta_in home looped scope (plain.Close lock at) h = tt
    sta_in home looped scope (plain.Declare l at) h = local_in home scope l h.0
    sta_in home looped scope (plain.Assign target value at) h =
        join _ _ (exp_in home scope target h.0)
        (value_in home scope (target_slot home scope target) value h.1)
    sta_in home looped scope (plain.Do call at) h = exp_in home scope call h.0
    sta_in home looped scope (plain.When lock b o at) h =
        join _ _ (braces_in home looped scope b h.1) (may_braces_in home looped scope o h.2)

    braces_in : (home : Home) (looped : Bool) (scope : Scope) (b : Braces) → BracesIn m b
        → Within (braces_faults home looped scope b)
    braces_in home looped scope (In ss at) h = stas_in home looped scope true ss h.0

    may_braces_in : (home : Home) (looped : Bool) (scope : Scope) (o : MayBraces) → MayBracesIn m o
        → Within (may_braces_faults home looped scope o)
    may_braces_in home looped scope plain.NoBraces h = tt
    may_braces_in home looped scope (plain.Some b) h = braces_in home looped scope b h

    else_in : (home : Home) (looped : Bool) (scope : Scope) (o : Else) → ElseIn m o
        → Within (else_faults home looped scope o)
    else_in home looped scope plain.NoElse h = tt
    else_in home looped scope (plain.Otherwise s) h = sta_in home looped scope s h

    stas_in : (home : Home) (looped : Bool) (scope : Scope) (reached : Bool) (ss : Stas)
        → StasIn m ss → Within (stmts_faults home looped scope reached ss)
    stas_in home looped scope reached plain.End h = tt
    stas_in home looped scope reached (plain.Then s ss) h =
        join _ _ (join _ _ (there _ _ (sta_place_in s h.0)) (sta_in home looped scope s h.0))
        (stas_in home looped (declares home s scope) (completes s) ss h.1)

    catches_in : (home : Home) (looped : Bool) (scope : Scope) (cs : Catches) → CatchesIn m cs
        → Within (catches_faults home looped scope cs)
    catches_in home looped scope NoCatch h = tt
    catches_in home looped scope (Catch c cs) h =
        join _ _ (handler_in home looped scope c h.0) (catches_in home looped scope cs h.1)

    handler_in : (home : Home) (looped : Bool) (scope : Scope) (c : Handler) → HandlerIn m c
        → Within (handler_faults home looped scope c)
    handler_in home looped scope (On class name b) h =
        join _ _ (throw_in home class h.0) (braces_in home looped scope b h.2)

  -- ---- members

  params_in : (home : Home) (ps : List ParamDecl) → AllByRecursion (ParamIn m) ps
      → Within (params_faults home ps)
  unfolding params_faults
  params_in home [] h = tt
  params_in home (p ∷ ps) h = join _ _ (type_in home p.ty h.0.1) (params_in home ps h.1)

  throws_in : (home : Home) (ts : List ThrowDecl) → AllByRecursion (ThrowIn m) ts
      → Within (throws_faults home ts)
  unfolding throws_faults
  throws_in home [] h = tt
  throws_in home (t ∷ ts) h = join _ _ (throw_in home t.class h.0.0) (throws_in home ts h.1)

  fields_in : (home : Home) (fs : List FieldDecl) → AllByRecursion (FieldIn m) fs
      → Within (fields_faults home fs)
  unfolding fields_faults
  fields_in home [] h = tt
  fields_in home (f ∷ fs) h = join _ _ (type_in home f.ty h.0.1) (fields_in home fs h.1)

  result_type_in : (home : Home) (o : Option TypeTree) → ResultIn m o → Within (result_fault home o)
  unfolding result_fault
  result_type_in home None h = tt
  result_type_in home (Some t) h = type_in home t h

  body_in : (home : Home) (f : Method) → MethodIn m f → Within (body_faults home f)
  body_in home f h =
      join _ _
      (join _ _
      (join _ _ (join _ _ (result_type_in home f.result h.result)
      (params_in home f.params h.params)) (throws_in home f.throws h.throws))
      (braces_in home false _ f.body h.body)) (there _ _ h.id)

  methods_in : (table : Table) (names : Names) (class : ℕ) (ms : List Method)
      → AllByRecursion (MethodIn m) ms → Within (methods_faults table names class ms)
  unfolding methods_faults
  methods_in table names class [] h = tt
  methods_in table names class (f ∷ fs) h =
      join _ _ (body_in _ f h.0) (methods_in table names class fs h.1)

  class_in : (table : Table) (names : Names) (o : Option ℕ) (c : plain.Class) → ClassIn m c
      → Within (class_faults table names o c)
  unfolding class_faults
  class_in table names None c h = tt
  class_in table names (Some class) c h =
      join _ _ (fields_in _ c.fields h.fields) (methods_in table names class c.methods h.methods)

  declaration_in : (table : Table) (names : Names) (d : Declaration) → DeclarationIn m d
      → Within (declaration_faults table names d)
  unfolding declaration_faults
  declaration_in table names (plain.Actors ids) h = tt
  declaration_in table names (plain.Lock l) h = tt
  declaration_in table names (plain.Policy p) h = tt
  declaration_in table names (plain.Declared c) h = class_in table names _ c h

  declarations_in : (table : Table) (names : Names) (ds : List Declaration) → IsWithin m ds
      → Within (declarations_faults table names ds)
  unfolding declarations_faults
  declarations_in table names [] h = tt
  declarations_in table names (d ∷ ds) h =
      join _ _ (declaration_in table names d h.0) (declarations_in table names ds h.1)

pub types_broken_within : TypesAreBrokenWithin
types_broken_within m table source h = declarations_in m table _ source h
