-- The frames of a body name classes of the program.
use Rattle.std.proofs.Common.{◌≡◌, ℕ, zero, suc, ◌+◌, ◌-◌, Bool, true, false, List, [], ◌∷◌, ◌++◌}
use Rattle.std.proofs.Common.{length, map, take, replicate, Option, Some, None, slice_get}
use Rattle.std.proofs.Common.{slice_set}
use Rattle.std.proofs.Common.{refl}
use Rattle.std.specs.List.{AllByRecursion, flat_map}
use Rattle.par_typed.specs.declared.ty.Ty.{Ty}
use Rattle.par_typed.specs.declared.ty.Ty.TheVariants as ty
use Rattle.par_typed.specs.declared.table.MethodInfo.{MethodInfo}
use Rattle.par_typed.specs.declared.table.Table.{Table}
use Rattle.par_typed.specs.Plain.{mark, TExp, Int, Boolean, Null, This, New, Local, Static, Field}
use Rattle.par_typed.specs.Plain.{Input, Output, Call, Neg, Not, Binary}
use Rattle.par_typed.specs.Plain.{MayTExp, Absent, Present, TExps, NoExps, More}
use Rattle.par_typed.specs.Plain.{TSta, Block, If, While, Try, Return, Break, Continue, Throw, Open}
use Rattle.par_typed.specs.Plain.{Close, SetLocal, SetStatic, SetField, Eval, When}
use Rattle.par_typed.specs.Plain.{MayTSta, NoElse, Otherwise, TStas, End, Then, TCatches, NoCatch}
use Rattle.par_typed.specs.Plain.{Catch}
use Rattle.par_completes.specs.Typed.{completes, is_true}
use Rattle.par_compile_laws.specs.par_code_form.declared.labelled.LabelFrame.{LabelFrame}
use Rattle.par_compile_laws.specs.par_code_form.Again.{goes_again}
use Rattle.par_compile_laws.specs.par_code_form.Code.{Words, Shape, Calculates, Compares, Sames}
use Rattle.par_compile_laws.specs.par_code_form.Code.{Decides, shape_of}
use Rattle.par_compile_laws.specs.par_code_form.Code.{shape_labels, expr_labels, may_labels}
use Rattle.par_compile_laws.specs.par_code_form.Code.{labels}
use Rattle.par_compile_laws.specs.par_code_form.Frames.{Types, declared_type, scope_behind}
use Rattle.par_compile_laws.specs.par_code_form.Frames.{with_operand}
use Rattle.par_compile_laws.specs.par_code_form.Frames.{with_receiver, below, slot, frame}
use Rattle.par_compile_laws.specs.par_code_form.Frames.{frame_if}
use Rattle.par_compile_laws.specs.par_code_form.Frames.{test_frames}
use Rattle.par_compile_laws.specs.par_code_form.Frames.{shape_frames, expr_frames, may_frames}
use Rattle.par_compile_laws.specs.par_code_form.Frames.{args_frames}
use Rattle.par_compile_laws.specs.par_code_form.Frames.{loop_frames, frames, else_frames}
use Rattle.par_compile_laws.specs.par_code_form.Frames.{all_frames}
use Rattle.par_compile_laws.specs.par_code_form.Frames.{catch_frames}
use Rattle.par_compile_laws.specs.par_code_form.Method.{set_by_call, first_scope, labelled}
use Rattle.par_compile_laws.specs.par_code_form.Named.{words_of}
use Rattle.par_compile_laws.specs.Constants.{slot_class, frame_classes}
use Rattle.par_link_laws.specs.Bodies.{IsTypeIn, ExpLinks, MayExpLinks, ExpsLink}
use Rattle.par_link_laws.specs.Bodies.{StaLinks, ElseLinks, StasLink, CatchesLink, BodyLinks}
use Rattle.par_link_laws.specs.Linkable.{IsClassWord, CodeNamesThere}
use Rattle.par_link_laws.proofs.Coding.{class-word, items-there, handlers-there}
use Rattle.par_link_laws.proofs.Lists.{each-of}
use Rattle.par_link_laws.proofs.Zips.{all-append}

module _ (table : Table) where
  abbrev w : Words
  w = words_of table

  abbrev AreIn : Types → Type 0
  AreIn ts = AllByRecursion (IsTypeIn table) ts

  abbrev AreNamed : List LabelFrame → Type 0
  AreNamed fs = AllByRecursion (IsClassWord table) (flat_map frame_classes fs)

  -- ---- types

  type-there : (t : Ty) → IsTypeIn table t
      → AllByRecursion (IsClassWord table) (slot_class (slot w t))
  type-there ty.Int h = tt
  type-there ty.Boolean h = tt
  type-there (ty.Class c) h = (class-word table c h, tt)
  type-there ty.Null h = tt
  type-there ty.Void h = tt

  types-there : (ts : Types) → AreIn ts
      → AllByRecursion (IsClassWord table) (flat_map slot_class (map (slot w) ts))
  types-there [] h = tt
  types-there (t ∷ ts) h =
      all-append (IsClassWord table) (slot_class (slot w t))
      (flat_map slot_class (map (slot w) ts)) (type-there t h.0) (types-there ts h.1)

  set-there : (ts : Types) (x : ℕ) (t : Ty) → AreIn ts → IsTypeIn table t
      → AreIn (slice_set ts x t)
  set-there [] x t h is = tt
  set-there (y ∷ ts) zero t h is = (is, h.1)
  set-there (y ∷ ts) (suc x) t h is = (h.0, set-there ts x t h.1 is)

  take-there : (n : ℕ) (ts : Types) → AreIn ts → AreIn (take n ts)
  take-there zero ts h = tt
  take-there (suc n) [] h = tt
  take-there (suc n) (t ∷ ts) h = (h.0, take-there n ts h.1)

  void-there : (n : ℕ) → AreIn (replicate n ty.Void)
  void-there zero = tt
  void-there (suc n) = (tt, void-there n)

  typed : (e : TExp) → ExpLinks table e → IsTypeIn table (mark e).ty
  unfolding ExpLinks mark
  typed (Int n m) h = h
  typed (Boolean b m) h = h
  typed (Null m) h = h
  typed (This m) h = h
  typed (New c m) h = h.0
  typed (Local x m) h = h
  typed (Static c f m) h = h.0
  typed (Field e c f m) h = h.0
  typed (Input c k m) h = h.0
  typed (Output c k e m) h = h.0
  typed (Call c i o es m) h = h.0
  typed (Neg e m) h = h.0
  typed (Not e m) h = h.0
  typed (Binary op a b m) h = h.0

  operand-there : (os : Types) (e : TExp) → AreIn os → ExpLinks table e → AreIn (with_operand os e)
  operand-there os e h is =
      all-append (IsTypeIn table) os ((mark e).ty ∷ []) h (typed e is, tt)

  boolean-there : (os : Types) → AreIn os → AreIn (os ++ ty.Boolean ∷ [])
  boolean-there os h = all-append (IsTypeIn table) os (ty.Boolean ∷ []) h (tt, tt)

  receiver-there : (os : Types) (o : MayTExp) → AreIn os → MayExpLinks table o
      → AreIn (with_receiver os o)
  unfolding ExpLinks
  receiver-there os Absent h is = h
  receiver-there os (Present e) h is = operand-there os e h is

  below-there : (s : Shape) (os : Types) (a : TExp) → AreIn os → ExpLinks table a
      → AreIn (below s os a)
  below-there (Calculates o i) os a h is = operand-there os a h is
  below-there (Compares t) os a h is = operand-there os a h is
  below-there (Sames b) os a h is = operand-there os a h is
  below-there (Decides o) os a h is = h

  -- ---- frames

  frame-there : (n : ℕ) (scope os : Types) (k : List LabelFrame) → AreIn scope → AreIn os
      → AreNamed k → AreNamed (frame w n scope os ∷ k)
  frame-there n scope os k in_scope in_stack after =
      all-append (IsClassWord table) (frame_classes (frame w n scope os)) (flat_map frame_classes k)
      (all-append (IsClassWord table) (flat_map slot_class (map (slot w) scope))
      (flat_map slot_class (map (slot w) os)) (types-there scope in_scope)
      (types-there os in_stack)) after

  if-there : (b : Bool) (n : ℕ) (scope : Types) (k : List LabelFrame) → AreIn scope → AreNamed k
      → AreNamed (frame_if w b n scope k)
  if-there true n scope k in_scope after = frame-there n scope [] k in_scope tt after
  if-there false n scope k in_scope after = after

  test-there : (n : ℕ) (scope os : Types) (k : List LabelFrame) → AreIn scope → AreIn os
      → AreNamed k → AreNamed (test_frames w n scope os k)
  test-there n scope os k in_scope in_stack after =
      frame-there n scope os (frame w (n + 1) scope (os ++ ty.Boolean ∷ []) ∷ k) in_scope in_stack
      (frame-there (n + 1) scope (os ++ ty.Boolean ∷ []) k in_scope (boolean-there os in_stack)
      after)

  shape-there : (s : Shape) (n : ℕ) (scope os : Types) (k : List LabelFrame) → AreIn scope
      → AreIn os → AreNamed k → AreNamed (shape_frames w s n scope os k)
  shape-there (Calculates o i) n scope os k in_scope in_stack after = after
  shape-there (Compares t) n scope os k in_scope in_stack after =
      test-there n scope os k in_scope in_stack after
  shape-there (Sames b) n scope os k in_scope in_stack after =
      test-there n scope os k in_scope in_stack after
  shape-there (Decides o) n scope os k in_scope in_stack after =
      frame-there n scope (os ++ ty.Boolean ∷ []) k in_scope (boolean-there os in_stack) after

  mutual
    unfolding expr_frames ExpLinks

    exp-framed : (e : TExp) (n : ℕ) (scope os : Types) (k : List LabelFrame) → ExpLinks table e
        → AreIn scope → AreIn os → AreNamed k → AreNamed (expr_frames w e n scope os k)
    exp-framed (Int v m) n scope os k h in_scope in_stack after = after
    exp-framed (Boolean b m) n scope os k h in_scope in_stack after = after
    exp-framed (Null m) n scope os k h in_scope in_stack after = after
    exp-framed (This m) n scope os k h in_scope in_stack after = after
    exp-framed (New c m) n scope os k h in_scope in_stack after = after
    exp-framed (Local x m) n scope os k h in_scope in_stack after = after
    exp-framed (Static c f m) n scope os k h in_scope in_stack after = after
    exp-framed (Field e c f m) n scope os k h in_scope in_stack after =
        exp-framed e n scope os k h.2 in_scope in_stack after
    exp-framed (Input c i m) n scope os k h in_scope in_stack after = after
    exp-framed (Output c i e m) n scope os k h in_scope in_stack after =
        exp-framed e n scope os k h.2 in_scope in_stack after
    exp-framed (Call c i o es m) n scope os k h in_scope in_stack after =
        may-framed o n scope os _ h.2 in_scope in_stack
        (args-framed es (may_labels o n) scope (with_receiver os o) k h.3 in_scope
        (receiver-there os o in_stack h.2) after)
    exp-framed (Neg e m) n scope os k h in_scope in_stack after =
        exp-framed e n scope os k h.1 in_scope in_stack after
    exp-framed (Not e m) n scope os k h in_scope in_stack after =
        exp-framed e (n + 2) scope os _ h.1 in_scope in_stack
        (test-there n scope os k in_scope in_stack after)
    exp-framed (Binary op a b m) n scope os k h in_scope in_stack after =
        let s : Shape = shape_of op a in
        let l : ℕ = n + shape_labels s in
        exp-framed a l scope os _ h.1 in_scope in_stack
        (exp-framed b (expr_labels a l) scope (below s os a) _ h.2 in_scope
        (below-there s os a in_stack h.1) (shape-there s n scope os k in_scope in_stack after))

    may-framed : (o : MayTExp) (n : ℕ) (scope os : Types) (k : List LabelFrame)
        → MayExpLinks table o → AreIn scope → AreIn os → AreNamed k
        → AreNamed (may_frames w o n scope os k)
    may-framed Absent n scope os k h in_scope in_stack after = after
    may-framed (Present e) n scope os k h in_scope in_stack after =
        exp-framed e n scope os k h in_scope in_stack after

    args-framed : (es : TExps) (n : ℕ) (scope os : Types) (k : List LabelFrame)
        → ExpsLink table es → AreIn scope → AreIn os → AreNamed k
        → AreNamed (args_frames w es n scope os k)
    args-framed NoExps n scope os k h in_scope in_stack after = after
    args-framed (More e es) n scope os k h in_scope in_stack after =
        exp-framed e n scope os _ h.0 in_scope in_stack
        (args-framed es (expr_labels e n) scope (with_operand os e) k h.1 in_scope
        (operand-there os e in_stack h.0) after)

  loop-framed : (b : Bool) (e : TExp) (n : ℕ) (scope : Types) (k : List LabelFrame)
      → ExpLinks table e → AreIn scope → AreNamed k → AreNamed (loop_frames w b e n scope k)
  loop-framed true e n scope k h in_scope after = after
  loop-framed false e n scope k h in_scope after = exp-framed e n scope [] k h in_scope tt after

  module _ (declared : Types) (are_in : AreIn declared) where
    local-there : (x : ℕ) (o : Option Ty) → slice_get declared x ≡ o
        → IsTypeIn table (declared_type o)
    local-there x None at = tt
    local-there x (Some t) at = each-of (IsTypeIn table) declared x t are_in at

    scope-there : (s : TSta) (scope : Types) → AreIn scope → AreIn (scope_behind declared s scope)
    scope-there (Block ss at p) scope h = h
    scope-there (If e s o at p) scope h = h
    scope-there (While e s at p) scope h = h
    scope-there (Try s cs at p) scope h = h
    scope-there (Return o at p) scope h = h
    scope-there (Break at p) scope h = h
    scope-there (Continue at p) scope h = h
    scope-there (Throw c at p) scope h = h
    scope-there (Open l at p) scope h = h
    scope-there (Close l at p) scope h = h
    scope-there (SetLocal x q e at p) scope h =
        set-there scope x (declared_type (slice_get declared x)) h
        (local-there x (slice_get declared x) refl)
    scope-there (SetStatic c f e at p) scope h = h
    scope-there (SetField o c f e at p) scope h = h
    scope-there (Eval e at p) scope h = h
    scope-there (When l s o at p) scope h = h

    mutual
      unfolding frames StaLinks

      sta-framed : (s : TSta) (n : ℕ) (scope : Types) (k : List LabelFrame) → StaLinks table s
          → AreIn scope → AreNamed k → AreNamed (frames w declared s n scope k)
      sta-framed (Block ss at p) n scope k h in_scope after =
          all-framed ss n scope k h in_scope after
      sta-framed (If e s o at p) n scope k h in_scope after =
          let i : ℕ = expr_labels e (n + 2) in
          let last : List LabelFrame = frame_if w (completes s) (n + 1) scope k in
          let other : List LabelFrame = else_frames w declared o (labels s i) scope last in
          exp-framed e (n + 2) scope [] _ h.0 in_scope tt
          (sta-framed s i scope (frame w n scope [] ∷ other) h.1 in_scope
          (frame-there n scope [] other in_scope tt
          (else-framed o (labels s i) scope last h.2 in_scope
          (if-there (completes s) (n + 1) scope k in_scope after))))
      sta-framed (While e s at p) n scope k h in_scope after =
          if-there (goes_again s) n scope _ in_scope
          (loop-framed (is_true e) e (n + 2) scope _ h.0 in_scope
          (sta-framed s (expr_labels e (n + 2)) scope _ h.1 in_scope
          (if-there (completes (While e s at p)) (n + 1) scope k in_scope after)))
      sta-framed (Try s cs at p) n scope k h in_scope after =
          sta-framed s (n + 3) scope _ h.0 in_scope
          (catch-framed cs (labels s (n + 3)) scope _ h.1 in_scope
          (if-there (completes (Try s cs at p)) (n + 2) scope k in_scope after))
      sta-framed (Return o at p) n scope k h in_scope after =
          may-framed o n scope [] k h in_scope tt after
      sta-framed (Break at p) n scope k h in_scope after = after
      sta-framed (Continue at p) n scope k h in_scope after = after
      sta-framed (Throw c at p) n scope k h in_scope after = after
      sta-framed (Open l at p) n scope k h in_scope after = after
      sta-framed (Close l at p) n scope k h in_scope after = after
      sta-framed (SetLocal x q e at p) n scope k h in_scope after =
          exp-framed e n scope [] k h in_scope tt after
      sta-framed (SetStatic c f e at p) n scope k h in_scope after =
          exp-framed e n scope [] k h.1 in_scope tt after
      sta-framed (SetField o c f e at p) n scope k h in_scope after =
          exp-framed o n scope [] _ h.1 in_scope tt
          (exp-framed e (expr_labels o n) scope (with_operand [] o) k h.2 in_scope
          (operand-there [] o tt h.1) after)
      sta-framed (Eval e at p) n scope k h in_scope after =
          exp-framed e n scope [] k h in_scope tt after
      sta-framed (When l s o at p) n scope k h in_scope after =
          let last : List LabelFrame = frame_if w (completes s) (n + 1) scope k in
          let other : List LabelFrame = else_frames w declared o (labels s (n + 2)) scope last in
          sta-framed s (n + 2) scope (frame w n scope [] ∷ other) h.1 in_scope
          (frame-there n scope [] other in_scope tt
          (else-framed o (labels s (n + 2)) scope last h.2 in_scope
          (if-there (completes s) (n + 1) scope k in_scope after)))

      else-framed : (o : MayTSta) (n : ℕ) (scope : Types) (k : List LabelFrame)
          → ElseLinks table o → AreIn scope → AreNamed k
          → AreNamed (else_frames w declared o n scope k)
      else-framed NoElse n scope k h in_scope after = after
      else-framed (Otherwise s) n scope k h in_scope after =
          sta-framed s n scope k h in_scope after

      all-framed : (ss : TStas) (n : ℕ) (scope : Types) (k : List LabelFrame) → StasLink table ss
          → AreIn scope → AreNamed k → AreNamed (all_frames w declared ss n scope k)
      all-framed End n scope k h in_scope after = after
      all-framed (Then s ss) n scope k h in_scope after =
          sta-framed s n scope _ h.0 in_scope
          (all-framed ss (labels s n) (scope_behind declared s scope) k h.1
          (scope-there s scope in_scope) after)

      catch-framed : (cs : TCatches) (n : ℕ) (scope : Types) (k : List LabelFrame)
          → CatchesLink table cs → AreIn scope → AreNamed k
          → AreNamed (catch_frames w declared cs n scope k)
      catch-framed NoCatch n scope k h in_scope after = after
      catch-framed (Catch c s cs) n scope k h in_scope after =
          let last : List LabelFrame =
          catch_frames w declared cs (labels s (n + 1)) scope k in
          let inside : List LabelFrame = frames w declared s (n + 1) scope last in
          frame-there n scope (ty.Class c ∷ []) inside in_scope (h.0, tt)
          (sta-framed s (n + 1) scope last h.1 in_scope
          (catch-framed cs (labels s (n + 1)) scope k h.2 in_scope after))

  -- ---- the whole of a body

  pub body-there : (m : MethodInfo) (body : TSta) → BodyLinks table m body
      → CodeNamesThere table (labelled w m body)
  body-there m body h = record {
    items = items-there table body h.code;
    handlers = handlers-there table body h.code;
    frames =
        sta-framed m.locals h.locals body 0 (first_scope m) [] h.code
        (all-append (IsTypeIn table) (take (set_by_call m) m.locals)
        (replicate (length m.locals - set_by_call m) ty.Void)
        (take-there (set_by_call m) m.locals h.locals)
        (void-there (length m.locals - set_by_call m))) tt;
  }
