-- The numbers of locals, locks and policies in typed bodies are in range.
use Rattle.std.proofs.Common.{◌≡◌, ℕ, ◌+◌, ◌<◌, ◌≤◌, Bool, true, false, List, [], ◌∷◌, Option, Some}
use Rattle.std.proofs.Common.{None, refl, sym, subst, arith, add-zero}
use Rattle.std.specs.List.{AllByRecursion}
use Rattle.par_program_laws.specs.par_tree.declared.policy.LockTree.{LockTree}
use Rattle.par_program_laws.specs.par_tree.declared.policy.PolicyExpr.{PolicyExpr}
use Rattle.par_program_laws.specs.par_tree.Plain.{Exp, Int, True, False, Null, This, New, Name}
use Rattle.par_program_laws.specs.par_tree.Plain.{Field}
use Rattle.par_program_laws.specs.par_tree.Plain.{Call, Neg}
use Rattle.par_program_laws.specs.par_tree.Plain.{Not, Binary}
use Rattle.par_program_laws.specs.par_tree.Plain.{Exps, NoExps, More, MayExp, Absent, Present}
use Rattle.par_program_laws.specs.par_tree.Plain.{Source}
use Rattle.par_program_laws.specs.par_tree.Plain.{Sta, Block, If, While, Try, Return, Break}
use Rattle.par_program_laws.specs.par_tree.Plain.{Continue}
use Rattle.par_program_laws.specs.par_tree.Plain.{Throw, Open}
use Rattle.par_program_laws.specs.par_tree.Plain.{Close}
use Rattle.par_program_laws.specs.par_tree.Plain.{Declare, Assign, Do, When, Braces, In, MayBraces}
use Rattle.par_program_laws.specs.par_tree.Plain.{NoBraces}
use Rattle.par_program_laws.specs.par_tree.Plain.{Else, NoElse, Otherwise, Stas, End, Then, Catches}
use Rattle.par_program_laws.specs.par_tree.Plain.{NoCatch, Catch}
use Rattle.par_program_laws.specs.par_tree.Plain.{Handler, On}
use Rattle.par_program_laws.specs.par_tree.Plain as plain
use Rattle.par_program_laws.specs.par_typed.declared.ty.Ty.TheVariants as ty
use Rattle.par_program_laws.specs.par_typed.declared.table.ChannelInfo.{ChannelInfo}
use Rattle.par_program_laws.specs.par_typed.declared.table.Table.{Table}
use Rattle.par_program_laws.specs.par_typed.Plain as typed
use Rattle.par_program_laws.specs.par_typed.Plain.{Mark, TExp, MayTExp, TExps}
use Rattle.par_program_laws.specs.par_typed.Nodes.{may_nodes}
use Rattle.par_source_laws.specs.par_names.Exprs as names
use Rattle.par_source_laws.specs.par_names.Declarations.{locks, doubles}
use Rattle.par_source_laws.specs.par_names.Policies.{View, lock_faults}
use Rattle.par_source_laws.specs.par_names.Program.{view_behind}
use Rattle.par_source_laws.specs.par_names.Stmts.{declares, all_caught, stmt_faults, braces_faults}
use Rattle.par_source_laws.specs.par_names.Stmts.{may_braces_faults, else_faults, stmts_faults}
use Rattle.par_source_laws.specs.par_names.Stmts.{catches_faults}
use Rattle.par_source_laws.specs.par_names.Stmts.{handler_faults}
use Rattle.par_type_rules.specs.par_scope.declared.members.Place.{Place}
use Rattle.par_type_rules.specs.par_scope.declared.locals.Slot.{Slot}
use Rattle.par_type_rules.specs.par_scope.declared.meaning.Receiver.{Receiver}
use Rattle.par_type_rules.specs.par_scope.declared.meaning.Receiver.TheVariants.{Own, Class}
use Rattle.par_type_rules.specs.par_scope.declared.meaning.Receiver.TheVariants.{Object}
use Rattle.par_type_rules.specs.par_scope.declared.meaning.Callee.{Callee}
use Rattle.par_type_rules.specs.par_scope.declared.meaning.Callee.TheVariants.{Unknown}
use Rattle.par_type_rules.specs.par_scope.declared.meaning.Callee.TheVariants.{Channel}
use Rattle.par_type_rules.specs.par_scope.declared.meaning.Callee.TheVariants.{Method}
use Rattle.par_type_rules.specs.par_scope.Names.{number_in}
use Rattle.par_type_rules.specs.par_scope.Home.{Home}
use Rattle.par_type_rules.specs.par_scope.Members.{field_at, channel_at, method_at}
use Rattle.par_type_rules.specs.par_scope.Members.{field_is_static}
use Rattle.par_type_rules.specs.par_scope.Members.{method_is_static}
use Rattle.par_type_rules.specs.par_scope.Meaning.{type_of, called_on, receiver_of, selected}
use Rattle.par_type_rules.specs.par_scope.Meaning.{called}
use Rattle.par_type_rules.specs.par_scope.Meaning.{sure}
use Rattle.par_type_rules.specs.Stmts.{slot_of}
use Rattle.par_faults.specs.par_resolved.Resolved.{table_of}
use Rattle.par_type_rules.specs.Frames.{Frame, Var, var_at, var_named, with_local, further}
use Rattle.par_type_rules.specs.TypedExprs.{own_this, own_field, name_typed, negation, number_of}
use Rattle.par_type_rules.specs.TypedExprs.{selection, own_receiver, method_on}
use Rattle.par_type_rules.specs.TypedExprs.{callee_on, first, by_way, through, call, typed_exp}
use Rattle.par_type_rules.specs.TypedExprs.{typed_may}
use Rattle.par_type_rules.specs.TypedExprs.{typed_args, mark_of}
use Rattle.par_type_rules.specs.TypedStmts.{Written, may_policy, Target, Nowhere, ToLocal, ToStatic}
use Rattle.par_type_rules.specs.TypedStmts.{ToField, target, target_nodes, assignment}
use Rattle.par_type_rules.specs.TypedStmts.{own_target, name_target, selected_target, behind}
use Rattle.par_type_rules.specs.TypedStmts.{typed_sta, typed_braces, typed_may_braces, typed_else}
use Rattle.par_type_rules.specs.TypedStmts.{typed_stas, typed_catches, typed_handler}
use Rattle.par_type_rules.specs.par_scope.Own.{locals_in, braces_locals, may_braces_locals}
use Rattle.par_type_rules.specs.par_scope.Own.{else_locals}
use Rattle.par_type_rules.specs.par_scope.Own.{all_locals, catches_locals, handler_locals}
use Rattle.par_typed_laws.specs.Tables.{IsLock, MayBePolicy}
use Rattle.par_typed_laws.specs.Numbers.{ExpReads, MayExpRead, ExpsRead, StaInRange, ElseInRange}
use Rattle.par_typed_laws.specs.Numbers.{StasInRange, CatchesInRange}
use Rattle.par_typed_laws.specs.Typed.{written_in}
use Rattle.par_typed_laws.proofs.Lists.{none_left, none_right, of_both, each_is}
use Rattle.par_typed_laws.proofs.Ranges.{MayBe, at_place}
use Rattle.par_typed_laws.proofs.Entries as entries

-- ---- expressions, where the locals in scope are some of these

module _ (P : ℕ → Type 0) where
  abbrev pub IsLocal : Var → Type 0
  IsLocal x = P x.number

  abbrev pub AreLocals : Frame → Type 0
  AreLocals frame = AllByRecursion IsLocal frame.vars

  var_in : (frame : Frame) (o : Option ℕ) → AreLocals frame → MayBe IsLocal (var_at frame.vars o)
  var_in frame None h = tt
  var_in frame (Some place) h = at_place IsLocal frame.vars place h

  own_field_in : (b : Bool) (home : Home) (f : Place) (at p : ℕ) (m : Mark)
      → ExpReads P (own_field b home f at p m)
  unfolding ExpReads
  own_field_in true home f at p m = tt
  own_field_in false home f at p m = tt

  name_in : (home : Home) (x : Option Var) (f : Option Place) (at p : ℕ) (m : Mark)
      → MayBe IsLocal x → ExpReads P (name_typed home x f at p m)
  unfolding ExpReads
  name_in home None None at p m h = tt
  name_in home None (Some f) at p m h =
      own_field_in (field_is_static (field_at home.table f)) home f at p m
  name_in home (Some x) f at p m h = h

  negation_in : (o : Option ℕ) (e : TExp) (m : Mark) → ExpReads P e → ExpReads P (negation o e m)
  unfolding ExpReads
  negation_in None e m h = h
  negation_in (Some k) e m h = tt

  selection_in : (r : Receiver) (f : Option Place) (e : TExp) (m : Mark) → ExpReads P e
      → ExpReads P (selection r f e m)
  unfolding ExpReads
  selection_in r None e m h = tt
  selection_in Own (Some f) e m h = tt
  selection_in (Class class) (Some f) e m h = tt
  selection_in (Object t) (Some f) e m h = h

  own_in : (b : Bool) (this : TExp) → ExpReads P this → MayExpRead P (own_receiver b this)
  unfolding ExpReads
  own_in true this h = tt
  own_in false this h = h

  method_on_in : (r : Receiver) (b : Bool) (o : MayTExp) (this : TExp) → MayExpRead P o
      → ExpReads P this → MayExpRead P (method_on r b o this)
  unfolding ExpReads
  method_on_in Own b o this h k = own_in b this k
  method_on_in (Class class) b o this h k = tt
  method_on_in (Object t) b o this h k = h

  callee_on_in : (home : Home) (r : Receiver) (c : Callee) (o : MayTExp) (this : TExp)
      → MayExpRead P o → ExpReads P this
      → MayExpRead P (callee_on home r c o this)
  unfolding ExpReads
  callee_on_in home r Unknown o this h k = tt
  callee_on_in home r (Channel p) o this h k = tt
  callee_on_in home r (Method p) o this h k =
      method_on_in r (method_is_static (method_at home.table p)) o this h k

  first_in : (es : TExps) (m : Mark) → ExpsRead P es → ExpReads P (first es m)
  unfolding ExpReads
  first_in typed.NoExps m h = tt
  first_in (typed.More e es) m h = h.0

  by_way_in : (b : Bool) (k : Place) (es : TExps) (m : Mark) → ExpsRead P es
      → ExpReads P (by_way b k es m)
  unfolding ExpReads
  by_way_in true k es m h = tt
  by_way_in false k es m h = first_in es m h

  through_in : (o : Option ChannelInfo) (k : Place) (es : TExps) (m : Mark) → ExpsRead P es
      → ExpReads P (through o k es m)
  unfolding ExpReads
  through_in None k es m h = tt
  through_in (Some c) k es m h = by_way_in c.is_input k es m h

  call_in : (home : Home) (c : Callee) (o : MayTExp) (es : TExps) (m : Mark) → MayExpRead P o
      → ExpsRead P es → ExpReads P (call home c o es m)
  unfolding ExpReads
  call_in home Unknown o es m on args = tt
  call_in home (Channel k) o es m on args = through_in (channel_at home.table k) k es m args
  call_in home (Method k) o es m on args = (on, args)

  pub this_in : (home : Home) (at p : ℕ) → ExpReads P (own_this home at p)
  unfolding ExpReads
  this_in home at p = tt

  mutual
    unfolding ExpReads typed_exp

    pub exp_in : (home : Home) (frame : Frame) (p : ℕ) (e : Exp) → AreLocals frame
        → ExpReads P (typed_exp home frame p e)
    exp_in home frame p (Int k at) h = tt
    exp_in home frame p (True at) h = tt
    exp_in home frame p (False at) h = tt
    exp_in home frame p (Null at) h = tt
    exp_in home frame p (This at) h = this_in home at p
    exp_in home frame p (New class at) h = tt
    exp_in home frame p (Name x at) h = name_in home (var_named frame x) (selected home Own x) at p
        (mark_of at p (type_of home frame.scope (Name x at)) (sure frame.scope (Name x at)))
        (var_in frame (number_in frame.scope.names x) h)
    exp_in home frame p (Field e f at) h =
        selection_in (receiver_of home frame.scope e (type_of home frame.scope e))
        (selected home (receiver_of home frame.scope e (type_of home frame.scope e)) f.name)
        (typed_exp home frame (p + 1) e) (mark_of at p (type_of home frame.scope (Field e f at))
        false) (exp_in home frame (p + 1) e h)
    exp_in home frame p (Call o m es at) h =
        call_in home (called home (called_on home frame.scope o) m.name)
        (callee_on home (called_on home frame.scope o) (called home (called_on home frame.scope o)
        m.name)
        (typed_may home frame (p + 1) o) (own_this home at (p + 1)))
        (typed_args home frame
        (p + 1 + may_nodes (callee_on home (called_on home frame.scope o)
        (called home (called_on home frame.scope o) m.name)
        (typed_may home frame (p + 1) o) (own_this home at (p + 1)))) es)
        (mark_of at p (type_of home frame.scope (Call o m es at)) false)
        (callee_on_in home (called_on home frame.scope o)
        (called home (called_on home frame.scope o) m.name)
        (typed_may home frame (p + 1) o) (own_this home at (p + 1)) (may_in home frame (p + 1) o h)
        (this_in home at (p + 1)))
        (args_in home frame _ es h)
    exp_in home frame p (Neg e at) h =
        negation_in (number_of e) (typed_exp home frame (p + 1) e) (mark_of at p (Some ty.Int)
        false) (exp_in home frame (p + 1) e h)
    exp_in home frame p (Not e at) h = exp_in home frame (p + 1) e h
    exp_in home frame p (Binary op a b at) h =
        (exp_in home frame (p + 1) a h, exp_in home frame _ b h)

    pub may_in : (home : Home) (frame : Frame) (p : ℕ) (o : MayExp) → AreLocals frame
        → MayExpRead P (typed_may home frame p o)
    may_in home frame p Absent h = tt
    may_in home frame p (Present e) h = exp_in home frame p e h

    args_in : (home : Home) (frame : Frame) (p : ℕ) (es : Exps) → AreLocals frame
        → ExpsRead P (typed_args home frame p es)
    args_in home frame p NoExps h = tt
    args_in home frame p (More e es) h = (exp_in home frame p e h, args_in home frame _ es h)

-- ---- statements

pub next-behind : (w : Written) (home : Home) (s : Sta) (frame : Frame)
    → (behind w home s frame).next ≡ frame.next + locals_in s
unfolding behind locals_in
next-behind w home (Block b at) frame = refl
next-behind w home (If e b o at) frame = refl
next-behind w home (While e b at) frame = refl
next-behind w home (Try b cs at) frame = refl
next-behind w home (Return e at) frame = sym (add-zero frame.next)
next-behind w home (Break at) frame = sym (add-zero frame.next)
next-behind w home (Continue at) frame = sym (add-zero frame.next)
next-behind w home (Throw class at) frame = sym (add-zero frame.next)
next-behind w home (Open lock at) frame = sym (add-zero frame.next)
next-behind w home (Close lock at) frame = sym (add-zero frame.next)
next-behind w home (Declare local at) frame = refl
next-behind w home (Assign target value at) frame = sym (add-zero frame.next)
next-behind w home (Do call at) frame = sym (add-zero frame.next)
next-behind w home (When lock b o at) frame = refl

module _ (source : Source) (arities : AllByRecursion (λ lock. lock.arity ≤ 2) (locks source))
    (n : ℕ) where
  abbrev t : Table
  t = table_of source

  abbrev w : Written
  w = written_in source

  abbrev IsVar : Var → Type 0
  IsVar x = IsLocal (λ k. k < n) x × MayBePolicy t x.policy

  abbrev pub AreVars : Frame → Type 0
  AreVars frame = AllByRecursion IsVar frame.vars

  numbers_of : (frame : Frame) → AreVars frame → AreLocals (λ k. k < n) frame
  numbers_of frame h = each_is IsVar (IsLocal (λ k. k < n)) frame.vars (λ x is. is.0) h

  policy_in : (o : Option PolicyExpr) → MayBePolicy t (may_policy w o)
  policy_in None = tt
  policy_in (Some e) = entries.one_policy source e

  lock_in : (before : List (List ℕ)) (lock : LockTree)
      → lock_faults (view_behind source before) lock ≡ [] → IsLock t (w.lock lock)
  lock_in before lock h = entries.lock_in source arities lock h

  pub with_local_in : (frame : Frame) (name : List ℕ) (slot : Slot) (o : Option PolicyExpr)
      → AreVars frame → frame.next < n
      → AreVars (with_local frame name slot (may_policy w o))
  with_local_in frame name slot o h room =
      of_both IsVar frame.vars (record { number = frame.next; policy = may_policy w o } ∷ []) h
      ((room, policy_in o), tt)

  -- ---- targets

  abbrev TargetIn : Target → Type 0
  TargetIn Nowhere = Unit {0}
  TargetIn (ToLocal x) = IsVar x
  TargetIn (ToStatic f) = Unit {0}
  TargetIn (ToField e f) = ExpReads (λ x. x < n) e

  own_target_in : (b : Bool) (this : TExp) (f : Place) → ExpReads (λ x. x < n) this
      → TargetIn (own_target b this f)
  own_target_in true this f h = tt
  own_target_in false this f h = h

  name_target_in : (home : Home) (x : Option Var) (f : Option Place) (this : TExp) → MayBe IsVar x
      → ExpReads (λ x. x < n) this → TargetIn (name_target home x f this)
  name_target_in home None None this h k = tt
  name_target_in home None (Some f) this h k =
      own_target_in (field_is_static (field_at home.table f)) this f k
  name_target_in home (Some x) f this h k = h

  selected_in : (r : Receiver) (f : Option Place) (e : TExp) → ExpReads (λ x. x < n) e
      → TargetIn (selected_target r f e)
  selected_in r None e h = tt
  selected_in Own (Some f) e h = tt
  selected_in (Class class) (Some f) e h = tt
  selected_in (Object k) (Some f) e h = h

  may_var : (frame : Frame) (o : Option ℕ) → AreVars frame → MayBe IsVar (var_at frame.vars o)
  may_var frame None h = tt
  may_var frame (Some place) h = at_place IsVar frame.vars place h

  target_in : (home : Home) (frame : Frame) (p : ℕ) (e : Exp) → AreVars frame
      → TargetIn (target home frame p e)
  unfolding target
  target_in home frame p (Int k at) h = tt
  target_in home frame p (True at) h = tt
  target_in home frame p (False at) h = tt
  target_in home frame p (Null at) h = tt
  target_in home frame p (This at) h = tt
  target_in home frame p (New class at) h = tt
  target_in home frame p (Name x at) h =
      name_target_in home (var_named frame x) (selected home Own x) (own_this home at p)
      (may_var frame (number_in frame.scope.names x) h) (this_in (λ k. k < n) home at p)
  target_in home frame p (Field e f at) h =
      selected_in (receiver_of home frame.scope e (type_of home frame.scope e))
      (selected home (receiver_of home frame.scope e (type_of home frame.scope e)) f.name)
      (typed_exp home frame p e) (exp_in (λ k. k < n) home frame p e (numbers_of frame h))
  target_in home frame p (Call o m es at) h = tt
  target_in home frame p (Neg e at) h = tt
  target_in home frame p (Not e at) h = tt
  target_in home frame p (Binary op a b at) h = tt

  assignment_in : (x : Target) (v : TExp) (at p : ℕ) → TargetIn x → ExpReads (λ x. x < n) v
      → StaInRange t n (assignment x v at p)
  unfolding StaInRange
  assignment_in Nowhere v at p h k = k
  assignment_in (ToLocal x) v at p h k = (h.0, h.1, k)
  assignment_in (ToStatic f) v at p h k = k
  assignment_in (ToField e f) v at p h k = (h, k)

  -- ---- behind a statement

  behind_in : (home : Home) (s : Sta) (frame : Frame) → AreVars frame → frame.next + locals_in s ≤ n
      → AreVars (behind w home s frame)
  unfolding behind locals_in
  behind_in home (Block b at) frame h room = h
  behind_in home (If e b o at) frame h room = h
  behind_in home (While e b at) frame h room = h
  behind_in home (Try b cs at) frame h room = h
  behind_in home (Return e at) frame h room = h
  behind_in home (Break at) frame h room = h
  behind_in home (Continue at) frame h room = h
  behind_in home (Throw class at) frame h room = h
  behind_in home (Open lock at) frame h room = h
  behind_in home (Close lock at) frame h room = h
  behind_in home (Declare local at) frame h room =
      with_local_in frame local.id.name (slot_of home local) local.policy h (omega (arith, room))
  behind_in home (Assign target value at) frame h room = h
  behind_in home (Do call at) frame h room = h
  behind_in home (When lock b o at) frame h room = h

  -- ---- all forms

  module _ (before : List (List ℕ)) (own : names.Home) (home : Home) where
    abbrev v : View
    v = view_behind source before

    first_room : (next a b : ℕ) → next + (a + b) ≤ n → next + a ≤ n
    first_room next a b room = omega (arith, room)

    second_room : (next a b : ℕ) → next + (a + b) ≤ n → next + a + b ≤ n
    second_room next a b room = omega (arith, room)

    mutual
      unfolding StaInRange ExpReads typed_sta locals_in stmt_faults

      sta_in : (frame : Frame) (p : ℕ) (scope : List (List ℕ)) (s : Sta) → AreVars frame
          → frame.next + locals_in s ≤ n
          → stmt_faults (view_behind source before) own scope s ≡ []
          → StaInRange t n (typed_sta w home frame p s)
      sta_in frame p scope (Block b at) h room none = braces_in frame p scope b h room none
      sta_in frame p scope (If e b o at) h room none = (
        exp_in (λ k. k < n) home frame (p + 1) e (numbers_of frame h),
        braces_in frame _ scope b h (first_room frame.next _ _ room)
            (none_right _ (braces_faults v own scope b)
            (none_left _ (else_faults v own scope o) none)),
        else_in (further frame (braces_locals b)) _ scope o h (second_room frame.next _ _ room)
            (none_right _ (else_faults v own scope o) none),
      )
      sta_in frame p scope (While e b at) h room none = (
        exp_in (λ k. k < n) home frame (p + 1) e (numbers_of frame h),
        braces_in frame _ scope b
            h room (none_right _ (braces_faults v own scope b) none),
      )
      sta_in frame p scope (Try b cs at) h room none = (
        braces_in frame _ scope b h (first_room frame.next _ _ room)
            (none_left _ (doubles (all_caught cs)) (none_left _ (catches_faults v own scope cs)
            none)),
        catches_in (further frame (braces_locals b)) _ scope cs h (second_room frame.next _ _ room)
            (none_right _ (catches_faults v own scope cs) none),
      )
      sta_in frame p scope (Return e at) h room none =
          may_in (λ k. k < n) home frame (p + 1) e (numbers_of frame h)
      sta_in frame p scope (Break at) h room none = tt
      sta_in frame p scope (Continue at) h room none = tt
      sta_in frame p scope (Throw class at) h room none = tt
      sta_in frame p scope (Open lock at) h room none = lock_in before lock none
      sta_in frame p scope (Close lock at) h room none = lock_in before lock none
      sta_in frame p scope (Declare local at) h room none = (
        omega (arith, room),
        policy_in local.policy,
        exp_in (λ k. k < n) home frame (p + 1)
            local.value (numbers_of frame h),
      )
      sta_in frame p scope (Assign e value at) h room none =
          assignment_in (target home frame (p + 1) e)
          (typed_exp home frame (p + 1 + target_nodes (target home frame (p + 1) e)) value) at p
          (target_in home frame (p + 1) e h) (exp_in (λ k. k < n) home frame _ value
          (numbers_of frame h))
      sta_in frame p scope (Do call at) h room none =
          exp_in (λ k. k < n) home frame (p + 1) call (numbers_of frame h)
      sta_in frame p scope (When lock b o at) h room none = (
        lock_in before lock (none_left (lock_faults v lock) _
            (none_left _ (may_braces_faults v own scope o) none)),
        braces_in frame _ scope b h (first_room frame.next _ _ room)
            (none_right (lock_faults v lock) _
            (none_left _ (may_braces_faults v own scope o) none)),
        may_braces_in (further frame (braces_locals b)) _ scope o h (second_room frame.next _ _
            room) (none_right _ (may_braces_faults v own scope o) none),
      )

      pub braces_in : (frame : Frame) (p : ℕ) (scope : List (List ℕ)) (b : Braces) → AreVars frame
          → frame.next + braces_locals b ≤ n
          → braces_faults (view_behind source before) own scope b ≡ []
          → StaInRange t n (typed_braces w home frame p b)
      braces_in frame p scope (In ss at) h room none = stas_in frame (p + 1) scope ss h room none

      may_braces_in : (frame : Frame) (p : ℕ) (scope : List (List ℕ)) (b : MayBraces)
          → AreVars frame → frame.next + may_braces_locals b ≤ n
          → may_braces_faults (view_behind source before) own scope b ≡ []
          → ElseInRange t n (typed_may_braces w home frame p b)
      may_braces_in frame p scope NoBraces h room none = tt
      may_braces_in frame p scope (plain.Some b) h room none = braces_in frame p scope b h room none

      else_in : (frame : Frame) (p : ℕ) (scope : List (List ℕ)) (o : Else) → AreVars frame
          → frame.next + else_locals o ≤ n
          → else_faults (view_behind source before) own scope o ≡ []
          → ElseInRange t n (typed_else w home frame p o)
      else_in frame p scope NoElse h room none = tt
      else_in frame p scope (Otherwise s) h room none = sta_in frame p scope s h room none

      stas_in : (frame : Frame) (p : ℕ) (scope : List (List ℕ)) (ss : Stas) → AreVars frame
          → frame.next + all_locals ss ≤ n
          → stmts_faults (view_behind source before) own scope ss ≡ []
          → StasInRange t n (typed_stas w home frame p ss)
      stas_in frame p scope End h room none = tt
      stas_in frame p scope (Then s ss) h room none =
          let here = first_room frame.next (locals_in s) (all_locals ss) room in
          let on : (behind w home s frame).next + all_locals ss ≤ n =
          subst (λ k. k + all_locals ss ≤ n) (sym (next-behind w home s frame))
          (second_room frame.next (locals_in s) (all_locals ss) room) in (
            sta_in frame p scope s h here (none_left (stmt_faults v own scope s) _ none),
            stas_in (behind w home s frame) _ (declares s scope) ss (behind_in home s frame h here)
                on (none_right (stmt_faults v own scope s) _ none),
          )

      catches_in : (frame : Frame) (p : ℕ) (scope : List (List ℕ)) (cs : Catches) → AreVars frame
          → frame.next + catches_locals cs ≤ n
          → catches_faults (view_behind source before) own scope cs ≡ []
          → CatchesInRange t n (typed_catches w home frame p cs)
      catches_in frame p scope NoCatch h room none = tt
      catches_in frame p scope (Catch c cs) h room none = (
        handler_in frame p scope c h (first_room frame.next _ _ room)
            (none_left (handler_faults v own scope c) _ none),
        catches_in (further frame (handler_locals c)) _ scope cs h (second_room frame.next _ _ room)
            (none_right (handler_faults v own scope c) _ none),
      )

      handler_in : (frame : Frame) (p : ℕ) (scope : List (List ℕ)) (c : Handler) → AreVars frame
          → frame.next + handler_locals c ≤ n
          → handler_faults (view_behind source before) own scope c ≡ []
          → StaInRange t n (typed_handler w home frame p c)
      handler_in frame p scope (On class name b) h room none =
          braces_in frame p scope b h room (none_right _ (braces_faults v own scope b) none)
