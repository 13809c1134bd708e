-- Typed bodies set locals before they read them.
use Rattle.std.proofs.Common.{◌≡◌, ℕ, zero, suc, ◌+◌, ◌<◌, ◌≤◌, Bool, true, false, ◌||◌, List, []}
use Rattle.std.proofs.Common.{◌∷◌, length, Option, Some, None, IsTrue, refl, sym, subst, arith}
use Rattle.std.specs.Prelude.{nat_eq}
use Rattle.std.specs.List.{range_with_len}
use Rattle.std.proofs.lemmas.Bool.Decides.{nat_tests}
use Rattle.par_program_laws.specs.par_policy.Numbers.{has}
use Rattle.par_program_laws.specs.par_tree.declared.decl.ParamDecl.{ParamDecl}
use Rattle.par_program_laws.specs.par_tree.Plain.{Exp, Int, True, False, Null, This, New, Name}
use Rattle.par_program_laws.specs.par_tree.Plain.{Field}
use Rattle.par_program_laws.specs.par_tree.Plain.{Call, Neg}
use Rattle.par_program_laws.specs.par_tree.Plain.{Not, Binary}
use Rattle.par_program_laws.specs.par_tree.Plain.{Sta, Block, If, While, Try, Return, Break}
use Rattle.par_program_laws.specs.par_tree.Plain.{Continue}
use Rattle.par_program_laws.specs.par_tree.Plain.{Throw, Open}
use Rattle.par_program_laws.specs.par_tree.Plain.{Close}
use Rattle.par_program_laws.specs.par_tree.Plain.{Declare, Assign, Do, When, Braces, In, MayBraces}
use Rattle.par_program_laws.specs.par_tree.Plain.{NoBraces}
use Rattle.par_program_laws.specs.par_tree.Plain.{Else, NoElse, Otherwise, Stas, End, Then, Catches}
use Rattle.par_program_laws.specs.par_tree.Plain.{NoCatch, Catch}
use Rattle.par_program_laws.specs.par_tree.Plain.{On}
use Rattle.par_program_laws.specs.par_tree.Plain as plain
use Rattle.par_program_laws.specs.par_typed.Plain.{TExp}
use Rattle.par_type_rules.specs.par_scope.declared.members.Place.{Place}
use Rattle.par_type_rules.specs.par_scope.declared.locals.Slot.{Slot}
use Rattle.par_type_rules.specs.par_scope.declared.meaning.Receiver as meaning
use Rattle.par_type_rules.specs.par_scope.declared.meaning.Receiver.TheVariants as receiver
use Rattle.par_type_rules.specs.par_scope.Home.{Home}
use Rattle.par_type_rules.specs.par_scope.Members.{field_at, field_is_static}
use Rattle.par_type_rules.specs.par_scope.Meaning.{type_of, receiver_of, selected}
use Rattle.par_type_rules.specs.Methods.{param_slot}
use Rattle.par_type_rules.specs.Stmts.{slot_of}
use Rattle.par_type_rules.specs.Frames.{Frame, Var, var_named, with_local, further}
use Rattle.par_type_rules.specs.TypedExprs.{own_this, typed_exp}
use Rattle.par_type_rules.specs.TypedStmts.{Written, may_policy, Target, Nowhere, ToLocal, ToStatic}
use Rattle.par_type_rules.specs.TypedStmts.{ToField, target, target_nodes, assignment}
use Rattle.par_type_rules.specs.TypedStmts.{own_target, name_target, selected_target, behind}
use Rattle.par_type_rules.specs.par_scope.Own.{braces_locals, handler_locals}
use Rattle.par_type_rules.specs.TypedStmts.{typed_sta, typed_braces, typed_may_braces, typed_else}
use Rattle.par_type_rules.specs.TypedStmts.{typed_stas, typed_catches}
use Rattle.par_type_rules.specs.TypedBodies.{with_params}
use Rattle.par_typed_laws.specs.Numbers.{ExpReads}
use Rattle.par_program_laws.specs.Locals as set_first
use Rattle.par_program_laws.specs.Locals.{IsSet}
use Rattle.par_typed_laws.specs.SetFirst.{SetsFirst, ElseSetsFirst, AllSetFirst}
use Rattle.par_typed_laws.specs.SetFirst.{CatchesSetFirst}
use Rattle.par_typed_laws.proofs.Lists.{of_both, each_is}
use Rattle.par_typed_laws.proofs.Bodies.{AreLocals, IsLocal, exp_in, may_in, this_in}

-- ---- sets

pub one_more : (x y : ℕ) (set : List ℕ) → IsSet set y → IsSet (x ∷ set) y
one_more x y set h = by (nat_eq x y) where
  by : (b : Bool) → IsTrue (b || has set y)
  by true = refl
  by false = h

itself : (x : ℕ) (set : List ℕ) → IsSet (x ∷ set) x
itself x set = let same : nat_eq x x ≡ true = grind (arith, nat_tests) in subst
    (λ b. IsTrue (b || has set x)) (sym same) refl

in_range : (a n x : ℕ) → a ≤ x → x < a + n → IsSet (range_with_len a n) x
in_range a zero x low high = absurd (omega arith)
in_range a (suc n) x low high = by (nat_eq a x) refl (in_range (a + 1) n x) where
  by : (b : Bool) → nat_eq a x ≡ b
      → (a + 1 ≤ x → x < a + 1 + n → IsSet (range_with_len (a + 1) n) x)
      → IsTrue (nat_eq a x || has (range_with_len (a + 1) n) x)
  by true is rest = subst (λ b. IsTrue (b || has (range_with_len (a + 1) n) x)) (sym is) refl
  by false is rest =
      let past : a + 1 ≤ x = grind (arith, nat_tests) in
      subst (λ b. IsTrue (b || has (range_with_len (a + 1) n) x)) (sym is) (rest past (omega arith))

abbrev pub AreSet : List ℕ → Frame → Type 0
AreSet set frame = AreLocals (IsSet set) frame

more_set : (x : ℕ) (set : List ℕ) (frame : Frame) → AreSet set frame → AreSet (x ∷ set) frame
more_set x set frame h =
    each_is (IsLocal (IsSet set)) (IsLocal (IsSet (x ∷ set))) frame.vars
    (λ v is. one_more x v.number set is) h

-- ---- targets

abbrev TargetIn : List ℕ → Target → Type 0
TargetIn set Nowhere = Unit {0}
TargetIn set (ToLocal x) = Unit {0}
TargetIn set (ToStatic f) = Unit {0}
TargetIn set (ToField e f) = ExpReads (IsSet set) e

own_target_in : (set : List ℕ) (b : Bool) (this : TExp) (f : Place) → ExpReads (IsSet set) this
    → TargetIn set (own_target b this f)
own_target_in set true this f h = tt
own_target_in set false this f h = h

name_target_in : (set : List ℕ) (home : Home) (x : Option Var) (f : Option Place) (this : TExp)
    → ExpReads (IsSet set) this → TargetIn set (name_target home x f this)
name_target_in set home None None this k = tt
name_target_in set home None (Some f) this k =
    own_target_in set (field_is_static (field_at home.table f)) this f k
name_target_in set home (Some x) f this k = tt

selected_in : (set : List ℕ) (r : meaning.Receiver) (f : Option Place) (e : TExp)
    → ExpReads (IsSet set) e → TargetIn set (selected_target r f e)
selected_in set r None e h = tt
selected_in set receiver.Own (Some f) e h = tt
selected_in set (receiver.Class class) (Some f) e h = tt
selected_in set (receiver.Object k) (Some f) e h = h

target_in : (set : List ℕ) (home : Home) (frame : Frame) (p : ℕ) (e : Exp) → AreSet set frame
    → TargetIn set (target home frame p e)
unfolding target
target_in set home frame p (Int k at) h = tt
target_in set home frame p (True at) h = tt
target_in set home frame p (False at) h = tt
target_in set home frame p (Null at) h = tt
target_in set home frame p (This at) h = tt
target_in set home frame p (New class at) h = tt
target_in set home frame p (Name x at) h =
    name_target_in set home (var_named frame x) (selected home receiver.Own x) (own_this home at p)
    (this_in (IsSet set) home at p)
target_in set home frame p (Field e f at) h =
    selected_in set (receiver_of home frame.scope e (type_of home frame.scope e))
    (selected home (receiver_of home frame.scope e (type_of home frame.scope e)) f.name)
    (typed_exp home frame p e) (exp_in (IsSet set) home frame p e h)
target_in set home frame p (Call o m es at) h = tt
target_in set home frame p (Neg e at) h = tt
target_in set home frame p (Not e at) h = tt
target_in set home frame p (Binary op a b at) h = tt

assignment_in : (set : List ℕ) (x : Target) (v : TExp) (at p : ℕ) → TargetIn set x
    → ExpReads (IsSet set) v → SetsFirst set (assignment x v at p)
unfolding SetsFirst
assignment_in set Nowhere v at p h k = k
assignment_in set (ToLocal x) v at p h k = k
assignment_in set (ToStatic f) v at p h k = k
assignment_in set (ToField e f) v at p h k = (h, k)

assigned : (set : List ℕ) (x : Target) (v : TExp) (at p : ℕ) (frame : Frame) → AreSet set frame
    → AreSet (set_first.behind set (assignment x v at p)) frame
unfolding set_first.behind
assigned set Nowhere v at p frame h = h
assigned set (ToLocal x) v at p frame h = more_set x.number set frame h
assigned set (ToStatic f) v at p frame h = h
assigned set (ToField e f) v at p frame h = h

-- ---- statements

declared : (set : List ℕ) (frame : Frame) (name : List ℕ) (slot : Slot) (policy : Option ℕ)
    → AreSet set frame → AreSet (frame.next ∷ set) (with_local frame name slot policy)
declared set frame name slot policy h =
    of_both (IsLocal (IsSet (frame.next ∷ set))) frame.vars (record {
      number = frame.next;
      policy =
          policy;
    } ∷ []) (more_set frame.next set frame h)
    (itself frame.next set, tt)

module _ (w : Written) (home : Home) where
  after_block : (set : List ℕ) (frame : Frame) (p : ℕ) (b : Braces)
      → set_first.behind set (typed_braces w home frame p b) ≡ set
  unfolding typed_sta set_first.behind
  after_block set frame p (In ss at) = refl

  after : (set : List ℕ) (frame : Frame) (p : ℕ) (s : Sta) → AreSet set frame
      → AreSet (set_first.behind set (typed_sta w home frame p s)) (behind w home s frame)
  unfolding typed_sta set_first.behind behind
  after set frame p (Block b at) h = subst (λ k. AreSet k frame) (sym (after_block set frame p b)) h
  after set frame p (If e b o at) h = h
  after set frame p (While e b at) h = h
  after set frame p (Try b cs at) h = h
  after set frame p (Return e at) h = h
  after set frame p (Break at) h = h
  after set frame p (Continue at) h = h
  after set frame p (Throw class at) h = h
  after set frame p (Open lock at) h = h
  after set frame p (Close lock at) h = h
  after set frame p (Declare local at) h =
      declared set frame local.id.name (slot_of home local) (may_policy w local.policy) h
  after set frame p (Assign e value at) h =
      assigned set (target home frame (p + 1) e)
      (typed_exp home frame (p + 1 + target_nodes (target home frame (p + 1) e)) value) at p frame h
  after set frame p (Do call at) h = h
  after set frame p (When lock b o at) h = h

  mutual
    unfolding SetsFirst ExpReads typed_sta

    sta_first : (set : List ℕ) (frame : Frame) (p : ℕ) (s : Sta) → AreSet set frame
        → SetsFirst set (typed_sta w home frame p s)
    sta_first set frame p (Block b at) h = braces_first set frame p b h
    sta_first set frame p (If e b o at) h = (
      exp_in (IsSet set) home frame (p + 1) e h,
      braces_first set frame _ b h,
      else_first set
          (further frame (braces_locals b)) _ o h,
    )
    sta_first set frame p (While e b at) h =
        (exp_in (IsSet set) home frame (p + 1) e h, braces_first set frame _ b h)
    sta_first set frame p (Try b cs at) h =
        (braces_first set frame _ b h, catches_first set (further frame (braces_locals b)) _ cs h)
    sta_first set frame p (Return e at) h = may_in (IsSet set) home frame (p + 1) e h
    sta_first set frame p (Break at) h = tt
    sta_first set frame p (Continue at) h = tt
    sta_first set frame p (Throw class at) h = tt
    sta_first set frame p (Open lock at) h = tt
    sta_first set frame p (Close lock at) h = tt
    sta_first set frame p (Declare local at) h = exp_in (IsSet set) home frame (p + 1) local.value h
    sta_first set frame p (Assign e value at) h =
        assignment_in set (target home frame (p + 1) e)
        (typed_exp home frame (p + 1 + target_nodes (target home frame (p + 1) e)) value) at p
        (target_in set home frame (p + 1) e h) (exp_in (IsSet set) home frame _ value h)
    sta_first set frame p (Do call at) h = exp_in (IsSet set) home frame (p + 1) call h
    sta_first set frame p (When lock b o at) h =
        (braces_first set frame _ b h, may_braces_first set (further frame (braces_locals b)) _ o h)

    pub braces_first : (set : List ℕ) (frame : Frame) (p : ℕ) (b : Braces) → AreSet set frame
        → SetsFirst set (typed_braces w home frame p b)
    braces_first set frame p (In ss at) h = stas_first set frame (p + 1) ss h

    may_braces_first : (set : List ℕ) (frame : Frame) (p : ℕ) (b : MayBraces) → AreSet set frame
        → ElseSetsFirst set (typed_may_braces w home frame p b)
    may_braces_first set frame p NoBraces h = tt
    may_braces_first set frame p (plain.Some b) h = braces_first set frame p b h

    else_first : (set : List ℕ) (frame : Frame) (p : ℕ) (o : Else) → AreSet set frame
        → ElseSetsFirst set (typed_else w home frame p o)
    else_first set frame p NoElse h = tt
    else_first set frame p (Otherwise s) h = sta_first set frame p s h

    stas_first : (set : List ℕ) (frame : Frame) (p : ℕ) (ss : Stas) → AreSet set frame
        → AllSetFirst set (typed_stas w home frame p ss)
    stas_first set frame p End h = tt
    stas_first set frame p (Then s ss) h = (
      sta_first set frame p s h,
      stas_first (set_first.behind set (typed_sta w home frame p s)) (behind w home s frame) _ ss
          (after set frame p s h),
    )

    catches_first : (set : List ℕ) (frame : Frame) (p : ℕ) (cs : Catches) → AreSet set frame
        → CatchesSetFirst set (typed_catches w home frame p cs)
    catches_first set frame p NoCatch h = tt
    catches_first set frame p (Catch (On class name b) cs) h = (
      braces_first set frame p b h,
      catches_first set
          (further frame (handler_locals (On class name b))) _ cs h,
    )

-- the parameters are set
pub params_set : (n : ℕ) (home : Home) (frame : Frame) (ps : List ParamDecl)
    → AreSet (range_with_len 0 n) frame → frame.next + length ps ≤ n
    → AreSet (range_with_len 0 n) (with_params home frame ps)
unfolding with_params
params_set n home frame [] h room = h
params_set n home frame (p ∷ ps) h room =
    params_set n home (with_local frame p.id.name (param_slot home p) None) ps
    (of_both (IsLocal (IsSet (range_with_len 0 n))) frame.vars
    (record { number = frame.next; policy = None } ∷ []) h
    (in_range 0 n frame.next (omega arith) (omega (arith, room)), tt)) (omega (arith, room))
