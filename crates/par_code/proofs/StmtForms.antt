-- What each form of a statement adds to a draft.
use Rattle.std.proofs.Common.{◌≡◌, ℕ, ◌+◌, max, pos, Bool, true, false, if◌then◌else◌}
use Rattle.std.proofs.Common.{[], ◌∷◌, Option, refl, ap, ◌∙◌}
use Rattle.std.proofs.Common.{arith}
use Rattle.par_instr.specs.declared.instr.Instr.TheVariants.{Pop, Athrow}
use Rattle.par_instr.specs.declared.instr.Instr.TheVariants as instr
use Rattle.par_typed.specs.declared.ty.Ty.TheVariants as ty
use Rattle.par_typed.specs.Plain.{mark, TExp, Int, Boolean, Null, This, New, Local, Static}
use Rattle.par_typed.specs.Plain.{Field, Input, Output, Call, Neg, Not, Binary, MayTExp, Absent}
use Rattle.par_typed.specs.Plain.{Present}
use Rattle.par_typed.specs.Plain.{TSta, Block, If, While, Try, Return, Break, Continue, Throw, Open}
use Rattle.par_typed.specs.Plain.{Close, SetLocal, SetStatic, SetField, Eval, When}
use Rattle.par_typed.specs.Plain.{MayTSta, NoElse, Otherwise, TStas, End, Then, TCatches, NoCatch}
use Rattle.par_typed.specs.Plain.{Catch}
use Rattle.par_completes.specs.Typed.{completes, is_true}
use Rattle.par_code_form.specs.declared.item.Item.TheVariants.{Label, Op, Const, Jump, Member}
use Rattle.par_code_form.specs.declared.item.Item.TheVariants.{LockOp}
use Rattle.par_code_form.specs.Opcodes.{GETSTATIC, PUTSTATIC, PUTFIELD, IFEQ, GOTO}
use Rattle.par_code_form.specs.Code.{Words, Loop, give_back, store, loop_test, expr_labels}
use Rattle.par_code_form.specs.Code.{code, else_code, all_code, catch_code, handlers}
use Rattle.par_code_form.specs.Code.{else_handlers, all_handlers, catch_handlers, labels}
use Rattle.par_code_form.specs.Code.{else_labels, all_labels, catch_labels}
use Rattle.par_code_form.specs.Code.{may_labels}
use Rattle.par_code_form.specs.Operands.{may_top}
use Rattle.par_code_form.specs.Frames.{may_frames, loop_frames}
use Rattle.par_code_form.specs.Operands.{expr_top, top, else_top, all_top, catch_top}
use Rattle.par_code_form.specs.Again.{goes_again}
use Rattle.par_code_form.specs.Frames.{Types, with_operand, scope_behind}
use Rattle.par_code_form.specs.Frames.{frames, else_frames, all_frames, catch_frames}
use Rattle.par_code.specs.Drafts.{State, put, put_handler, put_frame, take, reach, land, with_new}
use Rattle.par_code.specs.Drafts.{with_expr}
use Rattle.par_code.specs.Statements.{with_drop, jump_if, land_if, with_sta, with_else}
use Rattle.par_code.specs.Statements.{with_all, with_catches, with_catch, with_end, with_loop_test}
use Rattle.par_code.specs.Statements.{with_return}
use Rattle.par_erase.specs.declared.stmt.PStmt.TheVariants.{LockSet}
use Rattle.par_erase.specs.Shown.{does}
use Rattle.par_erase.proofs.Shown.{shows, doings}
use Rattle.par_code.proofs.ExprForms.{type_is, operand_is}

-- the greatest of some, one after the other
most_two : (m a b : ℕ) → max m (max a b) ≡ max (max m a) b
most_two m a b = omega arith

most_three : (m a b c : ℕ) → max m (max a (max b c)) ≡ max (max (max m a) b) c
most_three m a b c = omega arith

-- the test of a loop, which the literal `true` has not
most_test : (y : Bool) (m a b : ℕ)
    → max m (if y then b else max a b) ≡ max (if y then m else max m a) b
most_test true m a b = refl
most_test false m a b = most_two m a b

most_none : (m : ℕ) → max m 0 ≡ m
most_none m = omega arith

-- the literal `true` has no labels
true_labels : (e : TExp) (n : ℕ) → is_true e ≡ true → expr_labels e n ≡ n
unfolding is_true expr_labels
true_labels (Int v m) n is = refl
true_labels (Boolean b m) n is = refl
true_labels (Null m) n is = refl
true_labels (This m) n is = refl
true_labels (New c m) n is = refl
true_labels (Local x m) n is = refl
true_labels (Static c f m) n is = refl
true_labels (Field e c f m) n is = absurd (cc is)
true_labels (Input c i m) n is = refl
true_labels (Output c i e m) n is = absurd (cc is)
true_labels (Call c i o es m) n is = absurd (cc is)
true_labels (Neg e m) n is = absurd (cc is)
true_labels (Not e m) n is = absurd (cc is)
true_labels (Binary op a b m) n is = absurd (cc is)

-- with another number of operands
abbrev at_most : State → ℕ → State
at_most s n = record s { most = n }

module _ (w : Words) (d : Types) (scope : Types) (l : Loop) where
  pub block_is : (ss : TStas) (at p : ℕ) (s : State)
      → with_sta w d scope l (Block ss at p) s ≡ with_all w d scope l ss s
  unfolding with_sta with_all code handlers frames labels top
  block_is ss at p s = refl

  pub if_is : (e : TExp) (b : TSta) (o : MayTSta) (at p : ℕ) (s : State)
      → with_sta w d scope l (If e b o at p) s
      ≡ land_if w (completes b) (s.next + 1) scope (with_else w d scope l o
      (land w s.next scope [] (jump_if (completes b) (s.next + 1)
      (with_sta w d scope l b (put (Jump IFEQ s.next) (with_expr w scope [] e (take 2 s)))))))
  unfolding
      with_sta with_else with_expr land land_if jump_if put put_frame take code handlers frames
      labels top
  if_is e b o at p s =
      ap (at_most (with_sta w d scope l (If e b o at p) s))
      (most_three s.most (expr_top e 0) (top b) (else_top o))

  pub when_is : (i : ℕ) (b : TSta) (o : MayTSta) (at p : ℕ) (s : State)
      → with_sta w d scope l (When i b o at p) s
      ≡ land_if w (completes b) (s.next + 1) scope (with_else w d scope l o
      (land w s.next scope [] (jump_if (completes b) (s.next + 1)
      (with_sta w d scope l b (put (Jump IFEQ s.next) (put (LockOp GETSTATIC i)
      (reach 1 (take 2 s))))))))
  unfolding
      with_sta with_else reach land land_if jump_if put put_frame take code handlers frames labels
      top
  when_is i b o at p s =
      ap (at_most (with_sta w d scope l (When i b o at p) s))
      (most_three s.most 1 (top b) (else_top o))

  pub try_is : (b : TSta) (cs : TCatches) (at p : ℕ) (s : State)
      → with_sta w d scope l (Try b cs at p) s
      ≡ land_if w (completes (Try b cs at p)) (s.next + 2) scope
      (with_catches w d scope l s.next (s.next + 2) cs (put (Label (s.next + 1))
      (jump_if (completes b) (s.next + 2)
      (with_sta w d scope l b (put (Label s.next) (take 3 s))))))
  unfolding with_sta with_catches land_if jump_if put take code handlers frames labels top
  try_is b cs at p s =
      ap (at_most (with_sta w d scope l (Try b cs at p) s))
      (most_two s.most (top b) (catch_top cs))

  pub return_is : (o : MayTExp) (at p : ℕ) (s : State)
      → with_sta w d scope l (Return o at p) s ≡ with_return w scope o s
  unfolding
      with_sta with_return with_expr put code handlers frames labels top may_frames may_labels
      may_top
  return_is Absent at p s = ap (at_most (put (Op instr.Return) s)) (most_none s.most)
  return_is (Present e) at p s = refl

  pub break_is : (at p : ℕ) (s : State)
      → with_sta w d scope l (Break at p) s ≡ put (Jump GOTO l.out) s
  unfolding with_sta put code handlers frames labels top
  break_is at p s = ap (at_most (put (Jump GOTO l.out) s)) (most_none s.most)

  pub continue_is : (at p : ℕ) (s : State)
      → with_sta w d scope l (Continue at p) s ≡ put (Jump GOTO l.again) s
  unfolding with_sta put code handlers frames labels top
  continue_is at p s = ap (at_most (put (Jump GOTO l.again) s)) (most_none s.most)

  pub throw_is : (c at p : ℕ) (s : State)
      → with_sta w d scope l (Throw c at p) s ≡ put (Op Athrow) (with_new (w.class c) 0 s)
  unfolding with_sta with_new put reach code handlers frames labels top
  throw_is c at p s = refl

  pub open_is : (i at p : ℕ) (s : State)
      → with_sta w d scope l (Open i at p) s
      ≡ put (LockOp PUTSTATIC i) (put (Const (pos 1)) (reach 1 s))
  unfolding with_sta put reach code handlers frames labels top
  open_is i at p s = refl

  pub close_is : (i at p : ℕ) (s : State)
      → with_sta w d scope l (Close i at p) s
      ≡ put (LockOp PUTSTATIC i) (put (Const (pos 0)) (reach 1 s))
  unfolding with_sta put reach code handlers frames labels top
  close_is i at p s = refl

  pub set_local_is : (x : ℕ) (q : Option ℕ) (e : TExp) (at p : ℕ) (s : State)
      → with_sta w d scope l (SetLocal x q e at p) s
      ≡ put (store (mark e).ty x) (with_expr w scope [] e s)
  unfolding with_sta with_expr put code handlers frames labels top
  set_local_is x q e at p s = refl

  pub set_static_is : (c f : ℕ) (e : TExp) (at p : ℕ) (s : State)
      → with_sta w d scope l (SetStatic c f e at p) s
      ≡ put (Member PUTSTATIC (w.class c) (w.field c f) (w.field_type c f))
      (with_expr w scope [] e s)
  unfolding with_sta with_expr put code handlers frames labels top
  set_static_is c f e at p s = refl

  pub set_field_is : (o : TExp) (c f : ℕ) (e : TExp) (at p : ℕ) (s : State)
      → with_sta w d scope l (SetField o c f e at p) s
      ≡ put (Member PUTFIELD (w.class c) (w.field c f) (w.field_type c f))
      (with_expr w scope (with_operand [] o) e (with_expr w scope [] o s))
  unfolding with_sta with_expr put code handlers frames labels top
  set_field_is o c f e at p s =
      ap (at_most (with_sta w d scope l (SetField o c f e at p) s))
      (most_two s.most (expr_top o 0) (expr_top e 1))

  pub eval_is : (e : TExp) (at p : ℕ) (s : State)
      → with_sta w d scope l (Eval e at p) s
      ≡ with_drop (mark e).ty (with_expr w scope [] e s)
  unfolding with_sta with_expr with_drop code handlers frames labels top
  eval_is e at p s = refl

  pub no_else_is : (s : State) → with_else w d scope l NoElse s ≡ s
  unfolding with_else else_code else_handlers else_frames else_labels else_top
  no_else_is s = ap (at_most s) (most_none s.most)

  pub otherwise_is : (b : TSta) (s : State)
      → with_else w d scope l (Otherwise b) s ≡ with_sta w d scope l b s
  unfolding with_else with_sta else_code else_handlers else_frames else_labels else_top
  otherwise_is b s = refl

  pub end_is : (s : State) → with_all w d scope l End s ≡ s
  unfolding with_all all_code all_handlers all_frames all_labels all_top
  end_is s = ap (at_most s) (most_none s.most)

  pub then_is : (b : TSta) (bs : TStas) (s : State)
      → with_all w d scope l (Then b bs) s
      ≡ with_all w d (scope_behind d b scope) l bs (with_sta w d scope l b s)
  unfolding with_all with_sta all_code all_handlers all_frames all_labels all_top
  then_is b bs s =
      ap (at_most (with_all w d scope l (Then b bs) s)) (most_two s.most (top b) (all_top bs))

  pub no_catch_is : (from end : ℕ) (s : State)
      → with_catches w d scope l from end NoCatch s ≡ s
  unfolding with_catches catch_code catch_handlers catch_frames catch_labels catch_top
  no_catch_is from end s = ap (at_most s) (most_none s.most)

  pub catch_is : (from end c : ℕ) (b : TSta) (cs : TCatches) (s : State)
      → with_catches w d scope l from end (Catch c b cs) s
      ≡ with_catches w d scope l from end cs (jump_if (completes b) end
      (with_sta w d scope l b (with_catch w scope from c s)))
  unfolding
      with_catches with_sta with_catch jump_if put reach land put_frame put_handler take catch_code
      catch_handlers catch_frames catch_labels catch_top
  catch_is from end c b cs s =
      ap (at_most (with_catches w d scope l from end (Catch c b cs) s))
      (most_three s.most 1 (top b) (catch_top cs))

  pub while_is : (e : TExp) (b : TSta) (at p : ℕ) (s : State)
      → with_sta w d scope l (While e b at p) s
      ≡ land_if w (completes (While e b at p)) (s.next + 1) scope
      (jump_if (completes b) s.next
      (with_sta w d scope (record { out = s.next + 1; again = s.next }) b
      (with_loop_test w scope e (s.next + 1) (land_if w (goes_again b) s.next scope (take 2 s)))))
  unfolding with_sta with_loop_test land_if jump_if put take code handlers frames labels top
  while_is e b at p s =
      ap (at_most (with_sta w d scope l (While e b at p) s))
      (most_test (is_true e) s.most (expr_top e 0) (top b))

module _ (w : Words) (scope : Types) where
  -- the test of a loop, by whether it is the literal `true`
  abbrev tested : Bool → TExp → ℕ → State → State
  tested y e out s = record {
    items = λ k. s.items (loop_test w y e s.next out k);
    handlers = s.handlers;
    frames = λ k. s.frames (loop_frames w y e s.next scope k);
    next = expr_labels e s.next;
    most = if y then s.most else max s.most (expr_top e 0);
  }

  pub test_none : (e : TExp) (out : ℕ) (s : State) → is_true e ≡ true
      → with_loop_test w scope e out s ≡ s
  unfolding with_loop_test
  test_none e out s is =
      ap (λ y. tested y e out s) is
      ∙ ap (λ n. record s { next = n }) (true_labels e s.next is)

  pub test_some : (e : TExp) (out : ℕ) (s : State) → is_true e ≡ false
      → with_loop_test w scope e out s ≡ put (Jump IFEQ out) (with_expr w scope [] e s)
  unfolding with_loop_test with_expr put
  test_some e out s is = ap (λ y. tested y e out s) is

-- a jump, a label and a value, item by item
pub jump_true : (n : ℕ) (s : State) → jump_if true n s ≡ put (Jump GOTO n) s
unfolding jump_if put
jump_true n s = refl

pub jump_false : (n : ℕ) (s : State) → jump_if false n s ≡ s
unfolding jump_if
jump_false n s = refl

pub land_true : (w : Words) (n : ℕ) (scope : Types) (s : State)
    → land_if w true n scope s ≡ land w n scope [] s
unfolding land_if land put put_frame
land_true w n scope s = refl

pub land_false : (w : Words) (n : ℕ) (scope : Types) (s : State)
    → land_if w false n scope s ≡ put (Label n) s
unfolding land_if put
land_false w n scope s = refl

pub end_true : (s : State) → with_end true s ≡ put (Op instr.Return) s
unfolding with_end put
end_true s = refl

pub end_false : (s : State) → with_end false s ≡ s
unfolding with_end
end_false s = refl

pub drop_int : (s : State) → with_drop ty.Int s ≡ put (Op Pop) s
unfolding with_drop put
drop_int s = refl

pub drop_boolean : (s : State) → with_drop ty.Boolean s ≡ put (Op Pop) s
unfolding with_drop put
drop_boolean s = refl

pub drop_class : (c : ℕ) (s : State) → with_drop (ty.Class c) s ≡ put (Op Pop) s
unfolding with_drop put
drop_class c s = refl

pub drop_null : (s : State) → with_drop ty.Null s ≡ put (Op Pop) s
unfolding with_drop put
drop_null s = refl

pub drop_void : (s : State) → with_drop ty.Void s ≡ s
unfolding with_drop
drop_void s = refl

pub catch_items : (w : Words) (scope : Types) (from c : ℕ) (s : State)
    → with_catch w scope from c s
    ≡ put (Op Pop) (reach 1 (land w s.next scope (ty.Class c ∷ [])
    (put_handler (record { from = from; to = from + 1; goes = s.next; class = w.class c })
    (take 1 s))))
unfolding with_catch
catch_items w scope from c s = refl

-- a lock is set
pub scope_lock_set : (i : ℕ → ℕ) (d scope : Types) (lock : ℕ) (b : Bool)
    → scope_behind d (does i (LockSet lock b)) scope ≡ scope
unfolding does
scope_lock_set i d scope lock true = refl
scope_lock_set i d scope lock false = refl

pub return_none : (w : Words) (scope : Types) (s : State)
    → with_return w scope Absent s ≡ put (Op instr.Return) s
unfolding with_return
return_none w scope s = refl

pub return_some : (w : Words) (scope : Types) (e : TExp) (s : State)
    → with_return w scope (Present e) s ≡ put (give_back (mark e).ty) (with_expr w scope [] e s)
unfolding with_return
return_some w scope e s = refl

pub ruleset scopes = (doings, scope_lock_set)

pub ruleset turns = (jump_true, jump_false, land_true, land_false, end_true, end_false)

pub ruleset emits = (
  turns,
  shows,
  doings,
  type_is,
  operand_is,
  block_is,
  if_is,
  when_is,
  while_is,
  try_is,
  return_is,
  return_none,
  return_some,
  break_is,
  continue_is,
  throw_is,
  open_is,
  close_is,
  set_local_is,
  set_static_is,
  set_field_is,
  eval_is,
  no_else_is,
  otherwise_is,
  end_is,
  then_is,
  no_catch_is,
  catch_is,
  catch_items,
  test_none,
  test_some,
  drop_int,
  drop_boolean,
  drop_class,
  drop_null,
  drop_void,
)
