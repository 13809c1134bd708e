-- What each form of an expression adds to a draft.
use Rattle.std.proofs.Common.{◌≡◌, ℕ, ◌+◌, ◌<◌, ◌≤◌, max, ℤ, pos, true, false, List, []}
use Rattle.std.proofs.Common.{◌∷◌, ◌++◌, length, get_or, drop, codes, refl, ap, sym, ◌∙◌, arith}
use Rattle.std.proofs.lemmas.List.{length-append}
use Rattle.par_instr.specs.declared.instr.Instr.TheVariants.{AconstNull, AloadShort, Dup, Ineg}
use Rattle.par_typed.specs.par_lexer.declared.operator.BinOp.{BinOp}
use Rattle.par_typed.specs.declared.ty.Ty.{Ty}
use Rattle.par_typed.specs.declared.ty.Ty.TheVariants as ty
use Rattle.par_typed.specs.Plain.{mark, Mark, TExp, Int, Boolean, Null, This, New, Local, Static}
use Rattle.par_typed.specs.Plain.{Field, Input, Output, Call, Neg, Not, Binary}
use Rattle.par_typed.specs.Plain.{MayTExp, Absent, Present, TExps, NoExps, More}
use Rattle.par_code_form.specs.declared.item.Item.TheVariants.{Op, Const, Jump, Member, ClassOp}
use Rattle.par_code_form.specs.Opcodes.{GETSTATIC, GETFIELD, NEW, INVOKESTATIC, IFEQ, GOTO}
use Rattle.par_values.specs.Areas.{Name}
use Rattle.par_code_form.specs.Code as form
use Rattle.par_code_form.specs.Code.{shape_labels, shape_code, between}
use Rattle.par_code_form.specs.Operands as tops
use Rattle.par_code_form.specs.Operands.{between_top}
use Rattle.par_code_form.specs.Frames as frames
use Rattle.par_code_form.specs.Frames.{shape_frames}
use Rattle.par_code_form.specs.Code.{Words, shape_of, is_number, load, invoke, initializer}
use Rattle.par_code_form.specs.Code.{expr_code, expr_labels, may_code, may_labels, args_code}
use Rattle.par_code_form.specs.Code.{args_labels}
use Rattle.par_code_form.specs.Operands.{expr_top, may_top, args_top, receivers, with_result}
use Rattle.par_code_form.specs.Frames.{Types, with_operand, with_receiver, expr_frames, may_frames}
use Rattle.par_code_form.specs.Frames.{args_frames}
use Rattle.par_erase.specs.declared.expr.PExpr.{PExpr}
use Rattle.par_erase.specs.Shown.{shown, all_shown}
use Rattle.par_erase.proofs.Shown.{shown_mark, shows}
use Rattle.par_erase.proofs.ExprForms.{left_more, left_none}
use Rattle.par_code.specs.Shapes.{made_of}
use Rattle.par_code.specs.Drafts.{State, put, put_frame, take, reach, land, with_test, with_expr}
use Rattle.par_code.specs.Drafts.{with_may}
use Rattle.par_code.specs.Drafts.{with_args, with_new, with_between, with_shape, with_binary}
use Rattle.par_code.specs.Drafts.{below_second, label_count, put_frame}

-- the type of an expression as it is shown
pub operand_is : (i : ℕ → ℕ) (os : Types) (e : PExpr)
    → with_operand os (shown i e) ≡ os ++ e.ty ∷ []
operand_is i os e = ap (λ m. os ++ m.ty ∷ []) (shown_mark i e.kind e.ty)

pub shape_is : (i : ℕ → ℕ) (op : BinOp) (e : PExpr)
    → shape_of op (shown i e) ≡ form.shape op (is_number e.ty)
shape_is i op e = ap (λ m. form.shape op (is_number m.ty)) (shown_mark i e.kind e.ty)

module _ (w : Words) (scope os : Types) where
  pub with_int : (v : ℤ) (m : Mark) (s : State)
      → with_expr w scope os (Int v m) s ≡ put (Const v) (reach (length os + 1) s)
  unfolding with_expr expr_code expr_labels expr_frames expr_top put reach
  with_int v m s = refl

  pub with_true : (m : Mark) (s : State)
      → with_expr w scope os (Boolean true m) s ≡ put (Const (pos 1)) (reach (length os + 1) s)
  unfolding with_expr expr_code expr_labels expr_frames expr_top put reach
  with_true m s = refl

  pub with_false : (m : Mark) (s : State)
      → with_expr w scope os (Boolean false m) s ≡ put (Const (pos 0)) (reach (length os + 1) s)
  unfolding with_expr expr_code expr_labels expr_frames expr_top put reach
  with_false m s = refl

  pub with_null : (m : Mark) (s : State)
      → with_expr w scope os (Null m) s ≡ put (Op AconstNull) (reach (length os + 1) s)
  unfolding with_expr expr_code expr_labels expr_frames expr_top put reach
  with_null m s = refl

  pub with_this : (m : Mark) (s : State)
      → with_expr w scope os (This m) s ≡ put (Op (AloadShort 0)) (reach (length os + 1) s)
  unfolding with_expr expr_code expr_labels expr_frames expr_top put reach
  with_this m s = refl

  pub new_is : (c : ℕ) (m : Mark) (s : State)
      → with_expr w scope os (New c m) s ≡ with_new (w.class c) (length os) s
  unfolding with_expr expr_code expr_labels expr_frames expr_top with_new put reach
  new_is c m s = refl

  pub with_local : (x : ℕ) (m : Mark) (s : State)
      → with_expr w scope os (Local x m) s ≡ put (load m.ty x) (reach (length os + 1) s)
  unfolding with_expr expr_code expr_labels expr_frames expr_top put reach
  with_local x m s = refl

  pub with_static : (c f : ℕ) (m : Mark) (s : State)
      → with_expr w scope os (Static c f m) s
      ≡ put (Member GETSTATIC (w.class c) (w.field c f) (w.field_type c f))
      (reach (length os + 1) s)
  unfolding with_expr expr_code expr_labels expr_frames expr_top put reach
  with_static c f m s = refl

  pub with_field : (e : TExp) (c f : ℕ) (m : Mark) (s : State)
      → with_expr w scope os (Field e c f m) s
      ≡ put (Member GETFIELD (w.class c) (w.field c f) (w.field_type c f))
      (with_expr w scope os e s)
  unfolding with_expr expr_code expr_labels expr_frames expr_top put reach
  with_field e c f m s = refl

  pub with_input : (c i : ℕ) (m : Mark) (s : State)
      → with_expr w scope os (Input c i m) s
      ≡ put (Member INVOKESTATIC (w.class c) (w.channel c i) (codes "()I"))
      (reach (length os + 1) s)
  unfolding with_expr expr_code expr_labels expr_frames expr_top put reach
  with_input c i m s = refl

  pub with_output : (c i : ℕ) (e : TExp) (m : Mark) (s : State)
      → with_expr w scope os (Output c i e m) s
      ≡ put (Member INVOKESTATIC (w.class c) (w.channel c i) (codes "(I)V"))
      (with_expr w scope os e s)
  unfolding with_expr expr_code expr_labels expr_frames expr_top put reach
  with_output c i e m s = refl

  pub with_neg : (e : TExp) (m : Mark) (s : State)
      → with_expr w scope os (Neg e m) s ≡ put (Op Ineg) (with_expr w scope os e s)
  unfolding with_expr expr_code expr_labels expr_frames expr_top put reach
  with_neg e m s = refl

  pub with_not : (e : TExp) (m : Mark) (s : State)
      → with_expr w scope os (Not e m) s
      ≡ with_test w scope os IFEQ s.next (with_expr w scope os e (take 2 s))
  unfolding with_expr expr_code expr_labels expr_frames expr_top with_test take
  with_not e m s = refl

  -- a test, item by item
  pub test_is : (opcode n : ℕ) (s : State)
      → with_test w scope os opcode n s
      ≡ land w (n + 1) scope (os ++ ty.Boolean ∷ []) (put (Const (pos 1)) (land w n scope os
      (put (Jump GOTO (n + 1)) (put (Const (pos 0)) (put (Jump opcode n) s)))))
  unfolding with_test land put put_frame
  test_is opcode n s = refl

  pub with_absent : (s : State) → with_may w scope os Absent s ≡ reach (length os) s
  unfolding with_may may_code may_labels may_frames may_top reach
  with_absent s = refl

  pub with_present : (e : TExp) (s : State)
      → with_may w scope os (Present e) s ≡ with_expr w scope os e s
  unfolding with_may may_code may_labels may_frames may_top with_expr
  with_present e s = refl

  pub with_no_args : (s : State) → with_args w scope os NoExps s ≡ reach (length os) s
  unfolding with_args args_code args_labels args_frames args_top reach
  with_no_args s = refl

-- an object, item by item
pub new_items : (class : Name) (h : ℕ) (s : State)
    → with_new class h s
    ≡ put (initializer class) (put (Op Dup) (put (ClassOp NEW class) (reach (h + 2) s)))
unfolding with_new
new_items class h s = refl

-- the greatest of some, one after the other
greatest : (m a t b : ℕ) → max m (max a (max t b)) ≡ max (max (max m a) t) b
greatest m a t b = omega arith

longer : (os : Types) (t : Ty) → length (os ++ t ∷ []) ≡ length os + 1
longer os t = length-append os (t ∷ [])

module _ (w : Words) (scope os : Types) where
  -- the most operands of an operator
  abbrev most_at : form.Shape → TExp → TExp → ℕ → ℕ
  most_at sh a b most =
      max most (max (expr_top a (length os)) (max (between_top sh (length os))
      (expr_top b (tops.below_second sh (length os)))))

  -- an operator of a shape
  abbrev binary_at : form.Shape → TExp → TExp → State → ℕ → State
  binary_at sh a b s most =
      let l = s.next + shape_labels sh in
      record {
        items = λ k. s.items (expr_code w a l (between sh s.next
            (expr_code w b (expr_labels a l) (shape_code sh s.next k))));
        handlers = s.handlers;
        frames = λ k. s.frames (expr_frames w a l scope os (expr_frames w b (expr_labels a l) scope
            (frames.below sh os a) (shape_frames w sh s.next scope os k)));
        next = expr_labels b (expr_labels a l);
        most = most;
      }

  by_shape : (sh : form.Shape) (a b : TExp) (s : State)
      → binary_at sh a b s (most_at sh a b s.most)
      ≡ with_shape w scope os (made_of sh) s.next
      (with_expr w scope (below_second (made_of sh) os (mark a).ty) b
      (with_between (made_of sh) (length os) s.next
      (with_expr w scope os a (take (label_count (made_of sh)) s))))
  unfolding with_expr with_test land put put_frame take reach
  by_shape (form.Calculates o i) a b s =
      ap (λ n. binary_at (form.Calculates o i) a b s n)
      (greatest s.most (expr_top a (length os)) (length os + 1) (expr_top b (length os + 1))
      ∙ ap (λ n. max (max (max s.most (expr_top a (length os))) (length os + 1)) (expr_top b n))
      (sym (longer os (mark a).ty)))
  by_shape (form.Compares t) a b s =
      ap (λ n. binary_at (form.Compares t) a b s n)
      (greatest s.most (expr_top a (length os)) (length os + 1) (expr_top b (length os + 1))
      ∙ ap (λ n. max (max (max s.most (expr_top a (length os))) (length os + 1)) (expr_top b n))
      (sym (longer os (mark a).ty)))
  by_shape (form.Sames y) a b s =
      ap (λ n. binary_at (form.Sames y) a b s n)
      (greatest s.most (expr_top a (length os)) (length os + 1) (expr_top b (length os + 1))
      ∙ ap (λ n. max (max (max s.most (expr_top a (length os))) (length os + 1)) (expr_top b n))
      (sym (longer os (mark a).ty)))
  by_shape (form.Decides o) a b s =
      ap (λ n. binary_at (form.Decides o) a b s n)
      (greatest s.most (expr_top a (length os)) (length os + 2) (expr_top b (length os)))

  pub binary_is : (op : BinOp) (a b : TExp) (m : Mark) (s : State)
      → with_expr w scope os (Binary op a b m) s ≡ with_binary w scope os op a b s
  unfolding with_expr expr_code expr_labels expr_frames expr_top
  binary_is op a b m s = by_shape (shape_of op a) a b s

  receivers_are : (o : MayTExp) → length (with_receiver os o) ≡ receivers o (length os)
  unfolding receivers
  receivers_are Absent = refl
  receivers_are (Present e) = longer os (mark e).ty

  pub call_is : (c i : ℕ) (o : MayTExp) (es : TExps) (m : Mark) (s : State)
      → with_expr w scope os (Call c i o es m) s
      ≡ put (Member (invoke o) (w.class c) (w.method c i) (w.method_type c i))
      (reach (with_result m.ty (length os))
      (with_args w scope (with_receiver os o) es (with_may w scope os o s)))
  unfolding with_expr with_args with_may expr_code expr_labels expr_frames expr_top put reach
  call_is c i o es m s =
      ap (λ n. record {
        items = λ k. s.items (may_code w o s.next (args_code w es (may_labels o s.next)
            (Member (invoke o) (w.class c) (w.method c i) (w.method_type c i) ∷ k)));
        handlers = s.handlers;
        frames = λ k. s.frames (may_frames w o s.next scope os
            (args_frames w es (may_labels o s.next) scope (with_receiver os o) k));
        next = args_labels es (may_labels o s.next);
        most = n;
      })
      (greatest s.most (may_top o (length os)) (args_top es (receivers o (length os)))
      (with_result m.ty (length os))
      ∙ ap (λ n. max (max (max s.most (may_top o (length os))) (args_top es n))
      (with_result m.ty (length os))) (sym (receivers_are o)))

  pub with_more : (e : TExp) (es : TExps) (s : State)
      → with_args w scope os (More e es) s
      ≡ with_args w scope (with_operand os e) es (with_expr w scope os e s)
  unfolding with_args with_expr args_code args_labels args_frames args_top
  with_more e es s =
      let both : max s.most (max (expr_top e (length os)) (args_top es (length os + 1)))
      ≡ max (max s.most (expr_top e (length os))) (args_top es (length os + 1)) = omega arith in
      ap (λ n. record {
        items = λ k. s.items (expr_code w e s.next (args_code w es (expr_labels e s.next) k));
        handlers = s.handlers;
        frames = λ k. s.frames (expr_frames w e s.next scope os
            (args_frames w es (expr_labels e s.next) scope (with_operand os e) k));
        next = args_labels es (expr_labels e s.next);
        most = n;
      })
      (both ∙ ap (λ n. max (max s.most (expr_top e (length os))) (args_top es n))
      (sym (longer os (mark e).ty)))

-- what is left of arguments
pub args_left : (i : ℕ → ℕ) (es : List PExpr) (n : ℕ) (e : PExpr) → n < length es
    → e ≡ get_or es n e
    → all_shown i (drop n es) ≡ More (shown i e) (all_shown i (drop (n + 1) es))
args_left i es n e lt is = ap (all_shown i) (left_more es n e lt is)

pub no_args_left : (i : ℕ → ℕ) (es : List PExpr) (n : ℕ) → length es ≤ n
    → all_shown i (drop n es) ≡ NoExps
no_args_left i es n le = ap (all_shown i) (left_none es n le)

-- the type of an expression as it is shown
pub type_is : (i : ℕ → ℕ) (e : PExpr) → (mark (shown i e)).ty ≡ e.ty
type_is i e = ap (λ m. m.ty) (shown_mark i e.kind e.ty)

pub ruleset emits = (
  shows,
  type_is,
  operand_is,
  shape_is,
  with_int,
  with_true,
  with_false,
  with_null,
  with_this,
  new_is,
  new_items,
  with_local,
  with_static,
  with_field,
  with_input,
  with_output,
  with_neg,
  with_not,
  test_is,
  binary_is,
  call_is,
  with_absent,
  with_present,
  with_no_args,
  with_more,
)
