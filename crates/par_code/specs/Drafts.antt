-- Labelled code in the making, and what a piece of code adds to it.
use Rattle.std.specs.Prelude.{ℕ, ◌+◌, max, List, [], ◌∷◌, ◌++◌, length}
use Rattle.par_typed.specs.par_lexer.declared.operator.BinOp.{BinOp}
use Rattle.par_instr.specs.declared.instr.Instr.TheVariants.{Dup, Pop}
use Rattle.par_typed.specs.declared.ty.Ty.{Ty}
use Rattle.par_typed.specs.declared.ty.Ty.TheVariants as ty
use Rattle.par_typed.specs.Plain.{mark, TExp, MayTExp, TExps}
use Rattle.par_code_form.specs.declared.item.Item.{Item}
use Rattle.par_code_form.specs.declared.item.Item.TheVariants.{Label, Op, Jump, ClassOp}
use Rattle.par_code_form.specs.declared.labelled.LabelFrame.{LabelFrame}
use Rattle.par_code_form.specs.declared.labelled.Handler.{Handler}
use Rattle.par_values.specs.Areas.{Name}
use Rattle.par_code_form.specs.Opcodes.{NEW}
use Rattle.par_code_form.specs.Code.{initializer, shape_of}
use Rattle.par_code_form.specs.Code.{Words, test_code, expr_code, may_code, args_code, expr_labels}
use Rattle.par_code_form.specs.Code.{may_labels}
use Rattle.par_code_form.specs.Code.{args_labels}
use Rattle.par_code_form.specs.Operands.{expr_top, may_top, args_top}
use Rattle.par_code_form.specs.Frames.{Types, frame, test_frames, expr_frames, may_frames}
use Rattle.par_code_form.specs.Frames.{args_frames}
use Rattle.par_code.specs.declared.draft.Draft.{Draft}
use Rattle.par_code.specs.declared.shape.Shape.{Shape}
use Rattle.par_code.specs.declared.shape.Shape.TheVariants.{Calculates, Compares, Decides}
use Rattle.par_code.specs.Shapes.{made_of}

-- what is there is told by what it comes to with whatever follows
pub record State : Type 0 where
  pub items : List Item → List Item
  pub handlers : List Handler → List Handler
  pub frames : List LabelFrame → List LabelFrame
  pub next : ℕ
  pub most : ℕ

abbrev pub seen : Draft → State
seen d = record {
  items = λ k. d.items ++ k;
  handlers = λ k. d.handlers ++ k;
  frames = λ k. d.frames ++ k;
  next = d.next_label;
  most = d.most;
}

-- an item
unfoldable pub put : Item → State → State
put x s = record s { items = λ k. s.items (x ∷ k) }

-- a handler
unfoldable pub put_handler : Handler → State → State
put_handler x s = record s { handlers = λ k. s.handlers (x ∷ k) }

-- a frame
unfoldable pub put_frame : LabelFrame → State → State
put_frame x s = record s { frames = λ k. s.frames (x ∷ k) }

-- labels are taken
unfoldable pub take : ℕ → State → State
take count s = record s { next = s.next + count }

-- so many operands lie there
unfoldable pub reach : ℕ → State → State
reach h s = record s { most = max s.most h }

-- a label that a branch or an exception goes to
unfoldable pub land : Words → ℕ → Types → Types → State → State
land w n scope os s = put_frame (frame w n scope os) (put (Label n) s)

-- 1 where a branch is taken, else 0, above these operands
unfoldable pub with_test : Words → Types → Types → (opcode label : ℕ) → State → State
with_test w scope os opcode n s =
    record s {
      items = λ k. s.items (test_code opcode n k);
      frames = λ k. s.frames (test_frames w n scope os k);
    }

-- an object of a class, where so many operands lie below
unfoldable pub with_new : Name → ℕ → State → State
with_new class h s =
    put (initializer class) (put (Op Dup) (put (ClassOp NEW class) (reach (h + 2) s)))

-- what lies below the second part of an operator, by the type of the first
abbrev pub below_second : Shape → Types → Ty → Types
below_second (Calculates i) os t = os ++ t ∷ []
below_second (Compares o) os t = os ++ t ∷ []
below_second (Decides o) os t = os

abbrev pub label_count : Shape → ℕ
label_count (Calculates i) = 0
label_count (Compares o) = 2
label_count (Decides o) = 1

-- what stands between the two parts, where so many operands lie below
abbrev pub with_between : Shape → (h label : ℕ) → State → State
with_between (Calculates i) h n s = reach (h + 1) s
with_between (Compares o) h n s = reach (h + 1) s
with_between (Decides o) h n s =
    put (Op Pop) (put (Jump o n) (put (Op Dup) (reach (h + 2) s)))

-- what makes the value of two parts
abbrev pub with_shape : Words → Types → Types → Shape → ℕ → State → State
with_shape w scope os (Calculates i) n s = put (Op i) s
with_shape w scope os (Compares o) n s = with_test w scope os o n s
with_shape w scope os (Decides o) n s = land w n scope (os ++ ty.Boolean ∷ []) s

module _ (w : Words) (scope : Types) where
  -- the code of an expression above these operands
  unfoldable pub with_expr : Types → TExp → State → State
  with_expr os e s = record {
    items = λ k. s.items (expr_code w e s.next k);
    handlers = s.handlers;
    frames = λ k. s.frames (expr_frames w e s.next scope os k);
    next = expr_labels e s.next;
    most = max s.most (expr_top e (length os));
  }

  unfoldable pub with_may : Types → MayTExp → State → State
  with_may os o s = record {
    items = λ k. s.items (may_code w o s.next k);
    handlers = s.handlers;
    frames = λ k. s.frames (may_frames w o s.next scope os k);
    next = may_labels o s.next;
    most = max s.most (may_top o (length os));
  }

  unfoldable pub with_args : Types → TExps → State → State
  with_args os es s = record {
    items = λ k. s.items (args_code w es s.next k);
    handlers = s.handlers;
    frames = λ k. s.frames (args_frames w es s.next scope os k);
    next = args_labels es s.next;
    most = max s.most (args_top es (length os));
  }

  -- an operator on these two parts
  abbrev pub with_binary : Types → BinOp → TExp → TExp → State → State
  with_binary os op a b s =
      let sh = made_of (shape_of op a) in
      with_shape w scope os sh s.next (with_expr (below_second sh os (mark a).ty) b
      (with_between sh (length os) s.next (with_expr os a (take (label_count sh) s))))
