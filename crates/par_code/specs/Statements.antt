-- What statements add to labelled code in the making.
use Rattle.std.specs.Prelude.{ℕ, ◌+◌, max, Bool, if◌then◌else◌, [], ◌∷◌, ◌++◌}
use Rattle.par_instr.specs.declared.instr.Instr.TheVariants.{Pop}
use Rattle.par_instr.specs.declared.instr.Instr.TheVariants as instr
use Rattle.par_typed.specs.declared.ty.Ty.{Ty}
use Rattle.par_typed.specs.declared.ty.Ty.TheVariants as ty
use Rattle.par_typed.specs.Plain.{mark, TExp, MayTExp, Absent, Present, TSta, MayTSta, TStas}
use Rattle.par_typed.specs.Plain.{TCatches}
use Rattle.par_completes.specs.Typed.{is_true}
use Rattle.par_code_form.specs.declared.item.Item.TheVariants.{Label, Op}
use Rattle.par_code_form.specs.Code.{Words, Loop, dropped, goes_on, loop_test, expr_labels}
use Rattle.par_code_form.specs.Code.{code, else_code, ending, give_back}
use Rattle.par_code_form.specs.Code.{all_code, catch_code, handlers, else_handlers, all_handlers}
use Rattle.par_code_form.specs.Code.{catch_handlers, labels, else_labels, all_labels, catch_labels}
use Rattle.par_code_form.specs.Operands.{expr_top, top, else_top, all_top, catch_top}
use Rattle.par_code_form.specs.Frames.{Types, frame_if, loop_frames, frames, else_frames}
use Rattle.par_code_form.specs.Frames.{all_frames, catch_frames}
use Rattle.par_code.specs.Drafts.{State, put, put_handler, take, reach, land, with_expr}
use Rattle.par_code.specs.declared.stmts.Targets.{Targets}

-- no code
abbrev pub nothing : State
nothing = record {
  items = λ k. k;
  handlers = λ k. k;
  frames = λ k. k;
  next = 0;
  most = 0;
}

abbrev pub loop_of : Targets → Loop
loop_of t = record { out = t.out; again = t.again }

-- a jump where control comes to it
unfoldable pub jump_if : Bool → ℕ → State → State
jump_if b l s = record s { items = λ k. s.items (goes_on b l k) }

-- a label, which branches go to where this holds
unfoldable pub land_if : Words → Bool → ℕ → Types → State → State
land_if w b n scope s =
    record s {
      items = λ k. s.items (Label n ∷ k);
      frames = λ k. s.frames (frame_if w b n scope k);
    }

-- without a value that nobody takes
unfoldable pub with_drop : Ty → State → State
with_drop t s = record s { items = λ k. s.items (dropped t k) }

-- the test of a loop
unfoldable pub with_loop_test : Words → Types → TExp → ℕ → State → State
with_loop_test w scope e out s = record {
  items = λ k. s.items (loop_test w (is_true e) e s.next out k);
  handlers = s.handlers;
  frames = λ k. s.frames (loop_frames w (is_true e) e s.next scope k);
  next = expr_labels e s.next;
  most = if is_true e then s.most else max s.most (expr_top e 0);
}

-- the end of a method, with a value where one is given back
unfoldable pub with_return : Words → Types → MayTExp → State → State
with_return w scope Absent s = put (Op instr.Return) s
with_return w scope (Present e) s =
    put (give_back (mark e).ty) (with_expr w scope [] e s)

-- a catch begins: what is thrown behind the label goes to it, and is not kept
unfoldable pub with_catch : Words → Types → (from c : ℕ) → State → State
with_catch w scope from c s =
    put (Op Pop) (reach 1 (land w s.next scope (ty.Class c ∷ [])
    (put_handler (record { from = from; to = from + 1; goes = s.next; class = w.class c })
    (take 1 s))))

-- the end of a body, where control comes to it
unfoldable pub with_end : Bool → State → State
with_end b s = record s { items = λ k. s.items (ending b ++ k) }

module _ (w : Words) (declared : Types) where
  unfoldable pub with_sta : Types → Loop → TSta → State → State
  with_sta scope l b s = record {
    items = λ k. s.items (code w b l s.next k);
    handlers = λ k. s.handlers (handlers w b s.next k);
    frames = λ k. s.frames (frames w declared b s.next scope k);
    next = labels b s.next;
    most = max s.most (top b);
  }

  unfoldable pub with_else : Types → Loop → MayTSta → State → State
  with_else scope l o s = record {
    items = λ k. s.items (else_code w o l s.next k);
    handlers = λ k. s.handlers (else_handlers w o s.next k);
    frames = λ k. s.frames (else_frames w declared o s.next scope k);
    next = else_labels o s.next;
    most = max s.most (else_top o);
  }

  unfoldable pub with_all : Types → Loop → TStas → State → State
  with_all scope l bs s = record {
    items = λ k. s.items (all_code w bs l s.next k);
    handlers = λ k. s.handlers (all_handlers w bs s.next k);
    frames = λ k. s.frames (all_frames w declared bs s.next scope k);
    next = all_labels bs s.next;
    most = max s.most (all_top bs);
  }

  -- catches of the `try` that begins at a label, each of which goes to its end
  unfoldable pub with_catches : Types → Loop → (from end : ℕ) → TCatches → State → State
  with_catches scope l from end cs s = record {
    items = λ k. s.items (catch_code w cs l end s.next k);
    handlers = λ k. s.handlers (catch_handlers w cs from s.next k);
    frames = λ k. s.frames (catch_frames w declared cs s.next scope k);
    next = catch_labels cs s.next;
    most = max s.most (catch_top cs);
  }
