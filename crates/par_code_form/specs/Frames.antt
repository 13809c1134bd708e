-- What locals and operands hold at labels, followed by what is given last: a frame at each label
-- that a branch or an exception goes to, and at no other.
use Rattle.std.specs.Prelude.{ℕ, ◌+◌, Bool, true, false, if◌then◌else◌, List, [], ◌∷◌, ◌++◌, map}
use Rattle.std.specs.Prelude.{Option}
use Rattle.std.specs.Prelude.{Some, None, slice_get, slice_set}
use Rattle.par_completes.specs.par_typed.declared.ty.Ty.{Ty}
use Rattle.par_completes.specs.par_typed.declared.ty.Ty.TheVariants as ty
use Rattle.par_completes.specs.par_typed.Plain.{mark, TExp, Int, Boolean, Null, This, New, Local}
use Rattle.par_completes.specs.par_typed.Plain.{Static}
use Rattle.par_completes.specs.par_typed.Plain.{Field, Input, Output, Call, Neg, Not, Binary}
use Rattle.par_completes.specs.par_typed.Plain.{MayTExp, Absent, Present, TExps, NoExps, More}
use Rattle.par_completes.specs.par_typed.Plain.{TSta, Block, If, While, Try, Return, Break}
use Rattle.par_completes.specs.par_typed.Plain.{Continue, Throw, Open}
use Rattle.par_completes.specs.par_typed.Plain.{Close, SetLocal, SetStatic, SetField, Eval, When}
use Rattle.par_completes.specs.par_typed.Plain.{MayTSta, NoElse, Otherwise, TStas, End, Then}
use Rattle.par_completes.specs.par_typed.Plain.{TCatches, NoCatch}
use Rattle.par_completes.specs.par_typed.Plain.{Catch}
use Rattle.par_code_form.specs.declared.labelled.Slot.{Slot}
use Rattle.par_code_form.specs.declared.labelled.Slot.TheVariants as slots
use Rattle.par_code_form.specs.declared.labelled.LabelFrame.{LabelFrame}
use Rattle.par_completes.specs.Typed.{completes, is_true}
use Rattle.par_code_form.specs.Again.{goes_again}
use Rattle.par_code_form.specs.Code.{Words, Shape, Calculates, Compares, Sames, Decides, shape_of}
use Rattle.par_code_form.specs.Code.{shape_labels, expr_labels, may_labels, labels}

-- The types of what lies in locals, or of operands from the first on. Void stands for a local that
-- is not in scope.
abbrev pub Types : Type 0
Types = List Ty

abbrev pub declared_type : Option Ty → Ty
declared_type None = ty.Void
declared_type (Some t) = t

-- with a local in scope, by its declared type
abbrev pub with_local : Types → ℕ → Types → Types
with_local declared x scope = slice_set scope x (declared_type (slice_get declared x))

-- the locals in scope behind a statement; a block ends the scope of its own
abbrev pub scope_behind : Types → TSta → Types → Types
scope_behind declared (Block ss at p) scope = scope
scope_behind declared (If e s o at p) scope = scope
scope_behind declared (While e s at p) scope = scope
scope_behind declared (Try s cs at p) scope = scope
scope_behind declared (Return o at p) scope = scope
scope_behind declared (Break at p) scope = scope
scope_behind declared (Continue at p) scope = scope
scope_behind declared (Throw c at p) scope = scope
scope_behind declared (Open l at p) scope = scope
scope_behind declared (Close l at p) scope = scope
scope_behind declared (SetLocal x q e at p) scope = with_local declared x scope
scope_behind declared (SetStatic c f e at p) scope = scope
scope_behind declared (SetField o c f e at p) scope = scope
scope_behind declared (Eval e at p) scope = scope
scope_behind declared (When l s o at p) scope = scope

-- with the value of an expression behind the operands
abbrev pub with_operand : Types → TExp → Types
with_operand os e = os ++ (mark e).ty ∷ []

abbrev pub with_receiver : Types → MayTExp → Types
with_receiver os Absent = os
with_receiver os (Present e) = with_operand os e

-- what lies below the second part of an operator
abbrev pub below : Shape → Types → TExp → Types
below (Calculates o i) os a = with_operand os a
below (Compares t) os a = with_operand os a
below (Sames b) os a = with_operand os a
below (Decides o) os a = os

module _ (w : Words) where
  abbrev pub slot : Ty → Slot
  slot ty.Int = slots.Int
  slot ty.Boolean = slots.Int
  slot (ty.Class c) = slots.Class (w.class c)
  slot ty.Null = slots.Null
  slot ty.Void = slots.Unset

  abbrev pub frame : ℕ → Types → Types → LabelFrame
  frame n scope os = record { label = n; locals = map slot scope; stack = map slot os }

  abbrev pub frame_if : Bool → ℕ → Types → List LabelFrame → List LabelFrame
  frame_if b n scope k = if b then frame n scope [] ∷ k else k

  -- behind the branch nothing lies yet, and at the end the value does
  abbrev pub test_frames : ℕ → Types → Types → List LabelFrame → List LabelFrame
  test_frames n scope os k = frame n scope os ∷ frame (n + 1) scope (os ++ ty.Boolean ∷ []) ∷ k

  abbrev pub shape_frames : Shape → ℕ → Types → Types → List LabelFrame → List LabelFrame
  shape_frames (Calculates o i) n scope os k = k
  shape_frames (Compares t) n scope os k = test_frames n scope os k
  shape_frames (Sames b) n scope os k = test_frames n scope os k
  shape_frames (Decides o) n scope os k = frame n scope (os ++ ty.Boolean ∷ []) ∷ k

  unfoldable mutual
    pub expr_frames : TExp → ℕ → Types → Types → List LabelFrame → List LabelFrame
    expr_frames (Int v m) n scope os k = k
    expr_frames (Boolean b m) n scope os k = k
    expr_frames (Null m) n scope os k = k
    expr_frames (This m) n scope os k = k
    expr_frames (New c m) n scope os k = k
    expr_frames (Local x m) n scope os k = k
    expr_frames (Static c f m) n scope os k = k
    expr_frames (Field e c f m) n scope os k = expr_frames e n scope os k
    expr_frames (Input c i m) n scope os k = k
    expr_frames (Output c i e m) n scope os k = expr_frames e n scope os k
    expr_frames (Call c i o es m) n scope os k =
        may_frames o n scope os (args_frames es (may_labels o n) scope (with_receiver os o) k)
    expr_frames (Neg e m) n scope os k = expr_frames e n scope os k
    expr_frames (Not e m) n scope os k =
        expr_frames e (n + 2) scope os (test_frames n scope os k)
    expr_frames (Binary op a b m) n scope os k =
        let s = shape_of op a in
        let l = n + shape_labels s in
        expr_frames a l scope os
        (expr_frames b (expr_labels a l) scope (below s os a) (shape_frames s n scope os k))

    pub may_frames : MayTExp → ℕ → Types → Types → List LabelFrame → List LabelFrame
    may_frames Absent n scope os k = k
    may_frames (Present e) n scope os k = expr_frames e n scope os k

    pub args_frames : TExps → ℕ → Types → Types → List LabelFrame → List LabelFrame
    args_frames NoExps n scope os k = k
    args_frames (More e es) n scope os k =
        expr_frames e n scope os (args_frames es (expr_labels e n) scope (with_operand os e) k)

  -- the literal `true` is no test
  abbrev pub loop_frames : Bool → TExp → ℕ → Types → List LabelFrame → List LabelFrame
  loop_frames true e n scope k = k
  loop_frames false e n scope k = expr_frames e n scope [] k

module _ (w : Words) (declared : Types) where
  unfoldable mutual
    pub frames : TSta → ℕ → Types → List LabelFrame → List LabelFrame
    frames (Block ss at p) n scope k = all_frames ss n scope k
    frames (If e s o at p) n scope k =
        let i = expr_labels e (n + 2) in
        expr_frames w e (n + 2) scope [] (frames s i scope (frame w n scope []
        ∷ else_frames o (labels s i) scope (frame_if w (completes s) (n + 1) scope k)))
    frames (While e s at p) n scope k =
        frame_if w (goes_again s) n scope (loop_frames w (is_true e) e (n + 2) scope
        (frames s (expr_labels e (n + 2)) scope
        (frame_if w (completes (While e s at p)) (n + 1) scope k)))
    frames (Try s cs at p) n scope k =
        frames s (n + 3) scope (catch_frames cs (labels s (n + 3)) scope
        (frame_if w (completes (Try s cs at p)) (n + 2) scope k))
    frames (Return o at p) n scope k = may_frames w o n scope [] k
    frames (Break at p) n scope k = k
    frames (Continue at p) n scope k = k
    frames (Throw c at p) n scope k = k
    frames (Open l at p) n scope k = k
    frames (Close l at p) n scope k = k
    frames (SetLocal x q e at p) n scope k = expr_frames w e n scope [] k
    frames (SetStatic c f e at p) n scope k = expr_frames w e n scope [] k
    frames (SetField o c f e at p) n scope k =
        expr_frames w o n scope [] (expr_frames w e (expr_labels o n) scope (with_operand [] o) k)
    frames (Eval e at p) n scope k = expr_frames w e n scope [] k
    frames (When l s o at p) n scope k =
        frames s (n + 2) scope (frame w n scope []
        ∷ else_frames o (labels s (n + 2)) scope (frame_if w (completes s) (n + 1) scope k))

    pub else_frames : MayTSta → ℕ → Types → List LabelFrame → List LabelFrame
    else_frames NoElse n scope k = k
    else_frames (Otherwise s) n scope k = frames s n scope k

    pub all_frames : TStas → ℕ → Types → List LabelFrame → List LabelFrame
    all_frames End n scope k = k
    all_frames (Then s ss) n scope k =
        frames s n scope (all_frames ss (labels s n) (scope_behind declared s scope) k)

    -- the exception is the one operand
    pub catch_frames : TCatches → ℕ → Types → List LabelFrame → List LabelFrame
    catch_frames NoCatch n scope k = k
    catch_frames (Catch c s cs) n scope k =
        frame w n scope (ty.Class c ∷ [])
        ∷ frames s (n + 1) scope (catch_frames cs (labels s (n + 1)) scope k)
