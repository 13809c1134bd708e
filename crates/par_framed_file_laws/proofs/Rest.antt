-- What is said of the frames behind those of an expression or a statement.
use Rattle.std.proofs.Common.{ℕ, ◌+◌, Bool, true, false, List, []}
use Rattle.std.specs.List.{AllByRecursion}
use Rattle.par_typed.specs.Plain.{TExp, Int, Boolean, Null, This, New, Local, Static}
use Rattle.par_typed.specs.Plain.{Field, Input, Output, Call, Neg, Not, Binary}
use Rattle.par_typed.specs.Plain.{MayTExp, Absent, Present, TExps, NoExps, More}
use Rattle.par_typed.specs.Plain.{TSta, Block, If, While, Try, Return, Break, Continue, Throw, Open}
use Rattle.par_typed.specs.Plain.{Close, SetLocal, SetStatic, SetField, Eval, When}
use Rattle.par_typed.specs.Plain.{MayTSta, NoElse, Otherwise, TStas, End, Then, TCatches, NoCatch}
use Rattle.par_typed.specs.Plain.{Catch}
use Rattle.par_completes.specs.Typed.{completes, is_true}
use Rattle.par_code_form.specs.declared.labelled.LabelFrame.{LabelFrame}
use Rattle.par_code_form.specs.Again.{goes_again}
use Rattle.par_code_form.specs.Code.{Words, Shape, Calculates, Compares, Sames, Decides, shape_of}
use Rattle.par_code_form.specs.Code.{shape_labels, expr_labels, may_labels, labels}
use Rattle.par_code_form.specs.Frames.{Types, scope_behind, with_operand, with_receiver, below}
use Rattle.par_code_form.specs.Frames.{frame_if, shape_frames, expr_frames, may_frames}
use Rattle.par_code_form.specs.Frames.{args_frames, loop_frames, frames, else_frames, all_frames}
use Rattle.par_code_form.specs.Frames.{catch_frames}

module _ (w : Words) (P : LabelFrame → Type 0) where
  abbrev pub All : List LabelFrame → Type 0
  All fs = AllByRecursion P fs

  pub shape_rest : (s : Shape) (n : ℕ) (scope os : Types) (k : List LabelFrame)
      → All (shape_frames w s n scope os k) → All k
  shape_rest (Calculates o i) n scope os k h = h
  shape_rest (Compares t) n scope os k h = h.1.1
  shape_rest (Sames b) n scope os k h = h.1.1
  shape_rest (Decides o) n scope os k h = h.1

  pub if_rest : (b : Bool) (n : ℕ) (scope : Types) (k : List LabelFrame)
      → All (frame_if w b n scope k) → All k
  if_rest true n scope k h = h.1
  if_rest false n scope k h = h

  mutual
    unfolding expr_frames

    pub expr_rest : (e : TExp) (n : ℕ) (scope os : Types) (k : List LabelFrame)
        → All (expr_frames w e n scope os k) → All k
    expr_rest (Int v m) n scope os k h = h
    expr_rest (Boolean b m) n scope os k h = h
    expr_rest (Null m) n scope os k h = h
    expr_rest (This m) n scope os k h = h
    expr_rest (New c m) n scope os k h = h
    expr_rest (Local x m) n scope os k h = h
    expr_rest (Static c f m) n scope os k h = h
    expr_rest (Field e c f m) n scope os k h = expr_rest e n scope os k h
    expr_rest (Input c i m) n scope os k h = h
    expr_rest (Output c i e m) n scope os k h = expr_rest e n scope os k h
    expr_rest (Call c i o es m) n scope os k h =
        args_rest es (may_labels o n) scope (with_receiver os o) k (may_rest o n scope os _ h)
    expr_rest (Neg e m) n scope os k h = expr_rest e n scope os k h
    expr_rest (Not e m) n scope os k h = (expr_rest e (n + 2) scope os _ h).1.1
    expr_rest (Binary op a b m) n scope os k h =
        let s = shape_of op a in
        let l = n + shape_labels s in
        shape_rest s n scope os k
        (expr_rest b (expr_labels a l) scope (below s os a) _ (expr_rest a l scope os _ h))

    pub may_rest : (o : MayTExp) (n : ℕ) (scope os : Types) (k : List LabelFrame)
        → All (may_frames w o n scope os k) → All k
    may_rest Absent n scope os k h = h
    may_rest (Present e) n scope os k h = expr_rest e n scope os k h

    pub args_rest : (es : TExps) (n : ℕ) (scope os : Types) (k : List LabelFrame)
        → All (args_frames w es n scope os k) → All k
    args_rest NoExps n scope os k h = h
    args_rest (More e es) n scope os k h =
        args_rest es (expr_labels e n) scope (with_operand os e) k (expr_rest e n scope os _ h)

  pub loop_rest : (b : Bool) (e : TExp) (n : ℕ) (scope : Types) (k : List LabelFrame)
      → All (loop_frames w b e n scope k) → All k
  loop_rest true e n scope k h = h
  loop_rest false e n scope k h = expr_rest e n scope [] k h

  module _ (declared : Types) where
    mutual
      unfolding frames

      pub sta_rest : (s : TSta) (n : ℕ) (scope : Types) (k : List LabelFrame)
          → All (frames w declared s n scope k) → All k
      sta_rest (Block ss at p) n scope k h = all_rest ss n scope k h
      sta_rest (If e s o at p) n scope k h =
          let j = expr_labels e (n + 2) in
          if_rest (completes s) (n + 1) scope k
          (else_rest o (labels s j) scope _
          (sta_rest s j scope _ (expr_rest e (n + 2) scope [] _ h)).1)
      sta_rest (While e s at p) n scope k h =
          if_rest (completes (While e s at p)) (n + 1) scope k
          (sta_rest s (expr_labels e (n + 2)) scope _
          (loop_rest (is_true e) e (n + 2) scope _ (if_rest (goes_again s) n scope _ h)))
      sta_rest (Try s cs at p) n scope k h =
          if_rest (completes (Try s cs at p)) (n + 2) scope k
          (catch_rest cs (labels s (n + 3)) scope _ (sta_rest s (n + 3) scope _ h))
      sta_rest (Return o at p) n scope k h = may_rest o n scope [] k h
      sta_rest (Break at p) n scope k h = h
      sta_rest (Continue at p) n scope k h = h
      sta_rest (Throw c at p) n scope k h = h
      sta_rest (Open l at p) n scope k h = h
      sta_rest (Close l at p) n scope k h = h
      sta_rest (SetLocal x q e at p) n scope k h = expr_rest e n scope [] k h
      sta_rest (SetStatic c f e at p) n scope k h = expr_rest e n scope [] k h
      sta_rest (SetField o c f e at p) n scope k h =
          expr_rest e (expr_labels o n) scope (with_operand [] o) k
          (expr_rest o n scope [] _ h)
      sta_rest (Eval e at p) n scope k h = expr_rest e n scope [] k h
      sta_rest (When l s o at p) n scope k h =
          if_rest (completes s) (n + 1) scope k
          (else_rest o (labels s (n + 2)) scope _ (sta_rest s (n + 2) scope _ h).1)

      pub else_rest : (o : MayTSta) (n : ℕ) (scope : Types) (k : List LabelFrame)
          → All (else_frames w declared o n scope k) → All k
      else_rest NoElse n scope k h = h
      else_rest (Otherwise s) n scope k h = sta_rest s n scope k h

      pub all_rest : (ss : TStas) (n : ℕ) (scope : Types) (k : List LabelFrame)
          → All (all_frames w declared ss n scope k) → All k
      all_rest End n scope k h = h
      all_rest (Then s ss) n scope k h =
          all_rest ss (labels s n) (scope_behind declared s scope) k (sta_rest s n scope _ h)

      pub catch_rest : (cs : TCatches) (n : ℕ) (scope : Types) (k : List LabelFrame)
          → All (catch_frames w declared cs n scope k) → All k
      catch_rest NoCatch n scope k h = h
      catch_rest (Catch c s cs) n scope k h =
          catch_rest cs (labels s (n + 1)) scope k (sta_rest s (n + 1) scope _ h.1)
