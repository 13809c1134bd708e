-- No two frames of a body stand at one label.
use Rattle.std.proofs.Common.{◌≡◌, ℕ, ◌+◌, ◌≤◌, Bool, true, false, List, [], ◌∷◌, refl, ap, arith}
use Rattle.std.specs.Prelude.{◌==◌}
use Rattle.par_typed.specs.Plain.{TExp, Int, Boolean, Null, This, New, Local, Static}
use Rattle.par_typed.specs.Plain.{Field, Input, Output, Call, Neg, Not, Binary}
use Rattle.par_typed.specs.Plain.{MayTExp, Absent, Present, TExps, NoExps, More}
use Rattle.par_typed.specs.Plain.{TSta, Block, If, While, Try, Return, Break, Continue, Throw, Open}
use Rattle.par_typed.specs.Plain.{Close, SetLocal, SetStatic, SetField, Eval, When}
use Rattle.par_typed.specs.Plain.{MayTSta, NoElse, Otherwise, TStas, End, Then, TCatches, NoCatch}
use Rattle.par_typed.specs.Plain.{Catch}
use Rattle.par_typed_laws.specs.par_completes.Typed.{completes, is_true}
use Rattle.par_code_form.specs.declared.labelled.LabelFrame.{LabelFrame}
use Rattle.par_code_form.specs.Code.{Words, Shape, Calculates, Compares, Sames}
use Rattle.par_code_form.specs.Code.{Decides}
use Rattle.par_code_form.specs.Code.{shape_of, shape_labels}
use Rattle.par_code_form.specs.Code.{expr_labels, may_labels, args_labels}
use Rattle.par_code_form.specs.Code.{labels, else_labels, all_labels, catch_labels}
use Rattle.par_code_form.specs.Again.{goes_again}
use Rattle.par_code_form.specs.Frames.{Types, scope_behind, with_operand}
use Rattle.par_code_form.specs.Frames.{with_receiver, below}
use Rattle.par_code_form.specs.Frames.{frame, frame_if, test_frames, shape_frames}
use Rattle.par_code_form.specs.Frames.{expr_frames}
use Rattle.par_code_form.specs.Frames.{may_frames, args_frames, loop_frames, frames}
use Rattle.par_code_form.specs.Frames.{else_frames}
use Rattle.par_code_form.specs.Frames.{all_frames, catch_frames}
use Rattle.par_source_code_laws.proofs.Counts.{bit, under, step, step_two, step_three, true_labels}

-- how many frames stand at a label
abbrev pub standing : ℕ → List LabelFrame → ℕ
standing l [] = 0
standing l (f ∷ fs) = bit (f.label == l) + standing l fs

module _ (w : Words) (l : ℕ) where
  framed_once : (b : Bool) (n : ℕ) (scope : Types) (k : List LabelFrame)
      → standing l (frame_if w b n scope k) ≤ bit (n == l) + standing l k
  framed_once true n scope k = omega arith
  framed_once false n scope k = omega arith

  shape_once : (s : Shape) (n : ℕ) (scope os : Types) (k : List LabelFrame)
      → standing l (shape_frames w s n scope os k) + under l n
      ≤ under l (n + shape_labels s) + standing l k
  shape_once (Calculates o i) n scope os k =
      let a : under l (n + 0) ≡ under l n = ap (under l) (omega arith) in omega (arith, a)
  shape_once (Compares t) n scope os k = let a = step_two l n in omega (arith, a)
  shape_once (Sames b) n scope os k = let a = step_two l n in omega (arith, a)
  shape_once (Decides o) n scope os k = let a = step l n in omega (arith, a)

  mutual
    unfolding expr_frames expr_labels

    expr_once : (e : TExp) (n : ℕ) (scope os : Types) (k : List LabelFrame)
        → standing l (expr_frames w e n scope os k) + under l n
        ≤ under l (expr_labels e n) + standing l k
    expr_once (Int v m) n scope os k = omega arith
    expr_once (Boolean b m) n scope os k = omega arith
    expr_once (Null m) n scope os k = omega arith
    expr_once (This m) n scope os k = omega arith
    expr_once (New c m) n scope os k = omega arith
    expr_once (Local x m) n scope os k = omega arith
    expr_once (Static c f m) n scope os k = omega arith
    expr_once (Field e c f m) n scope os k = expr_once e n scope os k
    expr_once (Input c i m) n scope os k = omega arith
    expr_once (Output c i e m) n scope os k = expr_once e n scope os k
    expr_once (Call c i o es m) n scope os k =
        let k1 = args_frames w es (may_labels o n) scope (with_receiver os o) k in
        let a = may_once o n scope os k1 in
        let b = args_once es (may_labels o n) scope (with_receiver os o) k in
        omega (arith, a, b)
    expr_once (Neg e m) n scope os k = expr_once e n scope os k
    expr_once (Not e m) n scope os k =
        let a = expr_once e (n + 2) scope os (test_frames w n scope os k) in
        let b = step_two l n in
        omega (arith, a, b)
    expr_once (Binary op a b m) n scope os k =
        let s = shape_of op a in
        let i = n + shape_labels s in
        let k1 = shape_frames w s n scope os k in
        let k2 = expr_frames w b (expr_labels a i) scope (below s os a) k1 in
        let x = expr_once a i scope os k2 in
        let y = expr_once b (expr_labels a i) scope (below s os a) k1 in
        let z = shape_once s n scope os k in
        omega (arith, x, y, z)

    may_once : (o : MayTExp) (n : ℕ) (scope os : Types) (k : List LabelFrame)
        → standing l (may_frames w o n scope os k) + under l n
        ≤ under l (may_labels o n) + standing l k
    may_once Absent n scope os k = omega arith
    may_once (Present e) n scope os k = expr_once e n scope os k

    args_once : (es : TExps) (n : ℕ) (scope os : Types) (k : List LabelFrame)
        → standing l (args_frames w es n scope os k) + under l n
        ≤ under l (args_labels es n) + standing l k
    args_once NoExps n scope os k = omega arith
    args_once (More e es) n scope os k =
        let k1 = args_frames w es (expr_labels e n) scope (with_operand os e) k in
        let a = expr_once e n scope os k1 in
        let b = args_once es (expr_labels e n) scope (with_operand os e) k in
        omega (arith, a, b)

  loop_once : (b : Bool) (e : TExp) (n : ℕ) (scope : Types) (k : List LabelFrame)
      → is_true e ≡ b → standing l (loop_frames w b e n scope k) + under l n
      ≤ under l (expr_labels e n) + standing l k
  loop_once true e n scope k is =
      let a : under l (expr_labels e n) ≡ under l n = ap (under l) (true_labels e n is) in
      omega (arith, a)
  loop_once false e n scope k is = expr_once e n scope [] k

  module _ (d : Types) where
    mutual
      unfolding frames labels

      pub sta_once : (s : TSta) (n : ℕ) (scope : Types) (k : List LabelFrame)
          → standing l (frames w d s n scope k) + under l n ≤ under l (labels s n) + standing l k
      sta_once (Block ss at p) n scope k = all_once ss n scope k
      sta_once (If e s o at p) n scope k =
          let i = expr_labels e (n + 2) in
          let k1 = frame_if w (completes s) (n + 1) scope k in
          let k2 = frame w n scope [] ∷ else_frames w d o (labels s i) scope k1 in
          let a = expr_once e (n + 2) scope [] (frames w d s i scope k2) in
          let b = sta_once s i scope k2 in
          let c = else_once o (labels s i) scope k1 in
          let x = framed_once (completes s) (n + 1) scope k in
          let f = step_two l n in
          omega (arith, a, b, c, x, f)
      sta_once (While e s at p) n scope k =
          let i = expr_labels e (n + 2) in
          let k1 = frame_if w (completes (While e s at p)) (n + 1) scope k in
          let k2 = frames w d s i scope k1 in
          let a = framed_once (goes_again s) n scope (loop_frames w (is_true e) e (n + 2) scope k2)
          in
          let b = loop_once (is_true e) e (n + 2) scope k2 refl in
          let c = sta_once s i scope k1 in
          let x = framed_once (completes (While e s at p)) (n + 1) scope k in
          let f = step_two l n in
          omega (arith, a, b, c, x, f)
      sta_once (Try s cs at p) n scope k =
          let k1 = frame_if w (completes (Try s cs at p)) (n + 2) scope k in
          let b = sta_once s (n + 3) scope (catch_frames w d cs (labels s (n + 3)) scope k1) in
          let c = catch_once cs (labels s (n + 3)) scope k1 in
          let x = framed_once (completes (Try s cs at p)) (n + 2) scope k in
          let f = step_three l n in
          omega (arith, b, c, x, f)
      sta_once (Return o at p) n scope k = may_once o n scope [] k
      sta_once (Break at p) n scope k = omega arith
      sta_once (Continue at p) n scope k = omega arith
      sta_once (Throw c at p) n scope k = omega arith
      sta_once (Open i at p) n scope k = omega arith
      sta_once (Close i at p) n scope k = omega arith
      sta_once (SetLocal x q e at p) n scope k = expr_once e n scope [] k
      sta_once (SetStatic c f e at p) n scope k = expr_once e n scope [] k
      sta_once (SetField o c f e at p) n scope k =
          let k1 = expr_frames w e (expr_labels o n) scope (with_operand [] o) k in
          let a = expr_once o n scope [] k1 in
          let b = expr_once e (expr_labels o n) scope (with_operand [] o) k in
          omega (arith, a, b)
      sta_once (Eval e at p) n scope k = expr_once e n scope [] k
      sta_once (When i s o at p) n scope k =
          let k1 = frame_if w (completes s) (n + 1) scope k in
          let k2 = frame w n scope [] ∷ else_frames w d o (labels s (n + 2)) scope k1 in
          let b = sta_once s (n + 2) scope k2 in
          let c = else_once o (labels s (n + 2)) scope k1 in
          let x = framed_once (completes s) (n + 1) scope k in
          let f = step_two l n in
          omega (arith, b, c, x, f)

      else_once : (o : MayTSta) (n : ℕ) (scope : Types) (k : List LabelFrame)
          → standing l (else_frames w d o n scope k) + under l n
          ≤ under l (else_labels o n) + standing l k
      else_once NoElse n scope k = omega arith
      else_once (Otherwise s) n scope k = sta_once s n scope k

      all_once : (ss : TStas) (n : ℕ) (scope : Types) (k : List LabelFrame)
          → standing l (all_frames w d ss n scope k) + under l n
          ≤ under l (all_labels ss n) + standing l k
      all_once End n scope k = omega arith
      all_once (Then s ss) n scope k =
          let k1 = all_frames w d ss (labels s n) (scope_behind d s scope) k in
          let a = sta_once s n scope k1 in
          let b = all_once ss (labels s n) (scope_behind d s scope) k in
          omega (arith, a, b)

      catch_once : (cs : TCatches) (n : ℕ) (scope : Types) (k : List LabelFrame)
          → standing l (catch_frames w d cs n scope k) + under l n
          ≤ under l (catch_labels cs n) + standing l k
      catch_once NoCatch n scope k = omega arith
      catch_once (Catch c s cs) n scope k =
          let k1 = catch_frames w d cs (labels s (n + 1)) scope k in
          let a = sta_once s (n + 1) scope k1 in
          let b = catch_once cs (labels s (n + 1)) scope k in
          let f = step l n in
          omega (arith, a, b, f)
