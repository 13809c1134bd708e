-- What is said of labels behind those of a statement.
use Rattle.std.proofs.Common.{ℕ, ◌+◌, Bool, true, false, List, []}
use Rattle.std.specs.List.{AllByRecursion}
use Rattle.par_typed.specs.Plain.{TExp}
use Rattle.par_typed.specs.Plain.{TSta, Block, If, While, Try, Return, Break, Continue, Throw, Open}
use Rattle.par_typed.specs.Plain.{Close, SetLocal, SetStatic, SetField, Eval, When}
use Rattle.par_typed.specs.Plain.{MayTSta, NoElse, Otherwise, TStas, End, Then, TCatches, NoCatch}
use Rattle.par_typed.specs.Plain.{Catch}
use Rattle.par_completes.specs.Typed.{is_true}
use Rattle.par_code_form.specs.Code.{Words, labels, expr_labels}
use Rattle.par_code_form.specs.Frames.{Types, scope_behind}
use Rattle.par_kinds.specs.declared.frame.VKind.{VKind}
use Rattle.par_placed_fit_laws.specs.Signs.{Marked, kinds, pushed, loop_signs, signs, else_signs}
use Rattle.par_placed_fit_laws.specs.Signs.{all_signs, catch_signs}
use Rattle.par_verified_file_laws.proofs.Exprs.{expr_rest, may_rest}

module _ (w : Words) (declared : Types) (P : Marked → Type 0) where
  pub loop_rest : (b : Bool) (e : TExp) (n : ℕ) (locals : List VKind) (k : List Marked)
      → AllByRecursion P (loop_signs w b e n locals k) → AllByRecursion P k
  loop_rest true e n locals k h = h
  loop_rest false e n locals k h = expr_rest w P e n locals [] k h

  mutual
    unfolding signs

    pub sta_rest : (s : TSta) (n : ℕ) (scope : Types) (k : List Marked)
        → AllByRecursion P (signs w declared s n scope k) → AllByRecursion P k
    sta_rest (Block ss at p) n scope k h = all_rest ss n scope k h
    sta_rest (If e s o at p) n scope k h =
        let j = expr_labels e (n + 2) in
        let two = sta_rest s j scope _ (expr_rest w P e (n + 2) (kinds w scope) [] _ h) in
        (else_rest o (labels s j) scope _ two.1).1
    sta_rest (While e s at p) n scope k h =
        (sta_rest s (expr_labels e (n + 2)) scope _
        (loop_rest (is_true e) e (n + 2) (kinds w scope) _ h.1)).1
    sta_rest (Try s cs at p) n scope k h =
        (catches_rest cs (labels s (n + 3)) scope _ (sta_rest s (n + 3) scope _ h.1).1).1
    sta_rest (Return o at p) n scope k h = may_rest w P o n (kinds w scope) [] k h
    sta_rest (Break at p) n scope k h = h
    sta_rest (Continue at p) n scope k h = h
    sta_rest (Throw c at p) n scope k h = h
    sta_rest (Open l at p) n scope k h = h
    sta_rest (Close l at p) n scope k h = h
    sta_rest (SetLocal x q e at p) n scope k h = expr_rest w P e n (kinds w scope) [] k h
    sta_rest (SetStatic c f e at p) n scope k h = expr_rest w P e n (kinds w scope) [] k h
    sta_rest (SetField o c f e at p) n scope k h =
        expr_rest w P e (expr_labels o n) (kinds w scope) (pushed w o []) k
        (expr_rest w P o n (kinds w scope) [] _ h)
    sta_rest (Eval e at p) n scope k h = expr_rest w P e n (kinds w scope) [] k h
    sta_rest (When l s o at p) n scope k h =
        let two = sta_rest s (n + 2) scope _ h in
        (else_rest o (labels s (n + 2)) scope _ two.1).1

    pub else_rest : (o : MayTSta) (n : ℕ) (scope : Types) (k : List Marked)
        → AllByRecursion P (else_signs w declared o n scope k) → AllByRecursion P k
    else_rest NoElse n scope k h = h
    else_rest (Otherwise s) n scope k h = sta_rest s n scope k h

    pub all_rest : (ss : TStas) (n : ℕ) (scope : Types) (k : List Marked)
        → AllByRecursion P (all_signs w declared ss n scope k) → AllByRecursion P k
    all_rest End n scope k h = h
    all_rest (Then s ss) n scope k h =
        all_rest ss (labels s n) (scope_behind declared s scope) k (sta_rest s n scope _ h)

    pub catches_rest : (cs : TCatches) (n : ℕ) (scope : Types) (k : List Marked)
        → AllByRecursion P (catch_signs w declared cs n scope k) → AllByRecursion P k
    catches_rest NoCatch n scope k h = h
    catches_rest (Catch c s cs) n scope k h =
        catches_rest cs (labels s (n + 1)) scope k (sta_rest s (n + 1) scope _ h.1)
