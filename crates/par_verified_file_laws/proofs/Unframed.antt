-- Where a body is said to have no frame, nothing is said to lie.
use Rattle.std.proofs.Common.{◌≡◌, ℕ, ◌+◌, Bool, true, false, ◌||◌, List, [], ◌∷◌, map}
use Rattle.std.proofs.Common.{Option, Some, None, refl, sym, ap, ◌∙◌}
use Rattle.std.specs.Prelude.{◌==◌, if◌then◌else◌}
use Rattle.std.specs.List.{list_any}
use Rattle.par_typed.specs.Plain.{TExp, Int, Boolean, Null, This, New, Local, Static}
use Rattle.par_typed.specs.Plain.{Field, Input, Output, Call, Neg, Not, Binary}
use Rattle.par_typed.specs.Plain.{MayTExp, Absent, Present, TExps, NoExps, More}
use Rattle.par_typed.specs.Plain.{TSta, Block, If, While, Try, Return, Break, Continue, Throw, Open}
use Rattle.par_typed.specs.Plain.{Close, SetLocal, SetStatic, SetField, Eval, When}
use Rattle.par_typed.specs.Plain.{MayTSta, NoElse, Otherwise, TStas, End, Then, TCatches, NoCatch}
use Rattle.par_typed.specs.Plain.{Catch}
use Rattle.par_completes.specs.Typed.{completes, is_true}
use Rattle.par_code_form.specs.declared.labelled.LabelFrame.{LabelFrame}
use Rattle.par_code_form.specs.Again.{goes_again}
use Rattle.par_code_form.specs.Code.{Words, Shape, Calculates, Compares, Sames, Decides, shape_of}
use Rattle.par_code_form.specs.Code.{shape_labels, expr_labels, may_labels, labels}
use Rattle.par_code_form.specs.Frames.{Types, scope_behind, with_operand, with_receiver, below}
use Rattle.par_code_form.specs.Frames.{test_frames, shape_frames, expr_frames, may_frames}
use Rattle.par_code_form.specs.Frames.{args_frames, loop_frames, frames, else_frames, all_frames}
use Rattle.par_code_form.specs.Frames.{catch_frames}
use Rattle.par_code_form.specs.Frames as form
use Rattle.par_kinds.specs.declared.frame.VKind.{VKind}
use Rattle.par_kinds.specs.Kinds.{KFrame}
use Rattle.par_placed_fit_laws.specs.Signs.{Marked, marked, frame_if, kinds, test_signs}
use Rattle.par_placed_fit_laws.specs.Signs.{shape_signs}
use Rattle.par_placed_fit_laws.specs.Walks.{Plain}
use Rattle.par_placed_fit_laws.specs.Signs.{pushed, pushed_receiver, pushed_first, expr_signs}
use Rattle.par_placed_fit_laws.specs.Signs.{may_signs, args_signs, loop_signs, signs, else_signs}
use Rattle.par_placed_fit_laws.specs.Signs.{all_signs, catch_signs, sign_at}
use Rattle.par_placed_fit_laws.specs.par_compile_laws.Framed.{frame_at}

-- ---- the labels at which something lies

abbrev with_one : ℕ → Option KFrame → List ℕ → List ℕ
with_one n None ns = ns
with_one n (Some k) ns = n ∷ ns

abbrev lying_at : List Marked → List ℕ
lying_at [] = []
lying_at (m ∷ ms) = with_one m.label m.sign.frame (lying_at ms)

abbrev labels_of : List LabelFrame → List ℕ
labels_of fs = map (λ f. f.label) fs

-- the frames of a body are those of the labels at which something lies
abbrev Same : List Marked → List LabelFrame → Type 0
Same ms fs = lying_at ms ≡ labels_of fs

module _ (w : Words) where
  tests : (n : ℕ) (scope os : Types) (locals stack : List VKind) (k : List Marked)
      (fs : List LabelFrame) → Same k fs
      → Same (test_signs w n locals stack k) (test_frames w n scope os fs)
  tests n scope os locals stack k fs h = ap (λ (ns : List ℕ). n ∷ (n + 1) ∷ ns) h

  shapes : (s : Shape) (n : ℕ) (scope os : Types) (locals stack : List VKind)
      (k : List Marked) (fs : List LabelFrame) → Same k fs
      → Same (shape_signs w s n locals stack k) (shape_frames w s n scope os fs)
  shapes (Calculates o i) n scope os locals stack k fs h = h
  shapes (Compares t) n scope os locals stack k fs h = tests n scope os locals stack k fs h
  shapes (Sames b) n scope os locals stack k fs h = tests n scope os locals stack k fs h
  shapes (Decides o) n scope os locals stack k fs h = ap (λ (ns : List ℕ). n ∷ ns) h

  one_if : (b : Bool) (n : ℕ) (scope : Types) (locals : List VKind) (k : List Marked)
      (fs : List LabelFrame) → Same k fs
      → with_one n (frame_if b locals) (lying_at k) ≡ labels_of (form.frame_if w b n scope fs)
  one_if true n scope locals k fs h = ap (λ (ns : List ℕ). n ∷ ns) h
  one_if false n scope locals k fs h = h

  mutual
    unfolding expr_signs expr_frames

    exprs : (e : TExp) (n : ℕ) (scope os : Types) (locals stack : List VKind)
        (k : List Marked) (fs : List LabelFrame) → Same k fs
        → Same (expr_signs w e n locals stack k) (expr_frames w e n scope os fs)
    exprs (Int v m) n scope os locals stack k fs h = h
    exprs (Boolean b m) n scope os locals stack k fs h = h
    exprs (Null m) n scope os locals stack k fs h = h
    exprs (This m) n scope os locals stack k fs h = h
    exprs (New c m) n scope os locals stack k fs h = h
    exprs (Local x m) n scope os locals stack k fs h = h
    exprs (Static c f m) n scope os locals stack k fs h = h
    exprs (Field e c f m) n scope os locals stack k fs h =
        exprs e n scope os locals stack k fs h
    exprs (Input c i m) n scope os locals stack k fs h = h
    exprs (Output c i e m) n scope os locals stack k fs h =
        exprs e n scope os locals stack k fs h
    exprs (Call c i o es m) n scope os locals stack k fs h =
        mays o n scope os locals stack _ _
        (args es (may_labels o n) scope (with_receiver os o) locals (pushed_receiver w o stack) k
        fs h)
    exprs (Neg e m) n scope os locals stack k fs h = exprs e n scope os locals stack k fs h
    exprs (Not e m) n scope os locals stack k fs h =
        exprs e (n + 2) scope os locals stack _ _ (tests n scope os locals stack k fs h)
    exprs (Binary op a b m) n scope os locals stack k fs h =
        let s = shape_of op a in
        let l = n + shape_labels s in
        exprs a l scope os locals stack _ _
        (exprs b (expr_labels a l) scope (below s os a) locals (pushed_first w s a stack) _ _
        (shapes s n scope os locals stack k fs h))

    mays : (o : MayTExp) (n : ℕ) (scope os : Types) (locals stack : List VKind)
        (k : List Marked) (fs : List LabelFrame) → Same k fs
        → Same (may_signs w o n locals stack k) (may_frames w o n scope os fs)
    mays Absent n scope os locals stack k fs h = h
    mays (Present e) n scope os locals stack k fs h = exprs e n scope os locals stack k fs h

    args : (es : TExps) (n : ℕ) (scope os : Types) (locals stack : List VKind)
        (k : List Marked) (fs : List LabelFrame) → Same k fs
        → Same (args_signs w es n locals stack k) (args_frames w es n scope os fs)
    args NoExps n scope os locals stack k fs h = h
    args (More e es) n scope os locals stack k fs h =
        exprs e n scope os locals stack _ _
        (args es (expr_labels e n) scope (with_operand os e) locals (pushed w e stack) k fs h)

  loops : (b : Bool) (e : TExp) (n : ℕ) (scope : Types) (locals : List VKind)
      (k : List Marked) (fs : List LabelFrame) → Same k fs
      → Same (loop_signs w b e n locals k) (loop_frames w b e n scope fs)
  loops true e n scope locals k fs h = h
  loops false e n scope locals k fs h = exprs e n scope [] locals [] k fs h

  module _ (declared : Types) where
    mutual
      unfolding signs frames

      pub stas : (s : TSta) (n : ℕ) (scope : Types) (k : List Marked) (fs : List LabelFrame)
          → Same k fs → Same (signs w declared s n scope k) (frames w declared s n scope fs)
      stas (Block ss at p) n scope k fs h = blocks ss n scope k fs h
      stas (If e s o at p) n scope k fs h =
          let j = expr_labels e (n + 2) in
          exprs e (n + 2) scope [] (kinds w scope) [] _ _
          (stas s j scope _ _ (ap (λ (ns : List ℕ). n ∷ ns)
          (elses o (labels s j) scope _ _
          (one_if (completes s) (n + 1) scope (kinds w scope) k fs h))))
      stas (While e s at p) n scope k fs h =
          let locals = kinds w scope in
          let j = expr_labels e (n + 2) in
          let last = marked (n + 1) Plain (frame_if (completes (While e s at p)) locals) ∷ k in
          let body = signs w declared s j scope last in
          one_if (goes_again s) n scope locals (loop_signs w (is_true e) e (n + 2) locals body) _
          (loops (is_true e) e (n + 2) scope locals body _
          (stas s j scope last _
          (one_if (completes (While e s at p)) (n + 1) scope locals k fs h)))
      stas (Try s cs at p) n scope k fs h =
          stas s (n + 3) scope _ _
          (catches cs (labels s (n + 3)) scope _ _
          (one_if (completes (Try s cs at p)) (n + 2) scope (kinds w scope) k fs h))
      stas (Return o at p) n scope k fs h = mays o n scope [] (kinds w scope) [] k fs h
      stas (Break at p) n scope k fs h = h
      stas (Continue at p) n scope k fs h = h
      stas (Throw c at p) n scope k fs h = h
      stas (Open l at p) n scope k fs h = h
      stas (Close l at p) n scope k fs h = h
      stas (SetLocal x q e at p) n scope k fs h = exprs e n scope [] (kinds w scope) [] k fs h
      stas (SetStatic c f e at p) n scope k fs h = exprs e n scope [] (kinds w scope) [] k fs h
      stas (SetField o c f e at p) n scope k fs h =
          exprs o n scope [] (kinds w scope) [] _ _
          (exprs e (expr_labels o n) scope (with_operand [] o) (kinds w scope) (pushed w o []) k fs
          h)
      stas (Eval e at p) n scope k fs h = exprs e n scope [] (kinds w scope) [] k fs h
      stas (When l s o at p) n scope k fs h =
          stas s (n + 2) scope _ _ (ap (λ (ns : List ℕ). n ∷ ns)
          (elses o (labels s (n + 2)) scope _ _
          (one_if (completes s) (n + 1) scope (kinds w scope) k fs h)))

      elses : (o : MayTSta) (n : ℕ) (scope : Types) (k : List Marked) (fs : List LabelFrame)
          → Same k fs
          → Same (else_signs w declared o n scope k) (else_frames w declared o n scope fs)
      elses NoElse n scope k fs h = h
      elses (Otherwise s) n scope k fs h = stas s n scope k fs h

      blocks : (ss : TStas) (n : ℕ) (scope : Types) (k : List Marked) (fs : List LabelFrame)
          → Same k fs
          → Same (all_signs w declared ss n scope k) (all_frames w declared ss n scope fs)
      blocks End n scope k fs h = h
      blocks (Then s ss) n scope k fs h =
          stas s n scope _ _
          (blocks ss (labels s n) (scope_behind declared s scope) k fs h)

      catches : (cs : TCatches) (n : ℕ) (scope : Types) (k : List Marked)
          (fs : List LabelFrame) → Same k fs
          → Same (catch_signs w declared cs n scope k) (catch_frames w declared cs n scope fs)
      catches NoCatch n scope k fs h = h
      catches (Catch c s cs) n scope k fs h =
          ap (λ (ns : List ℕ). n ∷ ns)
          (stas s (n + 1) scope _ _ (catches cs (labels s (n + 1)) scope k fs h))

-- ---- a label without a frame

-- it is none of those with frames
absent : (fs : List LabelFrame) (l : ℕ) → frame_at fs l ≡ None
    → list_any (λ n. n == l) (labels_of fs) ≡ false
absent [] l h = refl
absent (f ∷ fs) l h = in_case (f.label == l) h (absent fs l)
  where
    in_case : (b : Bool) → (if b then Some f else frame_at fs l) ≡ None
        → (frame_at fs l ≡ None → list_any (λ n. n == l) (labels_of fs) ≡ false)
        → (b || list_any (λ n. n == l) (labels_of fs)) ≡ false
    in_case true e later = absurd (cc e)
    in_case false e later = later e

-- nothing lies at a label that is none of these
nothing : (ms : List Marked) (l : ℕ) → list_any (λ n. n == l) (lying_at ms) ≡ false
    → (sign_at ms l).frame ≡ None
nothing [] l h = refl
nothing (m ∷ ms) l h = in_case (m.label == l) refl m.sign.frame refl h (nothing ms l)
  where
    in_case : (b : Bool) → (m.label == l) ≡ b → (o : Option KFrame) → m.sign.frame ≡ o
        → list_any (λ n. n == l) (with_one m.label o (lying_at ms)) ≡ false
        → (list_any (λ n. n == l) (lying_at ms) ≡ false → (sign_at ms l).frame ≡ None)
        → (if b then m.sign else sign_at ms l).frame ≡ None
    in_case true is None none e later = none
    in_case true is (Some k) some e later =
        absurd (cc (sym (ap (λ (b : Bool). b || list_any (λ n. n == l) (lying_at ms)) is) ∙ e))
    in_case false is None none e later = later e
    in_case false is (Some k) some e later =
        later (sym (ap (λ (b : Bool). b || list_any (λ n. n == l) (lying_at ms)) is) ∙ e)

-- so where a body has no frame nothing lies
pub unframed : (w : Words) (declared : Types) (s : TSta) (scope : Types) (l : ℕ)
    → frame_at (frames w declared s 0 scope []) l ≡ None
    → (sign_at (signs w declared s 0 scope []) l).frame ≡ None
unframed w declared s scope l none =
    let same = stas w declared s 0 scope [] [] refl in
    nothing (signs w declared s 0 scope []) l
    (ap (list_any (λ n. n == l)) same
    ∙ absent (frames w declared s 0 scope []) l none)
