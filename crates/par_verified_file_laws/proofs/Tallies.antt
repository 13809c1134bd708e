-- Each label of a body is told of once.
use Rattle.std.proofs.Common.{◌≡◌, ℕ, ◌+◌, ◌≤◌, Bool, true, false, List, [], ◌∷◌, refl, ap}
use Rattle.std.proofs.Common.{arith, None}
use Rattle.std.specs.Prelude.{◌==◌, if◌then◌else◌}
use Rattle.std.specs.List.{AllByRecursion}
use Rattle.std.proofs.lemmas.Bool.Decides.{nat_tests}
use Rattle.par_typed.specs.Plain.{TExp, Int, Boolean, Null, This, New, Local, Static}
use Rattle.par_typed.specs.Plain.{Field, Input, Output, Call, Neg, Not, Binary}
use Rattle.par_typed.specs.Plain.{MayTExp, Absent, Present, TExps, NoExps, More}
use Rattle.par_typed.specs.Plain.{TSta, Block, If, While, Try, Return, Break, Continue, Throw, Open}
use Rattle.par_typed.specs.Plain.{Close, SetLocal, SetStatic, SetField, Eval, When}
use Rattle.par_typed.specs.Plain.{MayTSta, NoElse, Otherwise, TStas, End, Then, TCatches, NoCatch}
use Rattle.par_typed.specs.Plain.{Catch}
use Rattle.par_completes.specs.Typed.{is_true, completes}
use Rattle.par_code_form.specs.Code.{Words, Shape, Calculates, Compares, Sames, Decides, shape_of}
use Rattle.par_code_form.specs.Code.{shape_labels, expr_labels, may_labels, args_labels, labels}
use Rattle.par_code_form.specs.Code.{else_labels, all_labels, catch_labels}
use Rattle.par_code_form.specs.Frames.{Types, scope_behind}
use Rattle.par_kinds.specs.declared.frame.VKind.{VKind}
use Rattle.par_placed_fit_laws.specs.Signs.{Marked, kinds, pushed, pushed_receiver, pushed_first}
use Rattle.par_placed_fit_laws.specs.Signs.{test_signs, shape_signs, expr_signs, may_signs}
use Rattle.par_placed_fit_laws.specs.Signs.{args_signs}
use Rattle.par_placed_fit_laws.specs.Signs.{loop_signs, signs, else_signs, all_signs, catch_signs}
use Rattle.par_placed_fit_laws.specs.Signs.{sign_at}
use Rattle.par_source_code_laws.proofs.Counts.{bit, under, step, step_two, step_three, true_labels}
use Rattle.par_placed_fit_laws.specs.Walks.{Plain, Closes}
use Rattle.par_placed_fit_laws.specs.Signs.{marked, lying, frame_if}

-- how often something is told of a label
abbrev pub tally : ℕ → List Marked → ℕ
tally l [] = 0
tally l (m ∷ ms) = bit (m.label == l) + tally l ms

module _ (w : Words) (l : ℕ) where
  test_tally : (n : ℕ) (locals stack : List VKind) (k : List Marked)
      → tally l (test_signs w n locals stack k) + under l n ≡ under l (n + 2) + tally l k
  test_tally n locals stack k = let a = step_two l n in omega (arith, a)

  shape_tally : (s : Shape) (n : ℕ) (locals stack : List VKind) (k : List Marked)
      → tally l (shape_signs w s n locals stack k) + under l n
      ≡ under l (n + shape_labels s) + tally l k
  shape_tally (Calculates o i) n locals stack k =
      let a : under l (n + 0) ≡ under l n = ap (under l) (omega arith) in omega (arith, a)
  shape_tally (Compares t) n locals stack k = test_tally n locals stack k
  shape_tally (Sames b) n locals stack k = test_tally n locals stack k
  shape_tally (Decides o) n locals stack k = let a = step l n in omega (arith, a)

  mutual
    unfolding expr_signs expr_labels

    pub expr_tally : (e : TExp) (n : ℕ) (locals stack : List VKind) (k : List Marked)
        → tally l (expr_signs w e n locals stack k) + under l n
        ≡ under l (expr_labels e n) + tally l k
    expr_tally (Int v m) n locals stack k = omega arith
    expr_tally (Boolean b m) n locals stack k = omega arith
    expr_tally (Null m) n locals stack k = omega arith
    expr_tally (This m) n locals stack k = omega arith
    expr_tally (New c m) n locals stack k = omega arith
    expr_tally (Local x m) n locals stack k = omega arith
    expr_tally (Static c f m) n locals stack k = omega arith
    expr_tally (Field e c f m) n locals stack k = expr_tally e n locals stack k
    expr_tally (Input c i m) n locals stack k = omega arith
    expr_tally (Output c i e m) n locals stack k = expr_tally e n locals stack k
    expr_tally (Call c i o es m) n locals stack k =
        let j = may_labels o n in
        let k1 = args_signs w es j locals (pushed_receiver w o stack) k in
        let a = may_tally o n locals stack k1 in
        let b = args_tally es j locals (pushed_receiver w o stack) k in
        omega (arith, a, b)
    expr_tally (Neg e m) n locals stack k = expr_tally e n locals stack k
    expr_tally (Not e m) n locals stack k =
        let a = expr_tally e (n + 2) locals stack (test_signs w n locals stack k) in
        let b = test_tally n locals stack k in
        omega (arith, a, b)
    expr_tally (Binary op a b m) n locals stack k =
        let s = shape_of op a in
        let i = n + shape_labels s in
        let k1 = shape_signs w s n locals stack k in
        let k2 = expr_signs w b (expr_labels a i) locals (pushed_first w s a stack) k1 in
        let x = expr_tally a i locals stack k2 in
        let z = expr_tally b (expr_labels a i) locals (pushed_first w s a stack) k1 in
        let u = shape_tally s n locals stack k in
        omega (arith, x, z, u)

    may_tally : (o : MayTExp) (n : ℕ) (locals stack : List VKind) (k : List Marked)
        → tally l (may_signs w o n locals stack k) + under l n
        ≡ under l (may_labels o n) + tally l k
    may_tally Absent n locals stack k = omega arith
    may_tally (Present e) n locals stack k = expr_tally e n locals stack k

    args_tally : (es : TExps) (n : ℕ) (locals stack : List VKind) (k : List Marked)
        → tally l (args_signs w es n locals stack k) + under l n
        ≡ under l (args_labels es n) + tally l k
    args_tally NoExps n locals stack k = omega arith
    args_tally (More e es) n locals stack k =
        let k1 = args_signs w es (expr_labels e n) locals (pushed w e stack) k in
        let a = expr_tally e n locals stack k1 in
        let b = args_tally es (expr_labels e n) locals (pushed w e stack) k in
        omega (arith, a, b)

  loop_tally : (b : Bool) (e : TExp) (n : ℕ) (locals : List VKind) (k : List Marked)
      → is_true e ≡ b
      → tally l (loop_signs w b e n locals k) + under l n ≡ under l (expr_labels e n) + tally l k
  loop_tally true e n locals k is =
      let a : under l (expr_labels e n) ≡ under l n = ap (under l) (true_labels e n is) in
      omega (arith, a)
  loop_tally false e n locals k is = expr_tally e n locals [] k

  module _ (declared : Types) where
    mutual
      unfolding signs labels

      pub sta_tally : (s : TSta) (n : ℕ) (scope : Types) (k : List Marked)
          → tally l (signs w declared s n scope k) + under l n ≡ under l (labels s n) + tally l k
      sta_tally (Block ss at p) n scope k = all_tally ss n scope k
      sta_tally (If e s o at p) n scope k =
          let i = expr_labels e (n + 2) in
          let ks = kinds w scope in
          let k1 = marked (n + 1) Plain (frame_if (completes s) ks) ∷ k in
          let k2 = lying n ks [] ∷ else_signs w declared o (labels s i) scope k1 in
          let x = expr_tally e (n + 2) ks [] (signs w declared s i scope k2) in
          let y = sta_tally s i scope k2 in
          let z = else_tally o (labels s i) scope k1 in
          let u = step_two l n in
          omega (arith, x, y, z, u)
      sta_tally (While e s at p) n scope k =
          let i = expr_labels e (n + 2) in
          let ks = kinds w scope in
          let k1 = marked (n + 1) Plain (frame_if (completes (While e s at p)) ks) ∷ k in
          let x = loop_tally (is_true e) e (n + 2) ks (signs w declared s i scope k1) refl in
          let y = sta_tally s i scope k1 in
          let u = step_two l n in
          omega (arith, x, y, u)
      sta_tally (Try s cs at p) n scope k =
          let ks = kinds w scope in
          let k1 = marked (n + 2) Plain (frame_if (completes (Try s cs at p)) ks) ∷ k in
          let k2 =
          marked (n + 1) Closes None ∷ catch_signs w declared cs (labels s (n + 3)) scope k1 in
          let x = sta_tally s (n + 3) scope k2 in
          let y = catch_tally cs (labels s (n + 3)) scope k1 in
          let u = step_three l n in
          omega (arith, x, y, u)
      sta_tally (Return o at p) n scope k = may_tally o n (kinds w scope) [] k
      sta_tally (Break at p) n scope k = omega arith
      sta_tally (Continue at p) n scope k = omega arith
      sta_tally (Throw c at p) n scope k = omega arith
      sta_tally (Open i at p) n scope k = omega arith
      sta_tally (Close i at p) n scope k = omega arith
      sta_tally (SetLocal x q e at p) n scope k = expr_tally e n (kinds w scope) [] k
      sta_tally (SetStatic c f e at p) n scope k = expr_tally e n (kinds w scope) [] k
      sta_tally (SetField o c f e at p) n scope k =
          let ks = kinds w scope in
          let x = expr_tally o n ks [] (expr_signs w e (expr_labels o n) ks (pushed w o []) k) in
          let y = expr_tally e (expr_labels o n) ks (pushed w o []) k in
          omega (arith, x, y)
      sta_tally (Eval e at p) n scope k = expr_tally e n (kinds w scope) [] k
      sta_tally (When i s o at p) n scope k =
          let ks = kinds w scope in
          let k1 = marked (n + 1) Plain (frame_if (completes s) ks) ∷ k in
          let k2 = lying n ks [] ∷ else_signs w declared o (labels s (n + 2)) scope k1 in
          let y = sta_tally s (n + 2) scope k2 in
          let z = else_tally o (labels s (n + 2)) scope k1 in
          let u = step_two l n in
          omega (arith, y, z, u)

      else_tally : (o : MayTSta) (n : ℕ) (scope : Types) (k : List Marked)
          → tally l (else_signs w declared o n scope k) + under l n
          ≡ under l (else_labels o n) + tally l k
      else_tally NoElse n scope k = omega arith
      else_tally (Otherwise s) n scope k = sta_tally s n scope k

      all_tally : (ss : TStas) (n : ℕ) (scope : Types) (k : List Marked)
          → tally l (all_signs w declared ss n scope k) + under l n
          ≡ under l (all_labels ss n) + tally l k
      all_tally End n scope k = omega arith
      all_tally (Then s ss) n scope k =
          let k1 = all_signs w declared ss (labels s n) (scope_behind declared s scope) k in
          let x = sta_tally s n scope k1 in
          let y = all_tally ss (labels s n) (scope_behind declared s scope) k in
          omega (arith, x, y)

      catch_tally : (cs : TCatches) (n : ℕ) (scope : Types) (k : List Marked)
          → tally l (catch_signs w declared cs n scope k) + under l n
          ≡ under l (catch_labels cs n) + tally l k
      catch_tally NoCatch n scope k = omega arith
      catch_tally (Catch c s cs) n scope k =
          let k1 = catch_signs w declared cs (labels s (n + 1)) scope k in
          let x = sta_tally s (n + 1) scope k1 in
          let y = catch_tally cs (labels s (n + 1)) scope k in
          let u = step l n in
          omega (arith, x, y, u)

-- ---- what is said of a label is what it is

abbrev pub IsFound : List Marked → Marked → Type 0
IsFound ms m = (sign_at ms m.label ≡ m.sign) × (1 ≤ tally m.label ms)

one_more : (m : Marked) (ms : List Marked) (other : Marked) → tally other.label (m ∷ ms) ≤ 1
    → IsFound ms other → IsFound (m ∷ ms) other
one_more m ms other few found = (past (m.label == other.label) refl, omega (arith, found.1))
  where
    past : (b : Bool) → (m.label == other.label) ≡ b
        → (if b then m.sign else sign_at ms other.label) ≡ other.sign
    past true is =
        let one : bit (m.label == other.label) ≡ 1 = ap bit is in
        absurd (omega (arith, one, few, found.1))
    past false is = found.0

pub each : (P Q : Marked → Type 0) → ((m : Marked) → P m → Q m) → (ms : List Marked)
    → AllByRecursion P ms → AllByRecursion Q ms
each P Q f [] h = tt
each P Q f (m ∷ ms) h = (f m h.0, each P Q f ms h.1)

self : (l : ℕ) → (l == l) ≡ true
self l = grind (arith, nat_tests)

pub found : (ms : List Marked) → ((l : ℕ) → tally l ms ≤ 1)
    → AllByRecursion (IsFound ms) ms
found [] few = tt
found (m ∷ ms) few = (
  (
    ap (λ (b : Bool). if b then m.sign else sign_at ms m.label) (self m.label),
    (let one : bit (m.label == m.label) ≡ 1 = ap bit (self m.label) in omega (arith, one)),
  ),
  each (IsFound ms) (IsFound (m ∷ ms)) (λ other f. one_more m ms other (few other.label) f) ms
      (found ms (λ l. let a = few l in omega (arith, a))),
)
