-- What each label of the code of typed bodies is, in the order of the labels, followed by what is
-- given last.
use Rattle.std.specs.Prelude.{ℕ, ◌+◌, ◌==◌, Bool, true, false, if◌then◌else◌, List, [], ◌∷◌, map}
use Rattle.std.specs.Prelude.{Option, Some, None}
use Rattle.par_typed.specs.declared.ty.Ty.{Ty}
use Rattle.par_typed.specs.declared.ty.Ty.TheVariants as ty
use Rattle.par_typed.specs.Plain.{mark, TExp, Int, Boolean, Null, This, New, Local, Static}
use Rattle.par_typed.specs.Plain.{Field, Input, Output, Call, Neg, Not, Binary}
use Rattle.par_typed.specs.Plain.{MayTExp, Absent, Present, TExps, NoExps, More}
use Rattle.par_typed.specs.Plain.{TSta, Block, If, While, Try, Return, Break, Continue, Throw, Open}
use Rattle.par_typed.specs.Plain.{Close, SetLocal, SetStatic, SetField, Eval, When}
use Rattle.par_typed.specs.Plain.{MayTSta, NoElse, Otherwise, TStas, End, Then, TCatches, NoCatch}
use Rattle.par_typed.specs.Plain.{Catch}
use Rattle.par_completes.specs.Typed.{completes, is_true}
use Rattle.par_code_form.specs.Again.{goes_again}
use Rattle.par_code_form.specs.Code.{Words, Shape, Calculates, Compares, Sames, Decides, shape_of}
use Rattle.par_code_form.specs.Code.{shape_labels, expr_labels, may_labels, labels}
use Rattle.par_code_form.specs.Frames.{Types, scope_behind}
use Rattle.par_compile_laws.specs.par_kinds.declared.frame.VKind.{VKind}
use Rattle.par_compile_laws.specs.par_kinds.declared.frame.VKind.TheVariants.{Top as ATop}
use Rattle.par_compile_laws.specs.par_kinds.declared.frame.VKind.TheVariants.{Int as AnInt}
use Rattle.par_compile_laws.specs.par_kinds.declared.frame.VKind.TheVariants.{Null as ANull}
use Rattle.par_compile_laws.specs.par_kinds.declared.frame.VKind.TheVariants.{Object as AnObject}
use Rattle.par_compile_laws.specs.par_kinds.Kinds.{KFrame}
use Rattle.par_placed_fit_laws.specs.Walks.{Sign, Role, Plain, Opens, Closes, Catches}

pub record Marked : Type 0 where
  pub label : ℕ
  pub sign : Sign

abbrev pub framed : List VKind → List VKind → KFrame
framed locals stack = record { locals = locals; stack = stack }

abbrev pub marked : ℕ → Role → Option KFrame → Marked
marked n role frame = record { label = n; sign = record { frame = frame; role = role } }

-- a label where that lies
abbrev pub lying : ℕ → List VKind → List VKind → Marked
lying n locals stack = marked n Plain (Some (framed locals stack))

-- no operand lies there; nothing where control does not come
abbrev pub frame_if : Bool → List VKind → Option KFrame
frame_if b locals = if b then Some (framed locals []) else None

module _ (w : Words) where
  -- the kind of what a local or an operand of a type holds
  abbrev pub kind : Ty → VKind
  kind ty.Int = AnInt
  kind ty.Boolean = AnInt
  kind (ty.Class c) = AnObject (w.class c)
  kind ty.Null = ANull
  kind ty.Void = ATop

  abbrev pub kinds : Types → List VKind
  kinds types = map kind types

  abbrev pub test_signs : ℕ → List VKind → List VKind → List Marked → List Marked
  test_signs n locals stack k = lying n locals stack ∷ lying (n + 1) locals (AnInt ∷ stack) ∷ k

  abbrev pub shape_signs : Shape → ℕ → List VKind → List VKind → List Marked → List Marked
  shape_signs (Calculates o i) n locals stack k = k
  shape_signs (Compares t) n locals stack k = test_signs n locals stack k
  shape_signs (Sames b) n locals stack k = test_signs n locals stack k
  shape_signs (Decides o) n locals stack k = lying n locals (AnInt ∷ stack) ∷ k

  -- with the value of an expression
  abbrev pub pushed : TExp → List VKind → List VKind
  pushed e stack = kind (mark e).ty ∷ stack

  abbrev pub pushed_receiver : MayTExp → List VKind → List VKind
  pushed_receiver Absent stack = stack
  pushed_receiver (Present e) stack = pushed e stack

  abbrev pub pushed_first : Shape → TExp → List VKind → List VKind
  pushed_first (Calculates o i) a stack = pushed a stack
  pushed_first (Compares t) a stack = pushed a stack
  pushed_first (Sames b) a stack = pushed a stack
  pushed_first (Decides o) a stack = stack

  unfoldable mutual
    pub expr_signs : TExp → ℕ → List VKind → List VKind → List Marked → List Marked
    expr_signs (Int v m) n locals stack k = k
    expr_signs (Boolean b m) n locals stack k = k
    expr_signs (Null m) n locals stack k = k
    expr_signs (This m) n locals stack k = k
    expr_signs (New c m) n locals stack k = k
    expr_signs (Local x m) n locals stack k = k
    expr_signs (Static c f m) n locals stack k = k
    expr_signs (Field e c f m) n locals stack k = expr_signs e n locals stack k
    expr_signs (Input c i m) n locals stack k = k
    expr_signs (Output c i e m) n locals stack k = expr_signs e n locals stack k
    expr_signs (Call c i o es m) n locals stack k =
        may_signs o n locals stack
        (args_signs es (may_labels o n) locals (pushed_receiver o stack) k)
    expr_signs (Neg e m) n locals stack k = expr_signs e n locals stack k
    expr_signs (Not e m) n locals stack k =
        expr_signs e (n + 2) locals stack (test_signs n locals stack k)
    expr_signs (Binary op a b m) n locals stack k =
        let s = shape_of op a in
        let l = n + shape_labels s in
        expr_signs a l locals stack
        (expr_signs b (expr_labels a l) locals (pushed_first s a stack)
        (shape_signs s n locals stack k))

    pub may_signs : MayTExp → ℕ → List VKind → List VKind → List Marked → List Marked
    may_signs Absent n locals stack k = k
    may_signs (Present e) n locals stack k = expr_signs e n locals stack k

    pub args_signs : TExps → ℕ → List VKind → List VKind → List Marked → List Marked
    args_signs NoExps n locals stack k = k
    args_signs (More e es) n locals stack k =
        expr_signs e n locals stack
        (args_signs es (expr_labels e n) locals (pushed e stack) k)

  -- the literal `true` is no test
  abbrev pub loop_signs : Bool → TExp → ℕ → List VKind → List Marked → List Marked
  loop_signs true e n locals k = k
  loop_signs false e n locals k = expr_signs e n locals [] k

module _ (w : Words) (declared : Types) where
  unfoldable mutual
    pub signs : TSta → ℕ → Types → List Marked → List Marked
    signs (Block ss at p) n scope k = all_signs ss n scope k
    signs (If e s o at p) n scope k =
        let i = expr_labels e (n + 2) in
        let locals = kinds w scope in
        expr_signs w e (n + 2) locals [] (signs s i scope (lying n locals []
        ∷ else_signs o (labels s i) scope
        (marked (n + 1) Plain (frame_if (completes s) locals) ∷ k)))
    signs (While e s at p) n scope k =
        let locals = kinds w scope in
        marked n Plain (frame_if (goes_again s) locals)
        ∷ loop_signs w (is_true e) e (n + 2) locals
        (signs s (expr_labels e (n + 2)) scope
        (marked (n + 1) Plain (frame_if (completes (While e s at p)) locals) ∷ k))
    signs (Try s cs at p) n scope k =
        let locals = kinds w scope in
        marked n (Opens (n + 1) locals) None
        ∷ signs s (n + 3) scope (marked (n + 1) Closes None
        ∷ catch_signs cs (labels s (n + 3)) scope
        (marked (n + 2) Plain (frame_if (completes (Try s cs at p)) locals) ∷ k))
    signs (Return o at p) n scope k = may_signs w o n (kinds w scope) [] k
    signs (Break at p) n scope k = k
    signs (Continue at p) n scope k = k
    signs (Throw c at p) n scope k = k
    signs (Open l at p) n scope k = k
    signs (Close l at p) n scope k = k
    signs (SetLocal x q e at p) n scope k = expr_signs w e n (kinds w scope) [] k
    signs (SetStatic c f e at p) n scope k = expr_signs w e n (kinds w scope) [] k
    signs (SetField o c f e at p) n scope k =
        let locals = kinds w scope in
        expr_signs w o n locals [] (expr_signs w e (expr_labels o n) locals (pushed w o []) k)
    signs (Eval e at p) n scope k = expr_signs w e n (kinds w scope) [] k
    signs (When l s o at p) n scope k =
        let locals = kinds w scope in
        signs s (n + 2) scope (lying n locals []
        ∷ else_signs o (labels s (n + 2)) scope
        (marked (n + 1) Plain (frame_if (completes s) locals) ∷ k))

    pub else_signs : MayTSta → ℕ → Types → List Marked → List Marked
    else_signs NoElse n scope k = k
    else_signs (Otherwise s) n scope k = signs s n scope k

    pub all_signs : TStas → ℕ → Types → List Marked → List Marked
    all_signs End n scope k = k
    all_signs (Then s ss) n scope k =
        signs s n scope (all_signs ss (labels s n) (scope_behind declared s scope) k)

    -- the exception is the one operand
    pub catch_signs : TCatches → ℕ → Types → List Marked → List Marked
    catch_signs NoCatch n scope k = k
    catch_signs (Catch c s cs) n scope k =
        marked n Catches (Some (framed (kinds w scope) (AnObject (w.class c) ∷ [])))
        ∷ signs s (n + 1) scope (catch_signs cs (labels s (n + 1)) scope k)

-- nothing comes to what is none of the labels
abbrev pub no_sign : Sign
no_sign = record { frame = None; role = Plain }

-- what a label is, by the first of its number
abbrev pub sign_at : List Marked → ℕ → Sign
sign_at [] l = no_sign
sign_at (m ∷ ms) l = if m.label == l then m.sign else sign_at ms l
