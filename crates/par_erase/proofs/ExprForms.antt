-- What each form of an expression comes to.
use Rattle.std.proofs.Common.{◌≡◌, ℕ, ◌+◌, ◌<◌, ◌≤◌, ℤ, Bool, List, [], ◌∷◌, ◌++◌, length}
use Rattle.std.proofs.Common.{get_or, drop, refl, ap, sym, ◌∙◌}
use Rattle.std.proofs.lemmas.List.{at_drop_more, at_drop_all}
use Rattle.par_typed.specs.par_lexer.declared.operator.BinOp.{BinOp}
use Rattle.par_typed.specs.declared.table.Table.{Table}
use Rattle.par_typed.specs.declared.expr.TExpr.{TExpr}
use Rattle.par_typed.specs.Plain.{Mark, TExp, Int, Boolean, Null, This, New, Local, Static, Field}
use Rattle.par_typed.specs.Plain.{Input, Output, Call, Neg, Not, Binary}
use Rattle.par_typed.specs.Plain.{MayTExp, Absent, Present, TExps, NoExps, More}
use Rattle.par_typed.specs.Shown as typed
use Rattle.par_typed.proofs.Shown.{shows as typed_shows}
use Rattle.par_erase.specs.declared.expr.PExpr.{PExpr}
use Rattle.par_erase.specs.Shown.{marked, shown, all_shown}
use Rattle.par_erase.specs.Erased.{inputs_in, input_place, output_place, erased_exp, erased_may}
use Rattle.par_erase.specs.Erased.{erased_args}
use Rattle.par_erase.proofs.Shown.{shows}

pub erased_int : (t : Table) (n : ℤ) (m : Mark) → erased_exp t (Int n m) ≡ Int n (marked m.ty)
unfolding erased_exp
erased_int t n m = refl

pub erased_bool : (t : Table) (b : Bool) (m : Mark)
    → erased_exp t (Boolean b m) ≡ Boolean b (marked m.ty)
unfolding erased_exp
erased_bool t b m = refl

pub erased_null : (t : Table) (m : Mark) → erased_exp t (Null m) ≡ Null (marked m.ty)
unfolding erased_exp
erased_null t m = refl

pub erased_this : (t : Table) (m : Mark) → erased_exp t (This m) ≡ This (marked m.ty)
unfolding erased_exp
erased_this t m = refl

pub erased_new : (t : Table) (c : ℕ) (m : Mark) → erased_exp t (New c m) ≡ New c (marked m.ty)
unfolding erased_exp
erased_new t c m = refl

pub erased_local : (t : Table) (x : ℕ) (m : Mark)
    → erased_exp t (Local x m) ≡ Local x (marked m.ty)
unfolding erased_exp
erased_local t x m = refl

pub erased_static : (t : Table) (c f : ℕ) (m : Mark)
    → erased_exp t (Static c f m) ≡ Static c f (marked m.ty)
unfolding erased_exp
erased_static t c f m = refl

pub erased_field : (t : Table) (e : TExp) (c f : ℕ) (m : Mark)
    → erased_exp t (Field e c f m) ≡ Field (erased_exp t e) c f (marked m.ty)
unfolding erased_exp
erased_field t e c f m = refl

pub erased_input : (t : Table) (c k : ℕ) (m : Mark)
    → erased_exp t (Input c k m) ≡ Input c (input_place t c k) (marked m.ty)
unfolding erased_exp
erased_input t c k m = refl

pub erased_output : (t : Table) (c k : ℕ) (e : TExp) (m : Mark)
    → erased_exp t (Output c k e m)
    ≡ Output c (inputs_in t c + output_place t c k) (erased_exp t e) (marked m.ty)
unfolding erased_exp
erased_output t c k e m = refl

pub erased_call : (t : Table) (c k : ℕ) (o : MayTExp) (es : TExps) (m : Mark)
    → erased_exp t (Call c k o es m)
    ≡ Call c k (erased_may t o) (erased_args t es) (marked m.ty)
unfolding erased_exp
erased_call t c k o es m = refl

pub erased_neg : (t : Table) (e : TExp) (m : Mark)
    → erased_exp t (Neg e m) ≡ Neg (erased_exp t e) (marked m.ty)
unfolding erased_exp
erased_neg t e m = refl

pub erased_not : (t : Table) (e : TExp) (m : Mark)
    → erased_exp t (Not e m) ≡ Not (erased_exp t e) (marked m.ty)
unfolding erased_exp
erased_not t e m = refl

pub erased_binary : (t : Table) (op : BinOp) (a b : TExp) (m : Mark)
    → erased_exp t (Binary op a b m)
    ≡ Binary op (erased_exp t a) (erased_exp t b) (marked m.ty)
unfolding erased_exp
erased_binary t op a b m = refl

pub erased_absent : (t : Table) → erased_may t Absent ≡ Absent
unfolding erased_may
erased_absent t = refl

pub erased_present : (t : Table) (e : TExp) → erased_may t (Present e) ≡ Present (erased_exp t e)
unfolding erased_may
erased_present t e = refl

pub erased_none : (t : Table) → erased_args t NoExps ≡ NoExps
unfolding erased_args
erased_none t = refl

pub erased_more : (t : Table) (e : TExp) (es : TExps)
    → erased_args t (More e es) ≡ More (erased_exp t e) (erased_args t es)
unfolding erased_args
erased_more t e es = refl

-- expressions, and then others
unfoldable pub args_before : (ℕ → ℕ) → List PExpr → TExps → TExps
args_before w [] rest = rest
args_before w (e ∷ es) rest = More (shown w e) (args_before w es rest)

pub args_before_none : (w : ℕ → ℕ) (rest : TExps) → args_before w [] rest ≡ rest
unfolding args_before
args_before_none w rest = refl

pub args_before_with : (w : ℕ → ℕ) (es : List PExpr) (e : PExpr) (rest : TExps)
    → args_before w (es ++ e ∷ []) rest ≡ args_before w es (More (shown w e) rest)
unfolding args_before
args_before_with w [] e rest = refl
args_before_with w (x ∷ es) e rest = ap (More (shown w x)) (args_before_with w es e rest)

pub args_before_end : (w : ℕ → ℕ) (es : List PExpr)
    → args_before w es NoExps ≡ all_shown w es
unfolding args_before
args_before_end w [] = refl
args_before_end w (x ∷ es) = ap (More (shown w x)) (args_before_end w es)

-- what is left of a list
pub left_more : {X : Type 0} (xs : List X) (i : ℕ) (x : X) → i < length xs → x ≡ get_or xs i x
    → drop i xs ≡ x ∷ drop (i + 1) xs
left_more xs i x lt is =
    at_drop_more (λ ys. ys) xs i x lt ∙ ap (λ y. y ∷ drop (i + 1) xs) (sym is)

pub left_none : {X : Type 0} (xs : List X) (i : ℕ) → length xs ≤ i → drop i xs ≡ []
left_none xs i le = at_drop_all (λ ys. ys) xs i le

pub args_left : (es : List TExpr) (i : ℕ) (e : TExpr) → i < length es → e ≡ get_or es i e
    → typed.all_shown (drop i es) ≡ More (typed.shown e) (typed.all_shown (drop (i + 1) es))
args_left es i e lt is = ap typed.all_shown (left_more es i e lt is)

pub no_args_left : (es : List TExpr) (i : ℕ) → length es ≤ i
    → typed.all_shown (drop i es) ≡ NoExps
no_args_left es i le = ap typed.all_shown (left_none es i le)

-- a receiver or a value, or none
pub ruleset receiver_forms = (erased_absent, erased_present)

-- one argument of a row
pub ruleset arg_forms = (
  erased_none,
  erased_more,
  args_before_none,
  args_before_with,
  args_before_end,
)

-- each kind of expression
pub ruleset erases = (
  shows,
  typed_shows,
  erased_int,
  erased_bool,
  erased_null,
  erased_this,
  erased_new,
  erased_local,
  erased_static,
  erased_field,
  erased_input,
  erased_output,
  erased_call,
  erased_neg,
  erased_not,
  erased_binary,
)
