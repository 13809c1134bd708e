-- What each form of a statement comes to.
use Rattle.std.proofs.Common.{◌≡◌, ℕ, ◌+◌, ◌<◌, ◌≤◌, Bool, true, false, List, [], ◌∷◌, ◌++◌, length}
use Rattle.std.proofs.Common.{get_or, drop, Option, None, refl, ap}
use Rattle.par_typed.specs.declared.table.Table.{Table}
use Rattle.par_typed.specs.declared.stmt.TStmt.{TStmt}
use Rattle.par_typed.specs.declared.stmt.TCatch.{TCatch}
use Rattle.par_typed.specs.Plain.{TExp, MayTExp}
use Rattle.par_typed.specs.Plain.{TSta, Block, If, While, Try, Return, Break, Continue, Throw, Open}
use Rattle.par_typed.specs.Plain.{Close, SetLocal, SetStatic, SetField, Eval, When}
use Rattle.par_typed.specs.Plain.{MayTSta, NoElse, Otherwise, TStas, End, Then, TCatches, NoCatch}
use Rattle.par_typed.specs.Plain.{Catch}
use Rattle.par_typed.specs.Shown as typed
use Rattle.par_typed.proofs.Shown.{doings as typed_doings}
use Rattle.par_erase.specs.declared.stmt.PStmt.{PStmt}
use Rattle.par_erase.specs.declared.stmt.PStmt.TheVariants.{LockSet}
use Rattle.par_erase.specs.declared.stmt.PCatch.{PCatch}
use Rattle.par_erase.specs.Shown.{does, all_do, all_catch}
use Rattle.par_erase.specs.Asked.{Locks}
use Rattle.par_erase.specs.Erased.{set_if, erased_exp, erased_may, erased_sta}
use Rattle.par_erase.specs.Erased.{erased_else, erased_all, erased_catches}
use Rattle.par_erase.proofs.Shown.{doings}
use Rattle.par_erase.proofs.ExprForms.{left_more, left_none}

pub erased_block : (t : Table) (a : Locks) (ss : TStas) (at p : ℕ)
    → erased_sta t a (Block ss at p) ≡ Block (erased_all t a ss) 0 0
unfolding erased_sta
erased_block t a ss at p = refl

pub erased_if : (t : Table) (a : Locks) (e : TExp) (s : TSta) (o : MayTSta) (at p : ℕ)
    → erased_sta t a (If e s o at p)
    ≡ If (erased_exp t e) (erased_sta t a s) (erased_else t a o) 0 0
unfolding erased_sta
erased_if t a e s o at p = refl

pub erased_while : (t : Table) (a : Locks) (e : TExp) (s : TSta) (at p : ℕ)
    → erased_sta t a (While e s at p) ≡ While (erased_exp t e) (erased_sta t a s) 0 0
unfolding erased_sta
erased_while t a e s at p = refl

pub erased_try : (t : Table) (a : Locks) (s : TSta) (cs : TCatches) (at p : ℕ)
    → erased_sta t a (Try s cs at p) ≡ Try (erased_sta t a s) (erased_catches t a cs) 0 0
unfolding erased_sta
erased_try t a s cs at p = refl

pub erased_return : (t : Table) (a : Locks) (o : MayTExp) (at p : ℕ)
    → erased_sta t a (Return o at p) ≡ Return (erased_may t o) 0 0
unfolding erased_sta
erased_return t a o at p = refl

pub erased_break : (t : Table) (a : Locks) (at p : ℕ) → erased_sta t a (Break at p) ≡ Break 0 0
unfolding erased_sta
erased_break t a at p = refl

pub erased_continue : (t : Table) (a : Locks) (at p : ℕ)
    → erased_sta t a (Continue at p) ≡ Continue 0 0
unfolding erased_sta
erased_continue t a at p = refl

pub erased_throw : (t : Table) (a : Locks) (c at p : ℕ)
    → erased_sta t a (Throw c at p) ≡ Throw c 0 0
unfolding erased_sta
erased_throw t a c at p = refl

pub erased_open : (t : Table) (a : Locks) (l at p : ℕ)
    → erased_sta t a (Open l at p) ≡ set_if (a l) l true
unfolding erased_sta
erased_open t a l at p = refl

pub erased_close : (t : Table) (a : Locks) (l at p : ℕ)
    → erased_sta t a (Close l at p) ≡ set_if (a l) l false
unfolding erased_sta
erased_close t a l at p = refl

pub erased_set_local : (t : Table) (a : Locks) (x : ℕ) (q : Option ℕ) (e : TExp) (at p : ℕ)
    → erased_sta t a (SetLocal x q e at p) ≡ SetLocal x None (erased_exp t e) 0 0
unfolding erased_sta
erased_set_local t a x q e at p = refl

pub erased_set_static : (t : Table) (a : Locks) (c f : ℕ) (e : TExp) (at p : ℕ)
    → erased_sta t a (SetStatic c f e at p) ≡ SetStatic c f (erased_exp t e) 0 0
unfolding erased_sta
erased_set_static t a c f e at p = refl

pub erased_set_field : (t : Table) (a : Locks) (o : TExp) (c f : ℕ) (e : TExp) (at p : ℕ)
    → erased_sta t a (SetField o c f e at p)
    ≡ SetField (erased_exp t o) c f (erased_exp t e) 0 0
unfolding erased_sta
erased_set_field t a o c f e at p = refl

pub erased_eval : (t : Table) (a : Locks) (e : TExp) (at p : ℕ)
    → erased_sta t a (Eval e at p) ≡ Eval (erased_exp t e) 0 0
unfolding erased_sta
erased_eval t a e at p = refl

pub erased_when : (t : Table) (a : Locks) (l : ℕ) (s : TSta) (o : MayTSta) (at p : ℕ)
    → erased_sta t a (When l s o at p) ≡ When l (erased_sta t a s) (erased_else t a o) 0 0
unfolding erased_sta
erased_when t a l s o at p = refl

pub erased_no_else : (t : Table) (a : Locks) → erased_else t a NoElse ≡ NoElse
unfolding erased_else
erased_no_else t a = refl

pub erased_otherwise : (t : Table) (a : Locks) (s : TSta)
    → erased_else t a (Otherwise s) ≡ Otherwise (erased_sta t a s)
unfolding erased_else
erased_otherwise t a s = refl

pub erased_end : (t : Table) (a : Locks) → erased_all t a End ≡ End
unfolding erased_all
erased_end t a = refl

pub erased_then : (t : Table) (a : Locks) (s : TSta) (ss : TStas)
    → erased_all t a (Then s ss) ≡ Then (erased_sta t a s) (erased_all t a ss)
unfolding erased_all
erased_then t a s ss = refl

pub erased_no_catch : (t : Table) (a : Locks) → erased_catches t a NoCatch ≡ NoCatch
unfolding erased_catches
erased_no_catch t a = refl

pub erased_catch : (t : Table) (a : Locks) (c : ℕ) (s : TSta) (cs : TCatches)
    → erased_catches t a (Catch c s cs) ≡ Catch c (erased_sta t a s) (erased_catches t a cs)
unfolding erased_catches
erased_catch t a c s cs = refl

-- a lock is set, or nothing is done
pub lock_set_is : (w : ℕ → ℕ) (lock : ℕ) (opens : Bool)
    → does w (LockSet lock opens) ≡ set_if true lock opens
unfolding does
lock_set_is w lock opens = refl

-- statements, and then others
unfoldable pub stas_before : (ℕ → ℕ) → List PStmt → TStas → TStas
stas_before w [] rest = rest
stas_before w (s ∷ ss) rest = Then (does w s) (stas_before w ss rest)

pub stas_before_none : (w : ℕ → ℕ) (rest : TStas) → stas_before w [] rest ≡ rest
unfolding stas_before
stas_before_none w rest = refl

pub stas_before_with : (w : ℕ → ℕ) (ss : List PStmt) (s : PStmt) (rest : TStas)
    → stas_before w (ss ++ s ∷ []) rest ≡ stas_before w ss (Then (does w s) rest)
unfolding stas_before
stas_before_with w [] s rest = refl
stas_before_with w (x ∷ ss) s rest = ap (Then (does w x)) (stas_before_with w ss s rest)

pub stas_before_end : (w : ℕ → ℕ) (ss : List PStmt) → stas_before w ss End ≡ all_do w ss
unfolding stas_before
stas_before_end w [] = refl
stas_before_end w (x ∷ ss) = ap (Then (does w x)) (stas_before_end w ss)

-- catches, and then others
unfoldable pub catches_before : (ℕ → ℕ) → List PCatch → TCatches → TCatches
catches_before w [] rest = rest
catches_before w (c ∷ cs) rest = Catch c.class (does w c.body) (catches_before w cs rest)

pub catches_before_none : (w : ℕ → ℕ) (rest : TCatches) → catches_before w [] rest ≡ rest
unfolding catches_before
catches_before_none w rest = refl

pub catches_before_with : (w : ℕ → ℕ) (cs : List PCatch) (c : PCatch) (rest : TCatches)
    → catches_before w (cs ++ c ∷ []) rest
    ≡ catches_before w cs (Catch c.class (does w c.body) rest)
unfolding catches_before
catches_before_with w [] c rest = refl
catches_before_with w (x ∷ cs) c rest =
    ap (Catch x.class (does w x.body)) (catches_before_with w cs c rest)

pub catches_before_end : (w : ℕ → ℕ) (cs : List PCatch)
    → catches_before w cs NoCatch ≡ all_catch w cs
unfolding catches_before
catches_before_end w [] = refl
catches_before_end w (x ∷ cs) = ap (Catch x.class (does w x.body)) (catches_before_end w cs)

-- what is left of a list
pub stas_left : (ss : List TStmt) (i : ℕ) (s : TStmt) → i < length ss → s ≡ get_or ss i s
    → typed.all_do (drop i ss) ≡ Then (typed.does s) (typed.all_do (drop (i + 1) ss))
stas_left ss i s lt is = ap typed.all_do (left_more ss i s lt is)

pub no_stas_left : (ss : List TStmt) (i : ℕ) → length ss ≤ i → typed.all_do (drop i ss) ≡ End
no_stas_left ss i le = ap typed.all_do (left_none ss i le)

pub catches_left : (cs : List TCatch) (i : ℕ) (c : TCatch) → i < length cs → c ≡ get_or cs i c
    → typed.all_catch (drop i cs)
    ≡ Catch c.class (typed.does c.body) (typed.all_catch (drop (i + 1) cs))
catches_left cs i c lt is = ap typed.all_catch (left_more cs i c lt is)

pub no_catches_left : (cs : List TCatch) (i : ℕ) → length cs ≤ i
    → typed.all_catch (drop i cs) ≡ NoCatch
no_catches_left cs i le = ap typed.all_catch (left_none cs i le)

-- what stands behind `else`, or nothing
pub ruleset else_forms = (erased_no_else, erased_otherwise)

-- one statement or one catch of a row
pub ruleset row_forms = (
  erased_end,
  erased_then,
  erased_no_catch,
  erased_catch,
  stas_before_none,
  stas_before_with,
  stas_before_end,
  catches_before_none,
  catches_before_with,
  catches_before_end,
)

-- each kind of statement
pub ruleset erases = (
  doings,
  typed_doings,
  erased_block,
  erased_if,
  erased_while,
  erased_try,
  erased_return,
  erased_break,
  erased_continue,
  erased_throw,
  erased_open,
  erased_close,
  erased_set_local,
  erased_set_static,
  erased_set_field,
  erased_eval,
  erased_when,
  lock_set_is,
)
