-- Which continues are inside of each form of a typed tree.
use Rattle.std.proofs.Common.{◌≡◌, ℕ, Bool, true, false, ◌||◌, Option, refl}
use Rattle.par_typed.specs.Plain.{TExp, MayTExp}
use Rattle.par_typed.specs.Plain.{TSta, Block, If, While, Try, Return, Break, Continue, Throw, Open}
use Rattle.par_typed.specs.Plain.{Close, SetLocal, SetStatic, SetField, Eval, When}
use Rattle.par_typed.specs.Plain.{MayTSta, NoElse, Otherwise, TStas, End, Then, TCatches, NoCatch}
use Rattle.par_typed.specs.Plain.{Catch}
use Rattle.par_code_form.specs.Again.{continues, else_continues, some_continue}
use Rattle.par_code_form.specs.Again.{some_catch_continues}
use Rattle.par_erase.specs.declared.stmt.PStmt.TheVariants.{LockSet}
use Rattle.par_erase.specs.Shown.{does}
use Rattle.par_erase.proofs.Shown.{doings}

pub continues_block : (ss : TStas) (at p : ℕ)
    → continues (Block ss at p) ≡ some_continue ss
unfolding continues
continues_block ss at p = refl

pub continues_if : (e : TExp) (s : TSta) (o : MayTSta) (at p : ℕ)
    → continues (If e s o at p) ≡ (continues s || else_continues o)
unfolding continues
continues_if e s o at p = refl

pub continues_while : (e : TExp) (s : TSta) (at p : ℕ)
    → continues (While e s at p) ≡ false
unfolding continues
continues_while e s at p = refl

pub continues_try : (s : TSta) (cs : TCatches) (at p : ℕ)
    → continues (Try s cs at p) ≡ (continues s || some_catch_continues cs)
unfolding continues
continues_try s cs at p = refl

pub continues_return : (o : MayTExp) (at p : ℕ)
    → continues (Return o at p) ≡ false
unfolding continues
continues_return o at p = refl

pub continues_break : (at p : ℕ)
    → continues (Break at p) ≡ false
unfolding continues
continues_break at p = refl

pub continues_continue : (at p : ℕ)
    → continues (Continue at p) ≡ true
unfolding continues
continues_continue at p = refl

pub continues_throw : (c : ℕ) (at p : ℕ)
    → continues (Throw c at p) ≡ false
unfolding continues
continues_throw c at p = refl

pub continues_open : (i : ℕ) (at p : ℕ)
    → continues (Open i at p) ≡ false
unfolding continues
continues_open i at p = refl

pub continues_close : (i : ℕ) (at p : ℕ)
    → continues (Close i at p) ≡ false
unfolding continues
continues_close i at p = refl

pub continues_set_local : (x : ℕ) (q : Option ℕ) (e : TExp) (at p : ℕ)
    → continues (SetLocal x q e at p) ≡ false
unfolding continues
continues_set_local x q e at p = refl

pub continues_set_static : (c f : ℕ) (e : TExp) (at p : ℕ)
    → continues (SetStatic c f e at p) ≡ false
unfolding continues
continues_set_static c f e at p = refl

pub continues_set_field : (o : TExp) (c f : ℕ) (e : TExp) (at p : ℕ)
    → continues (SetField o c f e at p) ≡ false
unfolding continues
continues_set_field o c f e at p = refl

pub continues_eval : (e : TExp) (at p : ℕ)
    → continues (Eval e at p) ≡ false
unfolding continues
continues_eval e at p = refl

pub continues_when : (i : ℕ) (s : TSta) (o : MayTSta) (at p : ℕ)
    → continues (When i s o at p) ≡ (continues s || else_continues o)
unfolding continues
continues_when i s o at p = refl

pub continues_else_none : else_continues NoElse ≡ false
unfolding continues
continues_else_none = refl

pub continues_else : (s : TSta)
    → else_continues (Otherwise s) ≡ continues s
unfolding continues
continues_else s = refl

pub continues_end : some_continue End ≡ false
unfolding continues
continues_end = refl

pub continues_then : (s : TSta) (ss : TStas)
    → some_continue (Then s ss) ≡ (continues s || some_continue ss)
unfolding continues
continues_then s ss = refl

pub continues_no_catch : some_catch_continues NoCatch ≡ false
unfolding continues
continues_no_catch = refl

pub continues_catch : (c : ℕ) (s : TSta) (cs : TCatches)
    → some_catch_continues (Catch c s cs) ≡ (continues s || some_catch_continues cs)
unfolding continues
continues_catch c s cs = refl

pub continues_lock_set : (i : ℕ → ℕ) (lock : ℕ) (b : Bool)
    → continues (does i (LockSet lock b)) ≡ false
unfolding does continues
continues_lock_set i lock true = refl
continues_lock_set i lock false = refl

-- what stands behind `else`, or nothing
pub ruleset continuing_else = (continues_else_none, continues_else)

-- one statement or one catch of a row
pub ruleset continuing_row = (continues_end, continues_then, continues_no_catch, continues_catch)

-- each kind of statement
pub ruleset continuing = (
  continues_block,
  continues_if,
  continues_while,
  continues_try,
  continues_return,
  continues_break,
  continues_continue,
  continues_throw,
  continues_open,
  continues_close,
  continues_set_local,
  continues_set_static,
  continues_set_field,
  continues_eval,
  continues_when,
  continues_lock_set,
  doings,
)
