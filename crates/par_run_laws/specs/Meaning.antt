-- What each expression and each statement does, and what it costs: each node a step, and a step
-- more
-- each further test of a loop and each entering of a called body.
use Rattle.std.specs.Prelude.{ℕ, zero, suc, not, if◌then◌else◌, ◌==◌, List, [], ◌∷◌, Option, Some}
use Rattle.std.specs.Prelude.{None}
use Rattle.par_typed.specs.par_lexer.declared.operator.BinOp.{BinOp}
use Rattle.par_typed.specs.par_policy.Numbers.{has}
use Rattle.par_typed.specs.declared.table.Table.{Table}
use Rattle.par_typed.specs.Plain.{mark, Body, TExp, Int, Boolean, Null, This, New, Local, Static}
use Rattle.par_typed.specs.Plain.{Field, Input, Output, Call, Neg, Not, Binary}
use Rattle.par_typed.specs.Plain.{Absent, Present, TExps, NoExps, More}
use Rattle.par_typed.specs.Plain.{TSta, Block, If, While, Try, Return, Break, Continue, Throw, Open}
use Rattle.par_typed.specs.Plain.{Close, SetLocal, SetStatic, SetField, Eval, When}
use Rattle.par_typed.specs.Plain.{MayTSta, NoElse, Otherwise, TStas, End, Then, TCatches, NoCatch}
use Rattle.par_typed.specs.Plain.{Catch}
use Rattle.par_secrecy.specs.par_values.declared.run.Event.TheVariants.{Out, Set, Put, Born}
use Rattle.par_secrecy.specs.par_values.declared.value.MVal.{MVal}
use Rattle.par_secrecy.specs.par_values.declared.value.MVal.TheVariants as value
use Rattle.par_secrecy.specs.par_values.Areas.{number_of, next}
use Rattle.par_secrecy.specs.par_values.Arithmetic.{negated}
use Rattle.par_secrecy.specs.Runs.{stopped}
use Rattle.par_run_laws.specs.Names.{Name, made_named, field_named, channel_named, first_field}
use Rattle.par_run_laws.specs.Names.{body_of}
use Rattle.par_run_laws.specs.State.{set_local, set_result, set_static, set_field, with_object}
use Rattle.par_run_laws.specs.State.{take_input, open_lock, close_lock}
use Rattle.par_run_laws.specs.Tasks.{Normal, Broken, Continued, Returned, Thrown, Task, nothing}
use Rattle.par_run_laws.specs.Tasks.{done}
use Rattle.par_run_laws.specs.Tasks.{gives, fine, paid, change, read, happens, asked, named}
use Rattle.par_run_laws.specs.Tasks.{and_then}
use Rattle.par_run_laws.specs.Tasks.{ARITHMETIC, tested, enter, turn, turns, caught}
use Rattle.par_run_laws.specs.Values.{truth, is_true, object_number, decides, throws, applied}
use Rattle.par_run_laws.specs.Values.{shown_value}

-- the next number of an input channel
abbrev pub inputs : ℕ → ℕ → Task
inputs c k rest s n = rest Normal (value.Int (next (s.inputs c k))) (take_input c k s) n

-- a number on an output channel
abbrev pub outputs : Table → ℕ → ℕ → MVal → Task
outputs t c k v = named (channel_named t c k) (λ m. happens (Out m.class m.name (number_of v)) fine)

-- a new object of a class
abbrev pub born : Table → ℕ → Name → Task
born t c name rest s n =
    happens (Born name (s.births c))
    (change (with_object c (first_field t c)) (gives (value.Ref c (s.births c)))) rest s n

-- the second part of an operator is there
abbrev pub operates : BinOp → MVal → MVal → Task
operates op u v = if throws op v then done (Thrown ARITHMETIC) nothing else gives (applied op u v)

abbrev pub writes_static : Table → ℕ → ℕ → MVal → Task
writes_static t c f v =
    named (field_named t c f) (λ m.
    happens (Set m.class m.name (shown_value t v)) (change (set_static c f v) fine))

abbrev pub writes_field : Table → ℕ → ℕ → MVal → MVal → Task
writes_field t c f r v =
    named (field_named t c f) (λ m.
    happens (Put m.class (object_number r) m.name (shown_value t v))
    (change (set_field c (object_number r) f v) fine))

-- a called body, by the class and the method
abbrev pub Calls : Type 0
Calls = ℕ → ℕ → Task

abbrev pub calls : Calls → ℕ → ℕ → List MVal → Task
calls run c m values = paid (enter (run c m) values)

unfoldable mutual
  -- an expression
  pub eval : Table → Calls → TExp → Task
  eval t run (Int n m) = paid (gives (value.Int n))
  eval t run (Boolean b m) = paid (gives (truth b))
  eval t run (Null m) = paid (gives value.Null)
  eval t run (This m) = paid (read (λ s. s.locals 0))
  eval t run (New c m) = paid (named (made_named t c) (born t c))
  eval t run (Local x m) = paid (read (λ s. s.locals x))
  eval t run (Static c f m) = paid (read (λ s. s.statics c f))
  eval t run (Field e c f m) =
      paid (and_then (eval t run e)
      (λ r. tested (mark e).sure r (read (λ s. s.fields c (object_number r) f))))
  eval t run (Input c k m) = paid (inputs c k)
  eval t run (Output c k e m) = paid (and_then (eval t run e) (outputs t c k))
  eval t run (Call c k Absent es m) = paid (eval_all t run es (calls run c k))
  eval t run (Call c k (Present e) es m) =
      paid (and_then (eval t run e)
      (λ r. eval_all t run es (λ vs. tested (mark e).sure r (calls run c k (r ∷ vs)))))
  eval t run (Neg e m) =
      paid (and_then (eval t run e) (λ v. gives (value.Int (negated (number_of v)))))
  eval t run (Not e m) = paid (and_then (eval t run e) (λ v. gives (truth (not (is_true v)))))
  eval t run (Binary op a b m) =
      paid (and_then (eval t run a)
      (λ u. if decides op u then gives u else and_then (eval t run b) (operates op u)))

  -- arguments, and then next with their values
  pub eval_all : Table → Calls → TExps → (List MVal → Task) → Task
  eval_all t run NoExps next = next []
  eval_all t run (More e es) next =
      and_then (eval t run e) (λ v. eval_all t run es (λ vs. next (v ∷ vs)))

unfoldable mutual
  -- a statement, whose loops make at most m turns
  pub go : Table → Calls → ℕ → TSta → Task
  go t run m (Block ss at point) = paid (go_all t run m ss)
  go t run m (If e s o at point) =
      paid (and_then (eval t run e) (λ v. if is_true v then go t run m s else go_else t run m o))
  go t run m (While e s at point) = turns m (turn is_true (eval t run e) (go t run m s))
  go t run m (Try s cs at point) = paid (λ rest. go t run m s (caught (go_catch t run m cs) rest))
  go t run m (Return Absent at point) = paid (done Returned nothing)
  go t run m (Return (Present e) at point) =
      paid (and_then (eval t run e) (λ v. change (set_result v) (done Returned nothing)))
  go t run m (Break at point) = paid (done Broken nothing)
  go t run m (Continue at point) = paid (done Continued nothing)
  go t run m (Throw c at point) = paid (done (Thrown c) nothing)
  go t run m (Open l at point) = paid (change (open_lock l) fine)
  go t run m (Close l at point) = paid (change (close_lock l) fine)
  go t run m (SetLocal x p e at point) =
      paid (and_then (eval t run e) (λ v. change (set_local x v) fine))
  go t run m (SetStatic c f e at point) = paid (and_then (eval t run e) (writes_static t c f))
  go t run m (SetField e c f a at point) =
      paid (and_then (eval t run e)
      (λ r. and_then (eval t run a) (λ v. tested (mark e).sure r (writes_field t c f r v))))
  go t run m (Eval e at point) = paid (and_then (eval t run e) (λ v. fine))
  go t run m (When l s o at point) =
      paid (asked (λ s. has s.locks l) (go t run m s) (go_else t run m o))

  pub go_else : Table → Calls → ℕ → MayTSta → Task
  go_else t run m NoElse = fine
  go_else t run m (Otherwise s) = go t run m s

  pub go_all : Table → Calls → ℕ → TStas → Task
  go_all t run m End = fine
  go_all t run m (Then s ss) = and_then (go t run m s) (λ v. go_all t run m ss)

  -- the catch of exactly this class; without one it is thrown on
  pub go_catch : Table → Calls → ℕ → TCatches → ℕ → Task
  go_catch t run m NoCatch c = done (Thrown c) nothing
  go_catch t run m (Catch d s cs) c = if d == c then go t run m s else go_catch t run m cs c

abbrev pub within : Table → Calls → ℕ → Option TSta → Task
within t run m None = fine
within t run m (Some s) = go t run m s

-- the body of a method, which calls may enter at most so deep; a method without a body does nothing
unfoldable pub method : Table → List Body → ℕ → Calls
method t bodies zero c m rest s n = stopped
method t bodies (suc depth) c m rest s n =
    within t (method t bodies depth) (suc depth) (body_of bodies c m) rest s n
