-- What is left to do, as the run from here on.
use Rattle.std.specs.Prelude.{ℕ, suc, Bool, true, false, not, if◌then◌else◌, ◌==◌, List, [], ◌∷◌}
use Rattle.std.specs.Prelude.{◌++◌, take, drop, reverse, slice_index_or, Option, Some, None}
use Rattle.par_typed.specs.par_lexer.declared.operator.BinOp.{BinOp}
use Rattle.par_typed.specs.declared.table.Table.{Table}
use Rattle.par_typed.specs.Plain.{Body, TExp, MayTExp, Absent, Present, TExps, TSta, MayTSta, TStas}
use Rattle.par_typed.specs.Plain.{TCatches, NoCatch, Catch, mark}
use Rattle.par_typed.specs.Shown.{shown, all_shown, does, otherwise, all_do, all_catch}
use Rattle.par_values.specs.declared.inputs.ChannelInput.{ChannelInput}
use Rattle.par_values.specs.declared.value.MVal.{MVal}
use Rattle.par_values.specs.declared.value.MVal.TheVariants as value
use Rattle.par_values.specs.Areas.{number_of}
use Rattle.par_values.specs.Arithmetic.{negated}
use Rattle.par_run_laws.specs.State.{set_local, set_result}
use Rattle.par_run_laws.specs.Tasks as exit
use Rattle.par_run_laws.specs.Tasks.{Rest, Rests, Task, nothing, done, gives, fine, change, read}
use Rattle.par_run_laws.specs.Tasks.{follow, and_then, tested, leave, looped, turn, turns, caught}
use Rattle.par_run_laws.specs.Values.{truth, is_true, object_number, decides}
use Rattle.par_run_laws.specs.Meaning.{outputs, operates, writes_static, writes_field, Calls, calls}
use Rattle.par_run_laws.specs.Meaning.{eval, eval_all, go, go_else, go_all, go_catch, method}
use Rattle.par_run_laws.specs.Source.{final}
use Rattle.par_source_state.specs.Frame.{held, left_by}
use Rattle.par_meaning.specs.declared.work.Completion.{Completion}
use Rattle.par_meaning.specs.declared.work.Completion.TheVariants.{Normal, Abrupt}
use Rattle.par_meaning.specs.declared.work.Exit.{Exit}
use Rattle.par_meaning.specs.declared.work.Exit.TheVariants.{Broken, Continued, Returned, Thrown}
use Rattle.par_meaning.specs.declared.work.Target.{Target}
use Rattle.par_meaning.specs.declared.work.Next.{Next}
use Rattle.par_meaning.specs.declared.work.Next.TheVariants as next
use Rattle.par_meaning.specs.declared.work.Waiting.{Waiting}
use Rattle.par_meaning.specs.declared.work.Waiting.TheVariants as waiting

-- a program with what its input channels are given, whose calls may be so deep
pub record Setting : Type 0 where
  pub table : Table
  pub bodies : List Body
  pub lines : List ChannelInput
  pub depth : ℕ

abbrev pub run_calls : Setting → Calls
run_calls p = method p.table p.bodies p.depth

abbrev pub evaluates : Setting → TExp → Task
evaluates p e = eval p.table (run_calls p) e

abbrev pub evaluates_all : Setting → TExps → (List MVal → Task) → Task
evaluates_all p es next = eval_all p.table (run_calls p) es next

abbrev pub performs : Setting → TSta → Task
performs p s = go p.table (run_calls p) (suc p.depth) s

abbrev pub performs_else : Setting → MayTSta → Task
performs_else p o = go_else p.table (run_calls p) (suc p.depth) o

abbrev pub performs_all : Setting → TStas → Task
performs_all p ss = go_all p.table (run_calls p) (suc p.depth) ss

abbrev pub handles : Setting → TCatches → ℕ → Task
handles p cs = go_catch p.table (run_calls p) (suc p.depth) cs

-- a loop from one of its tests on
abbrev pub loops : Setting → TExp → TSta → Task
loops p e s = turns (suc p.depth) (turn is_true (evaluates p e) (performs p s))

abbrev pub first_of : List MVal → MVal
first_of values = slice_index_or values 0 value.Null

abbrev pub is_object : MVal → Bool
is_object (value.Int n) = false
is_object value.Null = false
is_object (value.Ref c n) = true

-- a call with all its values, the receiver first where there is one
abbrev pub called : Setting → Target → List MVal → Task
called p target values =
    tested target.sure (first_of values) (calls (run_calls p) target.class target.method values)

-- the value that is returned, where there is one, and then the return
abbrev pub returned : Setting → MayTExp → Task
returned p Absent = done exit.Returned nothing
returned p (Present e) = and_then (evaluates p e)
    (λ v. change (set_result v) (done exit.Returned nothing))

-- the parts of a call, and then the call
abbrev pub call_parts : Setting → ℕ → ℕ → MayTExp → TExps → Task
call_parts p c m Absent es = evaluates_all p es (calls (run_calls p) c m)
call_parts p c m (Present e) es =
    and_then (evaluates p e)
    (λ r. evaluates_all p es (λ vs. tested (mark e).sure r (calls (run_calls p) c m (r ∷ vs))))

-- what follows, by the locals of the callers and the values that calls have so far
abbrev pub Follows : Type 0
Follows = List MVal → List MVal → Rests

abbrev pub last_values : ℕ → List MVal → List MVal
last_values count values = reverse (take count values)

-- a turn of a loop where its test gave this
abbrev pub turned : Setting → TExp → TSta → MVal → Task
turned p e s v =
    if is_true v then (λ rest. performs p s (looped (loops p e s) rest)) else fine

-- a field of an object, where it is there
abbrev pub reads_field : Bool → ℕ → ℕ → MVal → Task
reads_field sure c f r = tested sure r (read (λ s. s.fields c (object_number r) f))

-- a write to a field of an object, where it is there
abbrev pub sets_field : Table → Bool → ℕ → ℕ → MVal → MVal → Task
sets_field t sure c f r v = tested sure r (writes_field t c f r v)

-- an operator that has its first part
abbrev pub decided : Setting → BinOp → TExp → MVal → Task
decided p op e u = if decides op u then gives u else and_then (evaluates p e) (operates op u)

-- with what waits on top of what follows
abbrev pub waits : Setting → Waiting → Follows → Follows
waits p (waiting.Field sure c f) rest below vs = follow (reads_field sure c f) (rest below vs)
waits p (waiting.Output c k) rest below vs = follow (outputs p.table c k) (rest below vs)
waits p (waiting.Argument target count es) rest below vs =
    follow (λ v. evaluates_all p (all_shown es.now)
    (λ more. called p target (last_values count vs ++ v ∷ more)))
    (rest below (drop count vs))
waits p waiting.Neg rest below vs =
    follow (λ v. gives (value.Int (negated (number_of v)))) (rest below vs)
waits p waiting.Not rest below vs = follow (λ v. gives (truth (not (is_true v)))) (rest below vs)
waits p (waiting.Decide op e) rest below vs = follow (decided p op (shown e.now)) (rest below vs)
waits p (waiting.Operate op u) rest below vs = follow (operates op u) (rest below vs)
waits p (waiting.If s o) rest below vs =
    follow (λ v. if is_true v then performs p (does s.now) else performs_else p (otherwise o.now))
    (rest below vs)
waits p (waiting.Test e s) rest below vs =
    follow (turned p (shown e.now) (does s.now)) (rest below vs)
waits p (waiting.Loop e s) rest below vs =
    looped (loops p (shown e.now) (does s.now)) (rest below vs)
waits p (waiting.Catch cs) rest below vs = caught (handles p (all_catch cs.now)) (rest below vs)
waits p waiting.Return rest below vs =
    follow (λ v. change (set_result v) (done exit.Returned nothing)) (rest below vs)
waits p (waiting.SetLocal x) rest below vs =
    follow (λ v. change (set_local x v) fine) (rest below vs)
waits p (waiting.SetStatic c f) rest below vs =
    follow (writes_static p.table c f) (rest below vs)
waits p (waiting.Object sure c f e) rest below vs =
    follow (λ r. and_then (evaluates p (shown e.now)) (sets_field p.table sure c f r))
    (rest below vs)
waits p (waiting.SetField sure c f r) rest below vs =
    follow (sets_field p.table sure c f r) (rest below vs)
waits p waiting.Eval rest below vs = follow (λ v. fine) (rest below vs)
waits p (waiting.Block ss) rest below vs =
    follow (λ v. performs_all p (all_do ss.now)) (rest below vs)
waits p (waiting.Leave size result) rest below vs =
    let caller = left_by size below in
    leave (held caller.own) result (rest caller.below vs)

-- what waits, the first on top, and behind it the end of the run
unfoldable pub left : Setting → List Waiting → Follows
left p [] below vs = final p.table
left p (w ∷ ws) below vs = waits p w (left p ws) below vs

abbrev pub exit_of : Exit → exit.Exit
exit_of Broken = exit.Broken
exit_of Continued = exit.Continued
exit_of Returned = exit.Returned
exit_of (Thrown c) = exit.Thrown c

-- what follows a completion
abbrev pub completes : Rests → Completion → Rest
completes rest (Normal v) = rest exit.Normal v
completes rest (Abrupt e) = rest (exit_of e) nothing

-- the block that catches exactly this class
abbrev pub catch_of : TCatches → ℕ → Option TSta
catch_of NoCatch c = None
catch_of (Catch d s cs) c = if d == c then Some s else catch_of cs c

-- what is done next, and then what follows
abbrev pub goes : Setting → Next → Follows → List MVal → List MVal → Rest
goes p (next.Expr e) rest below vs = evaluates p (shown e.now) (rest below vs)
goes p (next.Stmt s) rest below vs = performs p (does s.now) (rest below vs)
goes p (next.Turn e s) rest below vs = loops p (shown e.now) (does s.now) (rest below vs)
goes p (next.Body c m count) rest below vs =
    calls (run_calls p) c m (last_values count vs) (rest below (drop count vs))
