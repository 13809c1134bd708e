-- A run with more turns of loops, deeper calls and more steps goes on where one with fewer is
-- stopped, and with equally many steps it is the same run where there are enough of the others.
use Rattle.std.proofs.Common.{◌≡◌, ℕ, zero, suc, ◌<◌, ◌≤◌, ◌-◌, ◌+◌, Bool, true, false}
use Rattle.std.proofs.Common.{if◌then◌else◌, List, [], ◌∷◌, Option, Some, None, refl, sym, ap}
use Rattle.std.proofs.Common.{◌==◌, subst, arith}
use Rattle.par_typed.specs.par_policy.Numbers.{has}
use Rattle.par_typed.specs.declared.table.Table.{Table}
use Rattle.par_typed.specs.declared.program.Typed.{Typed}
use Rattle.par_typed.specs.Shown.{bodies}
use Rattle.par_typed.specs.Plain.{mark, Body, TExp, Int, Boolean, Null, This, New, Local, Static}
use Rattle.par_typed.specs.Plain.{Field, Input, Output, Call, Neg, Not, Binary}
use Rattle.par_typed.specs.Plain.{Absent, Present, TExps, NoExps, More}
use Rattle.par_typed.specs.Plain.{TSta, Block, If, While, Try, Return, Break, Continue, Throw, Open}
use Rattle.par_typed.specs.Plain.{Close, SetLocal, SetStatic, SetField, Eval, When}
use Rattle.par_typed.specs.Plain.{MayTSta, NoElse, Otherwise, TStas, End, Then, TCatches, NoCatch}
use Rattle.par_typed.specs.Plain.{Catch}
use Rattle.par_secrecy.specs.par_values.declared.run.Event.{Event}
use Rattle.par_secrecy.specs.par_values.declared.run.Event.TheVariants.{Born}
use Rattle.par_secrecy.specs.par_values.declared.value.MVal.{MVal}
use Rattle.par_secrecy.specs.par_values.declared.value.MVal.TheVariants as value
use Rattle.par_secrecy.specs.par_values.Areas.{number_of}
use Rattle.par_secrecy.specs.par_values.Arithmetic.{negated}
use Rattle.par_secrecy.specs.Longer.{Extends}
use Rattle.par_secrecy.specs.Runs.{Run, stopped, with_first}
use Rattle.par_secrecy.proofs.Extension.{extends_itself, extends_stopped, extends_behind}
use Rattle.par_run_laws.specs.Names.{Name, made_named, field_named, channel_named, first_field}
use Rattle.par_run_laws.specs.Names.{body_of}
use Rattle.par_run_laws.specs.Names.{main_of}
use Rattle.par_run_laws.specs.State.{State, with_object}
use Rattle.par_run_laws.specs.Tasks.{Exit, Normal, Broken, Continued, Returned, Thrown, Rest, Rests}
use Rattle.par_run_laws.specs.Tasks.{Task, nothing, done, paid, change, read, happens, asked, named}
use Rattle.par_run_laws.specs.Tasks.{follow, and_then, ARITHMETIC, NULL_POINTER, unless_null}
use Rattle.par_run_laws.specs.Tasks.{tested}
use Rattle.par_run_laws.specs.Tasks.{leave, enter, looped, turn, turns, caught}
use Rattle.par_run_laws.specs.Values.{truth, is_true, object_number, decides, throws, applied}
use Rattle.par_run_laws.specs.Meaning.{inputs, outputs, born, writes_static, writes_field, Calls}
use Rattle.par_run_laws.specs.Meaning.{calls}
use Rattle.par_run_laws.specs.Meaning.{eval, eval_all, go, go_else, go_all, go_catch, within}
use Rattle.par_run_laws.specs.Meaning.{method}
use Rattle.par_run_laws.specs.Source.{start, final, source}
use Rattle.par_run_laws.specs.Laws.{DeeperRunsExtend, SourceRunsExtend}

-- of two runs, with at most so many steps: they are equal with equally many, where these are fewer
-- than so many
pub record Meets (j p q : ℕ) (x y : Run) : Type 0 where
  pub extends : Extends x y
  pub same : p ≡ q → p < j → x ≡ y

-- the second with so many steps more
abbrev pub RestMeets : ℕ → ℕ → Rest → Rest → Type 0
RestMeets d j r r' = (s : State) (p q : ℕ) → p + d ≡ q → Meets j p q (r s p) (r' s q)

abbrev pub RestsMeet : ℕ → ℕ → Rests → Rests → Type 0
RestsMeet d j f f' = (e : Exit) (v : MVal) → RestMeets d j (f e v) (f' e v)

-- Where what follows two tasks meets, so do they.
pub record Grows (d J : ℕ) (c c' : Task) : Type 0 where
  pub at : (j : ℕ) → j ≤ J → (f f' : Rests) → RestsMeet d j f f' → RestMeets d j (c f) (c' f')

pub meets_itself : (j p q : ℕ) (x : Run) → Meets j p q x x
meets_itself j p q x = record { extends = extends_itself x; same = λ e less. refl }

meets_stopped : (j q : ℕ) (y : Run) → Meets j 0 (suc q) stopped y
meets_stopped j q y =
    record { extends = extends_stopped y; same = λ e less. absurd (omega arith) }

meets_above : (j p q : ℕ) (x y : Run) → Meets (j - 1) p q x y → Meets j (suc p) (suc q) x y
meets_above j p q x y h =
    record { extends = h.extends; same = λ e less. h.same (omega arith) (omega arith) }

lower : (d j J : ℕ) (f f' : Rests) → j ≤ J → RestsMeet d J f f' → RestsMeet d j f f'
lower d j J f f' a h e v s p q z = let r = h e v s p q z in
    record { extends = r.extends; same = λ e less. r.same e (omega arith) }

pub weaker : (d j J : ℕ) (c c' : Task) → j ≤ J → Grows d J c c' → Grows d j c c'
weaker d j J c c' a h = record { at = λ i x. h.at i (omega arith) }

-- a task that is stopped at once
none_grow : (d : ℕ) (c c' : Task)
    → ((f : Rests) (s : State) (n : ℕ) → c f s n ≡ stopped) → Grows d 0 c c'
none_grow d c c' none = record {
  at = λ j a f f' l s p q z. record {
    extends = subst (λ x. Extends x (c' f' s q)) (sym (none f s p)) (extends_stopped (c' f' s q));
    same = λ e less. absurd (omega arith);
  };
}

done_grows : {d J : ℕ} (e : Exit) (v : MVal) → Grows d J (done e v) (done e v)
done_grows e v = record { at = λ j a f f' h. h e v }

paid_meets : (d J : ℕ) (c c' : Task) → Grows d J c c' → (j : ℕ) → j ≤ suc J
    → (f f' : Rests) → RestsMeet d j f f' → RestMeets d j (paid c f) (paid c' f')
paid_meets d J c c' g j a f f' h s zero zero z = meets_itself j 0 0 stopped
paid_meets d J c c' g j a f f' h s zero (suc n) z = meets_stopped j n (c' f' s n)
paid_meets d J c c' g j a f f' h s (suc m) zero z = absurd (omega arith)
paid_meets d J c c' g j a f f' h s (suc m) (suc n) z =
    meets_above j m n _ _ (g.at (j - 1) (omega arith) f f'
    (lower d (j - 1) j f f' (omega arith) h) s m n (omega arith))

-- behind a step
paid_down : (d J : ℕ) (c c' : Task) → Grows d J c c'
    → Grows d (suc J) (paid c) (paid c')
paid_down d J c c' g = record { at = paid_meets d J c c' g }

paid_grows : {d J : ℕ} (c c' : Task) → Grows d J c c' → Grows d J (paid c) (paid c')
paid_grows {d} {J} c c' g =
    weaker d J (suc J) (paid c) (paid c') (omega arith) (paid_down d J c c' g)

change_grows : {d J : ℕ} {c c' : Task} (h : State → State) → Grows d J c c'
    → Grows d J (change h c) (change h c')
change_grows h q = record { at = λ j a f f' l s. q.at j a f f' l (h s) }

read_grows : {d J : ℕ} (h : State → MVal) → Grows d J (read h) (read h)
read_grows h = record { at = λ j a f f' l s. l Normal (h s) s }

happens_grows : {d J : ℕ} {c c' : Task} (e : Event) → Grows d J c c'
    → Grows d J (happens e c) (happens e c')
happens_grows e q =
    record {
      at = λ j a f f' l s m n z. let r = q.at j a f f' l s m n z in
          record {
            extends = extends_behind _ _ _ r.extends;
            same =
                λ p less. ap (λ w. with_first (record { event = e; locks = s.locks }) w)
                (r.same p less);
          };
    }

if_grows : {d J : ℕ} {a a' c c' : Task} (b : Bool) → Grows d J a a' → Grows d J c c'
    → Grows d J (if b then a else c) (if b then a' else c')
if_grows true p q = p
if_grows false p q = q

asked_grows : {d J : ℕ} {a a' c c' : Task} (test : State → Bool) → Grows d J a a'
    → Grows d J c c' → Grows d J (asked test a c) (asked test a' c')
asked_grows test p q =
    record { at = λ j a f f' l s. (if_grows (test s) p q).at j a f f' l s }

named_grows : {A : Type 0} {d J : ℕ} (o : Option A) (next next' : A → Task)
    → ((a : A) → Grows d J (next a) (next' a)) → Grows d J (named o next) (named o next')
named_grows None next next' h = done_grows Normal nothing
named_grows (Some a) next next' h = h a

unless_null_grows : {d J : ℕ} {c c' : Task} (r : MVal) → Grows d J c c'
    → Grows d J (unless_null r c) (unless_null r c')
unless_null_grows (value.Int n) q = done_grows (Thrown NULL_POINTER) nothing
unless_null_grows value.Null q = done_grows (Thrown NULL_POINTER) nothing
unless_null_grows (value.Ref k n) q = q

tested_grows : {d J : ℕ} {c c' : Task} (sure : Bool) (r : MVal) → Grows d J c c'
    → Grows d J (tested sure r c) (tested sure r c')
tested_grows sure r q = if_grows sure q (unless_null_grows r q)

follow_meets : {d J : ℕ} (next next' : MVal → Task)
    → ((v : MVal) → Grows d J (next v) (next' v)) → (j : ℕ) → j ≤ J → (f f' : Rests)
    → RestsMeet d j f f' → RestsMeet d j (follow next f) (follow next' f')
follow_meets next next' h j a f f' l Normal v = (h v).at j a f f' l
follow_meets next next' h j a f f' l Broken v = l Broken v
follow_meets next next' h j a f f' l Continued v = l Continued v
follow_meets next next' h j a f f' l Returned v = l Returned v
follow_meets next next' h j a f f' l (Thrown c) v = l (Thrown c) v

then_grows : {d J : ℕ} {c c' : Task} (next next' : MVal → Task) → Grows d J c c'
    → ((v : MVal) → Grows d J (next v) (next' v))
    → Grows d J (and_then c next) (and_then c' next')
then_grows next next' q h =
    record {
      at =
          λ j a f f' l. q.at j a (follow next f) (follow next' f')
          (follow_meets next next' h j a f f' l);
    }

-- a node whose value is followed by a task
node_grows : {d J : ℕ} {c c' : Task} (next next' : MVal → Task) → Grows d J c c'
    → ((v : MVal) → Grows d J (next v) (next' v))
    → Grows d J (paid (and_then c next)) (paid (and_then c' next'))
node_grows next next' q h = paid_grows _ _ (then_grows next next' q h)

leave_meets : (d : ℕ) (locals : ℕ → MVal) (result : MVal) (j : ℕ) (f f' : Rests)
    → RestsMeet d j f f' → RestsMeet d j (leave locals result f) (leave locals result f')
leave_meets d locals result j f f' l Normal v = λ t. l Normal t.result _
leave_meets d locals result j f f' l Broken v = λ t. l Normal t.result _
leave_meets d locals result j f f' l Continued v = λ t. l Normal t.result _
leave_meets d locals result j f f' l Returned v = λ t. l Normal t.result _
leave_meets d locals result j f f' l (Thrown c) v = λ t. l (Thrown c) nothing _

enter_grows : {d J : ℕ} {c c' : Task} (vs : List MVal) → Grows d J c c'
    → Grows d J (enter c vs) (enter c' vs)
enter_grows {d} vs q =
    record {
      at =
          λ j a f f' l s. q.at j a (leave s.locals s.result f) (leave s.locals s.result f')
          (leave_meets d s.locals s.result j f f' l) _;
    }

looped_meets : {d J : ℕ} (again again' : Task) → Grows d J again again' → (j : ℕ) → j ≤ J
    → (f f' : Rests) → RestsMeet d j f f'
    → RestsMeet d j (looped again f) (looped again' f')
looped_meets again again' q j a f f' l Normal v = q.at j a f f' l
looped_meets again again' q j a f f' l Broken v = l Normal nothing
looped_meets again again' q j a f f' l Continued v = q.at j a f f' l
looped_meets again again' q j a f f' l Returned v = l Returned v
looped_meets again again' q j a f f' l (Thrown c) v = l (Thrown c) v

pub turn_grows : (d J : ℕ) (test test' block block' again again' : Task) → Grows d J test test'
    → Grows d J block block' → Grows d J again again'
    → Grows d (suc J) (turn is_true test block again) (turn is_true test' block' again')
turn_grows d J test test' block block' again again' p q r =
    paid_down d J _ _ (then_grows _ _ p (λ v. if_grows (is_true v)
    (record {
      at =
          λ j a f f' l. q.at j a (looped again f) (looped again' f')
          (looped_meets again again' r j a f f' l);
    })
    (done_grows Normal nothing)))

pub turns_grow : (d J : ℕ) (test test' block block' : Task) → Grows d J test test'
    → Grows d J block block' → (m n : ℕ) → m ≤ n → m ≤ J
    → Grows d m (turns m (turn is_true test block)) (turns n (turn is_true test' block'))
turns_grow d J test test' block block' p q zero n x y = none_grow d _ _ (λ f s n. refl)
turns_grow d J test test' block block' p q (suc m) zero x y = absurd (omega arith)
turns_grow d J test test' block block' p q (suc m) (suc n) x y =
    let again = turns_grow d J test test' block block' p q m n (omega arith) (omega arith) in
    let one =
    turn_grows d m test test' block block' (turns m (turn is_true test block))
    (turns n (turn is_true test' block')) (weaker d m J test test' (omega arith) p)
    (weaker d m J block block' (omega arith) q) again in
    record { at = λ j a f f' l s i o. one.at j a f f' l s i o }

caught_meets : {d J : ℕ} (handle handle' : ℕ → Task)
    → ((c : ℕ) → Grows d J (handle c) (handle' c)) → (j : ℕ) → j ≤ J → (f f' : Rests)
    → RestsMeet d j f f' → RestsMeet d j (caught handle f) (caught handle' f')
caught_meets handle handle' h j a f f' l Normal v = l Normal v
caught_meets handle handle' h j a f f' l Broken v = l Broken v
caught_meets handle handle' h j a f f' l Continued v = l Continued v
caught_meets handle handle' h j a f f' l Returned v = l Returned v
caught_meets handle handle' h j a f f' l (Thrown c) v = (h c).at j a f f' l

inputs_grow : {d J : ℕ} (c i : ℕ) → Grows d J (inputs c i) (inputs c i)
inputs_grow c i = record { at = λ j a f f' l s. l Normal _ _ }

outputs_grow : {d J : ℕ} (t : Table) (c i : ℕ) (v : MVal)
    → Grows d J (outputs t c i v) (outputs t c i v)
outputs_grow t c i v =
    named_grows (channel_named t c i) _ _ (λ m. happens_grows _ (done_grows Normal nothing))

born_grows : {d J : ℕ} (t : Table) (c : ℕ) (name : Name)
    → Grows d J (born t c name) (born t c name)
born_grows t c name =
    record {
      at =
          λ j a f f' l s.
          (happens_grows (Born name (s.births c))
          (change_grows (with_object c (first_field t c))
          (done_grows Normal (value.Ref c (s.births c))))).at j a f f' l s;
    }

writes_static_grow : {d J : ℕ} (t : Table) (c i : ℕ) (v : MVal)
    → Grows d J (writes_static t c i v) (writes_static t c i v)
writes_static_grow t c i v =
    named_grows (field_named t c i) _ _
    (λ m. happens_grows _ (change_grows _ (done_grows Normal nothing)))

writes_field_grow : {d J : ℕ} (t : Table) (c i : ℕ) (r v : MVal)
    → Grows d J (writes_field t c i r v) (writes_field t c i r v)
writes_field_grow t c i r v =
    named_grows (field_named t c i) _ _
    (λ m. happens_grows _ (change_grows _ (done_grows Normal nothing)))

module _ (t : Table) (d J K : ℕ) (deep : J ≤ K) (run run' : Calls)
    (h : (c i : ℕ) → Grows d J (run c i) (run' c i)) where
  calls_grow : (c i : ℕ) (vs : List MVal)
      → Grows d (suc J) (calls run c i vs) (calls run' c i vs)
  calls_grow c i vs = paid_down d J _ _ (enter_grows vs (h c i))

  mutual
    unfolding eval eval_all

    pub eval_grows : (e : TExp) → Grows d (suc J) (eval t run e) (eval t run' e)
    eval_grows (Int n m) = paid_grows _ _ (done_grows Normal (value.Int n))
    eval_grows (Boolean b m) = paid_grows _ _ (done_grows Normal (truth b))
    eval_grows (Null m) = paid_grows _ _ (done_grows Normal value.Null)
    eval_grows (This m) = paid_grows _ _ (read_grows (λ s. s.locals 0))
    eval_grows (New c m) = paid_grows _ _ (named_grows (made_named t c) _ _ (born_grows t c))
    eval_grows (Local x m) = paid_grows _ _ (read_grows (λ s. s.locals x))
    eval_grows (Static c f m) = paid_grows _ _ (read_grows (λ s. s.statics c f))
    eval_grows (Field e c f m) =
        node_grows _ _ (eval_grows e)
        (λ r. tested_grows (mark e).sure r (read_grows (λ s. s.fields c (object_number r) f)))
    eval_grows (Input c i m) = paid_grows _ _ (inputs_grow c i)
    eval_grows (Output c i e m) = node_grows _ _ (eval_grows e) (outputs_grow t c i)
    eval_grows (Call c i Absent es m) = paid_grows _ _ (all_grows es _ _ (calls_grow c i))
    eval_grows (Call c i (Present e) es m) =
        node_grows _ _ (eval_grows e)
        (λ r. all_grows es (λ vs. tested (mark e).sure r (calls run c i (r ∷ vs)))
        (λ vs. tested (mark e).sure r (calls run' c i (r ∷ vs)))
        (λ vs. tested_grows (mark e).sure r (calls_grow c i (r ∷ vs))))
    eval_grows (Neg e m) =
        node_grows _ _ (eval_grows e) (λ v. done_grows Normal (value.Int (negated (number_of v))))
    eval_grows (Not e m) = node_grows _ _ (eval_grows e) (λ v. done_grows Normal _)
    eval_grows (Binary op x y m) =
        node_grows _ _ (eval_grows x) (λ u. if_grows (decides op u) (done_grows Normal u)
        (then_grows _ _ (eval_grows y)
        (λ v. if_grows (throws op v) (done_grows (Thrown ARITHMETIC) nothing)
        (done_grows Normal (applied op u v)))))

    all_grows : (es : TExps) (next next' : List MVal → Task)
        → ((vs : List MVal) → Grows d (suc J) (next vs) (next' vs))
        → Grows d (suc J) (eval_all t run es next) (eval_all t run' es next')
    all_grows NoExps next next' g = g []
    all_grows (More e es) next next' g =
        then_grows _ _ (eval_grows e)
        (λ v. all_grows es (λ vs. next (v ∷ vs)) (λ vs. next' (v ∷ vs)) (λ vs. g (v ∷ vs)))

  mutual
    unfolding go go_else go_all go_catch

    pub go_grows : (s : TSta) → Grows d (suc J) (go t run (suc J) s) (go t run' (suc K) s)
    go_grows (Block ss at point) = paid_grows _ _ (go_all_grows ss)
    go_grows (If e s o at point) =
        node_grows _ _ (eval_grows e) (λ v. if_grows (is_true v) (go_grows s) (go_else_grows o))
    go_grows (While e s at point) =
        turns_grow d (suc J) _ _ _ _ (eval_grows e) (go_grows s) (suc J) (suc K) (omega arith)
        (omega arith)
    go_grows (Try s cs at point) =
        paid_grows _ _
        (record {
          at =
              λ j a f f' l. (go_grows s).at j a (caught (go_catch t run (suc J) cs) f)
              (caught (go_catch t run' (suc K) cs) f')
              (caught_meets _ _ (go_catch_grows cs) j a f f' l);
        })
    go_grows (Return Absent at point) = paid_grows _ _ (done_grows Returned nothing)
    go_grows (Return (Present e) at point) =
        node_grows _ _ (eval_grows e) (λ v. change_grows _ (done_grows Returned nothing))
    go_grows (Break at point) = paid_grows _ _ (done_grows Broken nothing)
    go_grows (Continue at point) = paid_grows _ _ (done_grows Continued nothing)
    go_grows (Throw c at point) = paid_grows _ _ (done_grows (Thrown c) nothing)
    go_grows (Open l at point) = paid_grows _ _ (change_grows _ (done_grows Normal nothing))
    go_grows (Close l at point) = paid_grows _ _ (change_grows _ (done_grows Normal nothing))
    go_grows (SetLocal x p e at point) =
        node_grows _ _ (eval_grows e) (λ v. change_grows _ (done_grows Normal nothing))
    go_grows (SetStatic c f e at point) = node_grows _ _ (eval_grows e) (writes_static_grow t c f)
    go_grows (SetField e c f a at point) =
        node_grows _ _ (eval_grows e)
        (λ r. then_grows _ _ (eval_grows a)
        (λ v. tested_grows (mark e).sure r (writes_field_grow t c f r v)))
    go_grows (Eval e at point) = node_grows _ _ (eval_grows e) (λ v. done_grows Normal nothing)
    go_grows (When l s o at point) =
        paid_grows _ _ (asked_grows (λ s. has s.locks l) (go_grows s) (go_else_grows o))

    go_else_grows : (o : MayTSta)
        → Grows d (suc J) (go_else t run (suc J) o) (go_else t run' (suc K) o)
    go_else_grows NoElse = done_grows Normal nothing
    go_else_grows (Otherwise s) = go_grows s

    go_all_grows : (ss : TStas) → Grows d (suc J) (go_all t run (suc J) ss)
        (go_all t run' (suc K) ss)
    go_all_grows End = done_grows Normal nothing
    go_all_grows (Then s ss) = then_grows _ _ (go_grows s) (λ v. go_all_grows ss)

    go_catch_grows : (cs : TCatches) (c : ℕ)
        → Grows d (suc J) (go_catch t run (suc J) cs c) (go_catch t run' (suc K) cs c)
    go_catch_grows NoCatch c = done_grows (Thrown c) nothing
    go_catch_grows (Catch d s cs) c = if_grows (d == c) (go_grows s) (go_catch_grows cs c)

  within_grows : (o : Option TSta)
      → Grows d (suc J) (within t run (suc J) o) (within t run' (suc K) o)
  within_grows None = done_grows Normal nothing
  within_grows (Some s) = go_grows s

pub method_grows : (d : ℕ) (t : Table) (bs : List Body) (J K : ℕ) → J ≤ K → (c i : ℕ)
    → Grows d J (method t bs J c i) (method t bs K c i)
unfolding method
method_grows d t bs zero K deep c i = none_grow d _ _ (λ f s n. refl)
method_grows d t bs (suc J) zero deep c i = absurd (omega arith)
method_grows d t bs (suc J) (suc K) deep c i =
    let one =
    within_grows t d J K (omega arith) (method t bs J) (method t bs K)
    (method_grows d t bs J K (omega arith)) (body_of bs c i) in
    record { at = λ j a f f' l s p q. one.at j a f f' l s p q }

pub deeper_runs_extend : DeeperRunsExtend
deeper_runs_extend t bs c i s m n j k deep long =
    ((method_grows (k - j) t bs m n deep c i).at m (omega arith) (final t) (final t)
    (λ e v s p q z. meets_itself m p q _) s j k (omega arith)).extends

pub source_runs_extend : (typed : Typed) → SourceRunsExtend typed
unfolding source
source_runs_extend typed inputs m n h =
    deeper_runs_extend typed.table (bodies typed.bodies) typed.table.main (main_of typed.table)
    (start typed.table inputs.channels) (suc m) (suc n) m n (omega arith) h
