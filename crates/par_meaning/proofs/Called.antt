-- Calls, from the first of their values to their bodies.
use Rattle.std.proofs.Common.{◌≡◌, ℕ, Bool, suc, ◌+◌, ◌-◌, ◌<◌, List, [], ◌∷◌, ◌++◌, Option, Some}
use Rattle.std.proofs.Common.{None, length, take, drop, refl, ap, sym, ◌∙◌, subst, append-nil}
use Rattle.std.proofs.Common.{append_assoc, add-one, arith, length-append}
use Rattle.std.proofs.Math.Path.{fun_ext}
use Rattle.std.proofs.lemmas.List.{reverse-append, take_at, drop_at}
use Rattle.std.specs.Borrow.{Bor}
use Rattle.std.specs.declared.boxed.Box.{Box}
use Rattle.std.specs.declared.alloc.Global.{Global}
use Rattle.par_typed.specs.declared.expr.TExpr.{TExpr}
use Rattle.par_typed.specs.declared.stmt.TStmt.{TStmt}
use Rattle.par_typed.specs.Plain.{TExps, mark}
use Rattle.par_typed.specs.Shown.{shown, all_shown, receiver, mark_of, does}
use Rattle.par_typed.proofs.Shown.{shown_mark}
use Rattle.par_values.specs.declared.value.MVal.{MVal}
use Rattle.par_values.specs.declared.value.MVal.TheVariants.{Null}
use Rattle.par_run_laws.specs.Meaning.{eval_all, calls, within}
use Rattle.par_run_laws.specs.Names.{body_of}
use Rattle.par_run_laws.specs.State.{State, entered, restored}
use Rattle.par_run_laws.specs.Tasks.{Normal, Rests, Task, nothing, follow, tested, leave}
use Rattle.par_run_laws.proofs.Deep.{method_deep}
use Rattle.par_meaning.specs.declared.machine.Machine.{Machine}
use Rattle.par_meaning.specs.declared.work.Completion.{Completion}
use Rattle.par_meaning.specs.declared.work.Completion.TheVariants as completion
use Rattle.par_meaning.specs.declared.work.Exit.{Exit}
use Rattle.par_meaning.specs.declared.work.Exit.TheVariants.{Broken, Continued, Returned, Thrown}
use Rattle.par_meaning.specs.declared.work.Next.TheVariants as next
use Rattle.par_meaning.specs.declared.work.Target.{Target}
use Rattle.par_meaning.specs.declared.work.Then.{Then}
use Rattle.par_meaning.specs.declared.work.Then.TheVariants.{Waits, Ends}
use Rattle.par_meaning.specs.declared.work.Waiting.TheVariants as waiting
use Rattle.par_source_state.specs.Frame.{Frame, held, left_by}
use Rattle.par_source_state.specs.Held.{Held}
use Rattle.par_source_state.specs.Stored.{holds}
use Rattle.par_meaning.specs.Work.{Setting, Follows, waits, exit_of, completes, evaluates}
use Rattle.par_meaning.specs.Work.{evaluates_all, called, call_parts, last_values, run_calls}
use Rattle.par_meaning.specs.Onward.{state, behind, goes_on, onward}

abbrev with_more : Setting → Target → List MVal → List MVal → Task
with_more p target values more = called p target (values ++ more)

none_left : (args : List TExpr) → length args ≡ 0 → args ≡ []
none_left [] e = refl
none_left (x ∷ xs) e = absurd (omega arith)

module _ (p : Setting) (target : Target) (count : ℕ) (below vs : List MVal) (rest : Follows)
    (s : State) (n : ℕ) where
  -- a further argument
  pub further : (args : List TExpr) (first : Bor TExpr) (others : Bor (List TExpr)) (on : Then)
      → args ≡ first.now ∷ others.now → on
      ≡ Waits (waiting.Argument target count others) (next.Expr first)
      → goes_on p rest on below vs s n
      ≡ evaluates_all p (all_shown args) (with_more p target (last_values count vs))
      (rest below (drop count vs)) s n
  unfolding eval_all
  further args first others on parts on_is =
      ap (λ on. goes_on p rest on below vs s n) on_is
      ∙ ap (λ es. evaluates_all p (all_shown es) (with_more p target (last_values count vs))
      (rest below (drop count vs)) s n) (sym parts)

  -- no argument is left
  pub no_more : (args : List TExpr) → length args ≡ 0
      → called p target (last_values count vs) (rest below (drop count vs)) s n
      ≡ evaluates_all p (all_shown args) (with_more p target (last_values count vs))
      (rest below (drop count vs)) s n
  unfolding eval_all
  no_more args none =
      ap (λ all. called p target all (rest below (drop count vs)) s n)
      (sym (append-nil (last_values count vs)))
      ∙ ap (λ es. evaluates_all p (all_shown es) (with_more p target (last_values count vs))
      (rest below (drop count vs)) s n) (sym (none_left args none))

  last_more : (v : MVal) → last_values (suc count) (v ∷ vs) ≡ last_values count vs ++ v ∷ []
  last_more v = reverse-append (v ∷ []) (take count vs)

  -- with one value more
  pub with_value : (k : ℕ) (values : List MVal) (v : MVal) (es : TExps) → k ≡ count + 1 → values
      ≡ v ∷ vs
      → evaluates_all p es (λ more. called p target (last_values k values ++ more))
      (rest below (drop k values)) s n
      ≡ evaluates_all p es (λ more. called p target (last_values count vs ++ v ∷ more))
      (rest below (drop count vs)) s n
  with_value k values v es counted pushed =
      ap (λ values. evaluates_all p es (λ more. called p target (last_values k values ++ more))
      (rest below (drop k values)) s n) pushed
      ∙ ap (λ k. evaluates_all p es (λ more. called p target (last_values k (v ∷ vs) ++ more))
      (rest below (drop k (v ∷ vs))) s n) (counted ∙ add-one count)
      ∙ ap (λ next. evaluates_all p es next (rest below (drop count vs)) s n)
      (fun_ext (λ more. ap (called p target)
      (ap (λ xs. xs ++ more) (last_more v) ∙ append_assoc (last_values count vs) (v ∷ []) more)))

-- a call of an instance method, whose receiver is next
pub of_receiver : (p : Setting) (rest : Follows) (c m : ℕ) (vs below : List MVal) (s : State)
    (n : ℕ) (o : Option (Box TExpr Global)) (b : Box TExpr Global) (es : List TExpr)
    (x y : Bor TExpr) (args : Bor (List TExpr)) (on : Then) → o ≡ Some b → x.now ≡ b.value → y.now
    ≡ b.value → args.now ≡ es
    → on ≡ Waits (waiting.Argument (record { class = c; method = m; sure = x.now.sure }) 0 args)
    (next.Expr y)
    → goes_on p rest on below vs s n ≡ call_parts p c m (receiver o) (all_shown es) (rest below vs)
    s n
of_receiver p rest c m vs below s n o b es x y args on is x_is y_is args_is on_is =
    let sure : x.now.sure ≡ (mark (shown b.value)).sure = ap (λ (e : TExpr). e.sure) x_is
    ∙ ap (λ m. m.sure) (sym (shown_mark b.value.kind (mark_of b.value))) in
    ap (λ on. goes_on p rest on below vs s n) on_is
    ∙ ap (λ (e : TExpr). evaluates p (shown e)
    (waits p (waiting.Argument (record { class = c; method = m; sure = x.now.sure }) 0 args) rest
    below vs) s n) y_is
    ∙ ap (λ (es : List TExpr). evaluates p (shown b.value)
    (follow (λ r. evaluates_all p (all_shown es)
    (λ more. tested x.now.sure r (calls (run_calls p) c m (r ∷ more)))) (rest below vs)) s n)
    args_is
    ∙ ap (λ (k : Bool). evaluates p (shown b.value)
    (follow (λ r. evaluates_all p (all_shown es)
    (λ more. tested k r (calls (run_calls p) c m (r ∷ more)))) (rest below vs)) s n) sure
    ∙ ap (λ (o : Option (Box TExpr Global)). call_parts p c m (receiver o) (all_shown es)
    (rest below vs) s n) (sym is)

-- a call of a static method
pub of_none : (p : Setting) (c m : ℕ) (rest : Rests) (s : State) (n : ℕ)
    (o : Option (Box TExpr Global)) (es : List TExpr) (args : Bor (List TExpr))
    → o ≡ None → args.now ≡ es
    → evaluates_all p (all_shown args.now) (λ more. calls (run_calls p) c m more) rest s n
    ≡ call_parts p c m (receiver o) (all_shown es) rest s n
of_none p c m rest s n o es args is args_is =
    ap (λ (es : List TExpr). evaluates_all p (all_shown es) (λ more. calls (run_calls p) c m more)
    rest s n) args_is
    ∙ ap (λ (o : Option (Box TExpr Global)). call_parts p c m (receiver o) (all_shown es) rest s n)
    (sym is)

-- the caller's locals behind those of others
left_again : (below own : List MVal) (size : ℕ) → size ≡ length own → left_by size (below ++ own)
    ≡ record { below = below; own = own }
left_again below own size is =
    let k = length (below ++ own) - size in
    let seam : length below ≡ k = omega (arith, length-append below own, is) in
    ap (λ b. record { below = b; own = drop k (below ++ own) }) (take_at below own k seam)
    ∙ ap (λ o. record { below = below; own = o }) (drop_at below own k seam)

module _ (p : Setting) (rest : Follows) (c m count : ℕ) (below own vs vs' : List MVal)
    (result : MVal) (h : Held) (n : ℕ) (deep : n < p.depth) (cut : vs' ≡ drop count vs) where
  -- a call of a method without a body
  pub bodyless : body_of p.bodies c m ≡ None
      → rest below vs' Normal Null (state p (held own) result h) n
      ≡ calls (run_calls p) c m (last_values count vs) (rest below (drop count vs))
      (state p (held own) result h) (suc n)
  bodyless none =
      let s = state p (held own) result h in
      let back = leave s.locals s.result (rest below (drop count vs)) in
      ap (λ vs. rest below vs Normal Null s n) cut
      ∙ sym (method_deep p.table p.bodies p.depth c m back (entered (last_values count vs) s) n deep
      ∙ ap (λ o. within p.table (run_calls p) (suc p.depth) o back
      (entered (last_values count vs) s) n) none)

  -- a body is entered, and the caller waits
  pub entered_body : (frames : Frame) (values : List MVal) (size : ℕ) (body : Bor TStmt)
      → Some (does body.now) ≡ body_of p.bodies c m → values ≡ last_values count vs → frames
      ≡ record { below = below ++ own; own = values } → size ≡ length own
      → goes_on p rest (Waits (waiting.Leave size result) (next.Stmt body)) frames.below vs'
      (state p (held frames.own) Null h) n
      ≡ calls (run_calls p) c m (last_values count vs) (rest below (drop count vs))
      (state p (held own) result h) (suc n)
  entered_body frames values size body there values_is frames_is size_is =
      let s = state p (held own) result h in
      let back : List MVal → Rests = λ vs. leave (held own) result (rest below vs) in
      ap (λ (f : Frame). goes_on p rest (Waits (waiting.Leave size result) (next.Stmt body)) f.below
      vs' (state p (held f.own) Null h) n) frames_is
      ∙ ap (λ (caller : Frame). within p.table (run_calls p) (suc p.depth) (Some (does body.now))
      (leave (held caller.own) result (rest caller.below vs')) (state p (held values) Null h) n)
      (left_again below own size size_is)
      ∙ ap (λ vs. within p.table (run_calls p) (suc p.depth) (Some (does body.now)) (back vs)
      (state p (held values) Null h) n) cut
      ∙ ap (λ values. within p.table (run_calls p) (suc p.depth) (Some (does body.now))
      (back (drop count vs)) (state p (held values) Null h) n) values_is
      ∙ sym (method_deep p.table p.bodies p.depth c m (back (drop count vs))
      (entered (last_values count vs) s) n deep
      ∙ ap (λ o. within p.table (run_calls p) (suc p.depth) o (back (drop count vs))
      (entered (last_values count vs) s) n) (sym there))

-- a method is left
pub left_behind : (p : Setting) (rest : Follows) (old new : Machine) (size : ℕ) (v : MVal)
    (on : Then) (n : ℕ) (e : Completion)
    → new.frames ≡ left_by size old.frames.below → on ≡ Ends e
    → onward p rest new on n
    ≡ behind new.events (let caller = left_by size old.frames.below in completes
    (rest caller.below new.values) e (state p (held caller.own) new.result (holds new.store)) n)
left_behind p rest old new size v on n e frames_is on_is =
    ap (λ on. onward p rest new on n) on_is
    ∙ ap (λ (f : Frame). behind new.events
    (completes (rest f.below new.values) e (state p (held f.own) new.result (holds new.store)) n))
    frames_is

-- by an exception, which goes on behind the call
pub thrown_out : (e : Exit) (c : ℕ) (rest : Rests) (locals : ℕ → MVal) (result : MVal) (s : State)
    (n : ℕ) → e ≡ Thrown c
    → completes rest (completion.Abrupt e) (restored locals result s) n
    ≡ leave locals result rest (exit_of e) nothing s n
thrown_out e c rest locals result s n is =
    subst (λ e. completes rest (completion.Abrupt e) (restored locals result s) n
    ≡ leave locals result rest (exit_of e) nothing s n) (sym is) refl

-- by any other exit, as behind its last statement
pub let_out : (e : Exit) (rest : Rests) (locals : ℕ → MVal) (result : MVal) (s : State) (n : ℕ)
    → ((c : ℕ) → e ≡ Thrown c → ⊥)
    → leave locals result rest Normal nothing s n ≡ leave locals result rest (exit_of e) nothing s n
let_out Broken rest locals result s n not = refl
let_out Continued rest locals result s n not = refl
let_out Returned rest locals result s n not = refl
let_out (Thrown c) rest locals result s n not = absurd (not c refl)
