-- What entering an expression leaves to do.
use Rattle.std.proofs.Common.{◌≡◌, ℕ, ℤ, Bool, suc, List, Option, Some, None, Result, Ok, Err, refl}
use Rattle.std.proofs.Common.{ap, sym, ◌∙◌}
use Rattle.std.specs.Prelude.{IfOk, unwrap_or}
use Rattle.std.specs.Borrow.{Bor}
use Rattle.std.specs.declared.boxed.Box.{Box}
use Rattle.std.specs.declared.alloc.Global.{Global}
use Rattle.par_typed.specs.par_lexer.declared.operator.BinOp.{BinOp}
use Rattle.par_typed.specs.declared.expr.TExpr.{TExpr}
use Rattle.par_typed.specs.declared.expr.TExprKind.TheVariants as expr
use Rattle.par_typed.specs.Plain as plain
use Rattle.par_typed.specs.Plain.{TExp, mark}
use Rattle.par_typed.specs.Shown.{kind_at, mark_of, shown, receiver, all_shown}
use Rattle.par_typed.proofs.Shown.{shown_int, shown_bool, shown_null, shown_this, shown_new}
use Rattle.par_typed.proofs.Shown.{shown_local, shown_static, shown_field, shown_input}
use Rattle.par_typed.proofs.Shown.{shown_output, shown_call, shown_neg, shown_not, shown_binary}
use Rattle.par_typed.proofs.Shown.{shown_mark}
use Rattle.par_values.specs.declared.value.MVal.{MVal}
use Rattle.par_values.specs.declared.value.MVal.TheVariants as value
use Rattle.par_run_laws.specs.Names.{made_named, first_field}
use Rattle.par_run_laws.specs.Meaning.{eval, eval_all, inputs, born}
use Rattle.par_run_laws.specs.Tasks.{Rests, Task, named, follow}
use Rattle.par_run_laws.specs.Values.{truth}
use Rattle.par_meaning.specs.declared.machine.Machine.{Machine}
use Rattle.par_source_state.specs.declared.program.Program.{Program}
use Rattle.par_meaning.specs.declared.work.Completion.TheVariants.{Normal}
use Rattle.par_meaning.specs.declared.work.Next.TheVariants as next
use Rattle.par_meaning.specs.declared.work.Then.{Then}
use Rattle.par_meaning.specs.declared.work.Then.TheVariants.{Waits, Ends}
use Rattle.par_meaning.specs.declared.work.Waiting.{Waiting}
use Rattle.par_meaning.specs.declared.work.Waiting.TheVariants as waiting
use Rattle.par_source_state.specs.Frame.{held}
use Rattle.par_source_state.specs.Stored.{holds}
use Rattle.par_meaning.specs.Work.{Setting, Follows, waits, evaluates, call_parts, reads_field}
use Rattle.par_meaning.specs.Onward.{setting, state_of, behind, goes_on, Does, Moves, Pays}

pub if_ok : {A E : Type 0} (r : Result A E) (P Q : A → Type 0) → IfOk r P → ((a : A) → P a → Q a)
    → IfOk r Q
if_ok (Ok a) P Q p more = more a p
if_ok (Err e) P Q p more = tt

module _ (program : Program) (old : Machine) (e : TExpr) where
  -- an expression costs a step
  abbrev pub Costs : Machine → Then → Type 0
  Costs new on = Pays program (λ p. evaluates p (shown e)) old new on

  -- an expression is as its kind is shown
  as_shown : (p : Setting) (rest : Follows) (n : ℕ) (k : _) (x : TExp) → e.kind ≡ k
      → kind_at k (mark_of e) ≡ x
      → evaluates p x (rest old.frames.below old.values) (state_of p old) (suc n)
      ≡ evaluates p (shown e) (rest old.frames.below old.values) (state_of p old) (suc n)
  as_shown p rest n k x is shows =
      ap (λ y. evaluates p y (rest old.frames.below old.values) (state_of p old) (suc n))
      (sym (ap (λ k. kind_at k (mark_of e)) is ∙ shows))

  -- with a value
  at_once : (k : _) (x : TExp) (on : Then) (v : MVal) → e.kind ≡ k → kind_at k (mark_of e) ≡ x → on
      ≡ Ends (Normal v)
      → ((d : ℕ) (rest : Follows) (n : ℕ) → let p = setting program d in
      goes_on p rest (Ends (Normal v)) old.frames.below old.values (state_of p old) n
      ≡ evaluates p x (rest old.frames.below old.values) (state_of p old) (suc n)) → Costs old on
  at_once k x on v is shows on_is same = λ d rest n few.
      let p = setting program d in
      ap (behind old.events)
      (ap (λ on. goes_on p rest on old.frames.below old.values (state_of p old) n) on_is
      ∙ same d rest n ∙ as_shown p rest n k x is shows)

  pub costs_int : (i : ℤ) (on : Then) (v : MVal) → e.kind ≡ expr.Int i → v ≡ value.Int i → on
      ≡ Ends (Normal v) → Costs old on
  unfolding eval
  costs_int i on v is holds on_is =
      at_once (expr.Int i) (plain.Int i (mark_of e)) on v is (shown_int i (mark_of e)) on_is
      (λ d rest n. let p = setting program d in ap
      (λ v. goes_on p rest (Ends (Normal v)) old.frames.below old.values (state_of p old) n) holds)

  pub costs_bool : (b : Bool) (on : Then) (v : MVal) → e.kind ≡ expr.Bool b → v ≡ truth b → on
      ≡ Ends (Normal v) → Costs old on
  unfolding eval
  costs_bool b on v is holds on_is =
      at_once (expr.Bool b) (plain.Boolean b (mark_of e)) on v is (shown_bool b (mark_of e)) on_is
      (λ d rest n. let p = setting program d in ap
      (λ v. goes_on p rest (Ends (Normal v)) old.frames.below old.values (state_of p old) n) holds)

  pub costs_null : (on : Then) → e.kind ≡ expr.Null → on ≡ Ends (Normal value.Null) → Costs old on
  unfolding eval
  costs_null on is on_is = at_once expr.Null (plain.Null (mark_of e)) on value.Null is
      (shown_null (mark_of e)) on_is (λ d rest n. refl)

  pub costs_this : (on : Then) (v : MVal) → e.kind ≡ expr.This → v ≡ held old.frames.own 0 → on
      ≡ Ends (Normal v) → Costs old on
  unfolding eval
  costs_this on v is holds on_is =
      at_once expr.This (plain.This (mark_of e)) on v is (shown_this (mark_of e)) on_is
      (λ d rest n. let p = setting program d in ap
      (λ v. goes_on p rest (Ends (Normal v)) old.frames.below old.values (state_of p old) n) holds)

  pub costs_local : (x : ℕ) (on : Then) (v : MVal) → e.kind ≡ expr.Local x → v
      ≡ held old.frames.own x → on ≡ Ends (Normal v) → Costs old on
  unfolding eval
  costs_local x on v is holds on_is =
      at_once (expr.Local x) (plain.Local x (mark_of e)) on v is (shown_local x (mark_of e)) on_is
      (λ d rest n. let p = setting program d in ap
      (λ v. goes_on p rest (Ends (Normal v)) old.frames.below old.values (state_of p old) n) holds)

  pub costs_static : (c f : ℕ) (on : Then) (v : MVal) → e.kind ≡ expr.Static c f
      → v ≡ unwrap_or ((holds old.store).statics c f) (first_field program.typed.now.table c f) → on
      ≡ Ends (Normal v) → Costs old on
  unfolding eval
  costs_static c f on v is holds on_is =
      at_once (expr.Static c f) (plain.Static c f (mark_of e)) on v is
      (shown_static c f (mark_of e)) on_is
      (λ d rest n. let p = setting program d in ap
      (λ v. goes_on p rest (Ends (Normal v)) old.frames.below old.values (state_of p old) n) holds)

  -- with a part, which something waits for
  with_part : (w : Waiting) (k : _) (x : TExp) (on : Then) (of : Bor TExpr) (part : TExpr) → e.kind
      ≡ k → kind_at k (mark_of e) ≡ x
      → of.now ≡ part → on ≡ Waits w (next.Expr of)
      → ((p : Setting) (rest : Follows) (n : ℕ)
      → evaluates p (shown part) (waits p w rest old.frames.below old.values) (state_of p old) n
      ≡ evaluates p x (rest old.frames.below old.values) (state_of p old) (suc n)) → Costs old on
  with_part w k x on of part is shows of_is on_is same = λ d rest n few.
      let p = setting program d in
      ap (behind old.events)
      (ap (λ on. goes_on p rest on old.frames.below old.values (state_of p old) n) on_is
      ∙ ap (λ (o : TExpr). evaluates p (shown o) (waits p w rest old.frames.below old.values)
      (state_of p old) n) of_is
      ∙ same p rest n ∙ as_shown p rest n k x is shows)

  pub costs_neg : (b : Box TExpr Global) (of : Bor TExpr) (on : Then) → e.kind ≡ expr.Neg b → of.now
      ≡ b.value → on ≡ Waits waiting.Neg (next.Expr of) → Costs old on
  unfolding eval
  costs_neg b of on is of_is on_is =
      with_part waiting.Neg (expr.Neg b) (plain.Neg (shown b.value) (mark_of e)) on of b.value is
      (shown_neg b (mark_of e)) of_is on_is (λ p rest n. refl)

  pub costs_not : (b : Box TExpr Global) (of : Bor TExpr) (on : Then) → e.kind ≡ expr.Not b → of.now
      ≡ b.value → on ≡ Waits waiting.Not (next.Expr of) → Costs old on
  unfolding eval
  costs_not b of on is of_is on_is =
      with_part waiting.Not (expr.Not b) (plain.Not (shown b.value) (mark_of e)) on of b.value is
      (shown_not b (mark_of e)) of_is on_is (λ p rest n. refl)

  pub costs_output : (c k : ℕ) (b : Box TExpr Global) (of : Bor TExpr) (on : Then) → e.kind
      ≡ expr.Output c k b → of.now ≡ b.value
      → on ≡ Waits (waiting.Output c k) (next.Expr of) → Costs old on
  unfolding eval
  costs_output c k b of on is of_is on_is =
      with_part (waiting.Output c k) (expr.Output c k b)
      (plain.Output c k (shown b.value) (mark_of e)) on of b.value is
      (shown_output c k b (mark_of e)) of_is on_is
      (λ p rest n. refl)

  pub costs_field : (c f : ℕ) (b : Box TExpr Global) (of other : Bor TExpr) (on : Then) → e.kind
      ≡ expr.Field b c f → of.now ≡ b.value → other.now ≡ b.value
      → on ≡ Waits (waiting.Field other.now.sure c f) (next.Expr of) → Costs old on
  unfolding eval
  costs_field c f b of other on is of_is other_is on_is =
      let sure : other.now.sure ≡ (mark (shown b.value)).sure =
      ap (λ (o : TExpr). o.sure) other_is
      ∙ ap (λ m. m.sure) (sym (shown_mark b.value.kind (mark_of b.value))) in
      with_part (waiting.Field other.now.sure c f) (expr.Field b c f)
      (plain.Field (shown b.value) c f (mark_of e)) on of b.value is (shown_field b c f (mark_of e))
      of_is on_is
      (λ p rest n. ap (λ (k : Bool). evaluates p (shown b.value)
      (follow (reads_field k c f) (rest old.frames.below old.values)) (state_of p old) n) sure)

  pub costs_binary : (op : BinOp) (a b : Box TExpr Global) (x y : Bor TExpr) (on : Then) → e.kind
      ≡ expr.Binary op a b → x.now ≡ a.value → y.now ≡ b.value
      → on ≡ Waits (waiting.Decide op y) (next.Expr x) → Costs old on
  unfolding eval
  costs_binary op a b x y on is x_is y_is on_is =
      with_part (waiting.Decide op y) (expr.Binary op a b)
      (plain.Binary op (shown a.value) (shown b.value) (mark_of e)) on x a.value is
      (shown_binary op a b (mark_of e)) x_is on_is
      (λ p rest n. ap (λ (z : TExpr). evaluates p (shown a.value)
      (waits p (waiting.Decide op (record y { now = z })) rest old.frames.below old.values)
      (state_of p old) n) y_is)

  -- with a task
  with_task : (new : Machine) (task : Setting → Task) (k : _) (x : TExp) (on : Then) → e.kind ≡ k
      → kind_at k (mark_of e) ≡ x
      → Does program task old new on
      → ((p : Setting) (rest : Rests) (n : ℕ) → task p rest (state_of p old) n
      ≡ evaluates p x rest (state_of p old) (suc n)) → Costs new on
  with_task new task k x on is shows does same = λ d rest n few.
      let p = setting program d in
      does d rest n ∙ ap (behind old.events)
      (same p (rest old.frames.below old.values) n ∙ as_shown p rest n k x is shows)

  pub costs_new : (new : Machine) (c : ℕ) (on : Then) → e.kind ≡ expr.New c
      → Does program (λ p. named (made_named p.table c) (born p.table c)) old new on → Costs new on
  unfolding eval
  costs_new new c on is does =
      with_task new (λ p. named (made_named p.table c) (born p.table c)) (expr.New c)
      (plain.New c (mark_of e)) on is (shown_new c (mark_of e)) does (λ p rest n. refl)

  pub costs_input : (new : Machine) (c k : ℕ) (on : Then) → e.kind ≡ expr.Input c k
      → Does program (λ p. inputs c k) old new on → Costs new on
  unfolding eval
  costs_input new c k on is does =
      with_task new (λ p. inputs c k) (expr.Input c k) (plain.Input c k (mark_of e)) on is
      (shown_input c k (mark_of e)) does (λ p rest n. refl)

  pub costs_call : (new : Machine) (c m : ℕ) (o : Option (Box TExpr Global)) (es : List TExpr)
      (on : Then) → e.kind ≡ expr.Call c m o es
      → Moves (λ p. call_parts p c m (receiver o) (all_shown es)) old new on → Costs new on
  unfolding eval eval_all
  costs_call new c m o es on is moves =
      with_task new (λ p. call_parts p c m (receiver o) (all_shown es)) (expr.Call c m o es)
      (plain.Call c m (receiver o) (all_shown es) (mark_of e)) on is
      (shown_call c m o es (mark_of e)) (λ d. moves (setting program d)) (parts o)
    where
      parts : (o : Option (Box TExpr Global)) (p : Setting) (rest : Rests) (n : ℕ)
          → call_parts p c m (receiver o) (all_shown es) rest (state_of p old) n
          ≡ evaluates p (plain.Call c m (receiver o) (all_shown es) (mark_of e)) rest
          (state_of p old) (suc n)
      parts None p rest n = refl
      parts (Some b) p rest n = refl
