-- Calls: the way into a method and home, in one run.
use Rattle.std.proofs.Common.{◌≡◌, ℕ, Bool, ◌&&◌, not, ◌⊎◌, inl, inr, ⊎_elim, Some, None, List}
use Rattle.std.proofs.Common.{refl, sym, ◌∙◌}
use Rattle.std.specs.Prelude.{IsTrue, slice_get}
use Rattle.par_bits.specs.Sets.{Set, IsWithin, union, minus}
use Rattle.par_program_laws.specs.Ways as ways
use Rattle.par_program_laws.specs.Ways.{Flows, Lands, MayFlow, MayLand, MayRaise}
use Rattle.par_program_laws.specs.Closed as closed
use Rattle.par_values.specs.Areas.{value_or_null}
use Rattle.par_run_laws.specs.Tasks.{leave, enter}
use Rattle.par_typed.specs.Members.{method_at}
use Rattle.par_alike.specs.Watched.{IsThere}
use Rattle.par_program_laws.specs.Declares.{Method}
use Rattle.par_run_laws.specs.Meaning.{Calls}
use Rattle.par_values.specs.declared.value.MVal.{MVal}
use Rattle.par_run_laws.specs.State.{State, entered, restored}
use Rattle.par_run_laws.specs.Tasks.{Normal, Broken, Continued, Returned, Thrown, Task}
use Rattle.par_run_laws.specs.Tasks.{nothing}
use Rattle.par_check_laws.proofs.par_pass_laws.Along.{and_l, and_r}
use Rattle.par_alike.proofs.LockSets.{or_cases, not_true}
use Rattle.std.proofs.lemmas.Bool.{or_left, or_right}
use Rattle.par_alike.proofs.States.{Watch, Agrees, Any, BodyFlowsTo, Calm, Exits, FlowsTo}
use Rattle.par_alike.proofs.States.{Frame, Gives, IsMade, Keeps, Moved, Opened, Same, Sees}
use Rattle.par_alike.proofs.States.{Way, calm_on, declared, each_exit, keeps_on, lattice}
use Rattle.par_alike.proofs.States.{moved_on, open_body, raised, thrown}
use Rattle.par_alike.proofs.Leaves.{Throws}
use Rattle.par_alike.proofs.OneRun.{Hush, Tail}
use Rattle.par_alike.proofs.TwoRuns.{Step}

module _ (on : Watch) where
  -- ---- calls
  -- the exits of a method's body
  pub record Ends (m : Method) (x : Exits on) : Type 0 where
    pub opens : (z : Way on) → x Normal ≡ Some z → IsWithin m.opens z.locks
    pub opens_returned : (z : Way on) → x Returned ≡ Some z → IsWithin m.opens z.locks
    pub broken : x Broken ≡ None
    pub continued : x Continued ≡ None
    pub throws : (c : ℕ) (z : Way on) → x (Thrown c) ≡ Some z
        → (p : ℕ) × Throws m.throws c p × (Sees on p → IsTrue z.context)

  -- a call at the way w
  pub record Calling (g : Frame) (w : Way on) (x : Exits on) (V : Bool) (m : Method) : Type 0 where
    pub expects : IsWithin m.expects w.locks
    pub closes : IsWithin m.closes g.own.closes
    pub effect : Sees on m.effect → IsTrue w.context
    pub around : Sees on m.effect → Sees on g.own.effect
    pub result : IsTrue V → Sees on m.result
    pub normal : BodyFlowsTo on
        (ways.opened (lattice on) m.opens (ways.shut (lattice on) m.closes w)) (x Normal)
    pub throws : (c p : ℕ) → Throws m.throws c p
        → FlowsTo on (ways.shut (lattice on) m.closes (raised on w ((lattice on).given p)))
        (x (Thrown c))

  -- what is known of a method's body
  pub record Quiet (m : Method) (g : Frame) (c : Task) : Type 0 where
    pub way : Way on
    pub entered : Flows (lattice on) (closed.first (lattice on) m) way
    pub exits : Exits on
    pub ends : Ends m exits
    pub hush : Hush on g way exits c

  -- and of two of its runs
  pub record Paired (m : Method) (g : Frame) (c c' : Task) : Type 0 where
    pub way : Way on
    pub entered : Flows (lattice on) (closed.first (lattice on) m) way
    pub exits : Exits on
    pub ends : Ends m exits
    pub step : Step on g way exits Any c c'

  -- the method closes none of these locks
  abbrev pub IsFree : Set → Method → Type 0
  IsFree held m = (l : ℕ) → IsTrue (held l) → IsTrue (m.closes l) → ⊥

  -- a call of a method whose write effect is not seen shows nothing
  abbrev pub Silent : Calls → Type 0
  Silent run =
      (c k : ℕ) → IsThere (method_at on.table c k)
      → (held : Set) (free : IsFree held ((declared on).method c k))
      → (Sees on ((declared on).method c k).effect → ⊥)
      → Quiet ((declared on).method c k)
      (record { own = (declared on).method c k; held = held; free = free }) (run c k)

  -- calls in two runs are in step
  abbrev pub InStep : Calls → Calls → Type 0
  InStep run run' =
      (c k : ℕ) → IsThere (method_at on.table c k)
      → (held : Set) (free : IsFree held ((declared on).method c k))
      → Paired ((declared on).method c k)
      (record { own = (declared on).method c k; held = held; free = free }) (run c k) (run' c k)

  -- arguments are of classes that have a name
  abbrev pub AreMade : List MVal → Type 0
  AreMade vs = (i : ℕ) → IsMade on (value_or_null (slice_get vs i))

  module _ (g : Frame) (w : Way on) (x : Exits on) (V : Bool) (m : Method) (q : Calling g w x V m)
    where
      -- locks that are to stay open while the method runs: those that it does not close
      abbrev pub callee_held : Set
      callee_held = union (minus w.locks m.closes) g.held

      -- it closes none of them
      pub callee_free : IsFree callee_held m
      callee_free l a b =
          ⊎_elim (λ c. not_true (m.closes l) (and_r (w.locks l) (not (m.closes l)) c) b)
          (λ c. g.free l c (q.closes l b)) (or_cases (w.locks l && not (m.closes l)) (g.held l) a)

      -- the frame of the method
      abbrev pub callee : Frame
      callee = record { own = m; held = callee_held; free = callee_free }

      -- what is known where the body is entered
      pub opened_in : (s : State) (vs : List MVal) → AreMade vs → Opened on g w s
          → Opened on callee (closed.first (lattice on) m) (entered vs s)
      opened_in s vs i p = record {
        known = λ l a. p.known l (q.expects l a);
        held =
            λ l a. ⊎_elim (λ b. p.known l (and_l (w.locks l) (not (m.closes l)) b))
            (λ b. p.held l b) (or_cases (w.locks l && not (m.closes l)) (g.held l) a);
        made = record {
          locals = i;
          result = tt;
          statics = p.made.statics;
          fields = p.made.fields;
        };
      }

      -- back in the caller
      pub home_opened : (z y : Way on) (s t : State)
          → ((l : ℕ) → IsTrue (y.locks l)
          → IsTrue (w.locks l && not (m.closes l)) ⊎ IsTrue (z.locks l)) → Opened on g w s
          → Opened on callee z t → Opened on g y (restored s.locals s.result t)
      home_opened z y s t h p k = record {
        known =
            λ l b. ⊎_elim (λ e. k.held l (or_left (w.locks l && not (m.closes l)) (g.held l) e))
            (λ e. k.known l e) (h l b);
        held = λ l b. k.held l (or_right (w.locks l && not (m.closes l)) (g.held l) b);
        made = record {
          locals = p.made.locals;
          result = p.made.result;
          statics = k.made.statics;
          fields = k.made.fields;
        };
      }

      -- the rest of the state is that of the body
      home_same : (s t : State) (vs : List MVal) → Same on (entered vs s) t
          → Same on s (restored s.locals s.result t)
      home_same s t vs k = record {
        statics = k.statics;
        fields = k.fields;
        births = k.births;
        inputs = k.inputs;
        locks = k.locks;
      }

      -- the frame is as it was
      home_moved : (y : Way on) (s t : State) → ((i : ℕ) → IsTrue (y.env i) → IsTrue (w.env i))
          → Moved on g w y s (restored s.locals s.result t)
      home_moved y s t h = record { locals = λ i p. (h i p, refl); result = λ p. refl }

      -- a call is a stretch of the caller
      home_calm : (begin z y : Way on) (s t : State) (vs : List MVal) → AreMade vs
          → Flows (lattice on) (closed.first (lattice on) m) begin
          → ((l : ℕ) → IsTrue (y.locks l)
          → IsTrue (w.locks l && not (m.closes l)) ⊎ IsTrue (z.locks l))
          → Calm on callee begin z (entered vs s) t
          → Calm on g w y s (restored s.locals s.result t)
      home_calm begin z y s t vs i e h k = record {
        outer = home_same s t vs k.outer;
        this = λ e. refl;
        opens =
            λ p. home_opened z y s t h p (k.opens (open_body on e.lands (opened_in s vs i p)));
      }

      -- the locks that are known behind a call
      pub home_locks : (z : Way on) → IsWithin m.opens z.locks → (l : ℕ)
          → IsTrue (q.normal.way.locks l)
          → IsTrue (w.locks l && not (m.closes l)) ⊎ IsTrue (z.locks l)
      home_locks z oz l b =
          ⊎_elim (λ e. inl e) (λ e. inr (oz l e))
          (or_cases (w.locks l && not (m.closes l)) (m.opens l) (q.normal.higher.locks l b))

      -- a call in one run
      pub tail_enter : (c : Task) (vs : List MVal) → AreMade vs
          → ((Sees on m.effect → ⊥) → Quiet m callee c) → Tail on g w x (enter c vs)
      tail_enter c vs made qu = record {
        at =
            λ w0 s t f n ys b op k go_on.
            let un : Sees on m.effect → ⊥ = ⊎_elim (λ u p. u (k.context (q.effect p)))
            (λ u p. u (q.around p)) b.unseen_part in
            let y = qu un in
            let at_w = k.calm.opens op in
            let inside = open_body on y.entered.lands (opened_in t vs made at_w) in
            let home = λ (z : Way on) (oz : IsWithin m.opens z.locks) (t1 : State) (n : ℕ)
            (e : Keeps on callee y.way z (entered vs t) t1). go_on.normal q.normal.way t1.result
            q.normal.there (e.calm.opens inside).made.result (restored t.locals t.result t1) n
            (λ u. moved_on on (k.moved u)
            (home_moved q.normal.way t t1 (λ i p. q.normal.higher.env i p)))
            (calm_on on k.calm
            (home_calm y.way z q.normal.way t t1 vs made y.entered (home_locks z oz) e.calm)) in
            y.hush.at (entered vs t) (leave t.locals t.result f) n ys inside
            (each_exit
            (λ i. (z : Way on) (u : MVal) → y.exits i ≡ Some z → Gives on i u
            → (t1 : State) (n : ℕ) → Keeps on callee y.way z (entered vs t) t1
            → Agrees on (leave t.locals t.result f i u t1 n).events ys)
            (λ z u e gi t1 n e'. home z (y.ends.opens z e) t1 n e')
            (λ z u e gi t1 n e'. let bad : None ≡ Some z = sym y.ends.broken ∙ e in absurd cc)
            (λ z u e gi t1 n e'. let bad : None ≡ Some z = sym y.ends.continued ∙ e in absurd cc)
            (λ z u e gi t1 n e'. home z (y.ends.opens_returned z e) t1 n e')
            (λ j z u e gi t1 n e'.
            let p = y.ends.throws j z e in
            let to = q.throws j p.0 p.1 in
            go_on.other (Thrown j) to.way nothing (thrown j) to.there
            (restored t.locals t.result t1) n
            (keeps_on on k
            (record {
              context = λ v. and_l w.context ((lattice on).given p.0) (to.higher.context v);
              moved = λ u. home_moved to.way t t1 (λ i p. to.higher.lands.env i p);
              calm =
                  home_calm y.way z to.way t t1 vs made y.entered
                  (λ l b. inl (to.higher.lands.locks l b)) e'.calm;
            }))));
      }
