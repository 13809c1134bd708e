-- One run where the observer is shown nothing.
use Rattle.std.proofs.Common.{◌≡◌, ℕ, zero, suc, Bool, true, false, Option, Some, List, ◌∙◌}
use Rattle.std.proofs.Common.{if◌then◌else◌}
use Rattle.std.proofs.lemmas.Bool.{false_from_ne_true}
use Rattle.par_program_laws.specs.Ways.{Flows}
use Rattle.par_values.specs.declared.run.Event.{Event}
use Rattle.par_values.specs.declared.value.MVal.{MVal}
use Rattle.par_values.specs.Areas.{next}
use Rattle.par_run_laws.specs.par_secrecy.Runs.{Witnessed}
use Rattle.par_run_laws.specs.par_secrecy.Shown.{sees}
use Rattle.par_run_laws.specs.State.{State}
use Rattle.par_run_laws.specs.Tasks.{Exit, Normal, Broken, Continued, Returned, Thrown}
use Rattle.par_run_laws.specs.Tasks.{Rests}
use Rattle.par_run_laws.specs.Tasks.{Task}
use Rattle.par_run_laws.specs.Tasks.{done, paid, change, happens, asked, follow, and_then}
use Rattle.par_alike.specs.Subject.{event_policy}
use Rattle.par_alike.proofs.Lists.{agree_skip}
use Rattle.par_alike.proofs.States.{Watch, Agrees, Blocked, BodyFlowsTo, Calm, Exits}
use Rattle.par_alike.proofs.States.{shown_as}
use Rattle.par_alike.proofs.States.{Explained, FlowsTo, Frame, Gives, HasPolicy, IsMade}
use Rattle.par_alike.proofs.States.{Keeps}
use Rattle.par_alike.proofs.States.{Leaves, Merges, Moved, Opened, Other, Restores, Unseen}
use Rattle.par_alike.proofs.States.{Way, Writes, blind, blocked_on, broken, calm_body}
use Rattle.par_alike.proofs.States.{calm_on}
use Rattle.par_alike.proofs.States.{continued, each_exit, exit_cases, flows_here}
use Rattle.par_alike.proofs.States.{gives_other}
use Rattle.par_alike.proofs.States.{keeps_higher, keeps_on, lattice, moved_body, moved_on}
use Rattle.par_alike.proofs.States.{returned, thrown}

module _ (on : Watch) where
  -- ---- one run, where nothing is shown
  -- one run from the way w shows nothing up to an exit of x
  pub record Hush (g : Frame) (w : Way on) (x : Exits on) (c : Task) : Type 0 where
    pub at : (s : State) (f : Rests) (n : ℕ) (ys : List Witnessed) → Opened on g w s
        → ((k : Exit) (z : Way on) (v : MVal) → x k ≡ Some z → Gives on k v → (t : State) (n : ℕ)
        → Keeps on g w z s t → Agrees on (f k v t n).events ys) → Agrees on (c f s n).events ys

  -- what follows the exits of a form that is entered at w; the context at its normal exit is the
  -- form's affair
  pub record Goes (g : Frame) (w : Way on) (s : State) (x : Exits on) (f : Rests)
      (ys : List Witnessed) : Type 0 where
    pub normal : (z : Way on) (v : MVal) → x Normal ≡ Some z → IsMade on v → (t : State) (n : ℕ)
        → (Unseen w.context → Moved on g w z s t) → Calm on g w z s t
        → Agrees on (f Normal v t n).events ys
    pub other : (k : Exit) (z : Way on) (v : MVal) → Other k → x k ≡ Some z → (t : State) (n : ℕ)
        → Keeps on g w z s t → Agrees on (f k v t n).events ys

  -- a form that is entered at any w with an unseen part shows nothing from its spot z on
  pub record Tail (g : Frame) (z : Way on) (x : Exits on) (c : Task) : Type 0 where
    pub at : (w : Way on) (s t : State) (f : Rests) (n : ℕ) (ys : List Witnessed) → Blocked on g w
        → Opened on g w s → Keeps on g w z s t → Goes g w s x f ys → Agrees on (c f t n).events ys

  -- a form is silent where it is entered with an unseen part
  pub hush_node : {g : Frame} {w : Way on} {x : Exits on} {c : Task} → Restores on w x
      → Blocked on g w → Tail g w x c → Hush g w x c
  hush_node {w} e b q = record {
    at =
        λ s f n ys op h. q.at w s s f n ys b op (keeps_higher on (flows_here on))
        (record {
          normal =
              λ z v p i t n m c. h Normal z v p i t n
              (record { context = e.entry z p; moved = m; calm = c });
          other = λ k z v j p t n r. h k z v p (gives_other on k v j) t n r;
        });
  }

  -- a run that is paid for and one that is at its budget
  pub paid_left : (c : Task) (f : Rests) (s : State) (n : ℕ) (ys : List Witnessed)
      → ((n : ℕ) → Agrees on (c f s n).events ys) → Agrees on (paid c f s n).events ys
  paid_left c f s zero ys h = tt
  paid_left c f s (suc n) ys h = h n

  -- a step is paid for
  pub tail_paid : {g : Frame} {z : Way on} {x : Exits on} (c : Task) → Tail g z x c
      → Tail g z x (paid c)
  tail_paid c q = record {
    at = λ w s t f n ys b op r h. paid_left c f t n ys (λ n. q.at w s t f n ys b op r h);
  }

  -- what is silent from a higher way is so from a lower one
  pub tail_higher : {g : Frame} {z v : Way on} {x : Exits on} {c : Task} → Flows (lattice on) z v
      → Tail g v x c → Tail g z x c
  tail_higher e q = record {
    at = λ w s t f n ys b op r h. q.at w s t f n ys b op (keeps_on on r (keeps_higher on e)) h;
  }

  -- a form is over
  pub tail_normal : {g : Frame} {z : Way on} {x : Exits on} (v : MVal) → IsMade on v
      → BodyFlowsTo on z (x Normal) → Tail g z x (done Normal v)
  tail_normal v i q = record {
    at =
        λ w s t f n ys b op r h. h.normal q.way v q.there i t n
        (λ u. moved_on on (r.moved u) (moved_body on q.higher))
        (calm_on on r.calm (calm_body on q.higher));
  }

  -- a form is left
  pub tail_other : {g : Frame} {z : Way on} {x : Exits on} (k : Exit) (v : MVal) → Other k
      → FlowsTo on z (x k) → Tail g z x (done k v)
  tail_other k v j q = record {
    at =
        λ w s t f n ys b op r h. h.other k q.way v j q.there t n
        (keeps_on on r (keeps_higher on q.higher));
  }

  -- the state changes, unseen
  pub tail_change : {g : Frame} {z : Way on} (v : Way on) {x : Exits on} {c : Task}
      (h : State → State)
      → (Blocked on g z → (s : State) → Opened on g z s → Keeps on g z v s (h s)) → Tail g v x c
      → Tail g z x (change h c)
  tail_change v h m q = record {
    at =
        λ w s t f n ys b op r k. q.at w s (h t) f n ys b op
        (keeps_on on r (m (blocked_on on r.context b) t (r.calm.opens op))) k;
  }

  -- an event of a policy that is not seen
  pub tail_emit : {g : Frame} {z : Way on} {x : Exits on} {c : Task} (e : Event) (n : ℕ)
      → HasPolicy on e n → Writes on g z n → Tail g z x c → Tail g z x (happens e c)
  tail_emit {g} {z} e p i wr q = record {
    at =
        λ w s t f n ys b op r h. agree_skip (Explained on)
        (sees on.observer (event_policy on.table e)) _ _ _
        (shown_as on e p i ∙ false_from_ne_true _ (blind on g z p wr (blocked_on on r.context b)))
        (q.at w s t f n ys b op r h);
  }

  -- a choice
  pub tail_if : {g : Frame} {z : Way on} {x : Exits on} {a b : Task} (v : Bool) → Tail g z x a
      → Tail g z x b → Tail g z x (if v then a else b)
  tail_if true p q = p
  tail_if false p q = q

  -- a choice by the state
  pub tail_asked : {g : Frame} {z : Way on} {x : Exits on} {a b : Task} (test : State → Bool)
      → Tail g z x a → Tail g z x b → Tail g z x (asked test a b)
  tail_asked test p q = record {
    at = λ w s t f n ys b op r h. (tail_if (test t) p q).at w s t f n ys b op r h;
  }

  -- what happens after a part, by the part's exits
  pub tail_through : {g : Frame} {z : Way on} {x y : Exits on} {c : Task} (T : Rests → Rests)
      → (Blocked on g z → Hush g z y c)
      → ((k : Exit) (v : Way on) (u : MVal) → y k ≡ Some v → Gives on k u
      → Tail g v x (λ f. T f k u)) → Tail g z x (λ f. c (T f))
  tail_through T q h = record {
    at =
        λ w s t f n ys b op r k. (q (blocked_on on r.context b)).at t (T f) n ys (r.calm.opens op)
        (λ i v u e gi t' n m. (h i v u e gi).at w s t' f n ys b op (keeps_on on r m) k);
  }

  -- a part, and what comes next
  pub tail_part : {g : Frame} {z : Way on} {y x : Exits on} {i : Option (Way on)} {c : Task}
      (q : FlowsTo on z i) → Leaves on y x → (next : MVal → Task)
      → (Blocked on g q.way → Hush g q.way y c)
      → ((v : MVal) (n : Way on) → IsMade on v → y Normal ≡ Some n → Tail g n x (next v))
      → Tail g z x (and_then c next)
  tail_part {g} {y = y} {x = x} q l next h k =
      tail_higher q.higher
      (tail_through (follow next) h
      (each_exit
      (λ i. (v : Way on) (u : MVal) → y i ≡ Some v → Gives on i u
      → Tail g v x (λ f. follow next f i u)) (λ v u e j. k u v j e)
      (λ v u e j. tail_other Broken u broken (l Broken v broken e))
      (λ v u e j. tail_other Continued u continued (l Continued v continued e))
      (λ v u e j. tail_other Returned u returned (l Returned v returned e))
      (λ i v u e j. tail_other (Thrown i) u (thrown i) (l (Thrown i) v (thrown i) e))))

  -- a part that is the last of the form
  pub tail_branch : {g : Frame} {z : Way on} {y x : Exits on} {i : Option (Way on)} {c : Task}
      (q : FlowsTo on z i) → Merges on y x → (Blocked on g q.way → Hush g q.way y c)
      → Tail g z x c
  tail_branch {g} {y = y} {x = x} q l h =
      tail_higher q.higher
      (tail_through (λ f. f) h
      (exit_cases
      (λ i. (v : Way on) (u : MVal) → y i ≡ Some v → Gives on i u → Tail g v x (done i u))
      (λ v u e gi. tail_normal u gi (l.normal v e))
      (λ i j v u e gi. tail_other i u j (l.leaves i v j e))))
