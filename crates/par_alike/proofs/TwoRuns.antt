-- Two runs in step, and what parts of them have in common.
use Rattle.std.proofs.Common.{◌≡◌, ℕ, Bool, true, false, cond, ◌&&◌, ◌⊎◌, inl, inr, Some, List}
use Rattle.std.proofs.Common.{◌∷◌, sym, subst, if◌then◌else◌}
use Rattle.par_program_laws.specs.Ways.{Lands}
use Rattle.par_values.specs.declared.run.Event.{Event}
use Rattle.par_values.specs.declared.value.MVal.{MVal}
use Rattle.par_run_laws.specs.par_secrecy.Runs.{Witnessed}
use Rattle.par_run_laws.specs.par_secrecy.Shown.{sees}
use Rattle.par_run_laws.specs.State.{State}
use Rattle.par_run_laws.specs.Tasks.{Exit, Normal, Rests, Task, done, paid, change}
use Rattle.par_run_laws.specs.Tasks.{happens}
use Rattle.par_alike.specs.Subject.{event_policy}
use Rattle.par_alike.proofs.Lists.{Agree, agree_emit}
use Rattle.par_alike.proofs.States.{Watch, Agrees, BodyFlowsTo, Calm, Exits, Explained}
use Rattle.par_alike.proofs.States.{shown_as}
use Rattle.par_alike.proofs.States.{FlowsTo, Frame, Gives, HasPolicy, IsMade, Like, Moved}
use Rattle.par_alike.proofs.States.{Opened, Other, Restores, Sees, Unseen, Way, blocked_here}
use Rattle.par_alike.proofs.States.{calm_body, calm_on, flows_here, gives_other}
use Rattle.par_alike.proofs.States.{keeps_higher}
use Rattle.par_alike.proofs.States.{lands_raised, lattice, like_body, like_moved, moved_body}
use Rattle.par_alike.proofs.States.{moved_on, open_body, raised, shown, swap}
use Rattle.par_alike.proofs.OneRun.{Tail, paid_left, tail_other}

module _ (on : Watch) where
  -- ---- two runs
  -- where an unseen stretch is over: the normal exit's context may be seen again
  pub data Apart : Exit → Way on → Type 0 where
    ended : (z : Way on) → Apart Normal z
    gone : (k : Exit) (z : Way on) → Other k → Unseen z.context → Apart k z

  -- an unseen stretch of one run, up to an exit where it may be over
  pub record Over (g : Frame) (w : Way on) (x : Exits on) (c : Task) : Type 0 where
    pub at : (s : State) (f : Rests) (n : ℕ) (ys : List Witnessed) → Opened on g w s
        → ((k : Exit) (z : Way on) (v : MVal) → x k ≡ Some z → Gives on k v → Apart k z
        → (t : State) (n : ℕ) → Moved on g w z s t → Calm on g w z s t
        → Agrees on (f k v t n).events ys) → Agrees on (c f s n).events ys

  -- what is silent is such a stretch
  pub over_tail : {g : Frame} {w : Way on} {x : Exits on} {c : Task} → Unseen w.context
      → Tail on g w x c → Over g w x c
  over_tail {w} u q = record {
    at =
        λ s f n ys op h. q.at w s s f n ys (blocked_here on u) op
        (keeps_higher on (flows_here on))
        (record {
          normal = λ z v p i t n m c. h Normal z v p i (ended z) t n (m u) c;
          other =
              λ k z v j p t n r. h k z v p (gives_other on k v j)
              (gone k z j (λ a. u (r.context a))) t n (r.moved u) r.calm;
        });
  }

  -- also from a way with an unseen value in its context
  pub over_raised : {g : Frame} {w : Way on} (v : Bool) {x : Exits on} {c : Task}
      → Unseen (w.context && v) → Tail on g (raised on w v) x c → Over g w x c
  over_raised ps u q = record {
    at =
        λ s f n ys op h. (over_tail u q).at s f n ys (open_body on (lands_raised on ps) op)
        (λ k z v e i a t n m c. h k z v e i a t n
        (moved_on on (moved_body on (lands_raised on ps)) m)
        (calm_on on (calm_body on (lands_raised on ps)) c));
  }

  -- a stretch that ends at once
  pub over_normal : {g : Frame} {w : Way on} {x : Exits on} (v : MVal) → IsMade on v
      → BodyFlowsTo on w (x Normal) → Over g w x (done Normal v)
  over_normal v i q = record {
    at =
        λ s f n ys op h. h Normal q.way v q.there i (ended q.way) s n (moved_body on q.higher)
        (calm_body on q.higher);
  }

  -- two completions: of one kind, or both unseen and one of them not normal
  pub data Pair (R : MVal → MVal → Type 0) : Exit → Exit → Way on → Way on → MVal → MVal
      → Type 0 where
    normals : (z : Way on) (u v : MVal) → IsMade on u → IsMade on v → R u v
        → Pair R Normal Normal z z u v
    others : (k : Exit) (z : Way on) (u v : MVal) → Other k → Pair R k k z z u v
    left_gone : (k k' : Exit) (z z' : Way on) (u v : MVal) → Gives on k u → Gives on k' v
        → Other k → Unseen z.context → Unseen z'.context → Pair R k k' z z' u v
    right_gone : (k k' : Exit) (z z' : Way on) (u v : MVal) → Gives on k u → Gives on k' v
        → Other k' → Unseen z.context → Unseen z'.context → Pair R k k' z z' u v

  -- what follows the exits of both runs
  abbrev pub Both : Frame → Exits on → (MVal → MVal → Type 0) → Rests → Rests → Type 0
  Both g x R f f' =
      (k k' : Exit) (z z' : Way on) (u v : MVal) → x k ≡ Some z → x k' ≡ Some z'
      → Pair R k k' z z' u v → (s t : State) (m n : ℕ) → Like on g z z' s t
      → Agrees on (f k u s m).events (f' k' v t n).events

  -- two runs in step, up to exits with values in R
  pub record Step (g : Frame) (w : Way on) (x : Exits on) (R : MVal → MVal → Type 0)
      (c c' : Task) : Type 0 where
    pub at : (s t : State) (f f' : Rests) (m n : ℕ) → Like on g w w s t → Both g x R f f'
        → Agrees on (c f s m).events (c' f' t n).events

  -- a step is paid for in both
  pub step_paid : {g : Frame} {w : Way on} {x : Exits on} {R : MVal → MVal → Type 0} (c c' : Task)
      → Step g w x R c c' → Step g w x R (paid c) (paid c')
  step_paid c c' q = record {
    at =
        λ s t f f' m n l h. paid_left on c f s m _
        (λ m. swap on _ _ (paid_left on c' f' t n _ (λ n. swap on _ _ (q.at s t f f' m n l h))));
  }

  -- both are over, with values in R
  pub step_normal : {g : Frame} {w : Way on} {x : Exits on} {R : MVal → MVal → Type 0}
      (u v : MVal) → IsMade on u → IsMade on v → BodyFlowsTo on w (x Normal) → R u v
      → Step g w x R (done Normal u) (done Normal v)
  step_normal u v iu iv q r = record {
    at =
        λ s t f f' m n l h. h Normal Normal q.way q.way u v q.there q.there
        (normals q.way u v iu iv r) s t m n (like_body on q.higher l);
  }

  -- both leave in one way
  pub step_other : {g : Frame} {w : Way on} {x : Exits on} {R : MVal → MVal → Type 0} (k : Exit)
      (u v : MVal) → Other k → FlowsTo on w (x k) → Step g w x R (done k u) (done k v)
  step_other k u v j q = record {
    at =
        λ s t f f' m n l h. h k k q.way q.way u v q.there q.there (others k q.way u v j) s t m n
        (like_body on q.higher.lands l);
  }

  -- from a lower way
  pub step_body : {g : Frame} {w v : Way on} {x : Exits on} {R : MVal → MVal → Type 0}
      {c c' : Task} → Lands (lattice on) w v → Step g v x R c c' → Step g w x R c c'
  step_body e q = record { at = λ s t f f' m n l h. q.at s t f f' m n (like_body on e l) h }

  -- both states change
  pub step_change : {g : Frame} {w : Way on} (v : Way on) {x : Exits on}
      {R : MVal → MVal → Type 0} {c c' : Task} (h h' : State → State)
      → ((s t : State) → Like on g w w s t → Like on g v v (h s) (h' t)) → Step g v x R c c'
      → Step g w x R (change h c) (change h' c')
  step_change v h h' m q = record {
    at = λ s t f f' i n l k. q.at (h s) (h' t) f f' i n (m s t l) k;
  }

  -- two events of one policy, which are equal or explained where the observer sees it
  pub step_emit : {g : Frame} {w : Way on} {x : Exits on} {R : MVal → MVal → Type 0} {c c' : Task}
      (e e' : Event) (n : ℕ) → HasPolicy on e n → HasPolicy on e' n
      → ((s t : State) → Like on g w w s t → Sees on n
      → (e ≡ e') ⊎ Explained on (record { event = e; locks = s.locks })
      (record { event = e'; locks = t.locks })) → ((Sees on n → e ≡ e') → Step g w x R c c')
      → Step g w x R (happens e c) (happens e' c')
  step_emit {c} {c'} e e' p i i' h q = record {
    at =
        λ s t f f' m n l k. subst
        (λ b. Agree (Explained on)
        (cond b (record { event = e; locks = s.locks } ∷ shown on (c f s m).events)
        (shown on (c f s m).events))
        (cond (sees on.observer (event_policy on.table e'))
        (record { event = e'; locks = t.locks } ∷ shown on (c' f' t n).events)
        (shown on (c' f' t n).events))) (sym (shown_as on e p i))
        (subst (λ b. Agree (Explained on)
        (cond ((lattice on).given p)
        (record { event = e; locks = s.locks } ∷ shown on (c f s m).events)
        (shown on (c f s m).events))
        (cond b (record { event = e'; locks = t.locks } ∷ shown on (c' f' t n).events)
        (shown on (c' f' t n).events))) (sym (shown_as on e' p i'))
        (agree_emit (Explained on) ((lattice on).given p) _ _ _ _
        (λ b. (h s t l b, λ i. (q (λ b. i)).at s t f f' m n l k))
        (λ b. (q (λ b'. absurd cc)).at s t f f' m n l k)));
  }

  -- one choice in both
  pub step_if_at : {g : Frame} {w : Way on} {x : Exits on} {R : MVal → MVal → Type 0}
      {a b a' b' : Task} (v : Bool) → Step g w x R a a' → Step g w x R b b'
      → Step g w x R (if v then a else b) (if v then a' else b')
  step_if_at true p q = p
  step_if_at false p q = q

  -- equal choices in both
  pub step_if : {g : Frame} {w : Way on} {x : Exits on} {R : MVal → MVal → Type 0}
      {a b a' b' : Task} (u v : Bool) → u ≡ v → Step g w x R a a' → Step g w x R b b'
      → Step g w x R (if u then a else b) (if v then a' else b')
  step_if {g} {w} {x} {R} {a} {b} {a'} {b'} u v e p q =
      subst (λ v. Step g w x R (if u then a else b) (if v then a' else b')) e (step_if_at u p q)

  -- the left run has left where the context is not seen
  pair_left : {R : MVal → MVal → Type 0} (w : Way on) (x : Exits on) (k k' : Exit) (z z' : Way on)
      (u v : MVal) → Gives on k u → Gives on k' v → Restores on w x → Other k → Unseen z.context
      → x k ≡ Some z → x k' ≡ Some z' → Apart k' z' → Pair R k k' z z' u v
  pair_left w x k _ z z' u v iu iv r j un e e' (ended _) =
      left_gone k Normal z z' u v iu iv j un (λ p. un (r.others k z' z j e' e p))
  pair_left w x k k' z z' u v iu iv r j un e e' (gone _ _ j' un') =
      left_gone k k' z z' u v iu iv j un un'

  -- and the right one
  pair_right : {R : MVal → MVal → Type 0} (w : Way on) (x : Exits on) (k k' : Exit)
      (z z' : Way on) (u v : MVal) → Gives on k u → Gives on k' v → Restores on w x → Other k'
      → Unseen z'.context → x k ≡ Some z → x k' ≡ Some z' → Apart k z → Pair R k k' z z' u v
  pair_right w x _ k' z z' u v iu iv r j un e e' (ended _) =
      right_gone Normal k' z z' u v iu iv j (λ p. un (r.others k' z z' j e e' p)) un
  pair_right w x k k' z z' u v iu iv r j un e e' (gone _ _ j' un') =
      right_gone k k' z z' u v iu iv j un' un

  -- two unseen stretches are over
  pair_of : {R : MVal → MVal → Type 0} (w : Way on) (x : Exits on) (k k' : Exit) (z z' : Way on)
      (u v : MVal) → Gives on k u → Gives on k' v → Restores on w x → ((u v : MVal) → R u v)
      → x k ≡ Some z → x k' ≡ Some z' → Apart k z → Apart k' z' → Pair R k k' z z' u v
  pair_of {R} w x _ _ z z' u v iu iv r all e e' (ended _) (ended _) =
      let one : z ≡ z' = cc in
      subst (λ y. Pair R Normal Normal z y u v) one (normals z u v iu iv (all u v))
  pair_of w x _ k' z z' u v iu iv r all e e' (ended _) (gone _ _ j un) =
      right_gone Normal k' z z' u v iu iv j (λ p. un (r.others k' z z' j e e' p)) un
  pair_of w x k k' z z' u v iu iv r all e e' (gone _ _ j un) p =
      pair_left w x k k' z z' u v iu iv r j un e e' p

  -- both runs go on apart, each by a stretch of its own
  pub apart : {g : Frame} {R : MVal → MVal → Type 0} (r w1 w2 : Way on) {x : Exits on}
      {c c' : Task} (s t : State) (f f' : Rests) (m n : ℕ) → Restores on r x
      → ((u v : MVal) → R u v) → Like on g w1 w2 s t → Both g x R f f' → Over g w1 x c
      → Over g w2 x c' → Agrees on (c f s m).events (c' f' t n).events
  apart r w1 w2 {x} s t f f' m n e all l h q q' =
      q.at s f m _ l.left
      (λ k z u p iu a s' m i ci. swap on _ _
      (q'.at t f' n _ l.right
      (λ k' z' v p' iv a' t' n j cj. swap on _ _
      (h k k' z z' u v p p' (pair_of r x k k' z z' u v iu iv e all p p' a a') s' t' m n
      (like_moved on l i ci j cj)))))

  -- two runs that go apart are in step again at their exits
  pub step_apart : {g : Frame} {w r : Way on} {x : Exits on} {R : MVal → MVal → Type 0}
      {c c' : Task} → Restores on r x → ((u v : MVal) → R u v) → Over g w x c → Over g w x c'
      → Step g w x R c c'
  step_apart {w} {r} e all q q' = record {
    at = λ s t f f' m n l h. apart r w w s t f f' m n e all l h q q';
  }

  -- the left run has left, or the right one
  pub apart_left : {g : Frame} {R : MVal → MVal → Type 0} (r w1 w2 : Way on) {x : Exits on}
      {c' : Task} (k : Exit) (u : MVal) (s t : State) (f f' : Rests) (m n : ℕ) → Restores on r x
      → Other k → Unseen w1.context → FlowsTo on w1 (x k) → Like on g w1 w2 s t → Both g x R f f'
      → Over g w2 x c' → Agrees on (f k u s m).events (c' f' t n).events
  apart_left r w1 w2 {x} k u s t f f' m n e j un q l h q' =
      swap on _ _
      (q'.at t f' n _ l.right
      (λ k' z' v p' iv a' t' n i ci. swap on _ _
      (h k k' q.way z' u v q.there p'
      (pair_left r x k k' q.way z' u v (gives_other on k u j) iv e j
      (λ a. un (q.higher.context a)) q.there p' a') s t' m n
      (like_moved on l (moved_body on q.higher.lands) (calm_body on q.higher.lands) i ci))))

  pub apart_right : {g : Frame} {R : MVal → MVal → Type 0} (r w1 w2 : Way on) {x : Exits on}
      {c : Task} (k' : Exit) (v : MVal) (s t : State) (f f' : Rests) (m n : ℕ) → Restores on r x
      → Other k' → Unseen w2.context → FlowsTo on w2 (x k') → Like on g w1 w2 s t
      → Both g x R f f' → Over g w1 x c → Agrees on (c f s m).events (f' k' v t n).events
  apart_right r w1 w2 {x} k' v s t f f' m n e j un q l h q' =
      q'.at s f m _ l.left
      (λ k z u p iu a s' m i ci. h k k' z q.way u v p q.there
      (pair_right r x k k' z q.way u v iu (gives_other on k' v j) e j
      (λ b. un (q.higher.context b)) p q.there a) s' t m n
      (like_moved on l i ci (moved_body on q.higher.lands) (calm_body on q.higher.lands)))

  -- a stretch that leaves at once
  pub over_other : {g : Frame} {w : Way on} {x : Exits on} (k : Exit) (v : MVal) → Other k
      → Unseen w.context → FlowsTo on w (x k) → Over g w x (done k v)
  over_other k v j u q = over_tail u (tail_other on k v j q)

  -- a part, by what comes at each of its exits
  pub step_through : {g : Frame} {w : Way on} {x y : Exits on} {R S : MVal → MVal → Type 0}
      {c c' : Task} (T T' : Rests → Rests) → Step g w y R c c'
      → ((z : Way on) (u v : MVal) → y Normal ≡ Some z → IsMade on u → IsMade on v → R u v
      → Step g z x S (λ f. T f Normal u) (λ f. T' f Normal v))
      → ((k : Exit) (z : Way on) (u v : MVal) → Other k → y k ≡ Some z
      → Step g z x S (λ f. T f k u) (λ f. T' f k v))
      → ((k k' : Exit) (z z' : Way on) (u v : MVal) → Other k ⊎ Other k' → Gives on k u
      → Gives on k' v → y k ≡ Some z → y k' ≡ Some z' → Unseen z.context → Unseen z'.context
      → (f f' : Rests) → Both g x S f f' → (s t : State) (m n : ℕ) → Like on g z z' s t
      → Agrees on (T f k u s m).events (T' f' k' v t n).events)
      → Step g w x S (λ f. c (T f)) (λ f. c' (T' f))
  step_through {g} {w} {x} {y} {R} {S} T T' q h i j = record {
    at =
        λ s t f f' m n l b. q.at s t (T f) (T' f') m n l
        (λ k k' z z' u v e e' p s t m n l. by_pair f f' b k k' z z' u v p e e' s t m n l);
  }
    where
      by_pair : (f f' : Rests) → Both g x S f f' → (k k' : Exit) (z z' : Way on) (u v : MVal)
          → Pair R k k' z z' u v → y k ≡ Some z → y k' ≡ Some z' → (s t : State) (m n : ℕ)
          → Like on g z z' s t → Agrees on (T f k u s m).events (T' f' k' v t n).events
      by_pair f f' b _ _ _ _ _ _ (normals z u v iu iv a) e e' s t m n l =
          (h z u v e iu iv a).at s t f f' m n l b
      by_pair f f' b _ _ _ _ _ _ (others k z u v a) e e' s t m n l =
          (i k z u v a e).at s t f f' m n l b
      by_pair f f' b _ _ _ _ _ _ (left_gone k k' z z' u v iu iv a un un') e e' s t m n l =
          j k k' z z' u v (inl a) iu iv e e' un un' f f' b s t m n l
      by_pair f f' b _ _ _ _ _ _ (right_gone k k' z z' u v iu iv a un un') e e' s t m n l =
          j k k' z z' u v (inr a) iu iv e e' un un' f f' b s t m n l
