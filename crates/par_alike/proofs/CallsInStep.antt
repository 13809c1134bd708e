-- Calls in two runs.
use Rattle.std.proofs.Common.{◌≡◌, ℕ, Bool, false, ◌&&◌, not, ◌⊎◌, inl, Some, None, List, refl}
use Rattle.std.proofs.Common.{sym, ◌∙◌}
use Rattle.std.specs.Prelude.{IsTrue, slice_get}
use Rattle.par_bits.specs.Sets.{IsWithin}
use Rattle.par_program_laws.specs.Ways as ways
use Rattle.par_program_laws.specs.Ways.{Flows, Lands, MayFlow, MayLand, MayRaise}
use Rattle.par_program_laws.specs.Closed as closed
use Rattle.par_values.specs.Areas.{value_or_null}
use Rattle.par_run_laws.specs.Tasks.{leave, enter}
use Rattle.par_program_laws.specs.Declares.{Method}
use Rattle.par_values.specs.declared.value.MVal.{MVal}
use Rattle.par_run_laws.specs.State.{State, entered, restored}
use Rattle.par_run_laws.specs.Tasks.{Exit, Normal, Thrown, Rests, Task, nothing}
use Rattle.par_check_laws.proofs.par_pass_laws.Along.{and_r}
use Rattle.par_alike.proofs.States.{Watch, Agrees, Any, Exits, FlowsTo, Frame, Like}
use Rattle.par_alike.proofs.States.{Restores}
use Rattle.par_alike.proofs.States.{Sees, Unseen, Values, Way, each_exit, lattice, like_body}
use Rattle.par_alike.proofs.States.{raised, thrown}
use Rattle.par_alike.proofs.Calls.{AreMade, Calling, Paired, callee, home_locks, home_opened}
use Rattle.par_alike.proofs.Calls.{opened_in}
use Rattle.par_alike.proofs.TwoRuns.{Both, Pair, Step, left_gone, normals, others}
use Rattle.par_alike.proofs.TwoRuns.{right_gone}

module _ (on : Watch) where
  module _ (g : Frame) (w : Way on) (x : Exits on) (V : Bool) (m : Method)
      (q : Calling on g w x V m) where
    -- two runs
    entered_like : (s t : State) (vs vs' : List MVal) → AreMade on vs → AreMade on vs'
        → ((i : ℕ) → IsTrue ((closed.first (lattice on) m).env i)
        → value_or_null (slice_get vs i) ≡ value_or_null (slice_get vs' i))
        → (m.is_static ≡ false → value_or_null (slice_get vs 0) ≡ value_or_null (slice_get vs' 0))
        → Like on g w w s t → Like on (callee on g w x V m q) (closed.first (lattice on) m)
        (closed.first (lattice on) m) (entered vs s) (entered vs' t)
    entered_like s t vs vs' i i' h th l = record {
      locals = λ k p p'. h k p;
      result = λ p. refl;
      this = th;
      outer = record {
        statics = l.outer.statics;
        fields = l.outer.fields;
        births = l.outer.births;
        inputs = l.outer.inputs;
        locks = l.outer.locks;
      };
      left = opened_in on g w x V m q s vs i l.left;
      right = opened_in on g w x V m q t vs' i' l.right;
    }

    -- both come home alike
    home_like : (z z' y y' : Way on) (s t s1 t1 : State)
        → ((i : ℕ) → IsTrue (y.env i) → IsTrue (w.env i))
        → ((i : ℕ) → IsTrue (y'.env i) → IsTrue (w.env i))
        → ((l : ℕ) → IsTrue (y.locks l)
        → IsTrue (w.locks l && not (m.closes l)) ⊎ IsTrue (z.locks l))
        → ((l : ℕ) → IsTrue (y'.locks l)
        → IsTrue (w.locks l && not (m.closes l)) ⊎ IsTrue (z'.locks l)) → Like on g w w s t
        → Like on (callee on g w x V m q) z z' s1 t1
        → Like on g y y' (restored s.locals s.result s1) (restored t.locals t.result t1)
    home_like z z' y y' s t s1 t1 e e' h h' l k = record {
      locals = λ i p p'. l.locals i (e i p) (e' i p');
      result = l.result;
      this = l.this;
      outer = record {
        statics = k.outer.statics;
        fields = k.outer.fields;
        births = k.outer.births;
        inputs = k.outer.inputs;
        locks = k.outer.locks;
      };
      left = home_opened on g w x V m q z y s s1 h l.left k.left;
      right = home_opened on g w x V m q z' y' t t1 h' l.right k.right;
    }

    -- a call in two runs
    pub step_enter : (c c' : Task) (vs vs' : List MVal) (r : Way on) → Restores on r x
        → AreMade on vs → AreMade on vs'
        → ((i : ℕ) → IsTrue ((closed.first (lattice on) m).env i)
        → value_or_null (slice_get vs i) ≡ value_or_null (slice_get vs' i))
        → (m.is_static ≡ false → value_or_null (slice_get vs 0) ≡ value_or_null (slice_get vs' 0))
        → Paired on m (callee on g w x V m q) c c'
        → Step on g w x (Values V) (enter c vs) (enter c' vs')
    step_enter c c' vs vs' r rr i i' h th b = record {
      at =
          λ s t f f' m' n l both. b.step.at (entered vs s) (entered vs' t)
          (leave s.locals s.result f) (leave t.locals t.result f') m' n
          (like_body on b.entered.lands (entered_like s t vs vs' i i' h th l))
          (λ k k' z z' u u' p p' pair. by_pair s t f f' l both k k' z z' u u' pair p p');
    }
      where
        Here : State → State → Rests → Rests → Type 0
        Here s t f f' = Like on g w w s t × Both on g x (Values V) f f'

        both_home : (s t : State) (f f' : Rests) → Like on g w w s t → Both on g x (Values V) f f'
            → (z z' : Way on) → IsWithin m.opens z.locks → IsWithin m.opens z'.locks
            → (s1 t1 : State) (i j : ℕ) → Like on (callee on g w x V m q) z z' s1 t1
            → Agrees on (f Normal s1.result (restored s.locals s.result s1) i).events
            (f' Normal t1.result (restored t.locals t.result t1) j).events
        both_home s t f f' l both z z' oz oz' s1 t1 i j k =
            both Normal Normal q.normal.way q.normal.way s1.result t1.result q.normal.there
            q.normal.there
            (normals q.normal.way s1.result t1.result k.left.made.result k.right.made.result
            (λ p. k.result (q.result p))) (restored s.locals s.result s1)
            (restored t.locals t.result t1) i j
            (home_like z z' q.normal.way q.normal.way s t s1 t1 (λ i p. q.normal.higher.env i p)
            (λ i p. q.normal.higher.env i p) (home_locks on g w x V m q z oz)
            (home_locks on g w x V m q z' oz') l k)

        -- where an exception's context isn't seen, that of the way home isn't either
        blind_throw : (k : ℕ) (z : Way on) → b.exits (Thrown k) ≡ Some z → Unseen z.context
            → (p : ℕ) × FlowsTo on
            (ways.shut (lattice on) m.closes (raised on w ((lattice on).given p))) (x (Thrown k))
            × (Sees on p → ⊥) × Unseen q.normal.way.context
        blind_throw k z e u =
            let y = b.ends.throws k z e in
            let to = q.throws k y.0 y.1 in (
              y.0,
              to,
              (λ a. u (y.2 a)),
              (λ a. u (y.2 (and_r w.context ((lattice on).given y.0)
                  (to.higher.context
                  (rr.others (Thrown k) q.normal.way to.way (thrown k) q.normal.there to.there
                  a))))),
            )

        unseen_to : (p : ℕ) (y : Way on) → (Sees on p → ⊥)
            → Flows (lattice on)
            (ways.shut (lattice on) m.closes (raised on w ((lattice on).given p))) y
            → Unseen y.context
        unseen_to p y u e a = u (and_r w.context ((lattice on).given p) (e.context a))

        home_throw : (s t : State) (f f' : Rests) → Like on g w w s t
            → Both on g x (Values V) f f' → (z : Way on) → IsWithin m.opens z.locks
            → (k : ℕ) (z' : Way on) → b.exits (Thrown k) ≡ Some z' → Unseen z'.context
            → (s1 t1 : State) (i j : ℕ) → Like on (callee on g w x V m q) z z' s1 t1
            → Agrees on (f Normal s1.result (restored s.locals s.result s1) i).events
            (f' (Thrown k) nothing (restored t.locals t.result t1) j).events
        home_throw s t f f' l both z oz k z' e' u' s1 t1 i j le =
            let y = blind_throw k z' e' u' in
            both Normal (Thrown k) q.normal.way y.1.way s1.result nothing q.normal.there y.1.there
            (right_gone Normal (Thrown k) q.normal.way y.1.way s1.result nothing
            le.left.made.result tt (thrown k) y.3 (unseen_to y.0 y.1.way y.2 y.1.higher))
            (restored s.locals s.result s1) (restored t.locals t.result t1) i j
            (home_like z z' q.normal.way y.1.way s t s1 t1 (λ i p. q.normal.higher.env i p)
            (λ i p. y.1.higher.lands.env i p) (home_locks on g w x V m q z oz)
            (λ l b. inl (y.1.higher.lands.locks l b)) l le)

        throw_home : (s t : State) (f f' : Rests) → Like on g w w s t
            → Both on g x (Values V) f f' → (k : ℕ) (z : Way on) → b.exits (Thrown k) ≡ Some z
            → Unseen z.context → (z' : Way on) → IsWithin m.opens z'.locks
            → (s1 t1 : State) (i j : ℕ) → Like on (callee on g w x V m q) z z' s1 t1
            → Agrees on (f (Thrown k) nothing (restored s.locals s.result s1) i).events
            (f' Normal t1.result (restored t.locals t.result t1) j).events
        throw_home s t f f' l both k z e u z' oz' s1 t1 i j le =
            let y = blind_throw k z e u in
            both (Thrown k) Normal y.1.way q.normal.way nothing t1.result y.1.there q.normal.there
            (left_gone (Thrown k) Normal y.1.way q.normal.way nothing t1.result tt
            le.right.made.result (thrown k) (unseen_to y.0 y.1.way y.2 y.1.higher) y.3)
            (restored s.locals s.result s1) (restored t.locals t.result t1) i j
            (home_like z z' y.1.way q.normal.way s t s1 t1 (λ i p. y.1.higher.lands.env i p)
            (λ i p. q.normal.higher.env i p) (λ l b. inl (y.1.higher.lands.locks l b))
            (home_locks on g w x V m q z' oz') l le)

        throw_throw : (s t : State) (f f' : Rests) → Like on g w w s t
            → Both on g x (Values V) f f' → (k : ℕ) (z : Way on) → b.exits (Thrown k) ≡ Some z
            → Unseen z.context → (k' : ℕ) (z' : Way on) → b.exits (Thrown k') ≡ Some z'
            → Unseen z'.context → (s1 t1 : State) (i j : ℕ)
            → Like on (callee on g w x V m q) z z' s1 t1
            → Agrees on (f (Thrown k) nothing (restored s.locals s.result s1) i).events
            (f' (Thrown k') nothing (restored t.locals t.result t1) j).events
        throw_throw s t f f' l both k z e u k' z' e' u' s1 t1 i j le =
            let y = blind_throw k z e u in
            let y' = blind_throw k' z' e' u' in
            both (Thrown k) (Thrown k') y.1.way y'.1.way nothing nothing y.1.there y'.1.there
            (left_gone (Thrown k) (Thrown k') y.1.way y'.1.way nothing nothing tt tt (thrown k)
            (unseen_to y.0 y.1.way y.2 y.1.higher) (unseen_to y'.0 y'.1.way y'.2 y'.1.higher))
            (restored s.locals s.result s1) (restored t.locals t.result t1) i j
            (home_like z z' y.1.way y'.1.way s t s1 t1 (λ i p. y.1.higher.lands.env i p)
            (λ i p. y'.1.higher.lands.env i p) (λ l b. inl (y.1.higher.lands.locks l b))
            (λ l b. inl (y'.1.higher.lands.locks l b)) l le)

        home_any : (s t : State) (f f' : Rests) → Like on g w w s t → Both on g x (Values V) f f'
            → (z : Way on) → IsWithin m.opens z.locks → (k' : Exit) (z' : Way on) (u' : MVal)
            → b.exits k' ≡ Some z' → Unseen z'.context → (s1 t1 : State) (i j : ℕ)
            → Like on (callee on g w x V m q) z z' s1 t1
            → Agrees on (f Normal s1.result (restored s.locals s.result s1) i).events
            (leave t.locals t.result f' k' u' t1 j).events
        home_any s t f f' l both z oz =
            each_exit
            (λ k'. (z' : Way on) (u' : MVal) → b.exits k' ≡ Some z' → Unseen z'.context
            → (s1 t1 : State) (i j : ℕ) → Like on (callee on g w x V m q) z z' s1 t1
            → Agrees on (f Normal s1.result (restored s.locals s.result s1) i).events
            (leave t.locals t.result f' k' u' t1 j).events)
            (λ z' v e' u' s1 t1 i j le. both_home s t f f' l both z z' oz (b.ends.opens z' e') s1
            t1 i j le)
            (λ z' v e' u' s1 t1 i j le.
            let bad : None ≡ Some z' = sym b.ends.broken ∙ e' in
            absurd cc)
            (λ z' v e' u' s1 t1 i j le.
            let bad : None ≡ Some z' = sym b.ends.continued ∙ e' in
            absurd cc)
            (λ z' v e' u' s1 t1 i j le. both_home s t f f' l both z z' oz
            (b.ends.opens_returned z' e') s1 t1 i j le)
            (λ k' z' v e' u' s1 t1 i j le. home_throw s t f f' l both z oz k' z' e' u' s1 t1 i j
            le)

        throw_any : (s t : State) (f f' : Rests) → Like on g w w s t → Both on g x (Values V) f f'
            → (k : ℕ) (z : Way on) → b.exits (Thrown k) ≡ Some z → Unseen z.context
            → (k' : Exit) (z' : Way on) (u' : MVal) → b.exits k' ≡ Some z' → Unseen z'.context
            → (s1 t1 : State) (i j : ℕ) → Like on (callee on g w x V m q) z z' s1 t1
            → Agrees on (f (Thrown k) nothing (restored s.locals s.result s1) i).events
            (leave t.locals t.result f' k' u' t1 j).events
        throw_any s t f f' l both k z e u =
            each_exit
            (λ k'. (z' : Way on) (u' : MVal) → b.exits k' ≡ Some z' → Unseen z'.context
            → (s1 t1 : State) (i j : ℕ) → Like on (callee on g w x V m q) z z' s1 t1
            → Agrees on (f (Thrown k) nothing (restored s.locals s.result s1) i).events
            (leave t.locals t.result f' k' u' t1 j).events)
            (λ z' v e' u' s1 t1 i j le. throw_home s t f f' l both k z e u z' (b.ends.opens z' e')
            s1 t1 i j le)
            (λ z' v e' u' s1 t1 i j le.
            let bad : None ≡ Some z' = sym b.ends.broken ∙ e' in
            absurd cc)
            (λ z' v e' u' s1 t1 i j le.
            let bad : None ≡ Some z' = sym b.ends.continued ∙ e' in
            absurd cc)
            (λ z' v e' u' s1 t1 i j le. throw_home s t f f' l both k z e u z'
            (b.ends.opens_returned z' e') s1 t1 i j le)
            (λ k' z' v e' u' s1 t1 i j le. throw_throw s t f f' l both k z e u k' z' e' u' s1 t1 i
            j le)

        unseen_pair : (s t : State) (f f' : Rests) → Like on g w w s t
            → Both on g x (Values V) f f' → (k k' : Exit) (z z' : Way on) (v v' : MVal)
            → Unseen z.context → Unseen z'.context → b.exits k ≡ Some z → b.exits k' ≡ Some z'
            → (s1 t1 : State) (i j : ℕ) → Like on (callee on g w x V m q) z z' s1 t1
            → Agrees on (leave s.locals s.result f k v s1 i).events
            (leave t.locals t.result f' k' v' t1 j).events
        unseen_pair s t f f' l both k k' z z' v v' u u' =
            each_exit
            (λ k. b.exits k ≡ Some z → b.exits k' ≡ Some z' → (s1 t1 : State) (i j : ℕ)
            → Like on (callee on g w x V m q) z z' s1 t1
            → Agrees on (leave s.locals s.result f k v s1 i).events
            (leave t.locals t.result f' k' v' t1 j).events)
            (λ e e'. home_any s t f f' l both z (b.ends.opens z e) k' z' v' e' u')
            (λ e e' s1 t1 i j le. let bad : None ≡ Some z = sym b.ends.broken ∙ e in absurd cc)
            (λ e e' s1 t1 i j le. let bad : None ≡ Some z = sym b.ends.continued ∙ e in absurd cc)
            (λ e e'. home_any s t f f' l both z (b.ends.opens_returned z e) k' z' v' e' u')
            (λ a e e'. throw_any s t f f' l both a z e u k' z' v' e' u') k

        other_pair : (s t : State) (f f' : Rests) → Like on g w w s t
            → Both on g x (Values V) f f' → (k : Exit) (z : Way on) (v v' : MVal)
            → b.exits k ≡ Some z → (s1 t1 : State) (i j : ℕ)
            → Like on (callee on g w x V m q) z z s1 t1
            → Agrees on (leave s.locals s.result f k v s1 i).events
            (leave t.locals t.result f' k v' t1 j).events
        other_pair s t f f' l both k z v v' =
            each_exit
            (λ k. b.exits k ≡ Some z → (s1 t1 : State) (i j : ℕ)
            → Like on (callee on g w x V m q) z z s1 t1
            → Agrees on (leave s.locals s.result f k v s1 i).events
            (leave t.locals t.result f' k v' t1 j).events)
            (λ e s1 t1 i j le. both_home s t f f' l both z z (b.ends.opens z e) (b.ends.opens z e)
            s1 t1 i j le)
            (λ e s1 t1 i j le. let bad : None ≡ Some z = sym b.ends.broken ∙ e in absurd cc)
            (λ e s1 t1 i j le. let bad : None ≡ Some z = sym b.ends.continued ∙ e in absurd cc)
            (λ e s1 t1 i j le. both_home s t f f' l both z z (b.ends.opens_returned z e)
            (b.ends.opens_returned z e) s1 t1 i j le)
            (λ a e s1 t1 i j le.
            let y = b.ends.throws a z e in
            let to = q.throws a y.0 y.1 in
            both (Thrown a) (Thrown a) to.way to.way nothing nothing to.there to.there
            (others (Thrown a) to.way nothing nothing (thrown a)) (restored s.locals s.result s1)
            (restored t.locals t.result t1) i j
            (home_like z z to.way to.way s t s1 t1 (λ i p. to.higher.lands.env i p)
            (λ i p. to.higher.lands.env i p) (λ l b. inl (to.higher.lands.locks l b))
            (λ l b. inl (to.higher.lands.locks l b)) l le)) k

        by_pair : (s t : State) (f f' : Rests) → Like on g w w s t → Both on g x (Values V) f f'
            → (k k' : Exit) (z z' : Way on) (u u' : MVal) → Pair on Any k k' z z' u u'
            → b.exits k ≡ Some z → b.exits k' ≡ Some z' → (s1 t1 : State) (i j : ℕ)
            → Like on (callee on g w x V m q) z z' s1 t1
            → Agrees on (leave s.locals s.result f k u s1 i).events
            (leave t.locals t.result f' k' u' t1 j).events
        by_pair s t f f' l both _ _ _ _ _ _ (normals z u u' iu iv a) e e' =
            other_pair s t f f' l both Normal z u u' e
        by_pair s t f f' l both _ _ _ _ _ _ (others k z u u' a) e e' =
            other_pair s t f f' l both k z u u' e
        by_pair s t f f' l both _ _ _ _ _ _ (left_gone k k' z z' u u' iu iv a un un') e e' =
            unseen_pair s t f f' l both k k' z z' u u' un un' e e'
        by_pair s t f f' l both _ _ _ _ _ _ (right_gone k k' z z' u u' iu iv a un un') e e' =
            unseen_pair s t f f' l both k k' z z' u u' un un' e e'
