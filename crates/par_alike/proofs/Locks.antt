-- Locks that are opened, closed and asked for.
use Rattle.std.proofs.Common.{◌≡◌, ℕ, Bool, true, false, ◌&&◌, ◌||◌, not, ⊎_elim, Some, List}
use Rattle.std.proofs.Common.{refl, ap, sym, ◌∙◌, subst, if◌then◌else◌}
use Rattle.std.specs.Prelude.{IsTrue, nat_eq, slice_get}
use Rattle.std.proofs.lemmas.Bool.{false_from_ne_true, eqb-true}
use Rattle.par_policy.specs.Numbers.{has}
use Rattle.par_bits.specs.Sets.{adding, none}
use Rattle.par_program_laws.specs.Ways as ways
use Rattle.par_program_laws.specs.Ways.{Flows, Lands, MayFlow, MayLand, MayRaise}
use Rattle.par_values.specs.declared.value.MVal.{MVal}
use Rattle.par_run_laws.specs.par_secrecy.Runs.{Witnessed}
use Rattle.par_run_laws.specs.State.{State, open_lock, close_lock, opened, closed}
use Rattle.par_run_laws.specs.Tasks.{Rests, Task, asked}
use Rattle.par_check_laws.specs.Checks.{lock_written}
use Rattle.par_check_laws.proofs.par_pass_laws.Along.{and_l, and_r}
use Rattle.std.proofs.lemmas.Bool.{and_from, or_left, or_right}
use Rattle.par_alike.proofs.LockSets.{or_cases}
use Rattle.par_alike.proofs.LockSets.{or_false, is_not, has_old, opened_has, closed_has}
use Rattle.par_alike.proofs.States.{Watch, Agrees, Blocked, Exits, Frame, Keeps, Like, Made}
use Rattle.par_alike.proofs.States.{Opened, Sees, Way, Writes, blind, keeps_on, lattice}
use Rattle.par_alike.proofs.States.{same_here}
use Rattle.par_alike.proofs.Locals.{and_true}
use Rattle.par_alike.proofs.OneRun.{Goes, Tail}
use Rattle.par_alike.proofs.TwoRuns.{Both, Step}

module _ (on : Watch) where
  -- who learns of a lock that has a policy
  abbrev pub Learns : Frame → Way on → ℕ → Type 0
  Learns g w l = (p : ℕ) → lock_written (slice_get on.table.locks l) ≡ Some p → Writes on g w p

  abbrev pub opening : ℕ → Way on → Way on
  opening l w = ways.opened (lattice on) (adding none l) w

  abbrev pub shutting : ℕ → Way on → Way on
  shutting l w = ways.shut (lattice on) (adding none l) w

  locks_made : (ls : List ℕ) (s : State) → Made on s → Made on (record s { locks = ls })
  locks_made ls s m = record {
    locals = m.locals;
    result = m.result;
    statics = m.statics;
    fields = m.fields;
  }

  -- an opened lock is known
  opened_knows : (g : Frame) (w : Way on) (l : ℕ) (s : State) → Opened on g w s
      → Opened on g (opening l w) (open_lock l s)
  opened_knows g w l s p = record {
    known =
        λ k q. subst IsTrue (sym (opened_has l s.locks k))
        (⊎_elim (λ e. or_left (has s.locks k) _ (p.known k e)) (λ e. or_right (has s.locks k) _ e)
        (or_cases (w.locks k) (nat_eq k l) q));
    held = λ k q. has_old l s.locks k (p.held k q);
    made = locks_made (opened l s.locks) s p.made;
  }

  -- a lock is closed that is not kept open
  closed_knows : (g : Frame) (w : Way on) (l : ℕ) (s : State) → IsTrue (g.own.closes l)
      → Opened on g w s → Opened on g (shutting l w) (close_lock l s)
  closed_knows g w l s c p = record {
    known =
        λ k q. subst IsTrue (sym (closed_has l s.locks k))
        (and_from (has s.locks k) (not (nat_eq k l)) (p.known k (and_l (w.locks k) _ q))
        (and_r (w.locks k) (not (nat_eq k l)) q));
    held =
        λ k q. subst IsTrue (sym (closed_has l s.locks k))
        (and_from (has s.locks k) (not (nat_eq k l)) (p.held k q)
        (is_not (nat_eq k l)
        (λ e. g.free k q (subst (λ z. IsTrue (g.own.closes z)) (sym (eqb-true k l e)) c))));
    made = locks_made (closed l s.locks) s p.made;
  }

  -- a lock with a policy that is seen is another one
  other_lock : (g : Frame) (w : Way on) (l m p : ℕ) → Learns g w l → Blocked on g w
      → lock_written (slice_get on.table.locks m) ≡ Some p → Sees on p → nat_eq m l ≡ false
  other_lock g w l m p wr b e v =
      false_from_ne_true (nat_eq m l)
      (λ i. blind on g w p
      (wr p (subst (λ m. lock_written (slice_get on.table.locks m) ≡ Some p) (eqb-true m l i) e))
      b v)

  -- a lock that is opened where nobody is to learn of it
  pub open_keeps : (g : Frame) (w : Way on) (l : ℕ) → Learns g w l → Blocked on g w → (s : State)
      → Keeps on g w (opening l w) s (open_lock l s)
  open_keeps g w l wr b s = record {
    context = λ p. p;
    moved = λ u. record { locals = λ j p. (p, refl); result = λ p. refl };
    calm = record {
      outer = record {
        statics = λ c f p. refl;
        fields = λ c f i p n. refl;
        births = λ c p. refl;
        inputs = λ c k i p. refl;
        locks =
            λ m p e v. sym
            (opened_has l s.locks m ∙ ap (λ z. has s.locks m || z) (other_lock g w l m p wr b e v)
            ∙ or_false (has s.locks m));
      };
      this = λ e. refl;
      opens = opened_knows g w l s;
    };
  }

  -- and one that is closed
  pub close_keeps : (g : Frame) (w : Way on) (l : ℕ) → IsTrue (g.own.closes l) → Learns g w l
      → Blocked on g w → (s : State) → Keeps on g w (shutting l w) s (close_lock l s)
  close_keeps g w l c wr b s = record {
    context = λ p. p;
    moved = λ u. record { locals = λ j p. (p, refl); result = λ p. refl };
    calm = record {
      outer = record {
        statics = λ c f p. refl;
        fields = λ c f i p n. refl;
        births = λ c p. refl;
        inputs = λ c k i p. refl;
        locks =
            λ m p e v. sym
            (closed_has l s.locks m
            ∙ ap (λ z. has s.locks m && not z) (other_lock g w l m p wr b e v)
            ∙ and_true (has s.locks m));
      };
      this = λ e. refl;
      opens = closed_knows g w l s c;
    };
  }

  -- a lock that is opened in both runs
  pub open_like : (g : Frame) (w : Way on) (l : ℕ) (s t : State) → Like on g w w s t
      → Like on g (opening l w) (opening l w) (open_lock l s) (open_lock l t)
  open_like g w l s t k = record {
    locals = k.locals;
    result = k.result;
    this = k.this;
    outer = record {
      statics = k.outer.statics;
      fields = k.outer.fields;
      births = k.outer.births;
      inputs = k.outer.inputs;
      locks =
          λ m p e v. opened_has l s.locks m ∙ ap (λ z. z || nat_eq m l) (k.outer.locks m p e v)
          ∙ sym (opened_has l t.locks m);
    };
    left = opened_knows g w l s k.left;
    right = opened_knows g w l t k.right;
  }

  -- and one that is closed
  pub close_like : (g : Frame) (w : Way on) (l : ℕ) → IsTrue (g.own.closes l) → (s t : State)
      → Like on g w w s t
      → Like on g (shutting l w) (shutting l w) (close_lock l s) (close_lock l t)
  close_like g w l c s t k = record {
    locals = k.locals;
    result = k.result;
    this = k.this;
    outer = record {
      statics = k.outer.statics;
      fields = k.outer.fields;
      births = k.outer.births;
      inputs = k.outer.inputs;
      locks =
          λ m p e v. closed_has l s.locks m
          ∙ ap (λ z. z && not (nat_eq m l)) (k.outer.locks m p e v) ∙ sym (closed_has l t.locks m);
    };
    left = closed_knows g w l s c k.left;
    right = closed_knows g w l t c k.right;
  }

  -- where a lock was found open it is known to be
  found_knows : (g : Frame) (w : Way on) (l : ℕ) (s : State) → has s.locks l ≡ true
      → Opened on g w s → Opened on g (opening l w) s
  found_knows g w l s e p = record {
    known =
        λ k q. ⊎_elim (λ i. p.known k i)
        (λ i. subst (λ z. IsTrue (has s.locks z)) (sym (eqb-true k l i)) e)
        (or_cases (w.locks k) (nat_eq k l) q);
    held = p.held;
    made = p.made;
  }

  found_keeps : (g : Frame) (w : Way on) (l : ℕ) (s : State) → has s.locks l ≡ true
      → Keeps on g w (opening l w) s s
  found_keeps g w l s e = record {
    context = λ p. p;
    moved = λ u. record { locals = λ j p. (p, refl); result = λ p. refl };
    calm = record { outer = same_here on; this = λ e. refl; opens = found_knows g w l s e };
  }

  found_like : (g : Frame) (w : Way on) (l : ℕ) (s t : State) → has s.locks l ≡ true
      → has t.locks l ≡ true → Like on g w w s t → Like on g (opening l w) (opening l w) s t
  found_like g w l s t e e' k = record {
    locals = k.locals;
    result = k.result;
    this = k.this;
    outer = k.outer;
    left = found_knows g w l s e k.left;
    right = found_knows g w l t e' k.right;
  }

  -- a lock is asked for in one run
  pub tail_when : {g : Frame} {z : Way on} {x : Exits on} {c c' : Task} (l : ℕ)
      → Tail on g (opening l z) x c → Tail on g z x c'
      → Tail on g z x (asked (λ s. has s.locks l) c c')
  tail_when {g} {z} {x} {c} {c'} l p q = record {
    at = λ w s t f n ys b op r h. go (has t.locks l) refl w s t f n ys b op r h;
  }
    where
      go : (found : Bool) {t : State} → has t.locks l ≡ found
          → (w : Way on) (s t' : State) (f : Rests) (n : ℕ) (ys : List Witnessed) → Blocked on g w
          → Opened on g w s → Keeps on g w z s t → Goes on g w s x f ys
          → Agrees on ((if found then c else c') f t n).events ys
      go true {t} e w s t' f n ys b op r h =
          p.at w s t f n ys b op (keeps_on on r (found_keeps g z l t e)) h
      go false {t} e w s t' f n ys b op r h = q.at w s t f n ys b op r h

  -- and in two, which find it alike where its policy is seen
  pub step_when : {g : Frame} {z : Way on} {x : Exits on} {R : MVal → MVal → Type 0}
      {b c b' c' : Task} (l p : ℕ) → lock_written (slice_get on.table.locks l) ≡ Some p
      → Sees on p → Step on g (opening l z) x R b b' → Step on g z x R c c'
      → Step on g z x R (asked (λ s. has s.locks l) b c) (asked (λ s. has s.locks l) b' c')
  step_when {g} {z} {x} {R} {b} {c} {b'} {c'} l p e v i j = record {
    at =
        λ s t f f' m n k h. go s t f f' m n k h (has s.locks l) (has t.locks l) refl refl
        (k.outer.locks l p e v);
  }
    where
      go : (s t : State) (f f' : Rests) (m n : ℕ) → Like on g z z s t → Both on g x R f f'
          → (y y' : Bool) → has s.locks l ≡ y → has t.locks l ≡ y' → has s.locks l ≡ has t.locks l
          → Agrees on ((if y then b else c) f s m).events ((if y' then b' else c') f' t n).events
      go s t f f' m n k h true true q q' same = i.at s t f f' m n (found_like g z l s t q q' k) h
      go s t f f' m n k h true false q q' same = absurd cc
      go s t f f' m n k h false true q q' same = absurd cc
      go s t f f' m n k h false false q q' same = j.at s t f f' m n k h
