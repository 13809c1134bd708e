-- Locals that are set, and results.
use Rattle.std.proofs.Common.{◌≡◌, ℕ, Bool, true, false, cond, ◌&&◌, refl, sym}
use Rattle.std.specs.Prelude.{IsTrue, nat_eq}
use Rattle.par_program_laws.specs.Ways as ways
use Rattle.par_program_laws.specs.Ways.{Flows, Lands, MayFlow, MayLand, MayRaise}
use Rattle.par_values.specs.declared.value.MVal.{MVal}
use Rattle.par_run_laws.specs.State.{State, set_local, set_result}
use Rattle.par_check_laws.proofs.par_pass_laws.Along.{and_l, and_r}
use Rattle.par_alike.proofs.States.{Watch, Frame, IsMade, Keeps, Like, Made, Sees, Unseen}
use Rattle.par_alike.proofs.States.{Values, Way, lattice}
use Rattle.par_alike.proofs.Puts.{put_all, put_keep, put_like}

-- ---- locals, results and locks
pub and_true : (b : Bool) → (b && true) ≡ b
and_true true = refl
and_true false = refl

module _ (on : Watch) where
  -- a way with a value in a local
  abbrev pub assigned : ℕ → Bool → Way on → Way on
  assigned x V w = ways.assigned (lattice on) x V w

  local_made : (x : ℕ) (v : MVal) (s : State) → IsMade on v → Made on s → Made on (set_local x v s)
  local_made x v s i m = record {
    locals = λ j. put_all (IsMade on) s.locals x v j i m.locals;
    result = m.result;
    statics = m.statics;
    fields = m.fields;
  }

  -- a local that is set where the observer does not see it
  pub local_keeps : (g : Frame) (w : Way on) (x : ℕ) (v : MVal) (V : Bool) (s : State)
      → (g.own.is_static ≡ false → x ≡ 0 → ⊥) → IsMade on v
      → Keeps on g w (assigned x V w) s (set_local x v s)
  local_keeps g w x v V s nt i = record {
    context = λ p. p;
    moved = λ u. record { locals = λ j p. hidden u j (nat_eq j x) p; result = λ p. refl };
    calm = record {
      outer = record {
        statics = λ c f p. refl;
        fields = λ c f i p n. refl;
        births = λ c p. refl;
        inputs = λ c k i p. refl;
        locks = λ l p e v. refl;
      };
      this = λ e. put_keep s.locals x v 0 (λ q. absurd (nt e (sym q)));
      opens = λ p. record { known = p.known; held = p.held; made = local_made x v s i p.made };
    };
  }
    where
      hidden : Unseen w.context → (j : ℕ) (b : Bool) → IsTrue (cond b (V && w.context) (w.env j))
          → IsTrue (w.env j) × (s.locals j ≡ cond b v (s.locals j))
      hidden u j true p = absurd (u (and_r V w.context p))
      hidden u j false p = (p, refl)

  -- a local that is set in both runs
  pub local_like : (g : Frame) (w : Way on) (x : ℕ) (u v : MVal) (V : Bool)
      → (g.own.is_static ≡ false → x ≡ 0 → ⊥) → IsMade on u → IsMade on v → Values V u v
      → (s t : State) → Like on g w w s t
      → Like on g (assigned x V w) (assigned x V w) (set_local x u s) (set_local x v t)
  local_like g w x u v V nt iu iv e s t l = record {
    locals = λ j p p'. picked j (nat_eq j x) p;
    result = l.result;
    this = λ i. put_like s.locals t.locals x u v 0 (λ q. absurd (nt i (sym q))) (l.this i);
    outer = record {
      statics = l.outer.statics;
      fields = l.outer.fields;
      births = l.outer.births;
      inputs = l.outer.inputs;
      locks = l.outer.locks;
    };
    left = record {
      known = l.left.known;
      held = l.left.held;
      made = local_made x u s iu l.left.made;
    };
    right = record {
      known = l.right.known;
      held = l.right.held;
      made = local_made x v t iv l.right.made;
    };
  }
    where
      picked : (j : ℕ) (b : Bool) → IsTrue (cond b (V && w.context) (w.env j))
          → cond b u (s.locals j) ≡ cond b v (t.locals j)
      picked j true p = e (and_l V w.context p)
      picked j false p = l.locals j p p

  result_made : (v : MVal) (s : State) → IsMade on v → Made on s → Made on (set_result v s)
  result_made v s i m = record {
    locals = m.locals;
    result = i;
    statics = m.statics;
    fields = m.fields;
  }

  -- a result that is not seen
  pub result_keeps : (g : Frame) (w : Way on) (v : MVal) (V : Bool) (s : State) → IsMade on v
      → (Sees on g.own.result → IsTrue (V && w.context)) → Keeps on g w w s (set_result v s)
  result_keeps g w v V s i b = record {
    context = λ p. p;
    moved =
        λ u. record {
          locals = λ j p. (p, refl);
          result = λ p. absurd (u (and_r V w.context (b p)));
        };
    calm = record {
      outer = record {
        statics = λ c f p. refl;
        fields = λ c f i p n. refl;
        births = λ c p. refl;
        inputs = λ c k i p. refl;
        locks = λ l p e v. refl;
      };
      this = λ e. refl;
      opens = λ p. record { known = p.known; held = p.held; made = result_made v s i p.made };
    };
  }

  -- a result in both runs
  pub result_like : (g : Frame) (w : Way on) (u v : MVal) (V : Bool) → IsMade on u → IsMade on v
      → (Sees on g.own.result → IsTrue (V && w.context)) → Values V u v → (s t : State)
      → Like on g w w s t → Like on g w w (set_result u s) (set_result v t)
  result_like g w u v V iu iv b e s t l = record {
    locals = l.locals;
    result = λ p. e (and_l V w.context (b p));
    this = l.this;
    outer = record {
      statics = l.outer.statics;
      fields = l.outer.fields;
      births = l.outer.births;
      inputs = l.outer.inputs;
      locks = l.outer.locks;
    };
    left = record {
      known = l.left.known;
      held = l.left.held;
      made = result_made u s iu l.left.made;
    };
    right = record {
      known = l.right.known;
      held = l.right.held;
      made = result_made v t iv l.right.made;
    };
  }
