-- When the machine's run from a turn on shows a run of the source.
use Rattle.std.proofs.Common.{◌≡◌, ℕ, zero, suc, ◌+◌, ◌*◌, ◌≤◌, List, [], ◌∷◌, refl, ap, sym, ◌∙◌}
use Rattle.std.proofs.Common.{subst, arith}
use Rattle.par_code_form.specs.par_values.declared.run.Event.{Event}
use Rattle.par_code_form.specs.par_values.declared.run.Ending.{Ending}
use Rattle.par_code_form.specs.par_values.Ran.{Ran, Fine, ended, with_event}
use Rattle.par_code_form.specs.par_values.Ran as ran
use Rattle.par_step_laws.specs.par_secrecy.Runs.{Run, stopped, with_first}
use Rattle.par_step_laws.specs.par_secrecy.Secure.{events}
use Rattle.par_step_laws.specs.par_secrecy.Shows.{shown_run, IsFrontOf}
use Rattle.par_step_laws.specs.State.{State}
use Rattle.par_step_laws.specs.Step.{Turn, Silent, Shows, Ends}
use Rattle.par_step_laws.specs.Run.{followed}
use Rattle.par_match_laws.specs.Engine.{Program, turn, run}

abbrev pub Told : Type 0
Told = ℕ → Run

-- what a node costs
abbrev pub spent : Told → Told
spent g zero = stopped
spent g (suc n) = g n

abbrev pub emitted : Event → List ℕ → Told → Told
emitted e locks g n = with_first (record { event = e; locks = locks }) (g n)

pub nothing_yet : (r : Run) → IsFrontOf ran.stopped r
nothing_yet r = record { first = (events r.events, refl); whole = λ h. absurd (h refl) }

behind_event : (e : Event) (locks : List ℕ) (x : Ran) (r : Run) → IsFrontOf x r
    → IsFrontOf (with_event e x) (with_first (record { event = e; locks = locks }) r)
behind_event e locks x r h = record {
  first = (h.first.0, ap (λ l. e ∷ l) h.first.1);
  whole = λ ne. ap (with_event e) (h.whole ne);
}

module _ (p : Program) where
  -- the run from a turn on
  abbrev pub onward : Turn → ℕ → Ran
  onward t zero = ran.stopped
  onward t (suc i) = followed t (run p i)

  pub onward-run : (s : State) (i : ℕ) → onward (turn p s) i ≡ run p i s
  onward-run s zero = refl
  onward-run s (suc i) = refl

  -- both ways: the source within n steps is reached within 16 n + c instructions, and up to k
  -- instructions are a front of some run of the source
  pub record Matches (k c : ℕ) (t : Turn) (g : Told) : Type 0 where
    pub reach : (n : ℕ) → (i : ℕ) × (i ≤ 16 * n + c) × (onward t i ≡ shown_run (g n))
    pub front : (i : ℕ) → i ≤ k → (n : ℕ) × IsFrontOf (onward t i) (g n)

  pub weaken : (j k c d : ℕ) (t : Turn) (g : Told) → k ≤ j → c ≤ d → Matches j c t g
      → Matches k d t g
  weaken j k c d t g le le' h = record {
    reach = λ n. let a = h.reach n in (a.0, omega (arith, a.1), a.2);
    front = λ i q. h.front i (omega arith);
  }

  next_front : (j : ℕ) (s : State) (g : Told)
      → ((i : ℕ) → i ≤ j → (n : ℕ) × IsFrontOf (onward (turn p s) i) (g n))
      → (i : ℕ) → i ≤ suc j → (n : ℕ) × IsFrontOf (onward (Silent s) i) (g n)
  next_front j s g h zero le = (0, nothing_yet (g 0))
  next_front j s g h (suc i) le = let a = h i (omega arith) in
      (a.0, subst (λ x. IsFrontOf x (g a.0)) (onward-run s i) a.1)

  pub next_rule : (j k c d : ℕ) (s : State) (g : Told) → k ≤ suc j → suc c ≤ d
      → Matches j c (turn p s) g → Matches k d (Silent s) g
  next_rule j k c d s g le le' h = record {
    reach = λ n. let a = h.reach n in
        (suc a.0, omega (arith, a.1), sym (onward-run s a.0) ∙ a.2);
    front = λ i q. next_front j s g h.front i (omega arith);
  }

  happens_front : (k : ℕ) (e : Event) (locks : List ℕ) (s : State) (g : Told)
      → ((i : ℕ) → i ≤ k → (n : ℕ) × IsFrontOf (onward (turn p s) i) (g n))
      → (i : ℕ) → i ≤ k → (n : ℕ) × IsFrontOf (onward (Shows e s) i) (emitted e locks g n)
  happens_front k e locks s g h zero le = (0, nothing_yet (emitted e locks g 0))
  happens_front k e locks s g h (suc i) le = let a = h i (omega arith) in
      (a.0, behind_event e locks _ _ (subst (λ x. IsFrontOf x (g a.0)) (onward-run s i) a.1))

  pub happens_rule : (k c d : ℕ) (e : Event) (locks : List ℕ) (s : State) (g : Told) → suc c ≤ d
      → Matches k c (turn p s) g → Matches k d (Shows e s) (emitted e locks g)
  happens_rule k c d e locks s g le h = record {
    reach = λ n. let a = h.reach n in
        (suc a.0, omega (arith, a.1), ap (with_event e) (sym (onward-run s a.0) ∙ a.2));
    front = λ i q. happens_front k e locks s g h.front i q;
  }

  ends_front : (e : Ending) (i : ℕ)
      → (n : ℕ) × IsFrontOf (onward (Ends e) i) (record { events = []; ending = e })
  ends_front e zero = (0, nothing_yet _)
  ends_front e (suc i) = (0, record { first = ([], refl); whole = λ x. refl })

  pub ends_rule : (k c : ℕ) (e : Ending) → 1 ≤ c
      → Matches k c (Ends e) (λ n. record { events = []; ending = e })
  ends_rule k c e le =
      record { reach = λ n. (1, omega arith, refl); front = λ i q. ends_front e i }

  spend_reach : (c : ℕ) (t : Turn) (g : Told)
      → ((n : ℕ) → (i : ℕ) × (i ≤ 16 * n + (c + 16)) × (onward t i ≡ shown_run (g n)))
      → (n : ℕ) → (i : ℕ) × (i ≤ 16 * n + c) × (onward t i ≡ shown_run (spent g n))
  spend_reach c t g h zero = (0, omega arith, refl)
  spend_reach c t g h (suc n) = let a = h n in (a.0, omega (arith, a.1), a.2)

  pub spend_rule : (k c : ℕ) (t : Turn) (g : Told) → Matches k (c + 16) t g
      → Matches k c t (spent g)
  spend_rule k c t g h = record {
    reach = spend_reach c t g h.reach;
    front = λ i q. let a = h.front i q in (suc a.0, a.1);
  }

  stopped_front : (i : ℕ) (t : Turn) → i ≤ 0 → (n : ℕ) × IsFrontOf (onward t i) stopped
  stopped_front zero t le = (0, nothing_yet stopped)
  stopped_front (suc i) t le = absurd (omega arith)

  pub stopped_rule : (k c : ℕ) (t : Turn) → k ≤ 0 → Matches k c t (λ n. stopped)
  stopped_rule k c t le = record {
    reach = λ n. (0, omega arith, refl);
    front = λ i q. stopped_front i t (omega arith);
  }
