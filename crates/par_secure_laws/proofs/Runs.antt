-- Bodies to any depth of calls, and whole runs.
use Rattle.std.proofs.Common.{◌≡◌, ℕ, zero, suc, true, ◌⊎◌, inr, Some, None, List, refl, sym, subst}
use Rattle.std.specs.Prelude.{IsTrue, slice_get}
use Rattle.par_bits.specs.Sets.{none}
use Rattle.par_program_laws.specs.Ways.{MayFlow}
use Rattle.par_program_laws.specs.Facts.{Facts}
use Rattle.par_program_laws.specs.Closed as closed
use Rattle.par_typed.specs.Members.{method_at}
use Rattle.par_alike.specs.Watched.{IsThere}
use Rattle.par_program_laws.specs.Declares.{Method}
use Rattle.par_program_laws.specs.Rules as rules
use Rattle.par_program_laws.specs.Rules.{From, Entry, After, Tested, node, Rules, Node}
use Rattle.par_program_laws.specs.Rules.{can}
use Rattle.par_program_laws.specs.Body.{sta}
use Rattle.par_typed.specs.Plain.{TSta, point}
use Rattle.par_alike.specs.par_check_laws.Checks as checks
use Rattle.par_pass_laws.specs.Possible.{HasPossibleExits}
use Rattle.std.specs.Prelude.{take}
use Rattle.par_typed.specs.Plain.{Body}
use Rattle.par_run_laws.specs.Names.{body_of, main_of}
use Rattle.par_run_laws.specs.Meaning.{within, method}
use Rattle.par_run_laws.specs.Source.{given_to, start, final, run_of}
use Rattle.par_secrecy.specs.Secure.{events}
use Rattle.par_values.specs.declared.inputs.ChannelInput.{ChannelInput}
use Rattle.par_run_laws.specs.Meaning.{go}
use Rattle.par_program_laws.specs.BodyNames.{StaNames}
use Rattle.par_secure_laws.proofs.Needs.{StaReady}
use Rattle.par_program_laws.specs.Makes.{StaMakes}
use Rattle.par_secrecy.specs.Runs.{Witnessed}
use Rattle.par_run_laws.specs.Names.{channel_named}
use Rattle.par_typed.specs.Members.{channel_at}
use Rattle.par_program_laws.specs.BodyNames.{IsChannel}
use Rattle.par_alike.proofs.Lists.{agree_nil, agree_at}
use Rattle.par_alike.proofs.States.{Watch, Agrees, Any, Explained, Frame, Opened, Sees}
use Rattle.par_alike.proofs.States.{declared, exits, flows_here, lattice, like_body, shown}
use Rattle.par_alike.proofs.States.{to_flow}
use Rattle.par_secure_laws.proofs.Points.{AllKept}
use Rattle.par_alike.proofs.Calls.{Ends, InStep, Silent}
use Rattle.par_alike.proofs.Leaves.{Sound}
use Rattle.par_alike.proofs.OneRun.{Hush}
use Rattle.par_secure_laws.proofs.QuietStas.{hush_sta}
use Rattle.par_alike.proofs.TwoRuns.{Step}
use Rattle.par_secure_laws.proofs.Stas.{step_sta}
use Rattle.par_alike.proofs.Writes.{first_made}

module _ (on : Watch) where
  -- ---- bodies, and whole runs
  -- the body of a method with facts that are closed and pass the checks
  pub record BodyOk (c k : ℕ) (s : TSta) : Type 0 where
    pub facts : Facts (lattice on)
    pub entered : MayFlow (lattice on)
        (Some (closed.first (lattice on) ((declared on).method c k))) (facts (point s)).entry
    pub obeyed : rules.Obeys (lattice on) facts (sta (declared on) s)
    pub kept : AllKept on facts (checks.sta_checks on.table ((declared on).method c k) s)
    pub names : StaNames on.table s
    pub makes : StaMakes on.table ((declared on).method c k).is_static s
    pub possible : HasPossibleExits (lattice on) facts (sta (declared on) s)
    pub ready : StaReady on.table ((declared on).method c k).is_static s
    -- from the checks 303, 501 and 502, and since break and continue stand in loops
    pub ends : Ends on ((declared on).method c k) (exits on facts (point s))

  -- the body of a method
  pub record Known (ts : List Body) (c k : ℕ) : Type 0 where
    pub body : TSta
    pub is : body_of ts c k ≡ Some body
    pub ok : BodyOk c k body

  module _ (sound : Sound on) (ts : List Body)
      (known : (c k : ℕ) → IsThere (method_at on.table c k) → Known ts c k) where
    -- a method without a depth left has no exits
    no_ends : (m : Method) → Ends on m (λ k. None)
    no_ends m = record {
      opens = λ z e. absurd cc;
      opens_returned = λ z e. absurd cc;
      broken = refl;
      continued = refl;
      throws = λ c z e. absurd cc;
    }

    -- a body whose write effect isn't seen shows nothing
    silent_at : (n : ℕ) → Silent on (method on.table ts n)
    unfolding method
    silent_at zero c k is held free u = record {
      way = closed.first (lattice on) ((declared on).method c k);
      entered = flows_here on;
      exits = λ k. None;
      ends = no_ends ((declared on).method c k);
      hush = record { at = λ s f n ys op h. tt };
    }
    silent_at (suc n) c k is held free u =
        let b = known c k is in
        let ok = b.ok in
        let g : Frame = record { own = (declared on).method c k; held = held; free = free } in
        let q = to_flow on (closed.first (lattice on) ((declared on).method c k)) _ ok.entered in
        let run = method on.table ts n in
        let inner : Hush on g q.way (exits on ok.facts (point b.body))
        (go on.table run (suc n) b.body) = hush_sta on ok.facts sound run (silent_at n) (suc n)
        b.body g q.way (record { unseen_part = inr u }) q.there
        (record { it = ok.obeyed; possible = ok.possible })
        (ok.kept, ok.names, ok.makes, ok.ready) in
        let whole : Hush on g q.way (exits on ok.facts (point b.body))
        (λ rest s i. within on.table run (suc n) (body_of ts c k) rest s i) = subst
        (λ o. Hush on g q.way (exits on ok.facts (point b.body))
        (λ rest s i. within on.table run (suc n) o rest s i)) (sym b.is)
        (record { at = inner.at }) in
        record {
          way = q.way;
          entered = q.higher;
          exits = exits on ok.facts (point b.body);
          ends = ok.ends;
          hush = record { at = whole.at };
        }

    -- two runs of a body, to any depths
    paired_at : (m n : ℕ) → InStep on (method on.table ts m) (method on.table ts n)
    unfolding method
    paired_at zero n c k is held free = record {
      way = closed.first (lattice on) ((declared on).method c k);
      entered = flows_here on;
      exits = λ k. None;
      ends = no_ends ((declared on).method c k);
      step = record { at = λ s t f f' m n l h. tt };
    }
    paired_at (suc m) zero c k is held free = record {
      way = closed.first (lattice on) ((declared on).method c k);
      entered = flows_here on;
      exits = λ k. None;
      ends = no_ends ((declared on).method c k);
      step = record { at = λ s t f f' m n l h. agree_nil (Explained on) _ };
    }
    paired_at (suc m) (suc n) c k is held free =
        let b = known c k is in
        let ok = b.ok in
        let g : Frame = record { own = (declared on).method c k; held = held; free = free } in
        let q = to_flow on (closed.first (lattice on) ((declared on).method c k)) _ ok.entered in
        let run = method on.table ts m in
        let run' = method on.table ts n in
        let x = exits on ok.facts (point b.body) in
        let inner : Step on g q.way x Any (go on.table run (suc m) b.body)
        (go on.table run' (suc n) b.body) = step_sta on ok.facts sound run run' (silent_at m)
        (silent_at n) (paired_at m n) (suc m) (suc n) b.body g q.way q.there
        (record { it = ok.obeyed; possible = ok.possible })
        (ok.kept, ok.names, ok.makes, ok.ready) in
        let whole : Step on g q.way x Any
        (λ rest s i. within on.table run (suc m) (body_of ts c k) rest s i)
        (λ rest s i. within on.table run' (suc n) (body_of ts c k) rest s i) = subst
        (λ o. Step on g q.way x Any (λ rest s i. within on.table run (suc m) o rest s i)
        (λ rest s i. within on.table run' (suc n) o rest s i)) (sym b.is)
        (record { at = inner.at }) in
        record {
          way = q.way;
          entered = q.higher;
          exits = x;
          ends = ok.ends;
          step = record { at = whole.at };
        }

    -- whole runs
    pub agree_runs : IsThere (method_at on.table on.table.main (main_of on.table))
        →
        ((l : ℕ) → IsTrue (((declared on).method on.table.main (main_of on.table)).expects l) → ⊥)
        → ((declared on).method on.table.main (main_of on.table)).is_static ≡ true
        → (one other : List ChannelInput)
        → ((c k : ℕ) → IsChannel true (channel_at on.table c k)
        → Sees on ((declared on).channel c k)
        → given_to one (channel_named on.table c k) ≡ given_to other (channel_named on.table c k))
        → (m n : ℕ)
        → Agrees on (run_of on.table ts one m).events (run_of on.table ts other n).events
    agree_runs is free static one other alike m n =
        let b = paired_at (suc m) (suc n) on.table.main (main_of on.table) is none
        (λ l h k. absurd cc) in
        b.step.at (start on.table one) (start on.table other) (final on.table) (final on.table) m
        n (like_body on b.entered.lands
        (record {
          locals = λ i p p'. refl;
          result = λ p. refl;
          this = λ e. refl;
          outer = record {
            statics = λ c f p. refl;
            fields = λ c f i p n. refl;
            births = λ c p. refl;
            inputs = alike;
            locks = λ l p e v. refl;
          };
          left = begun one;
          right = begun other;
        })) (λ k k' z z' u v e e' p s t m n l. tt)
      where
        main_frame : Frame
        main_frame = record {
          own = (declared on).method on.table.main (main_of on.table);
          held = none;
          free = λ l h k. absurd cc;
        }

        begun : (lines : List ChannelInput)
            → Opened on
            (record {
              own = (declared on).method on.table.main (main_of on.table);
              held = none;
              free = λ l h k. absurd cc;
            }) (closed.first (lattice on) ((declared on).method on.table.main (main_of on.table)))
            (start on.table lines)
        begun lines = record {
          known = λ l h. absurd (free l h);
          held = λ l h. absurd cc;
          made = record {
            locals = λ i. tt;
            result = tt;
            statics = first_made on sound;
            fields = λ c n f. tt;
          };
        }

    -- where the first k shown events agree and the next ones differ, some node under check
    -- explains it
    pub explained : IsThere (method_at on.table on.table.main (main_of on.table))
        →
        ((l : ℕ) → IsTrue (((declared on).method on.table.main (main_of on.table)).expects l) → ⊥)
        → ((declared on).method on.table.main (main_of on.table)).is_static ≡ true
        → (one other : List ChannelInput)
        → ((c k : ℕ) → IsChannel true (channel_at on.table c k)
        → Sees on ((declared on).channel c k)
        → given_to one (channel_named on.table c k) ≡ given_to other (channel_named on.table c k))
        → (m n k : ℕ) (x y : Witnessed)
        → slice_get (shown on (run_of on.table ts one m).events) k ≡ Some x
        → slice_get (shown on (run_of on.table ts other n).events) k ≡ Some y
        → events (take k (shown on (run_of on.table ts one m).events)) ≡ events
        (take k (shown on (run_of on.table ts other n).events))
        → (x.event ≡ y.event) ⊎ Explained on x y
    explained is free static one other alike m n k x y p q e =
        agree_at (Explained on) k _ _ (agree_runs is free static one other alike m n) x y p q e
