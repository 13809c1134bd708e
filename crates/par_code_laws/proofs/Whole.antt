-- The labelled code of a program shows the program's run.
use Rattle.std.proofs.Common.{◌≡◌, ℕ, suc, ◌+◌, ◌*◌, ◌≤◌, ◌⊎◌, inl, inr, true, false, List, [], ◌∷◌}
use Rattle.std.proofs.Common.{◌++◌}
use Rattle.std.proofs.Common.{length, Option, Some, None, refl, ap, sym, ◌∙◌, subst, arith}
use Rattle.std.proofs.Common.{append_assoc}
use Rattle.std.specs.Prelude.{pos}
use Rattle.par_typed.specs.declared.ty.Ty.TheVariants as ty
use Rattle.par_typed.specs.declared.table.Table.{Table}
use Rattle.par_typed.specs.Plain.{Body}
use Rattle.par_completes.specs.Typed.{completes}
use Rattle.par_values.specs.declared.inputs.ChannelInput.{ChannelInput}
use Rattle.par_values.specs.declared.run.Ending.{Ending}
use Rattle.par_values.specs.declared.run.Ending.TheVariants.{End, Uncaught, Stopped}
use Rattle.par_values.specs.declared.value.MVal.{MVal}
use Rattle.par_values.specs.declared.value.MVal.TheVariants as value
use Rattle.par_values.specs.Areas.{Name, Areas}
use Rattle.par_values.specs.Ran.{Ran, Outcome, Fine as FineEnd, BadCode}
use Rattle.par_secrecy.specs.Runs.{Run, Witnessed}
use Rattle.par_secrecy.specs.Longer.{Extends}
use Rattle.par_secrecy.specs.Secure.{events}
use Rattle.par_secrecy.specs.Shows.{shown_run, IsFrontOf, IsFine}
use Rattle.par_run_laws.specs.State.{State}
use Rattle.par_run_laws.specs.Tasks.{Exit, Normal, Broken, Continued, Returned, Thrown, Rests}
use Rattle.par_run_laws.specs.Tasks.{leave}
use Rattle.par_run_laws.specs.Tasks.{nothing}
use Rattle.par_run_laws.specs.Meaning.{method}
use Rattle.par_run_laws.specs.Names.{main_of}
use Rattle.par_run_laws.specs.Source.{start, run_of, final, uncaught}
use Rattle.par_run_laws.proofs.Longer as longer
use Rattle.par_step_laws.specs.Step.{Ends}
use Rattle.par_evaluation_laws.specs.par_match_laws.Engine.{Program, turn, run}
use Rattle.par_evaluation_laws.specs.par_match_laws.Engine as gen
use Rattle.par_code_form.specs.Code.{Words, body_code, ending, no_loop}
use Rattle.par_evaluation_laws.specs.par_match_laws.Labelled.{Labelled, Naming, handled, stands}
use Rattle.par_evaluation_laws.proofs.par_match_laws.Rules.{Told, Matches, onward, onward-run}
use Rattle.par_evaluation_laws.proofs.par_match_laws.Rules.{ends_rule}
use Rattle.par_evaluation_laws.proofs.par_match_laws.Steps.{Here, IsSound, P}
use Rattle.par_evaluation_laws.specs.Laid.{Layout, Meth, HasMethod, given_types}
use Rattle.par_evaluation_laws.specs.Programs.{IsCompiled, begins, first_set}
use Rattle.par_code_laws.specs.Laws.{ShowsRuns, Begins, LabelledCodeShows}
use Rattle.par_code_laws.proofs.Labels.{body_distinct}
use Rattle.par_code_laws.proofs.Sound.{AllGo, goes_sound, all_go}
use Rattle.par_evaluation_laws.proofs.Parts.{AllTyped}
use Rattle.par_code_laws.proofs.Methods.{enters_ok}

no_some : {A : Type 0} (to : ℕ) → None ≡ Some to → A
no_some to e = cc

-- nothing follows a method of a program
leave_final : (t : Table) (l : ℕ → MVal) (r : MVal) → leave l r (final t) ≡ final t
leave_final t l r = λ i e v s n. same e v s n i
  where
    same : (e : Exit) (v : MVal) (s : State) (n : ℕ) → leave l r (final t) e v s n ≡ final t e v s n
    same Normal v s n = refl
    same Broken v s n = refl
    same Continued v s n = refl
    same Returned v s n = refl
    same (Thrown c) v s n = refl

events_append : (xs ys : List Witnessed) → events (xs ++ ys) ≡ events xs ++ events ys
events_append [] ys = refl
events_append (x ∷ xs) ys = ap (λ l. x.event ∷ l) (events_append xs ys)

-- a front of a run is one of a longer run
front_on : (r : Ran) (x y : Run) → IsFrontOf r x → Extends x y → IsFrontOf r y
front_on r x y h g = record {
  first = (
    (h.first).0 ++ events (g.events).0,
    ap events (g.events).1 ∙ events_append x.events (g.events).0
        ∙ ap (λ l. l ++ events (g.events).0) (h.first).1
        ∙ append_assoc r.events (h.first).0 (events (g.events).0),
  );
  whole = λ ne. let e = h.whole ne in e
      ∙ ap shown_run (sym (g.ended (λ st. ne (ap (λ (q : Ran). q.ending) e ∙ ap FineEnd st))));
}

fine_ending : (o : Outcome) → ((o ≡ FineEnd Stopped → ⊥) → (e : Ending) × (o ≡ FineEnd e))
    → IsFine o
fine_ending (FineEnd e) h = (e, refl)
fine_ending (BadCode x y u v) h = h (λ e. cc)

module _ (env : Naming) (labelled : ℕ → ℕ → Labelled) (mname : ℕ → ℕ
    → Name) (w : Words) (lay : Layout) (t : Table) (bodies : List Body)
    (compiled : IsCompiled env labelled w lay t bodies) where
  abbrev Mach : Program
  Mach = P env labelled mname

  -- a handler goes to an instruction
  method_sound : (c i : ℕ) (me : Meth) → HasMethod lay c i me → (q x to : ℕ)
      → handled env (labelled (lay.number c) (lay.method_at c i)).items (labelled (lay.number c)
      (lay.method_at c i)).handlers q x ≡ Some to
      → (stands (labelled (lay.number c) (lay.method_at c i)).items (pos to) ≡ true) × (1 ≤
      (labelled (lay.number c) (lay.method_at c i)).max_stack)
  method_sound c i me is q x to e =
      let co = compiled.methods c i me is in
      let D = labelled (lay.number c) (lay.method_at c i) in
      let h : Here D 0 (body_code w me.body) = record {
        at = co.items;
        fits = (let z = ap length
            co.items in omega (arith, z));
      } in
      goes_sound env D D.handlers q x to
      (subst (λ hs. AllGo env D hs) (sym co.handlers_are)
      (all_go env D w (body_distinct w D me.body co.items) lay me.types me.many me.result me.body
      no_loop 0 0 false (first_set (length (given_types c me)))
      (ending (completes me.body)) [] co.typed h tt))
      e

  sound : IsSound Mach
  sound x a b q to e = pick (compiled.others a b) e
    where
      pick : ((labelled a b).handlers ≡ []) ⊎ ((c i : ℕ) × (me : Meth) × HasMethod lay c i me ×
          (lay.number c ≡ a) × (lay.method_at c i ≡ b))
          → handled env (labelled a b).items (labelled a b).handlers q x ≡ Some to
          → (stands (labelled a b).items (pos to) ≡ true) × (1 ≤ (labelled a b).max_stack)
      pick (inl h) e = no_some to (sym (ap (λ hs. handled env (labelled a b).items hs q x) h) ∙ e)
      pick (inr z) e =
          subst (λ b. (handled env (labelled a b).items (labelled a b).handlers q x ≡ Some to
          → (stands (labelled a b).items (pos to) ≡ true) × (1 ≤ (labelled a b).max_stack))) z.5
          (subst (λ a. (handled env (labelled a (lay.method_at z.0 z.1)).items (labelled a
          (lay.method_at z.0 z.1)).handlers q x ≡ Some to
          → (stands (labelled a (lay.method_at z.0 z.1)).items (pos to) ≡ true) × (1 ≤
          (labelled a (lay.method_at z.0 z.1)).max_stack))) z.4
          (method_sound z.0 z.1 z.2 z.3 q x to)) e

  module _ (lines : List ChannelInput) (a : Areas) (fit : Begins env w lay t lines a) where
    abbrev me : Meth
    me = (compiled.main).0

    abbrev first : Rattle.par_step_laws.specs.State.State
    first = begins Mach (lay.number t.main) (lay.method_at t.main (main_of t)) me.many a

    ended : (k : ℕ) (g : Told) → ((n : ℕ) → g n ≡ record { events = []; ending = End })
        → Matches Mach k 1 (Ends End) g
    ended k g e = let r = ends_rule Mach k 1 End (omega arith) in record {
      reach = λ n. let b = r.reach n in (b.0, b.1, b.2 ∙ ap shown_run (sym (e n)));
      front = λ i q. let b = r.front i q in (
        b.0,
        subst (λ x. IsFrontOf (onward Mach (Ends End) i)
            x) (sym (e b.0)) b.1,
      );
    }

    -- what is thrown out of the last method ends the run
    out_of : (k x n : ℕ) (v : MVal) (s : State) (b : Areas)
        → Rattle.par_evaluation_laws.specs.Laid.IsThrown lay x
        → Matches Mach k 1 (Rattle.par_step_laws.specs.Step.thrown_to env.names
        (value.Ref (lay.number x) n) (lay.number x) (gen.caught Mach (lay.number x) []) b)
        (final t (Thrown x) v s)
    unfolding gen.caught
    out_of k x n v s b th =
        subst (λ y. Matches Mach k 1 (Ends (Uncaught y)) (final t (Thrown x) v s))
        (sym ((compiled.lays).thrown_named x th))
        (subst (λ (o : Option Name). Matches Mach k 1 (Ends (Uncaught (w.class x)))
        (λ n. record { events = []; ending = uncaught o }))
        (sym ((compiled.lays).thrown_source x th))
        (ends_rule Mach k 1 (Uncaught (w.class x)) (omega arith)))

    main_matches : (depth k : ℕ) → k ≤ depth
        → Matches Mach k 3 (turn Mach first) (method t bodies depth t.main (main_of t) (final t)
        (start t lines))
    main_matches depth k le =
        let s = start t lines in
        subst (λ (r : Rests). Matches Mach k 3 (turn Mach first)
        (method t bodies depth t.main (main_of t) r s)) (leave_final t s.locals s.result)
        (enters_ok env labelled mname w lay t bodies compiled.lays sound compiled.inits
        compiled.methods depth t.main (main_of t) me (compiled.main).1 k 1 [] [] (λ x. ty.Void)
        0 (λ c. 0) [] s
        (record a { locals = []; operands = [] }) (final t) le
        (subst (λ us. AllTyped lay s.births us []) (sym (compiled.main).2) tt) fit
        (record {
          nothing_back = λ hs set s2 a2 ev fit2. ended k _ (λ n. refl);
          value_back = λ hs set v s2 a2 nv hv fit2. ended k _ (λ n. refl);
          thrown_back = λ x n set s2 a2 th fit2. out_of k x n nothing s2 a2 th;
        }))

    reaches : (n : ℕ) → (m : ℕ) × (m ≤ 16 * n + 16) × (run Mach m first ≡ shown_run (run_of t
        bodies lines n))
    reaches n =
        let b = (main_matches (suc n) n (omega arith)).reach n in
        (b.0, omega (arith, b.1), sym (onward-run Mach first b.0) ∙ b.2)

    fronts : (m : ℕ) → (n : ℕ) × IsFrontOf (run Mach m first) (run_of t bodies lines n)
    fronts m =
        let b = (main_matches (suc m) m (omega arith)).front m (omega arith) in (
          m + b.0,
          subst (λ r. IsFrontOf r (run_of t bodies lines (m + b.0))) (onward-run Mach first m)
              (front_on _ _ _ b.1 (longer.deeper_runs_extend t bodies t.main (main_of t)
              (start t lines) (suc m) (suc (m + b.0)) b.0 (m + b.0) (omega arith)
              (omega arith))),
        )

    shows : ShowsRuns (λ m. run Mach m first) (run_of t bodies lines)
    shows = record {
      reach = reaches;
      front = fronts;
      never_bad = λ m. let b = fronts m in fine_ending (run Mach m first).ending (λ ne. (
        (run_of t
            bodies lines b.0).ending,
        ap (λ (q : Ran). q.ending) ((b.1).whole ne),
      ));
    }

pub labelled_code_shows : LabelledCodeShows
labelled_code_shows env labelled mname w lay t bodies compiled lines a fit = shows env labelled
    mname w lay t bodies compiled lines a fit
