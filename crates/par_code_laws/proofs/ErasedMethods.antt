-- Bodies of methods without policies, however deep calls go.
use Rattle.std.proofs.Common.{◌≡◌, ℕ, zero, suc, ◌+◌, ◌<◌, Bool, true, false, inl, inr}
use Rattle.std.proofs.Common.{cond, List, [], ◌∷◌, ◌++◌, Option, Some, None, map, length}
use Rattle.std.proofs.Common.{option_map}
use Rattle.std.proofs.Common.{refl, ap, sym, ◌∙◌, subst, arith}
use Rattle.std.specs.Prelude.{slice_get, IsTrue, nat_eq}
use Rattle.std.specs.List.{range_with_len, AllByRecursion}
use Rattle.std.proofs.lemmas.Bool.{eqb-true}
use Rattle.std.proofs.lemmas.List.{length-map}
use Rattle.par_policy.specs.Numbers.{has}
use Rattle.par_typed.specs.declared.table.MethodInfo.{MethodInfo}
use Rattle.par_typed.specs.declared.table.ParamInfo.{ParamInfo}
use Rattle.par_typed.specs.declared.table.Table.{Table}
use Rattle.par_typed.specs.Plain.{TSta, Body}
use Rattle.par_typed.specs.Members.{method_at}
use Rattle.par_program_laws.specs.Locals.{arrivals, set_by_call, arriving_sure, BeginsWith}
use Rattle.par_program_laws.specs.Forms.{Setting}
use Rattle.par_program_laws.specs.Proper.{IsProperOf, IsProper}
use Rattle.par_typed_laws.specs.Bodied.{AreBodiesOf}
use Rattle.par_run_laws.specs.Names.{body_of}
use Rattle.par_run_laws.specs.Tasks.{Task, nothing}
use Rattle.par_run_laws.specs.Meaning.{Calls, go, within, method}
use Rattle.par_erase.specs.Asked.{Locks, asks, asked_in}
use Rattle.par_erase.specs.Erased.{erased_table, erased_bodies, erased_sta}
use Rattle.par_alike.proofs.LockSets.{or_cases}
use Rattle.par_code_laws.proofs.Tasks.{Locals, Does, does_of, does_gives}
use Rattle.par_code_laws.proofs.Exps.{Arrived, Pairs, Holds}
use Rattle.par_code_laws.proofs.Stas.{Within, sta_does}
use Rattle.par_code_laws.proofs.Bodies.{body_found, same_body}

-- ---- what a call sets

-- one of these numbers is below their end
below : (a n j : ℕ) → IsTrue (has (range_with_len a n) j) → j < a + n
below a zero j h = absurd cc
below a (suc n) j h =
    elim (or_cases (nat_eq a j) (has (range_with_len (a + 1) n) j) h) [
      | inl e ↦ let at = eqb-true a j e in omega (arith, at)
      | inr later ↦ let less = below (a + 1) n j later in omega (arith, less)
    ]

-- there are as many as arrive
many_arrive : (m : MethodInfo) → length (arriving_sure m) ≡ arrivals m
many_arrive m = by_kind m.is_static
  where
    by_kind : (b : Bool) → length (cond b [] (true ∷ []) ++ map (λ p. p.notnull) m.params)
        ≡ cond b (length m.params) (suc (length m.params))
    by_kind true = length-map m.params (λ (p : ParamInfo). p.notnull)
    by_kind false = ap suc (length-map m.params (λ (p : ParamInfo). p.notnull))

-- an item that stands in the front of a list
in_front : {X : Type 0} (xs ys : List X) (i : ℕ) (x : X) → i < length xs
    → slice_get (xs ++ ys) i ≡ Some x → slice_get xs i ≡ Some x
in_front [] ys i x less e = absurd (omega arith)
in_front (z ∷ xs) ys zero x less e = e
in_front (z ∷ xs) ys (suc i) x less e = in_front xs ys i x (omega arith) e

-- what arrives holds objects where the body is entered
arrived_holds : (st : Setting) (asked_for : Locks)
    → BeginsWith (arriving_sure st.method) st.sures → (x : Locals)
    → Arrived (arriving_sure st.method) x → Holds st asked_for (set_by_call st.method) x
arrived_holds st asked_for begins x h j set sure =
    let less = below 0 (arrivals st.method) j set in
    let many = many_arrive st.method in
    h j
    (in_front (arriving_sure st.method) begins.0 j true (omega (arith, less, many))
    (ap (λ sures. slice_get sures j) (sym begins.1) ∙ sure))

module _ (t : Table) (bodies : List Body) (each : AreBodiesOf t bodies)
    (proper : AllByRecursion (IsProper t) bodies) where
  -- what is known where a method is entered, and behind it
  abbrev Enters : MethodInfo → Task → Task → Type 0
  Enters m c d =
      Does t (asked_in bodies) (Arrived (arriving_sure m)) (λ v x. Unit {0}) (λ x. Unit {0}) c d

  does_body : (run run' : Calls) → Pairs t (asked_in bodies) run run' → (turns : ℕ) (b : Body)
      (m n : MethodInfo) (sures : List Bool) → IsProperOf t b m sures
      → Within (asks b.body) (asked_in bodies) → m ≡ n
      → Enters n (go t run turns b.body)
      (go (erased_table t) run' turns (erased_sta t (asked_in bodies) b.body))
  does_body run run' pairs turns b m n sures p within same =
      let st : Setting = record { table = t; class = b.class; method = m; sures = sures } in
      subst (λ n. Enters n (go t run turns b.body)
      (go (erased_table t) run' turns (erased_sta t (asked_in bodies) b.body))) same
      (does_of t (asked_in bodies) (Arrived (arriving_sure m))
      (Holds st (asked_in bodies) (set_by_call m)) _ (λ v x. Unit {0}) _ (λ x. Unit {0}) _ _
      (arrived_holds st (asked_in bodies) p.arrive_sure) (λ v x q. tt) (λ x q. tt)
      (sta_does st (asked_in bodies) run run' pairs turns b.body false (set_by_call m) p.code
      within))

  does_within : (run run' : Calls) → Pairs t (asked_in bodies) run run' → (turns c k : ℕ)
      (m : MethodInfo) → method_at t c k ≡ Some m → (o : Option TSta) → body_of bodies c k ≡ o
      → Enters m (within t run turns o)
      (within (erased_table t) run' turns (option_map (erased_sta t (asked_in bodies)) o))
  does_within run run' pairs turns c k m there None e =
      does_gives t (asked_in bodies) _ _ _ nothing (λ x q. tt)
  does_within run run' pairs turns c k m there (Some s) e =
      let f = body_found (IsProper t) bodies proper c k s e in
      let p = f.holds in
      let own : Some p.0 ≡ Some m =
      sym p.2.method ∙ ap (λ c. method_at t c f.body.method) f.class
      ∙ ap (λ k. method_at t c k) f.method ∙ there in
      subst (λ s. Enters m (go t run turns s)
      (go (erased_table t) run' turns (erased_sta t (asked_in bodies) s))) f.is
      (does_body run run' pairs turns f.body p.0 m p.1 p.2 f.within cc)

  -- however deep calls go
  pub methods_pair : (depth : ℕ)
      → Pairs t (asked_in bodies) (method t bodies depth)
      (method (erased_table t) (erased_bodies t bodies) depth)
  unfolding method
  methods_pair zero c k m there = record {
    at = λ f g r. record { at = λ s i l n p a. record { shown = refl; ending = refl } };
  }
  methods_pair (suc depth) c k m there =
      subst (λ o. Enters m
      (within t (method t bodies depth) (suc depth) (body_of bodies c k))
      (within (erased_table t) (method (erased_table t) (erased_bodies t bodies) depth)
      (suc depth) o)) (sym (same_body t bodies each c k))
      (does_within (method t bodies depth)
      (method (erased_table t) (erased_bodies t bodies) depth) (methods_pair depth) (suc depth) c k
      m there (body_of bodies c k) refl)
