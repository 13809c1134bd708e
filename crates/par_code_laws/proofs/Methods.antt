-- A call of a method shows the run of its body.
use Rattle.par_evaluation_laws.specs.Laid.{HasMethod}
use Rattle.std.proofs.Common.{◌≡◌, ℕ, zero, suc, ◌+◌, ◌-◌, ◌≤◌, ◌<◌, Bool, true, false, not, List}
use Rattle.std.proofs.Common.{[], ◌∷◌, ◌++◌}
use Rattle.std.proofs.Common.{length, map, replicate, Option, Some, None, refl, ap, sym, ◌∙◌, subst}
use Rattle.std.proofs.Common.{arith, IsTrue, inl, inr, ◌⊎◌}
use Rattle.std.specs.Prelude.{is_none, nat_eq}
use Rattle.std.specs.List.{slice_get}
use Rattle.std.proofs.lemmas.Bool.{or_cases, eqb-true}
use Rattle.par_policy.specs.Numbers.{has}
use Rattle.par_instr.specs.declared.instr.Instr.TheVariants as instr
use Rattle.par_typed.specs.declared.ty.Ty.{Ty}
use Rattle.par_typed.specs.declared.ty.Ty.TheVariants as ty
use Rattle.par_typed.specs.declared.table.Table.{Table}
use Rattle.par_typed.specs.Plain.{Body}
use Rattle.par_completes.specs.Typed.{completes}
use Rattle.par_values.specs.declared.value.MVal.{MVal}
use Rattle.par_values.specs.declared.value.MVal.TheVariants as value
use Rattle.par_values.specs.Areas.{Name, Areas, first_locals, local_value, value_or_null}
use Rattle.par_values.specs.Operations as op
use Rattle.par_values.specs.Effects.{effect}
use Rattle.par_run_laws.specs.State.{State, restored, entered}
use Rattle.par_run_laws.specs.Tasks.{Rests, leave, nothing}
use Rattle.par_run_laws.specs.Meaning.{go, method, within}
use Rattle.par_step_laws.specs.State as steps
use Rattle.par_evaluation_laws.specs.par_match_laws.Engine.{Program, turn}
use Rattle.par_code_form.specs.declared.item.Item.{Item}
use Rattle.par_code_form.specs.declared.item.Item.TheVariants.{Op}
use Rattle.par_code_form.specs.Code.{Words, ending, no_loop, body_code}
use Rattle.par_evaluation_laws.specs.par_match_laws.Labelled.{Labelled, Naming, handled, skip}
use Rattle.par_evaluation_laws.proofs.par_match_laws.Rules.{Matches, weaken, stopped_rule}
use Rattle.par_evaluation_laws.proofs.par_match_laws.Steps.{Lives, Here, IsSound, P, here}
use Rattle.par_evaluation_laws.proofs.par_match_laws.Steps.{leaves_turn}
use Rattle.par_evaluation_laws.specs.Laid.{Layout, Meth, moved, HasType}
use Rattle.par_evaluation_laws.specs.par_program_laws.Locals.{IsSet}
use Rattle.par_evaluation_laws.specs.Laid.{given_types}
use Rattle.par_evaluation_laws.specs.Agreement.{Lays, Fine}
use Rattle.par_evaluation_laws.proofs.Kept.{entered_fit}
use Rattle.par_evaluation_laws.specs.Programs.{Inits, Coded, callee, first_set, given_kind}
use Rattle.par_step_laws.specs.Step.{state_with}
use Rattle.par_code_laws.proofs.Labels.{body_distinct}
use Rattle.par_evaluation_laws.proofs.Parts.{Setting, Enters, Back, AllTyped, with}
use Rattle.par_code_laws.proofs.Stmts.{stmt_ok}

never : {A : Type 0} → false ≡ true → A
never e = cc

first_below : (n x : ℕ) → IsSet (first_set n) x → x < n
first_below zero x h = never h
first_below (suc n) x h = pick (first_below n x) (or_cases (nat_eq n x) (has (first_set n) x) h)
  where
    pick : (IsSet (first_set n) x → x < n) → IsTrue (nat_eq n x) ⊎ IsTrue (has (first_set n) x)
        → x < suc n
    pick ih (inl e) = let q = eqb-true n x e in omega (arith, q)
    pick ih (inr r) = let q = ih r in omega (arith, q)

ending_lives : (b : Bool) → b ≡ true → Lives (ending b)
ending_lives true e = tt
ending_lives false e = cc

-- where the values of a call lie
given_at : (lay : Layout) (b : ℕ → ℕ) (us : List Ty) (vs : List MVal) (zs : List (Option MVal))
    (x : ℕ) (u : Ty)
    → AllTyped lay b us vs → slice_get us x ≡ Some u
    → (local_value (slice_get (map Some (map (moved lay) vs) ++ zs) x) ≡ Some (moved lay
    (value_or_null (slice_get vs x))))
    × HasType lay b u (value_or_null (slice_get vs x))
given_at lay b [] vs zs x u h e = cc
given_at lay b (z ∷ us) [] zs x u h e = absurd h
given_at lay b (z ∷ us) (v ∷ vs) zs zero u h e = (
  refl,
  subst (λ u. HasType lay b u v)
      (grind (arith, e)) h.0,
)
given_at lay b (z ∷ us) (v ∷ vs) zs (suc x) u h e = given_at lay b us vs zs x u h.1 e

given_many : (lay : Layout) (b : ℕ → ℕ) (us : List Ty) (vs : List MVal) → AllTyped lay b us vs
    → length us ≡ length vs
given_many lay b [] [] h = refl
given_many lay b [] (v ∷ vs) h = absurd h
given_many lay b (u ∷ us) [] h = absurd h
given_many lay b (u ∷ us) (v ∷ vs) h = ap suc (given_many lay b us vs h.1)

replicate_length : {A : Type 0} (n : ℕ) (x : A) → length (replicate n x) ≡ n
replicate_length zero x = refl
replicate_length (suc n) x = ap suc (replicate_length n x)

first_length : (mvs : List MVal) (many : ℕ) → length mvs ≤ many
    → length (first_locals many mvs) ≡ many
first_length mvs many le =
    more mvs (many - length mvs) ∙ omega (arith, le)
  where
    more : (vs : List MVal) (n : ℕ) → length (map Some vs ++ replicate n None) ≡ length vs + n
    more [] n = replicate_length {A = Option MVal} n None ∙ omega arith
    more (v ∷ vs) n = let e = more vs n in omega (arith, e)

moved_length : (lay : Layout) (vs : List MVal) → length (map (moved lay) vs) ≡ length vs
moved_length lay [] = refl
moved_length lay (v ∷ vs) = ap suc (moved_length lay vs)

module _ (env : Naming) (labelled : ℕ → ℕ → Labelled) (mname : ℕ → ℕ
    → Name) (w : Words) (lay : Layout) (t : Table) (bodies : List Body) where
  module _ (lays : Lays env w lay t) (sound : IsSound (P env labelled mname))
      (inits : Inits labelled lay)
      (coded : (c i : ℕ) (me : Meth) → HasMethod lay c i me
      → Coded labelled w lay bodies c i me) where
    abbrev Mach : Program
    Mach = P env labelled mname

    -- the end of a body that control leaves at its end
    last_ok : (c i : ℕ) (me : Meth) (b : Bool) (k d q : ℕ) (gs : List steps.Frame) (s s2 : State)
        (a2 : Areas) (set : List ℕ) (rest : Rests)
        → b ≡ true → me.result ≡ ty.Void → (labelled (lay.number c)
        (lay.method_at c i)).gives ≡ given_kind w me.result
        → Here (labelled (lay.number c) (lay.method_at c i)) q (ending b)
        → Fine env w lay t me.types me.many s.births set s2 a2
        → Back env labelled mname w lay t k d gs me s rest
        → Matches Mach k (d + 1) (turn Mach (here env labelled mname (lay.number c)
        (lay.method_at c i) gs (skip (ending b) q) (with a2 [])))
        (rest Rattle.par_run_laws.specs.Tasks.Normal s2.result (restored s.locals s.result s2))
    unfolding effect
    last_ok c i me true k d q gs s s2 a2 set rest e ev gives h fit back =
        let none_is : (labelled (lay.number c) (lay.method_at c i)).gives ≡ None = gives
        ∙ ap (given_kind w) ev in
        subst (λ y. Matches Mach k (d + 1) y (rest Rattle.par_run_laws.specs.Tasks.Normal s2.result
        (restored s.locals s.result s2)))
        (sym (leaves_turn env labelled mname (lay.number c)
        (lay.method_at c i) gs q (Op instr.Return) [] op.Leave (with a2 []) h refl
        (record {
          enough = omega arith;
          fits = refl;
          short = omega arith;
          placed = refl;
          named = refl;
          agrees = refl;
          used = refl;
          stays = λ x g r. refl;
          comes = λ x gn r. ap not (gn ∙ ap is_none none_is);
        }) refl))
        (weaken Mach k k d (d + 1) _ _ (omega arith) (omega arith)
        (back.nothing_back _ set s2 (with a2 []) ev fit))
    last_ok c i me false k d q gs s s2 a2 set rest e ev gives h fit back = cc

    pub enters_ok : (depth : ℕ) → Enters env labelled mname w lay t (method t bodies depth) depth
    unfolding method
    enters_ok zero c i me is k d gs vs tys many base set s a rest le ht fit back = stopped_rule
        Mach k (d + 2) _ le
    enters_ok (suc depth) c i me is k d gs vs tys many base set s a rest le ht fit back =
        let co = coded c i me is in
        let C = labelled (lay.number c) (lay.method_at c i) in
        let tail = ending (completes me.body) in
        let us = given_types c me in
        let set1 = first_set (length us) in
        let mvs = map (moved lay) vs in
        let fitting = lays.method_room c i me is in
        let many_is = given_many lay s.births us vs ht in
        let moved_is = moved_length lay vs in
        let held = first_locals me.many mvs in
        let a1 : Areas = record a { locals = held; operands = [] } in
        let rest1 = leave s.locals s.result rest in
        let s1 = entered vs s in
        let here0 : Here C 0 (body_code w me.body) = record {
          at = co.items;
          fits = (let e = ap
              length co.items in omega (arith, e));
        } in
        let fit1 : Fine env w lay t me.types me.many s.births set1 s1 a1 =
        entered_fit env w lay t tys many base set me.types me.many set1 s a (λ x. value_or_null
        (slice_get vs x)) value.Null held []
        (first_length mvs me.many (omega (arith, fitting, many_is, moved_is)))
        (λ x y. given_at lay s.births us vs _ x (me.types x) ht (co.locals x (first_below (length
        us) x y))) fit in
        let setting : Setting = record {
          env = env;
          labelled = labelled;
          mname = mname;
          w = w;
          lay = lay;
          t = t;
          run = method t
              bodies depth;
          cls = lay.number c;
          mth = lay.method_at c i;
          fs = gs;
          tys = me.types;
          many = me.many;
          base = s.births;
          depth = depth;
          lays = lays;
          sound = sound;
          ds = body_distinct w C me.body co.items;
          enters = enters_ok
              depth;
          inits = inits;
        } in
        subst (λ o. Matches Mach k (d + 2) (turn Mach (state_with (callee Mach (lay.number c)
        (lay.method_at c i) me.many mvs ∷ gs) a)) (within t (method t bodies depth)
        (suc depth) o rest1 s1)) (sym co.body_is)
        (subst (λ (q : ℕ). Matches Mach k (d + 2)
        (turn Mach (here env labelled mname (lay.number c) (lay.method_at c i) gs q a1))
        (go t (method t bodies depth) (suc depth) me.body rest1 s1))
        (sym (ap (λ (ys : List Item). skip ys 0) co.items))
        (weaken Mach k k (d + 1) (d + 2) _ _ (omega arith) (omega arith)
        (stmt_ok setting me.result co.gives
        me.body false no_loop 0 k (d + 1) 0 set1 tail [] rest1 s1 a1 co.typed fit1 le (λ e.
        ending_lives (completes me.body) e) here0
        (λ q x y. ap (λ hs. handled env C.items hs q x) co.handlers_are)
        (λ e q hq s2 a2 fit2. last_ok c i me (completes me.body) k d q gs s s2 a2 _ rest e (co.ends
        e) co.gives hq fit2 back)
        (record {
          broken = λ y e s2 a2 fit2. never y;
          continued = λ y s2 a2 fit2. never y;
          returns = λ q s2 a2 er fit2. weaken Mach k k d (d + 1) _ _ (omega arith) (omega arith)
              (back.nothing_back _ set1 s2 (with a2 []) er fit2);
          gives_back = λ q os v s2 a2 nv hv fit2. weaken Mach k k d (d + 1) _ _ (omega arith)
              (omega arith) (back.value_back _ set1 v s2 (with a2 os) nv hv fit2);
          lands = λ q x n v s2 a2 y th fit2. weaken Mach k k d (d + 1) _ _ (omega arith)
              (omega arith) (back.thrown_back x n set1 s2 a2 th fit2);
          out_stands = λ y e. never y;
          again_stands = λ y. never y;
        }))))
