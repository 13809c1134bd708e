-- The code of a `try` and of its catches shows their run.
use Rattle.par_evaluation_laws.specs.Laid.{IsThrown}
use Rattle.std.proofs.Common.{◌≡◌, ℕ, suc, ◌+◌, ◌-◌, ◌≤◌, ◌<◌, Bool, true, false, ◌||◌, List, []}
use Rattle.std.proofs.Common.{◌∷◌}
use Rattle.std.proofs.Common.{Option, Some, refl, ap, sym, ◌∙◌, subst, arith}
use Rattle.std.specs.Prelude.{◌==◌, if◌then◌else◌, cond}
use Rattle.std.proofs.lemmas.Bool.{eq-eqb, ne_eqb}
use Rattle.par_typed.specs.declared.ty.Ty.{Ty}
use Rattle.par_typed.specs.declared.table.Table.{Table}
use Rattle.par_values.specs.declared.value.MVal.{MVal}
use Rattle.par_values.specs.declared.value.MVal.TheVariants as value
use Rattle.par_values.specs.Areas.{Name, Areas}
use Rattle.par_values.specs.Operations.{Discard}
use Rattle.par_values.specs.Effects.{effect}
use Rattle.par_run_laws.specs.State.{State}
use Rattle.par_step_laws.specs.State as steps
use Rattle.par_step_laws.specs.Step.{Turn}
use Rattle.par_evaluation_laws.specs.par_match_laws.Engine.{Program, turn}
use Rattle.par_evaluation_laws.specs.par_match_laws.Engine as gen
use Rattle.par_code_form.specs.declared.item.Item.{Item}
use Rattle.par_code_form.specs.declared.item.Item.TheVariants.{Label, Op}
use Rattle.par_code_form.specs.declared.labelled.Handler.{Handler}
use Rattle.par_evaluation_laws.specs.par_match_laws.Labelled.{Labelled, Naming, target}
use Rattle.par_evaluation_laws.proofs.par_match_laws.Rules.{Told}
use Rattle.par_evaluation_laws.proofs.par_match_laws.Steps.{Lives, Here, next, Distinct, P, here}
use Rattle.par_evaluation_laws.proofs.par_match_laws.Steps.{frame}
use Rattle.par_evaluation_laws.proofs.par_match_laws.Steps.{on, target_is}
use Rattle.par_evaluation_laws.specs.Agreement.{Lays}
use Rattle.std.proofs.Common.{inl, inr, ◌⊎◌}
use Rattle.std.proofs.lemmas.Bool.{or_right}
use Rattle.par_instr.specs.declared.instr.Instr.TheVariants.{Pop}
use Rattle.par_typed.specs.Plain.{TSta, Try}
use Rattle.par_typed.specs.Plain.{TCatches, NoCatch, Catch}
use Rattle.par_run_laws.specs.Tasks.{Thrown, Rests, Task, nothing}
use Rattle.par_run_laws.specs.Meaning.{Calls, go}
use Rattle.par_completes.specs.Typed.{completes, some_catch_completes}
use Rattle.par_completes.specs.Typed.{breaks, some_catch_breaks}
use Rattle.std.proofs.lemmas.Bool.{cases_eq}
use Rattle.std.proofs.lemmas.Bool.{or_left}
use Rattle.par_step_laws.specs.Handlers.{caught_by}
use Rattle.par_step_laws.specs.Step.{thrown_to}
use Rattle.par_run_laws.specs.Tasks.{caught}
use Rattle.par_run_laws.specs.Meaning.{go_catch}
use Rattle.par_evaluation_laws.proofs.par_match_laws.Rules.{next_rule}
use Rattle.par_evaluation_laws.specs.par_match_laws.Labelled.{spot, handled}
use Rattle.par_evaluation_laws.specs.Laid.{TypedCatches}
use Rattle.par_code_form.specs.Code.{goes_on, catch_code}
use Rattle.par_code_form.specs.Code.{handlers, catch_handlers}
use Rattle.par_code_laws.proofs.Handlers.{outside, catch_outside, passed_over, covering}
use Rattle.par_code_laws.proofs.Spans.{goes_grows, goes_lives, goes_ends, catch_grows, catch_ends}
use Rattle.par_evaluation_laws.proofs.Parts.{Setting}
use Rattle.par_code_form.specs.Code.{Words, Loop, labels, code}
use Rattle.par_evaluation_laws.specs.Laid.{Layout, TypedS, behind}
use Rattle.par_code_laws.proofs.Spans.{grows, lives, ends}
use Rattle.par_evaluation_laws.proofs.Parts.{with, M, at, Fit, wider}
use Rattle.par_code_laws.proofs.Exits.{Catches, Holds', Normally, Sides, alike, behind_more}
use Rattle.par_code_laws.proofs.Exits.{label_stands, landed, less, same_hs, same_set, sides_on}
use Rattle.par_code_laws.proofs.Exits.{spend}
use Rattle.par_code_laws.proofs.Exits.{to_label, went, wk}

module _ (ctx : Setting) (result : Ty) where
  abbrev env : Naming
  env = ctx.env

  abbrev labelled : ℕ → ℕ → Labelled
  labelled = ctx.labelled

  abbrev mname : ℕ → ℕ → Name
  mname = ctx.mname

  abbrev w : Words
  w = ctx.w

  abbrev lay : Layout
  lay = ctx.lay

  abbrev t : Table
  t = ctx.t

  abbrev run : Calls
  run = ctx.run

  abbrev cls : ℕ
  cls = ctx.cls

  abbrev mth : ℕ
  mth = ctx.mth

  abbrev fs : List steps.Frame
  fs = ctx.fs

  abbrev tys : ℕ → Ty
  tys = ctx.tys

  abbrev many : ℕ
  many = ctx.many

  abbrev depth : ℕ
  depth = ctx.depth

  abbrev lays : Lays env w lay t
  lays = ctx.lays

  abbrev ds : Distinct (labelled cls mth)
  ds = ctx.ds

  abbrev fuel : ℕ
  fuel = suc depth

  abbrev C : Labelled
  C = labelled cls mth

  abbrev N : ℕ → ℕ → Turn → Told → Type 0
  N = M ctx

  abbrev pos_of : ℕ → Areas → List MVal → Turn
  pos_of = at ctx

  abbrev Fits' : List ℕ → State → Areas → Type 0
  Fits' = Fit ctx

  abbrev Machine : Program
  Machine = P env labelled mname

  -- the code of catches, in front of their end
  abbrev pub catches_code : TCatches → Loop → ℕ → ℕ → List Item → List Item
  catches_code cs l n j xs = catch_code w cs l (n + 2) j (Label (n + 2) ∷ xs)

  -- what is thrown in a block goes to its catches, and else on
  abbrev pub HoldsCatches : TCatches → Type 0
  HoldsCatches cs =
      (inside : Bool) (l : Loop) (n j k c p z0 : ℕ) (set : List ℕ) (xs : List Item)
      (hs : List Handler) (rest : Rests)
      → TypedCatches lay tys many C.max_stack result inside set cs → k ≤ fuel
      → (some_catch_completes cs ≡ true → Lives xs)
      → Here C p (catches_code cs l n j xs) → Here C z0 (Label (n + 2) ∷ xs)
      → spot C.items (n + 1) ≤ p → Catches ctx result p (Label (n + 2) ∷ xs)
      (catch_handlers w cs n j hs)
      → (some_catch_completes cs ≡ true → Normally ctx result k c xs set rest)
      → Sides ctx result k c p xs l inside (some_catch_breaks cs) set hs rest
      → (q x m : ℕ) (v : MVal) (s : State) (a : Areas) → IsThrown lay x → Fits' set s a
      → spot C.items n ≤ q → q < spot C.items (n + 1)
      → N k (c + 16) (landed ctx result hs q x m a) (rest (Thrown x) nothing s)
      → N k (c + 16) (landed ctx result (catch_handlers w cs n j hs) q x m a)
      (go_catch t run fuel cs x rest s)

  pub no_catch : HoldsCatches NoCatch
  unfolding go handlers
  no_catch inside l n j k c p z0 set xs hs rest tp le lv h hz behind_block catches normal z q x m v
      s a is fit low high past = past

  pub same_class : (d x : ℕ) → IsThrown lay d → IsThrown lay x
      → (env.number (w.class d) == lay.number x) ≡ (d == x)
  same_class d x hd hx = ap (λ y. y == lay.number x) (lays.thrown_number d hd) ∙ pick (cases_eq d x)
    where
      pick : (d ≡ x) ⊎ (d ≡ x → ⊥) → (lay.number d == lay.number x) ≡ (d == x)
      pick (inl e) = eq-eqb _ _ (ap lay.number e) ∙ sym (eq-eqb d x e)
      pick (inr ne) = ne_eqb _ _ (λ e. ne (lays.thrown_one d x hd hx e)) ∙ sym (ne_eqb d x ne)

  -- taken by a class, or not
  pub taken_or : (k c : ℕ) (b : Bool) (to q x m : ℕ) (o : Option ℕ) (a : Areas) (one other : Told)
      → N k c (thrown_to env.names (value.Ref (lay.number x) m) (lay.number x)
      (caught_by (Some to) (frame env labelled mname cls mth fs q a) fs (gen.caught Machine
      (lay.number x) fs)) a) one
      → N k c (thrown_to env.names (value.Ref (lay.number x) m) (lay.number x)
      (caught_by o (frame env labelled mname cls mth fs q a) fs (gen.caught Machine (lay.number
      x) fs)) a) other
      → N k c (thrown_to env.names (value.Ref (lay.number x) m) (lay.number x)
      (caught_by (if b then Some to else o)
      (frame env labelled mname cls mth fs q a) fs (gen.caught Machine (lay.number x) fs)) a)
      (cond b one other)
  taken_or k c true to q x m o a one other h r = h
  taken_or k c false to q x m o a one other h r = r

  pub choose_catch : {z : Turn} {k c : ℕ} (b : Bool) (one other : Task) (rest : Rests) (s : State)
      → N k c z (cond b (one rest s) (other rest s)) → N k c z ((if b then one else other) rest s)
  choose_catch true one other rest s h = h
  choose_catch false one other rest s h = h

  pub one_catch : (d : ℕ) (s1 : TSta) (cs : TCatches) → Holds' ctx result s1 → HoldsCatches cs
      → HoldsCatches (Catch d s1 cs)
  unfolding go code handlers TypedS completes breaks effect
  one_catch d s1 cs ihs ihcs inside l n j k c p z0 set xs hs rest tp le lv h hz behind_block
      catches normal z q x m v s a is fit low high past =
      let i = labels s1 (j + 1) in
      let ws = Label (n + 2) ∷ xs in
      let zs = catches_code cs l n i xs in
      let ys = goes_on (completes s1) (n + 2) zs in
      let us = code w s1 l (j + 1) ys in
      let hb = catch_handlers w cs n i hs in
      let b1 = breaks s1 in
      let b2 = some_catch_breaks cs in
      let h1 : Here C (suc p) (Op Pop ∷ us) = next C h in
      let h2 : Here C (suc (suc p)) us = next C h1 in
      let e1 = ends w C s1 l (j + 1) (suc (suc p)) ys h2 in
      let g = goes_ends C (completes s1) (n + 2) e1.0 zs e1.1 in
      let g1 = grows w s1 l (j + 1) ys in
      let g2 = goes_grows (completes s1) (n + 2) zs in
      let g3 = catch_grows w cs l (n + 2) i ws in
      let f2 = h2.fits in
      let fg = (g.2).fits in
      let f0 = h.fits in
      let own : Handler = record { from = n; to = n + 1; goes = j; class = w.class d } in
      let inner_hs = handlers w s1 (j + 1) hb in
      let lu : Lives us = lives w s1 l (j + 1) ys (λ e. goes_lives (completes s1) (n + 2) zs e) in
      let up : p ≤ g.0 = omega (arith, f0, fg, g1, g2) in
      let room = tp.1 in
      let ref = value.Ref (lay.number x) m in
      subst (λ (o : Option ℕ). N k (c + 16) (thrown_to env.names ref (lay.number x)
      (caught_by o (frame env labelled mname cls mth fs q a) fs (gen.caught Machine (lay.number
      x) fs)) a) ((if d == x then go t run fuel s1 else go_catch t run fuel cs x) rest s))
      (sym (covering env C own inner_hs q (lay.number x) low high))
      (choose_catch (d == x) (go t run fuel s1) (go_catch t run fuel cs x) rest s
      (subst (λ b. N k (c + 16) (thrown_to env.names ref (lay.number x)
      (caught_by (if env.number (w.class d) == lay.number x then Some (target C.items j) else
      handled env C.items inner_hs q (lay.number x))
      (frame env labelled mname cls mth fs q a) fs (gen.caught Machine (lay.number x) fs)) a)
      (cond b (go t run fuel s1 rest s) (go_catch t run fuel cs x rest s)))
      (same_class d x tp.0 is)
      (taken_or k (c + 16) (env.number (w.class d) == lay.number x)
      (target C.items j) q x m (handled env C.items inner_hs q (lay.number x)) a (go t run fuel
      s1 rest s) (go_catch t run fuel cs x rest s)
      (next_rule Machine k k (c + 12) (c + 16)
      (here env labelled mname cls mth fs (target C.items j)
      (with a (ref ∷ []))) _ (omega arith) (omega arith)
      (subst (λ y. N k (c + 12) (pos_of y a (ref ∷ [])) (go t run fuel s1 rest s))
      (sym (target_is C ds j p (Op Pop ∷ us) h))
      (on env labelled mname cls mth fs k (c + 8) (c + 12) (suc p)
      (Op Pop) us Discard (with a (ref ∷ [])) (with a []) _ (omega arith) h1 lu refl
      (record {
        enough = omega arith;
        fits = refl;
        short = omega (arith, room);
        placed = refl;
        named = refl;
        agrees = refl;
        used = refl;
        stays = λ x g r. refl;
        comes = λ x g r. refl;
      })
      refl
      (ihs inside l (j + 1) k (c + 8) (suc (suc p)) set ys hb rest s a tp.2 fit le (λ e. goes_lives
      (completes s1) (n + 2) zs e) h2
      (λ r y w'. catches r y (wider ctx w' (omega arith) (omega (arith, g2, g3)))
      ∙ passed_over env C own inner_hs r y (inr (let b = w'.low in omega (arith, b, behind_block))))
      (λ e r hr s4 a4 fit4.
      went ctx result (completes s1) k k c (c + 8) r (n + 2) zs a4 _ e (omega arith)
      (omega arith) hr (label_stands ctx result (n + 2) z0 xs hz (lv (or_left (completes s1)
      (some_catch_completes cs) e)))
      (to_label ctx result k c (n + 2) z0 xs a4 _ hz (normal (or_left (completes s1)
      (some_catch_completes cs) e) (suc z0)
      (next C hz) s4 a4 (less ctx result (behind set s1) set s4 a4 (behind_more ctx result set
      s1) fit4))))
      (sides_on ctx result k k c (c + 8) p (suc (suc p)) xs ys l inside (b1 || b2) b1 set set hs hb
      rest rest (omega arith) (omega arith) (omega arith) (omega (arith, g2, g3))
      (or_left b1 b2) (same_set ctx result set)
      (λ r y w'. catch_outside env C w ds cs l (n + 2) n i g.0 r y ws hs g.2 (inr (let b = w'.low
      in omega (arith, b, behind_block))) (inl (let b = w'.high in omega (arith, b, fg, g2))))
      (alike ctx result rest) z)))))
      (subst (λ (o : Option ℕ). N k (c + 16) (thrown_to env.names ref (lay.number x)
      (caught_by o (frame env labelled mname cls mth fs q a) fs (gen.caught Machine (lay.number
      x) fs)) a) (go_catch t run fuel cs x rest s))
      (sym (outside env C w ds s1 l (j + 1)
      (suc (suc p)) q (lay.number x) ys hb h2 (inl (omega (arith, high, behind_block)))))
      (ihcs inside l n i k c g.0 z0 set xs hs rest tp.3 le (λ e. lv (or_right (completes s1)
      (some_catch_completes cs) e)) g.2 hz (omega (arith, behind_block, up))
      (λ r y w'. catches r y (wider ctx w' up (omega arith))
      ∙ passed_over env C own inner_hs r y (inr (let b = w'.low in omega (
        arith,
        b,
        up,
        behind_block,
      )))
      ∙ outside env C w ds s1 l (j + 1) (suc (suc p)) r y ys hb h2 (inr (let b = w'.low in omega
      (arith, b, fg, g2))))
      (λ e. normal (or_right (completes s1) (some_catch_completes cs) e))
      (sides_on ctx result k k c c p g.0 xs xs l inside (b1 || b2) b2 set set hs hs rest rest
      (omega arith) (omega arith) up (omega arith)
      (or_right b1 b2) (same_set ctx result set) (same_hs ctx result hs g.0 xs)
      (alike ctx result rest) z)
      q x m v s a is fit low high past)))))

  pub try_ok : (s1 : TSta) (cs : TCatches) (y1 y2 : ℕ) → Holds' ctx result s1 → HoldsCatches cs
      → Holds' ctx result (Try s1 cs y1 y2)
  unfolding go code handlers TypedS completes breaks
  try_ok s1 cs y1 y2 ihs ihcs inside l n k c p set xs hs rest s a tp fit le lv h catches normal z =
      let j = labels s1 (n + 3) in
      let ws = Label (n + 2) ∷ xs in
      let zs = catches_code cs l n j xs in
      let ys = goes_on (completes s1) (n + 2) (Label (n + 1) ∷ zs) in
      let us = code w s1 l (n + 3) ys in
      let hb = catch_handlers w cs n j hs in
      let b1 = breaks s1 in
      let b2 = some_catch_breaks cs in
      let h1 : Here C (suc p) us = next C h in
      let e1 = ends w C s1 l (n + 3) (suc p) ys h1 in
      let g = goes_ends C (completes s1) (n + 2) e1.0 (Label (n + 1) ∷ zs) e1.1 in
      let h2 : Here C (suc g.0) zs = next C g.2 in
      let z0 = catch_ends w C cs l (n + 2) j (suc g.0) ws h2 in
      let g1 = grows w s1 l (n + 3) ys in
      let g2 = goes_grows (completes s1) (n + 2) (Label (n + 1) ∷ zs) in
      let g3 = catch_grows w cs l (n + 2) j ws in
      let f0 = h.fits in
      let f1 = h1.fits in
      let f2 = h2.fits in
      let fg = (g.2).fits in
      let starts : spot C.items n ≡ p = ds n p us h in
      let stops : spot C.items (n + 1) ≡ g.0 = ds (n + 1) g.0 zs g.2 in
      let up : p ≤ suc g.0 = omega (arith, f0, f2, g1, g2) in
      let r2 : Rests = caught (go_catch t run fuel cs) rest in
      spend ctx result k c _ _
      (ihs inside l (n + 3) k (c + 16) (suc p) set ys hb r2 s a tp.0 fit le (λ e. goes_lives
      (completes s1) (n + 2) (Label (n + 1) ∷ zs) e) h1
      (λ r x y. catches r x (wider ctx y (omega arith) (omega (arith, g2, g3))))
      (λ e r hr s4 a4 fit4.
      went ctx result (completes s1) k k c (c + 16) r (n + 2)
      (Label (n + 1) ∷ zs) a4 _ e (omega arith)
      (omega arith) hr (label_stands ctx result (n + 2) z0.0 xs z0.1 (lv (or_left (completes
      s1) (some_catch_completes cs) e)))
      (to_label ctx result k c (n + 2) z0.0 xs a4 _ z0.1 (normal (or_left (completes s1)
      (some_catch_completes cs) e) (suc z0.0)
      (next C z0.1) s4 a4 (less ctx result (behind set s1) set s4 a4 (behind_more ctx result
      set s1) fit4))))
      (record {
        broken = λ i e s4 a4 fit4. wk ctx result k c (c + 16) _ _ (omega arith)
            (z.broken i (or_left b1 b2 e) s4 a4 fit4);
        continued = λ i s4 a4 fit4. wk ctx result (k - 1) c (c + 16) _ _ (omega arith)
            (z.continued i s4 a4 fit4);
        returns = λ r s4 a4 er fit4. wk ctx result k c (c + 16) _ _ (omega arith)
            (z.returns r s4 a4 er fit4);
        gives_back = λ r os v4 s4 a4 nv ht4 fit4. wk ctx result k c (c + 16) _ _ (omega arith)
            (z.gives_back r os v4 s4 a4 nv ht4 fit4);
        lands = λ r x m v4 s4 a4 y is fit4.
            let low = y.low in
            let high = y.high in
            ihcs inside l n j k c (suc g.0) z0.0 set xs hs rest tp.1 le (λ e. lv (or_right
            (completes s1) (some_catch_completes cs) e)) h2 z0.1 (omega (arith, stops))
            (λ r x y. catches r x (wider ctx y up (omega arith))
            ∙ outside env C w ds s1 l (n + 3) (suc p) r x ys hb h1 (inr (let b = y.low in omega
            (arith, b, fg, g2))))
            (λ e. normal (or_right (completes s1) (some_catch_completes cs) e))
            (sides_on ctx result k k c c p (suc g.0) xs xs l inside (b1 || b2) b2 set set hs hs
            rest rest (omega arith) (omega arith) up (omega arith)
            (or_right b1 b2) (same_set ctx result set) (same_hs ctx result hs (suc g.0) xs)
            (alike ctx result rest) z)
            r x m v4 s4 a4 is fit4 (omega (arith, low, starts)) (omega (arith, high, stops, fg, g2))
            (wk ctx result k c (c + 16) _ _ (omega arith)
            (z.lands r x m nothing s4 a4 (wider ctx y (omega arith)
            (omega (arith, g2, g3))) is fit4));
        out_stands = λ i e. z.out_stands i (or_left b1 b2 e);
        again_stands = z.again_stands;
      }))
