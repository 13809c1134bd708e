-- The code of a loop shows its run.
use Rattle.std.proofs.Common.{◌≡◌, ℕ, zero, suc, ◌+◌, ◌-◌, ◌≤◌, Bool, true, false, not, ◌||◌, List}
use Rattle.std.proofs.Common.{[], ◌∷◌}
use Rattle.std.proofs.Common.{refl, sym, ◌∙◌, subst, arith}
use Rattle.std.specs.Prelude.{pos, if◌then◌else◌}
use Rattle.par_typed.specs.declared.ty.Ty.{Ty}
use Rattle.par_typed.specs.declared.ty.Ty.TheVariants as ty
use Rattle.par_typed.specs.declared.table.Table.{Table}
use Rattle.par_values.specs.declared.value.MVal.{MVal}
use Rattle.par_values.specs.declared.value.MVal.TheVariants as value
use Rattle.par_values.specs.Areas.{Name, Areas}
use Rattle.par_run_laws.specs.State.{State}
use Rattle.par_step_laws.specs.Step.{Turn}
use Rattle.par_evaluation_laws.specs.par_match_laws.Engine.{Program}
use Rattle.par_code_form.specs.declared.item.Item.{Item}
use Rattle.par_code_form.specs.declared.item.Item.TheVariants.{Label, Jump}
use Rattle.par_code_form.specs.declared.labelled.Handler.{Handler}
use Rattle.par_evaluation_laws.specs.par_match_laws.Labelled.{Labelled, Naming, skip, target}
use Rattle.par_evaluation_laws.specs.par_match_laws.Labelled.{stands}
use Rattle.par_evaluation_laws.proofs.par_match_laws.Rules.{Told, weaken, stopped_rule, spent}
use Rattle.par_evaluation_laws.proofs.par_match_laws.Steps.{Lives, Here, next, Distinct, P}
use Rattle.par_run_laws.specs.Values.{is_true}
use Rattle.std.proofs.Common.{inl}
use Rattle.std.proofs.lemmas.Bool.{or_right}
use Rattle.par_typed.specs.Plain.{mark, TExp, MayTExp, Absent, Present}
use Rattle.par_typed.specs.Plain.{TSta, Block, If, While, Try, Return, Break, Continue, Throw, Open}
use Rattle.par_typed.specs.Plain.{Close, SetLocal, SetStatic, SetField, Eval, When}
use Rattle.par_typed.specs.Plain.{MayTSta, NoElse, Otherwise, TStas, End, Then, TCatches, NoCatch}
use Rattle.par_typed.specs.Plain.{Catch}
use Rattle.par_run_laws.specs.Tasks.{Exit, Normal, Broken, Continued, Returned, Thrown, Rest, Rests}
use Rattle.par_run_laws.specs.Tasks.{Task, paid, gives, and_then, follow, looped, turns, change}
use Rattle.par_run_laws.specs.Tasks.{done}
use Rattle.par_run_laws.specs.Tasks.{fine, nothing, happens, named}
use Rattle.par_run_laws.specs.Tasks as tasks
use Rattle.par_run_laws.specs.Meaning.{Calls, eval, go}
use Rattle.par_completes.specs.Typed.{completes, else_completes, last_completes}
use Rattle.par_completes.specs.Typed.{some_catch_completes}
use Rattle.par_completes.specs.Typed.{breaks, else_breaks, some_break, some_catch_breaks}
use Rattle.par_completes.specs.Typed as sure
use Rattle.par_run_laws.specs.Tasks.{caught, unless_null, tested, asked}
use Rattle.par_code_form.specs.Code.{goes_on, loop_test}
use Rattle.par_code_form.specs.Code.{handlers}
use Rattle.par_code_laws.proofs.Handlers.{outside}
use Rattle.par_code_laws.proofs.Spans.{goes_grows, goes_lives, goes_ends, test_ends}
use Rattle.par_evaluation_laws.proofs.Parts.{Setting}
use Rattle.par_code_form.specs.Code.{Words, Loop, expr_labels, code}
use Rattle.par_evaluation_laws.specs.Laid.{Layout, Typed, TypedS, behind}
use Rattle.par_evaluation_laws.proofs.Lengths.{expr_ends, expr_grows, expr_lives}
use Rattle.par_code_laws.proofs.Spans.{grows, lives, ends}
use Rattle.par_evaluation_laws.proofs.Parts.{M, at, Fit, wider, given}
use Rattle.par_code_laws.proofs.Exits.{Catches, Holds', Normally, Sides, alike, behind_more}
use Rattle.par_code_laws.proofs.Exits.{branches}
use Rattle.par_code_laws.proofs.Exits.{chosen, label_stands, less, part_raises, same_hs, same_set}
use Rattle.par_code_laws.proofs.Exits.{sides_on, spend, test_then, to_label, went, wk, yes}

module _ (ctx : Setting) (result : Ty) where
  abbrev env : Naming
  env = ctx.env

  abbrev labelled : ℕ → ℕ → Labelled
  labelled = ctx.labelled

  abbrev mname : ℕ → ℕ → Name
  mname = ctx.mname

  abbrev w : Words
  w = ctx.w

  abbrev lay : Layout
  lay = ctx.lay

  abbrev t : Table
  t = ctx.t

  abbrev run : Calls
  run = ctx.run

  abbrev cls : ℕ
  cls = ctx.cls

  abbrev mth : ℕ
  mth = ctx.mth

  abbrev tys : ℕ → Ty
  tys = ctx.tys

  abbrev many : ℕ
  many = ctx.many

  abbrev depth : ℕ
  depth = ctx.depth

  abbrev ds : Distinct (labelled cls mth)
  ds = ctx.ds

  abbrev fuel : ℕ
  fuel = suc depth

  abbrev C : Labelled
  C = labelled cls mth

  abbrev N : ℕ → ℕ → Turn → Told → Type 0
  N = M ctx

  abbrev pos_of : ℕ → Areas → List MVal → Turn
  pos_of = at ctx

  abbrev Fits' : List ℕ → State → Areas → Type 0
  Fits' = Fit ctx

  abbrev Machine : Program
  Machine = P env labelled mname

  pub fewer_normal : (j k c : ℕ) (xs : List Item) (sn : List ℕ) (rest : Rests) → k ≤ j
      → Normally ctx result j c xs sn rest → Normally ctx result k c xs sn rest
  fewer_normal j k c xs sn rest le normal q h s a fit = weaken Machine j k c c _ _ le (omega arith)
      (normal q h s a fit)

  abbrev pub round_of : ℕ → Loop
  round_of n = record { out = n + 1; again = n }

  -- what a loop goes on with
  abbrev pub again_at : TExp → TSta → ℕ → Task
  again_at e s1 j = turns j (tasks.turn is_true (eval t run e) (go t run fuel s1))

  -- the block of a loop and the jump behind it
  abbrev pub block_code : TSta → ℕ → ℕ → List Item → List Item
  block_code s1 n i xs = code w s1 (round_of n) i (goes_on (completes s1) n (Label (n + 1) ∷ xs))

  -- a block from its begin, where the next turn is known
  pub block_turn : (s1 : TSta) → Holds' ctx result s1
      → (inside b : Bool) (again : Task) (k n i c p p3 q : ℕ) (set : List ℕ) (xs : List Item)
      (l : Loop) (hs : List Handler) (rest : Rests) (s : State) (a : Areas)
      → TypedS lay tys many C.max_stack result true set s1 → Fits' set s a → k ≤ fuel → p ≤ p3
      → ((b || breaks s1) ≡ true → Lives xs) → Here C p3 (block_code s1 n i xs)
      → Here C q (Label (n + 1) ∷ xs)
      → stands C.items (pos (target C.items n)) ≡ true
      → Catches ctx result p xs (handlers w s1 i hs)
      → ((s4 : State) (a4 : Areas) → Fits' set s4 a4
      → N (k - 1) c (pos_of (target C.items n) a4 []) (again rest s4))
      → ((b || breaks s1) ≡ true → Normally ctx result k c xs set rest)
      → Sides ctx result k c p xs l inside false set hs rest
      → N k (c + 8) (pos_of (skip (block_code s1 n i xs) p3) a [])
      (go t run fuel s1 (looped again rest) s)
  block_turn s1 ihs inside b again k n i c p p3 q set xs l hs rest s a tp fit le lp lv h3 hq st
      catches next_turn normal z =
      let ys = goes_on (completes s1) n (Label (n + 1) ∷ xs) in
      let g0 = goes_grows (completes s1) n (Label (n + 1) ∷ xs) in
      ihs true (round_of n) i k (c + 8) p3 set ys hs (looped again rest) s a tp fit le (λ e.
      goes_lives (completes s1) n _ e) h3
      (λ r x y. catches r x (wider ctx y lp (omega (arith, g0))))
      (λ e p4 h4 s4 a4 fit4. went ctx result (completes s1)
      (k - 1) k c (c + 8) p4 n (Label (n + 1) ∷ xs) a4 _ e (omega arith) (omega arith) h4 st
      (next_turn s4 a4 (less ctx result (behind set s1) set s4 a4 (behind_more ctx result set s1)
      fit4)))
      (record {
        broken = λ i' e s4 a4 fit4. wk ctx result k c (c + 8) _ _ (omega arith)
            (to_label ctx result k c (n + 1) q xs a4 _ hq (normal (or_right b (breaks s1) e)
            (suc q) (next C hq) s4 a4 fit4));
        continued = λ i' s4 a4 fit4. wk ctx result (k - 1) c (c + 8) _ _ (omega arith)
            (next_turn s4 a4 fit4);
        returns = λ r s4 a4 er fit4. wk ctx result k c (c + 8) _ _ (omega arith)
            (z.returns r s4 a4 er fit4);
        gives_back = λ r os v4 s4 a4 nv ht4 fit4. wk ctx result k c (c + 8) _ _ (omega arith)
            (z.gives_back r os v4 s4 a4 nv ht4 fit4);
        lands = λ r x m v4 s4 a4 y is fit4. wk ctx result k c (c + 8) _ _ (omega arith)
            (z.lands r x m v4 s4 a4 (wider ctx y lp (omega (arith, g0))) is fit4);
        out_stands = λ i' e. label_stands ctx result (n + 1) q xs hq (lv (or_right b (breaks s1)
            e));
        again_stands = λ i'. st;
      })

  -- the literal `true`
  pub literal : (e : TExp) (rest : Rests) (s : State) → sure.is_true e ≡ true
      → eval t run e rest s ≡ spent (rest Normal (value.Int (pos 1)) s)
  unfolding sure.is_true eval
  literal (Rattle.par_typed.specs.Plain.Boolean true m) rest s e = refl
  literal (Rattle.par_typed.specs.Plain.Boolean false m) rest s e = cc
  literal (Rattle.par_typed.specs.Plain.Int v m) rest s e = cc
  literal (Rattle.par_typed.specs.Plain.Null m) rest s e = cc
  literal (Rattle.par_typed.specs.Plain.This m) rest s e = cc
  literal (Rattle.par_typed.specs.Plain.New c m) rest s e = cc
  literal (Rattle.par_typed.specs.Plain.Local x m) rest s e = cc
  literal (Rattle.par_typed.specs.Plain.Static c f m) rest s e = cc
  literal (Rattle.par_typed.specs.Plain.Field o c f m) rest s e = cc
  literal (Rattle.par_typed.specs.Plain.Input c k m) rest s e = cc
  literal (Rattle.par_typed.specs.Plain.Output c k o m) rest s e = cc
  literal (Rattle.par_typed.specs.Plain.Call c k o es m) rest s e = cc
  literal (Rattle.par_typed.specs.Plain.Neg o m) rest s e = cc
  literal (Rattle.par_typed.specs.Plain.Not o m) rest s e = cc
  literal (Rattle.par_typed.specs.Plain.Binary o a b m) rest s e = cc

  abbrev pub Turns : TExp → TSta → Bool → ℕ → Type 0
  Turns e s1 b j =
      (inside : Bool) (k n i c p q : ℕ) (set : List ℕ) (xs : List Item) (l : Loop)
      (hs : List Handler) (rest : Rests) (s : State) (a : Areas)
      → ((mark e).ty ≡ ty.Boolean) → (b ≡ false → Typed lay tys many C.max_stack set 0 e)
      → TypedS lay tys many C.max_stack result true set s1 → Fits' set s a → k ≤ fuel → k ≤ j
      → ((not b || breaks s1) ≡ true → Lives xs)
      → Here C p (Label n ∷ loop_test w b e (n + 2) (n + 1) (block_code s1 n i xs))
      → Here C q (Label (n + 1) ∷ xs)
      → Catches ctx result p xs (handlers w s1 i hs)
      → ((not b || breaks s1) ≡ true → Normally ctx result k c xs set rest)
      → Sides ctx result k c p xs l inside false set hs rest
      → N k c (pos_of (skip (loop_test w b e (n + 2) (n + 1) (block_code s1 n i xs))
      (suc p)) a []) (again_at e s1 j rest s)

  pub block_lives : (s1 : TSta) (n i : ℕ) (xs : List Item) → Lives (block_code s1 n i xs)
  block_lives s1 n i xs = lives w s1 (round_of n) i _ (λ e. goes_lives (completes s1) n _ e)

  -- a turn with the literal `true`
  pub endless : (e : TExp) (s1 : TSta) → sure.is_true e ≡ true → Holds' ctx result s1 → (j : ℕ)
      → Turns e s1 true j → Turns e s1 true (suc j)
  endless e s1 eb ihs j ih inside k n i c p q set xs l hs rest s a et te ts fit le lj lv h hq
      catches normal z =
      let again : Task = again_at e s1 j in
      let st = label_stands ctx result n p (block_code s1 n i xs) h (block_lives s1 n i xs) in
      spend ctx result k c _ _ (subst (λ g. N k (c + 16) (pos_of (skip (block_code s1 n i xs)
      (suc p)) a []) g)
      (sym (literal e (follow (λ v. if is_true v then (λ rest. go t run fuel s1 (looped again
      rest)) else fine) rest) s eb))
      (spend ctx result k (c + 16) _ _ (wk ctx result k (c + 8) (c + 16 + 16) _ _ (omega arith)
      (block_turn s1 ihs inside (not true) again k n i c p (suc p) q set xs l hs rest s a ts fit le
      (omega arith) lv (next C h) hq st catches
      (λ s4 a4 fit4. to_label ctx result (k - 1) c n p (block_code s1 n i xs) a4 _ h
      (ih inside (k - 1) n i c p q set xs l hs rest s4 a4 et te ts fit4 (omega arith)
      (omega arith) lv h hq catches (λ e. fewer_normal k (k - 1) c xs set rest (omega arith)
      (normal e))
      (sides_on ctx result k (k - 1) c c p p xs xs l inside false false set set hs hs rest rest
      (omega arith) (omega arith) (omega arith) (omega arith) (yes ctx result false)
      (same_set ctx result set) (same_hs ctx result hs p xs) (alike ctx result rest) z)))
      normal z))))

  -- a turn with a test
  pub tested_turn : (e : TExp) (s1 : TSta) → Holds' ctx result s1 → (j : ℕ) → Turns e s1 false j
      → Turns e s1 false (suc j)
  tested_turn e s1 ihs j ih inside k n i c p q set xs l hs rest s a et te ts fit le lj lv h hq
      catches normal z =
      let again : Task = again_at e s1 j in
      let us = block_code s1 n i xs in
      let ys = goes_on (completes s1) n (Label (n + 1) ∷ xs) in
      let f : MVal → Task = λ v. if is_true v then (λ rest. go t run fuel s1 (looped again rest))
      else fine in
      let h1 = next C h in
      let h0 = expr_ends w C e (n + 2) (suc p) (Jump 153 (n + 1) ∷ us) h1 in
      let g0 = expr_grows w e (n + 2) (Jump 153 (n + 1) ∷ us) in
      let g1 = grows w s1 (round_of n) i ys in
      let g2 = goes_grows (completes s1) n (Label (n + 1) ∷ xs) in
      let st = label_stands ctx result n p _ h (expr_lives w e (n + 2)
      (Jump 153 (n + 1) ∷ us) tt) in
      test_then ctx result e (n + 2) k c (suc p) set (Jump 153 (n + 1) ∷ us) rest f s a (te refl)
      fit le tt h1
      (part_raises ctx result k c p (suc p) xs (Jump 153 (n + 1) ∷ us) l inside false set hs rest
      (omega arith) (omega (arith, g1, g2))
      (λ r x y. catches r x (wider ctx y (omega arith) (omega (arith, g1, g2)))
      ∙ outside env C w ds s1 (round_of n) i (suc h0.0) r x ys hs (next C h0.1)
      (inl (let b = y.high in let f = (h0.1).fits in omega (arith, b, f)))) z)
      (given ctx set s k (c + 16) (Jump 153 (n + 1) ∷ us) [] (mark e).ty ty.Boolean (follow f rest)
      et refl
      (λ p2 h3 v s2 a2 gr ht fit2.
      let up : p ≤ p2 = (let f1 = h1.fits in let f2 = h3.fits in omega (arith, g0, f1, f2)) in
      chosen ctx result (is_true v) (λ rest. go t run fuel s1 (looped again rest)) fine rest s2
      (branches ctx result k (c + 8) (c + 16) p2 (n + 1) us v s2 a2 (is_true v)
      (go t run fuel s1 (looped again rest) s2) (rest Normal nothing s2)
      (omega arith) ht refl h3 (block_lives s1 n i xs)
      (label_stands ctx result (n + 1) q xs hq (lv refl))
      (block_turn s1 ihs inside (not false) again k n i c p (suc p2) q set xs l hs rest s2 a2 ts
      fit2 le (omega (arith, up)) lv (next C h3) hq st catches
      (λ s4 a4 fit4. to_label ctx result (k - 1) c n p _ a4 _ h
      (ih inside (k - 1) n i c p q set xs l hs rest s4 a4 et te ts fit4 (omega arith)
      (omega arith) lv h hq catches (λ e. fewer_normal k (k - 1) c xs set rest (omega arith)
      (normal e))
      (sides_on ctx result k (k - 1) c c p p xs xs l inside false false set set hs hs rest rest
      (omega arith) (omega arith) (omega arith) (omega arith) (yes ctx result false)
      (same_set ctx result set) (same_hs ctx result hs p xs) (alike ctx result rest) z)))
      normal z)
      (to_label ctx result k (c + 8) (n + 1) q xs a2 _ hq (wk ctx result k c (c + 8) _ _ (omega
      arith) (normal refl (suc q) (next C hq) s2 a2 fit2))))))

  pub loop_ok : (e : TExp) (s1 : TSta) (b : Bool) → sure.is_true e ≡ b → Holds' ctx result s1
      → (j : ℕ) → Turns e s1 b j
  loop_ok e s1 b eb ihs zero =
      λ inside k n i c p q set xs l hs rest s a et te ts fit le lj lv h hq catches normal z.
      stopped_rule Machine k c _ lj
  loop_ok e s1 true eb ihs (suc j) = endless e s1 eb ihs j (loop_ok e s1 true eb ihs j)
  loop_ok e s1 false eb ihs (suc j) = tested_turn e s1 ihs j (loop_ok e s1 false eb ihs j)

  pub while_ok : (e : TExp) (s1 : TSta) (y1 y2 : ℕ) → Holds' ctx result s1
      → Holds' ctx result (While e s1 y1 y2)
  unfolding go code TypedS completes handlers breaks
  while_ok e s1 y1 y2 ih inside l n k c p set xs hs rest s a tp fit le lv h catches normal z =
      let i = expr_labels e (n + 2) in
      let h0 = test_ends w C (sure.is_true e) e (n + 2) (n + 1) (suc p) (block_code s1 n i xs)
      (next C h) in
      let j = ends w C s1 (round_of n) i h0.0 _ h0.1 in
      let g = goes_ends C (completes s1) n j.0 (Label (n + 1) ∷ xs) j.1 in
      loop_ok e s1 (sure.is_true e) refl ih fuel inside k n i c p g.0 set xs l hs rest s a tp.0
      tp.1 tp.2 fit le le lv h g.2 catches normal z
