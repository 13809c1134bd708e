-- The code of two branches shows their run.
use Rattle.std.proofs.Common.{◌≡◌, ℕ, suc, ◌+◌, ◌≤◌, Bool, true, false, ◌||◌, List, [], ◌∷◌}
use Rattle.std.proofs.Common.{length, refl, ap, ◌∙◌, subst, arith, codes}
use Rattle.std.specs.Prelude.{if◌then◌else◌, cond}
use Rattle.par_typed.specs.declared.ty.Ty.{Ty}
use Rattle.par_typed.specs.declared.ty.Ty.TheVariants as ty
use Rattle.par_typed.specs.declared.table.Table.{Table}
use Rattle.par_values.specs.declared.kind.Kind.TheVariants as kind
use Rattle.par_values.specs.declared.value.MVal.{MVal}
use Rattle.par_values.specs.Areas.{Name, Areas, number_of, fits}
use Rattle.par_values.specs.Areas as areas
use Rattle.par_values.specs.Operations.{Operation, Push, PushNull, Load, Store, Discard, Copy}
use Rattle.par_values.specs.Operations.{Combine, Negate, JumpIf, JumpIfBoth, JumpIfSame, GetStatic}
use Rattle.par_values.specs.Operations.{GetField, Create}
use Rattle.par_values.specs.Operations as op
use Rattle.par_values.specs.Effects.{Goes, effect}
use Rattle.par_run_laws.specs.State.{State}
use Rattle.par_run_laws.specs.Values.{truth}
use Rattle.par_step_laws.specs.State as steps
use Rattle.par_step_laws.specs.Step.{Turn}
use Rattle.par_code_form.specs.declared.item.Item.{Item}
use Rattle.par_code_form.specs.declared.item.Item.TheVariants.{Label, Jump, LockOp}
use Rattle.par_code_form.specs.declared.labelled.Handler.{Handler}
use Rattle.par_evaluation_laws.specs.par_match_laws.Labelled.{Labelled, Naming, skip, silent}
use Rattle.par_evaluation_laws.proofs.par_match_laws.Rules.{Told}
use Rattle.par_evaluation_laws.proofs.par_match_laws.Steps.{Lives, Here, next, Distinct, on}
use Rattle.par_evaluation_laws.specs.Agreement.{Lays}
use Rattle.par_values.specs.Operations.{InvokeStatic, PutStatic}
use Rattle.par_values.specs.declared.link.FieldLink.{FieldLink}
use Rattle.par_values.specs.Areas.{first_value}
use Rattle.par_values.specs.Operations.{operation}
use Rattle.par_run_laws.specs.Values.{is_true}
use Rattle.std.proofs.Common.{inl, inr}
use Rattle.std.proofs.lemmas.Bool.{or_right}
use Rattle.par_typed.specs.Plain.{mark, TExp}
use Rattle.par_typed.specs.Plain.{TSta, If}
use Rattle.par_typed.specs.Plain.{When}
use Rattle.par_typed.specs.Plain.{MayTSta, NoElse, Otherwise}
use Rattle.par_run_laws.specs.Tasks.{Rests, Task, follow}
use Rattle.par_run_laws.specs.Meaning.{Calls, go, go_else}
use Rattle.par_completes.specs.Typed.{completes, else_completes}
use Rattle.par_completes.specs.Typed.{breaks, else_breaks}
use Rattle.par_policy.specs.Numbers.{has}
use Rattle.std.proofs.lemmas.Bool.{or_left}
use Rattle.par_values.specs.Operations.{PutField}
use Rattle.par_code_form.specs.Code.{goes_on}
use Rattle.par_code_form.specs.Code.{handlers, else_handlers}
use Rattle.par_code_laws.proofs.Handlers.{outside, else_outside}
use Rattle.par_code_laws.proofs.Spans.{goes_grows, goes_lives, goes_ends}
use Rattle.par_evaluation_laws.proofs.Parts.{Setting}
use Rattle.par_code_form.specs.Code.{Words, Loop, expr_labels, labels, code, else_code}
use Rattle.par_evaluation_laws.specs.Laid.{Layout, moved, HasType, TypedS}
use Rattle.par_evaluation_laws.specs.Laid.{TypedElse}
use Rattle.par_evaluation_laws.specs.Laid.{behind}
use Rattle.par_evaluation_laws.proofs.Lengths.{expr_ends, expr_grows}
use Rattle.par_code_laws.proofs.Spans.{grows, else_grows, lives, else_lives, ends, else_ends}
use Rattle.par_evaluation_laws.proofs.Parts.{with, M, at, Fit, wider, given}
use Rattle.par_evaluation_laws.proofs.Values.{truth_moved, truth_typed}
use Rattle.par_code_laws.proofs.Exits.{Catches, Holds', Normally, Sides, alike, behind_more}
use Rattle.par_code_laws.proofs.Exits.{branches}
use Rattle.par_code_laws.proofs.Exits.{chosen, label_stands, less, part_raises, same_hs, same_set}
use Rattle.par_code_laws.proofs.Exits.{sides_on, spend, test_then, to_label, went, wk, yes}

module _ (ctx : Setting) (result : Ty) where
  abbrev env : Naming
  env = ctx.env

  abbrev labelled : ℕ → ℕ → Labelled
  labelled = ctx.labelled

  abbrev mname : ℕ → ℕ → Name
  mname = ctx.mname

  abbrev w : Words
  w = ctx.w

  abbrev lay : Layout
  lay = ctx.lay

  abbrev t : Table
  t = ctx.t

  abbrev run : Calls
  run = ctx.run

  abbrev cls : ℕ
  cls = ctx.cls

  abbrev mth : ℕ
  mth = ctx.mth

  abbrev fs : List steps.Frame
  fs = ctx.fs

  abbrev tys : ℕ → Ty
  tys = ctx.tys

  abbrev many : ℕ
  many = ctx.many

  abbrev depth : ℕ
  depth = ctx.depth

  abbrev lays : Lays env w lay t
  lays = ctx.lays

  abbrev ds : Distinct (labelled cls mth)
  ds = ctx.ds

  abbrev fuel : ℕ
  fuel = suc depth

  abbrev C : Labelled
  C = labelled cls mth

  abbrev N : ℕ → ℕ → Turn → Told → Type 0
  N = M ctx

  abbrev pos_of : ℕ → Areas → List MVal → Turn
  pos_of = at ctx

  abbrev Fits' : List ℕ → State → Areas → Type 0
  Fits' = Fit ctx

  abbrev pub HoldsElse : MayTSta → Type 0
  HoldsElse o =
      (inside : Bool) (l : Loop) (n k c p : ℕ) (set : List ℕ) (xs : List Item)
      (hs : List Handler) (rest : Rests) (s : State) (a : Areas)
      → TypedElse lay tys many C.max_stack result inside set o → Fits' set s a → k ≤ fuel
      → (else_completes o ≡ true → Lives xs) → Here C p (else_code w o l n xs)
      → Catches ctx result p xs (else_handlers w o n hs)
      → (else_completes o ≡ true → Normally ctx result k c xs set rest)
      → Sides ctx result k c p xs l inside (else_breaks o) set hs rest
      → N k c (pos_of (skip (else_code w o l n xs) p) a []) (go_else t run fuel o rest s)

  -- the code of two branches ctx result, at the jump
  abbrev pub split_code : TSta → MayTSta → Loop → ℕ → ℕ → List Item → List Item
  split_code s1 o l n i xs =
      Jump 153 n ∷ code w s1 l i (goes_on (completes s1) (n + 1)
      (Label n ∷ else_code w o l (labels s1 i) (Label (n + 1) ∷ xs)))

  abbrev pub Splits : TSta → MayTSta → Type 0
  Splits s1 o =
      (inside : Bool) (l : Loop) (n i k c p : ℕ) (set : List ℕ) (xs : List Item)
      (hs : List Handler) (rest : Rests) (v : MVal) (s : State) (a : Areas)
      → TypedS lay tys many C.max_stack result inside set s1
      → TypedElse lay tys many C.max_stack result inside set o
      → HasType lay s.births ty.Boolean v → Fits' set s a → k ≤ fuel
      → ((completes s1 || else_completes o) ≡ true → Lives xs)
      → Here C p (split_code s1 o l n i xs)
      → Catches ctx result p xs (handlers w s1 i (else_handlers w o (labels s1 i) hs))
      → ((completes s1 || else_completes o) ≡ true → Normally ctx result k c xs set rest)
      → Sides ctx result k c p xs l inside (breaks s1 || else_breaks o) set hs rest
      → N k (c + 12) (pos_of p a (moved lay v ∷ [])) (cond (is_true v) (go t run fuel s1 rest s)
      (go_else t run fuel o rest s))

  pub split_ok : (s1 : TSta) (o : MayTSta) → Holds' ctx result s1 → HoldsElse o → Splits s1 o
  split_ok s1 o ihs iho inside l n i k c p set xs hs rest v s a tps tpo ht fit le lv h catches
      normal z =
      let m = labels s1 i in
      let ws = Label (n + 1) ∷ xs in
      let zs = else_code w o l m ws in
      let ys = goes_on (completes s1) (n + 1) (Label n ∷ zs) in
      let us = code w s1 l i ys in
      let hb = else_handlers w o m hs in
      let h1 = next C h in
      let j = ends w C s1 l i (suc p) ys h1 in
      let g = goes_ends C (completes s1) (n + 1) j.0 (Label n ∷ zs) j.1 in
      let h2 = next C g.2 in
      let q = else_ends w C o l m (suc g.0) ws h2 in
      let g1 = grows w s1 l i ys in
      let g2 = goes_grows (completes s1) (n + 1) (Label n ∷ zs) in
      let g3 = else_grows w o l m ws in
      let after_s = (j.1).fits in
      let lz : Lives zs = else_lives w o l m ws (λ e. lv (or_right (completes s1)
      (else_completes o) e)) in
      branches ctx result k (c + 8) (c + 12) p n us v s a (is_true v) (go t run fuel s1 rest s)
      (go_else t run fuel o rest s) (omega arith) ht refl h
      (lives w s1 l i ys (λ e. goes_lives (completes s1) (n + 1) _ e))
      (label_stands ctx result n g.0 zs g.2 lz)
      (ihs inside l i k (c + 8) (suc p) set ys hb rest s a tps fit le (λ e. goes_lives (completes
      s1) (n + 1) _ e) h1
      (λ r x y. catches r x (wider ctx y (omega arith) (omega (arith, g2, g3))))
      (λ e r hr s4 a4 fit4.
      went ctx result (completes s1) k k c (c + 8) r (n + 1) (Label n ∷ zs) a4 _ e (omega arith)
      (omega arith) hr (label_stands ctx result (n + 1) q.0 xs q.1 (lv (or_left (completes s1)
      (else_completes o) e)))
      (to_label ctx result k c (n + 1) q.0 xs a4 _ q.1 (normal (or_left (completes s1)
      (else_completes o) e) (suc q.0)
      (next C q.1) s4 a4 (less ctx result (behind set s1) set s4 a4 (behind_more ctx result set
      s1) fit4))))
      (sides_on ctx result k k c (c + 8) p (suc p) xs ys l inside (breaks s1 || else_breaks o)
      (breaks s1) set set hs hb rest rest (omega arith) (omega arith) (omega arith)
      (omega (arith, g2, g3))
      (or_left (breaks s1) (else_breaks o)) (same_set ctx result set)
      (λ r x y. else_outside env C w ds o l m (suc g.0) r x ws hs h2 (inl (let b = y.high in let f
      = h2.fits in omega (arith, b, f, g2)))) (alike ctx result rest) z))
      (to_label ctx result k (c + 8) n g.0 zs a _ g.2
      (iho inside l m k (c + 8) (suc g.0) set ws hs rest s a tpo fit le (λ e. lv (or_right
      (completes s1) (else_completes o) e)) h2
      (λ r x y. catches r x (wider ctx y (let f = h1.fits in let f2 = h2.fits in omega (
        arith,
        g1,
        g2,
        f,
        f2,
      )) (omega arith))
      ∙ outside env C w ds s1 l i (suc p) r x ys hb h1 (inr (let b = y.low in let f = h2.fits in
      omega (arith, b, f, g2))))
      (λ e r hr s4 a4 fit4. wk ctx result k c (c + 8) _ _ (omega arith)
      (normal (or_right (completes s1) (else_completes o) e) (suc r) (next C hr) s4 a4 fit4))
      (sides_on ctx result k k c (c + 8) p (suc g.0) xs ws l inside (breaks s1 || else_breaks o)
      (else_breaks o) set set hs hs rest rest (omega arith) (omega arith)
      (let f = h1.fits in let f2 = h2.fits in omega (arith, g1, g2, f, f2)) (omega arith)
      (or_right (breaks s1) (else_breaks o)) (same_set ctx result set)
      (same_hs ctx result hs (suc g.0) ws) (alike ctx result rest) z)))

  -- in front of both branches ctx result only these handlers count
  pub split_catches : (s1 : TSta) (o : MayTSta) (l : Loop) (n i p q : ℕ) (xs : List Item)
      (hs : List Handler) → p ≤ q → Here C q (split_code s1 o l n i xs)
      → Catches ctx result p xs (handlers w s1 i (else_handlers w o (labels s1 i) hs))
      → Catches ctx result p (split_code s1 o l n i xs) hs
  split_catches s1 o l n i p q xs hs lp h catches r x y =
      let m = labels s1 i in
      let ws = Label (n + 1) ∷ xs in
      let zs = else_code w o l m ws in
      let ys = goes_on (completes s1) (n + 1) (Label n ∷ zs) in
      let h1 = next C h in
      let j = ends w C s1 l i (suc q) ys h1 in
      let g = goes_ends C (completes s1) (n + 1) j.0 (Label n ∷ zs) j.1 in
      let h2 = next C g.2 in
      let g1 = grows w s1 l i ys in
      let g2 = goes_grows (completes s1) (n + 1) (Label n ∷ zs) in
      let g3 = else_grows w o l m ws in
      let b = y.high in
      let f = h.fits in
      let f2 = h2.fits in
      catches r x (wider ctx y (omega arith) (omega (arith, g1, g2, g3)))
      ∙ outside env C w ds s1 l i (suc q) r x ys (else_handlers w o m hs) h1 (inl (omega (
        arith,
        b,
        f,
      )))
      ∙ else_outside env C w ds o l m (suc g.0) r x ws hs h2 (inl (omega (arith, b, f2, g1, g2)))

  pub split_longer : (s1 : TSta) (o : MayTSta) (l : Loop) (n i : ℕ) (xs : List Item)
      → length xs ≤ length (split_code s1 o l n i xs)
  split_longer s1 o l n i xs =
      let zs = else_code w o l (labels s1 i) (Label (n + 1) ∷ xs) in
      let g1 = grows w s1 l i (goes_on (completes s1) (n + 1) (Label n ∷ zs)) in
      let g2 = goes_grows (completes s1) (n + 1) (Label n ∷ zs) in
      let g3 = else_grows w o l (labels s1 i) (Label (n + 1) ∷ xs) in omega (arith, g1, g2, g3)

  pub if_ok : (e : TExp) (s1 : TSta) (o : MayTSta) (y1 y2 : ℕ) → Splits s1 o
      → Holds' ctx result (If e s1 o y1 y2)
  unfolding go code TypedS completes handlers breaks
  if_ok e s1 o y1 y2 split inside l n k c p set xs hs rest s a tp fit le lv h catches normal z =
      let i = expr_labels e (n + 2) in
      let us = split_code s1 o l n i xs in
      let h0 = expr_ends w C e (n + 2) p us h in
      let g0 = expr_grows w e (n + 2) us in
      let g1 = split_longer s1 o l n i xs in
      let f : MVal → Task = λ v. if is_true v then go t run fuel s1 else go_else t run fuel o in
      let up : p ≤ h0.0 = (let f1 = h.fits in let f2 = (h0.1).fits in omega (arith, g0, f1, f2)) in
      test_then ctx result e (n + 2) k c p set us rest f s a tp.1 fit le tt h
      (part_raises ctx result k c p p xs us l inside (breaks s1 || else_breaks o) set hs rest
      (omega arith) g1 (split_catches s1 o l n i p h0.0 xs hs up h0.1 catches) z)
      (given ctx set s k (c + 16) us [] (mark e).ty ty.Boolean (follow f rest) tp.0 refl
      (λ p2 h3 v s2 a2 gr ht fit2.
      let up2 : p ≤ p2 = (let f1 = h.fits in let f2 = h3.fits in omega (arith, g0, f1, f2)) in
      chosen ctx result (is_true v) (go t run fuel s1) (go_else t run fuel o) rest s2
      (wk ctx result k (c + 12) (c + 16) _ _ (omega arith)
      (split inside l n i k c p2 set xs hs rest v s2 a2 tp.2 tp.3 ht fit2 le lv h3
      (λ r x y. catches r x (wider ctx y up2 (omega arith)))
      normal
      (sides_on ctx result k k c c p p2 xs xs l inside (breaks s1 || else_breaks o)
      (breaks s1 || else_breaks o) set set hs hs rest rest (omega arith)
      (omega arith) up2 (omega arith) (yes ctx result _) (same_set ctx result set)
      (same_hs ctx result hs p2 xs) (alike ctx result rest) z)))))

  pub truth_true : (b : Bool) → is_true (truth b) ≡ b
  truth_true true = refl
  truth_true false = refl

  pub when_ok : (i1 : ℕ) (s1 : TSta) (o : MayTSta) (y1 y2 : ℕ) → Splits s1 o
      → Holds' ctx result (When i1 s1 o y1 y2)
  unfolding go code TypedS completes handlers effect breaks
  when_ok i1 s1 o y1 y2 split inside l n k c p set xs hs rest s a tp fit le lv h catches normal z =
      let us = split_code s1 o l n (n + 2) xs in
      let g = lays.lock_link i1 tp.0 in
      let fl : FieldLink = record {
        class = codes "paragon/Locks";
        name = g.0;
        is_static = true;
        kind = kind.Number;
        place = lay.lock_at i1;
      } in
      let b = has s.locks i1 in
      let h1 = next C h in
      let room = tp.1 in
      spend ctx result k c _ _
      (on env labelled mname cls mth fs k (c + 12) (c + 16) p (LockOp 178 i1) us (GetStatic fl)
      (with a []) (with a (truth b ∷ [])) _ (omega arith) h tt
      (ap (λ l. silent (op.of_field GetStatic (op.Misnamed [] 1) l) 1) g.1)
      (record {
        enough = omega arith;
        fits = refl;
        short = omega (arith, room);
        placed = refl;
        named = refl;
        agrees = refl;
        used = refl;
        stays = λ x g r. refl;
        comes = λ x g r. refl;
      })
      (ap (λ o. Goes (areas.push (areas.value_or_null o) (with a []))) (fit.locks_are i1 tp.0))
      (chosen ctx result b (go t run fuel s1) (go_else t run fuel o) rest s
      (subst (λ d. N k (c + 12) (pos_of (suc p) a (truth b ∷ []))
      (cond d (go t run fuel s1 rest s) (go_else t run fuel o rest s))) (truth_true b)
      (subst (λ v. N k (c + 12) (pos_of (suc p) a (v ∷ [])) (cond (is_true (truth b))
      (go t run fuel s1 rest s) (go_else t run fuel o rest s))) (truth_moved lay b)
      (split inside l n (n + 2) k c (suc p) set xs hs rest (truth b) s a tp.2 tp.3 (truth_typed lay
      s.births b) fit le lv h1
      (λ r x y. catches r x (wider ctx y (omega arith) (omega arith)))
      normal
      (sides_on ctx result k k c c p (suc p) xs xs l inside (breaks s1 || else_breaks o)
      (breaks s1 || else_breaks o) set set hs hs rest rest (omega arith) (omega arith)
      (omega arith) (omega arith) (yes ctx result _) (same_set ctx result set)
      (same_hs ctx result hs (suc p) xs) (alike ctx result rest) z))))))

  pub nothing_else : HoldsElse NoElse
  unfolding go else_code TypedS completes
  nothing_else inside l n k c p set xs hs rest s a tp fit le lv h catches normal z = normal refl p
      h s a fit

  pub some_else : (st : TSta) → Holds' ctx result st → HoldsElse (Otherwise st)
  unfolding go else_code TypedS completes handlers breaks
  some_else st ih inside l n k c p set xs hs rest s a tp fit le lv h catches normal z =
      ih inside l n k c p set xs hs rest s a tp fit le lv h catches
      (λ e q hq s2 a2 fit2. normal e q hq s2 a2 (less ctx result (behind set st) set s2 a2
      (behind_more ctx result set st) fit2)) z
