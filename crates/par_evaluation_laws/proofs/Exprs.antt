-- The code of an expression shows its run.
use Rattle.std.proofs.Common.{◌≡◌, ℕ, suc, ◌+◌, ◌≤◌, true, false, List, []}
use Rattle.std.proofs.Common.{◌∷◌}
use Rattle.std.proofs.Common.{length, refl, ap, sym, subst, arith}
use Rattle.std.specs.Prelude.{pos}
use Rattle.par_run_laws.specs.par_typed.declared.ty.Ty.{Ty}
use Rattle.par_run_laws.specs.par_typed.declared.ty.Ty.TheVariants as ty
use Rattle.par_run_laws.specs.par_typed.declared.table.Table.{Table}
use Rattle.par_run_laws.specs.par_typed.Plain.{Mark, mark, TExp, Int, Boolean, Null, This, New}
use Rattle.par_run_laws.specs.par_typed.Plain.{Local}
use Rattle.par_run_laws.specs.par_typed.Plain.{Static}
use Rattle.par_run_laws.specs.par_typed.Plain.{Field, Input, Output, Call, Neg, Not, Binary}
use Rattle.par_values.specs.declared.value.MVal.{MVal}
use Rattle.par_values.specs.declared.value.MVal.TheVariants as value
use Rattle.par_values.specs.Areas.{Areas}
use Rattle.par_run_laws.specs.State.{State}
use Rattle.par_run_laws.specs.Tasks.{Rests, Task, follow}
use Rattle.par_run_laws.specs.Meaning.{Calls, eval}
use Rattle.par_match_laws.specs.par_step_laws.Step.{Turn}
use Rattle.par_match_laws.specs.par_code_form.declared.item.Item.{Item}
use Rattle.par_match_laws.specs.par_code_form.declared.item.Item.TheVariants.{Member}
use Rattle.par_match_laws.specs.Labelled.{Labelled, skip}
use Rattle.par_match_laws.specs.par_code_form.Code.{Words, is_number, is_void}
use Rattle.par_match_laws.specs.par_code_form.Code.{shape_of, shape_labels}
use Rattle.par_match_laws.specs.par_code_form.Code.{expr_labels, expr_code}
use Rattle.par_evaluation_laws.specs.Laid.{Layout, moved, HasType, Typed}
use Rattle.par_match_laws.proofs.Rules.{Told}
use Rattle.par_match_laws.proofs.Steps.{Lives, Here}
use Rattle.par_evaluation_laws.proofs.Good.{Grows, grows_same, grows_on, typed_on}
use Rattle.par_evaluation_laws.proofs.Lengths.{expr_grows}
use Rattle.std.proofs.Common.{map}
use Rattle.par_run_laws.specs.Tasks.{tested}
use Rattle.par_evaluation_laws.proofs.Operators.{means}
use Rattle.par_evaluation_laws.proofs.Created.{static_call, object_call}
use Rattle.par_run_laws.specs.par_typed.Plain.{Absent, Present, TExps, NoExps, More}
use Rattle.par_run_laws.specs.Meaning.{eval_all, calls as calls_of}
use Rattle.par_match_laws.specs.par_code_form.Code.{args_code}
use Rattle.par_evaluation_laws.specs.Laid.{TypedArgs}
use Rattle.par_evaluation_laws.proofs.Pushed.{pushed}
use Rattle.par_evaluation_laws.proofs.Parts.{Setting, AllTyped}
use Rattle.par_evaluation_laws.proofs.Lengths.{args_grows, args_lives}
use Rattle.par_evaluation_laws.proofs.Parts.{not_void, M, at, Fit, Ready}
use Rattle.par_evaluation_laws.proofs.Parts.{Raises, Holds}
use Rattle.par_evaluation_laws.proofs.Parts.{local_ok, const_ok}
use Rattle.par_evaluation_laws.proofs.Values.{accepts, giv, later, raises_on, spend}
use Rattle.par_evaluation_laws.proofs.Primary.{field_ok, input_ok, neg_ok, new_ok, not_ok, null_ok}
use Rattle.par_evaluation_laws.proofs.Primary.{output_ok, static_ok, this_ok}
use Rattle.par_evaluation_laws.proofs.Binary.{binary}

module _ (ctx : Setting) where
  abbrev labelled : ℕ → ℕ → Labelled
  labelled = ctx.labelled

  abbrev w : Words
  w = ctx.w

  abbrev lay : Layout
  lay = ctx.lay

  abbrev t : Table
  t = ctx.t

  abbrev run : Calls
  run = ctx.run

  abbrev cls : ℕ
  cls = ctx.cls

  abbrev mth : ℕ
  mth = ctx.mth

  abbrev tys : ℕ → Ty
  tys = ctx.tys

  abbrev many : ℕ
  many = ctx.many

  abbrev depth : ℕ
  depth = ctx.depth

  abbrev C : Labelled
  C = labelled cls mth

  abbrev H : TExp → Type 0
  H = Holds ctx

  abbrev N : ℕ → ℕ → Turn → Told → Type 0
  N = M ctx

  abbrev pos_of : ℕ → Areas → List MVal → Turn
  pos_of = at ctx

  abbrev Fits' : List ℕ → State → Areas → Type 0
  Fits' = Fit ctx

  abbrev R : List ℕ → State → ℕ → ℕ → List Item → List MVal → Ty → Rests → Type 0
  R = Ready ctx

  abbrev X : List ℕ → ℕ → ℕ → ℕ → List Item → Rests → Type 0
  X = Raises ctx

  -- what is asked of the code of arguments
  abbrev pub HoldsArgs : TExps → Type 0
  HoldsArgs es =
      (us : List Ty) (n k c p : ℕ) (set : List ℕ) (xs : List Item) (ops : List MVal)
      (next' : List MVal → Task) (rest : Rests) (s : State) (a : Areas)
      → TypedArgs lay tys many C.max_stack set (length ops) us es → k ≤ suc depth → Fits' set s a
      → Lives xs → Here C p (args_code w es n xs)
      → ((q : ℕ) → Here C q xs → (vs : List MVal) (s2 : State) (a2 : Areas) → Grows s s2
      → AllTyped lay s2.births us vs → Fits' set s2 a2
      → N k c (pos_of (skip xs q) a2 (pushed (map (moved lay) vs) ops)) (next' vs rest s2))
      → X set k c p xs rest
      → N k c (pos_of (skip (args_code w es n xs) p) a ops) (eval_all t run es next' rest s)

  pub no_args : HoldsArgs NoExps
  unfolding eval expr_code Typed
  no_args [] n k c p set xs ops next' rest s a tp deep fit lives h ready raises = ready p h [] s a
      (grows_same s) tt fit
  no_args (u ∷ us) n k c p set xs ops next' rest s a tp deep fit lives h ready raises = absurd tp

  pub more_args : (e : TExp) (es : TExps) → H e → HoldsArgs es → HoldsArgs (More e es)
  unfolding eval expr_code Typed
  more_args e es ihe ihs [] n k c p set xs ops next' rest s a tp deep fit lives h ready raises =
      absurd tp
  more_args e es ihe ihs (u ∷ us) n k c p set xs ops next' rest s a tp deep fit lives h ready
      raises =
      let ys = args_code w es (expr_labels e n) xs in
      let r2 : Rests = follow (λ v. eval_all t run es (λ vs. next' (v ∷ vs))) rest in
      let g = args_grows w es (expr_labels e n) xs in
      let g2 = expr_grows w e n ys in
      ihe n k c p set ys ops r2 s a tp.2 deep fit (args_lives w es (expr_labels e n) xs lives) h
      (giv ctx set s k c ys ops (mark e).ty (mark e).ty r2 refl (not_void (mark e).ty tp.1)
      (λ p2 h2 v s2 a2 gr hv fit2.
      ihs us (expr_labels e n) k c p2 set xs (moved lay v ∷ ops)
      (λ vs. next' (v ∷ vs)) rest s2 a2 tp.3 deep fit2 lives h2
      (λ q hq vs s3 a3 gr3 hvs fit3.
      let typed = accepts ctx s2.births u (mark e).ty v tp.0 hv in
      ready q hq (v ∷ vs) s3 a3 (grows_on s s2 s3 gr gr3)
      (typed_on lay s2.births s3.births u v gr3 typed, hvs) fit3)
      (raises_on ctx set k c c p p2 xs xs rest rest (omega (arith, h.fits, h2.fits, g2))
      (omega arith) (omega arith) (λ x v s. refl) raises)))
      (raises_on ctx set k c c p p xs ys rest r2 (omega arith) g (omega arith) (λ x v s. refl)
      raises)

  pub result_ready : (set : List ℕ) (s s2 : State) (k c : ℕ) (xs : List Item) (ops : List MVal)
      (u z : Ty) (rest : Rests) → u ≡ z → Grows s s2
      → R set s k c xs ops u rest → R set s2 k c xs ops z rest
  result_ready set s s2 k c xs ops u z rest e gr ready =
      later ctx set s s2 k c xs ops z rest gr (subst (λ u. R set s k c xs ops u rest) e ready)

  pub static_ok' : (cl i : ℕ) (es : TExps) (m : Mark) → HoldsArgs es → H (Call cl i Absent es m)
  unfolding eval expr_code expr_labels Typed mark
  static_ok' cl i es m ihs n k c p set xs ops rest s a tp deep fit lives h ready raises =
      let x = Member 184 (w.class cl) (w.method cl i) (w.method_type cl i) in
      let g = args_grows w es n (x ∷ xs) in
      spend ctx k c _ _ (ihs tp.0.takes n k (c + 16) p set (x ∷ xs) ops (calls_of run cl i) rest s a
      tp.4 deep fit tt h
      (λ q hq vs s2 a2 gr hvs fit2.
      static_call ctx cl i tp.0 tp.1 k c q xs set ops vs s2 a2 rest tp.3 deep hq lives tp.5
      hvs fit2
      (result_ready set s s2 k c xs ops m.ty tp.0.result rest tp.2 gr ready)
      (raises_on ctx set k c c p q xs xs rest rest (omega (arith, h.fits, hq.fits, g)) (omega arith)
      (omega arith) (λ x v s. refl) raises))
      (raises_on ctx set k c (c + 16) p p xs (x ∷ xs) rest rest (omega arith) (omega arith)
      (omega arith) (λ x v s. refl) raises))

  pub object_ok : (cl i : ℕ) (e : TExp) (es : TExps) (m : Mark) → H e → HoldsArgs es
      → H (Call cl i (Present e) es m)
  unfolding eval expr_code expr_labels Typed mark
  object_ok cl i e es m ihe ihs n k c p set xs ops rest s a tp deep fit lives h ready raises =
      let x = Member 182 (w.class cl) (w.method cl i) (w.method_type cl i) in
      let ys = args_code w es (expr_labels e n) (x ∷ xs) in
      let next' : MVal → List MVal → Task = λ r vs. tested (mark e).sure r (calls_of run cl i (r ∷
      vs)) in
      let r2 : Rests = follow (λ r. eval_all t run es (next' r)) rest in
      let g = args_grows w es (expr_labels e n) (x ∷ xs) in
      let g2 = expr_grows w e n ys in
      spend ctx k c _ _ (ihe n k (c + 16) p set ys ops r2 s a tp.8 deep fit (args_lives w es
      (expr_labels e n) (x ∷ xs) tt) h
      (giv ctx set s k (c + 16) ys ops (mark e).ty (ty.Class cl) r2 tp.6 refl
      (λ p2 h2 r s1 a1 gr hr fit1.
      ihs tp.0.takes (expr_labels e n) k (c + 16) p2 set (x ∷ xs) (moved lay r ∷ ops)
      (next' r) rest s1 a1 tp.4 deep fit1 tt h2
      (λ q hq vs s2 a2 gr2 hvs fit2.
      subst (λ b. N k (c + 16) (pos_of q a2 (pushed (map (moved lay) vs) (moved lay r ∷ ops)))
      (tested b r (calls_of run cl i (r ∷ vs)) rest s2)) (sym tp.7)
      (object_call ctx cl i tp.0 tp.1 k c q xs set ops vs r s2 a2 rest tp.3 deep hq lives (omega
      (arith, tp.5))
      (typed_on lay s1.births s2.births (ty.Class cl) r gr2 hr) hvs fit2
      (result_ready set s s2 k c xs ops m.ty tp.0.result rest tp.2 (grows_on s s1 s2 gr gr2) ready)
      (raises_on ctx set k c c p q xs xs rest rest (omega (arith, h.fits, hq.fits, g, g2))
      (omega arith) (omega arith) (λ x v s. refl) raises)))
      (raises_on ctx set k c (c + 16) p p2 xs (x ∷ xs) rest rest
      (omega (arith, h.fits, h2.fits, g2)) (omega arith) (omega arith) (λ x v s. refl) raises)))
      (raises_on ctx set k c (c + 16) p p xs ys rest r2 (omega arith) (omega (arith, g))
      (omega arith) (λ x v s. refl) raises))

  mutual
    unfolding eval expr_code Typed mark

    pub expr_ok : (e : TExp) → H e
    expr_ok (Int v m) = λ n k c p set xs ops rest s a tp deep fit lives h ready raises.
        const_ok ctx (Int v m) v k c p set xs ops rest s a (omega (arith, tp.1)) fit lives h
        (subst (λ u. HasType lay s.births u (value.Int v)) (sym tp.0) tt) (ap is_void tp.0) ready
    expr_ok (Boolean true m) = λ n k c p set xs ops rest s a tp deep fit lives h ready raises.
        const_ok ctx (Boolean true m) (pos 1) k c p set xs ops rest s a (omega (arith, tp.1)) fit
        lives h
        (subst (λ u. HasType lay s.births u (value.Int (pos 1))) (sym tp.0) tt)
        (ap is_void tp.0) ready
    expr_ok (Boolean false m) = λ n k c p set xs ops rest s a tp deep fit lives h ready raises.
        const_ok ctx (Boolean false m) (pos 0) k c p set xs ops rest s a (omega (arith, tp.1)) fit
        lives h
        (subst (λ u. HasType lay s.births u (value.Int (pos 0))) (sym tp.0) tt)
        (ap is_void tp.0) ready
    expr_ok (Null m) = null_ok ctx m
    expr_ok (This m) = this_ok ctx m
    expr_ok (New c m) = new_ok ctx c m
    expr_ok (Local x m) = local_ok ctx x m
    expr_ok (Static c f m) = static_ok ctx c f m
    expr_ok (Field e c f m) = field_ok ctx e c f m (expr_ok e)
    expr_ok (Input c k m) = input_ok ctx c k m
    expr_ok (Output c k e m) = output_ok ctx c k e m (expr_ok e)
    expr_ok (Call c i Absent es m) = static_ok' c i es m (args_ok es)
    expr_ok (Call c i (Present e) es m) = object_ok c i e es m (expr_ok e) (args_ok es)
    expr_ok (Neg e m) = neg_ok ctx e m (expr_ok e)
    expr_ok (Not e m) = not_ok ctx e m (expr_ok e)
    expr_ok (Binary op2 a b m) = λ n k c p set xs ops rest s a0 tp deep fit lives h ready raises.
        binary ctx (shape_of op2 a) op2 a b m.ty k c p n (n + shape_labels (shape_of op2 a))
        (expr_labels a (n + shape_labels (shape_of op2 a))) set xs ops rest s a0
        (expr_ok a) (expr_ok b) (tp.0, tt, tp.2, fit, lives, ready, raises, deep) tp.1
        (means op2 (is_number (mark a).ty)) tp.3 h

    pub args_ok : (es : TExps) → HoldsArgs es
    args_ok NoExps = no_args
    args_ok (More e es) = more_args e es (expr_ok e) (args_ok es)
