-- The code of a block shows its run.
use Rattle.std.proofs.Common.{◌≡◌, ℕ, suc, ◌+◌, ◌≤◌, Bool, true, ◌||◌, List, []}
use Rattle.std.proofs.Common.{refl, ap, ◌∙◌, arith}
use Rattle.par_typed.specs.declared.ty.Ty.{Ty}
use Rattle.par_typed.specs.declared.table.Table.{Table}
use Rattle.par_values.specs.declared.value.MVal.{MVal}
use Rattle.par_values.specs.Areas.{Areas}
use Rattle.par_run_laws.specs.State.{State}
use Rattle.par_step_laws.specs.Step.{Turn}
use Rattle.par_code_form.specs.declared.item.Item.{Item}
use Rattle.par_code_form.specs.declared.labelled.Handler.{Handler}
use Rattle.par_evaluation_laws.specs.par_match_laws.Labelled.{Labelled, Naming, skip}
use Rattle.par_evaluation_laws.proofs.par_match_laws.Rules.{Told}
use Rattle.par_evaluation_laws.proofs.par_match_laws.Steps.{Lives, Here, Distinct}
use Rattle.std.proofs.Common.{inl, inr}
use Rattle.std.proofs.lemmas.Bool.{or_right}
use Rattle.par_typed.specs.Plain.{TSta, Block}
use Rattle.par_typed.specs.Plain.{TStas, End, Then}
use Rattle.par_run_laws.specs.Tasks.{Rests, follow}
use Rattle.par_run_laws.specs.Meaning.{Calls, go, go_all}
use Rattle.par_completes.specs.Typed.{completes, last_completes}
use Rattle.par_completes.specs.Typed.{breaks, some_break}
use Rattle.std.proofs.lemmas.Bool.{or_left}
use Rattle.par_code_form.specs.Code.{handlers, all_handlers}
use Rattle.par_code_laws.proofs.Handlers.{outside, all_outside}
use Rattle.par_evaluation_laws.proofs.Parts.{Setting}
use Rattle.par_code_form.specs.Code.{Words, Loop, labels, code, all_code}
use Rattle.par_evaluation_laws.specs.Laid.{Layout, TypedS, TypedAll}
use Rattle.par_evaluation_laws.specs.par_program_laws.Locals.{IsSet}
use Rattle.par_evaluation_laws.specs.Laid.{behind}
use Rattle.par_code_laws.proofs.Spans.{grows, all_grows, all_lives, ends}
use Rattle.par_evaluation_laws.proofs.Parts.{M, at, Fit, wider}
use Rattle.par_code_laws.proofs.Exits.{Catches, Holds', Normally, Sides, alike, behind_more, less}
use Rattle.par_code_laws.proofs.Exits.{same_hs, same_set, sides_on, spend, wk, yes}

module _ (ctx : Setting) (result : Ty) where
  abbrev env : Naming
  env = ctx.env

  abbrev labelled : ℕ → ℕ → Labelled
  labelled = ctx.labelled

  abbrev w : Words
  w = ctx.w

  abbrev lay : Layout
  lay = ctx.lay

  abbrev t : Table
  t = ctx.t

  abbrev run : Calls
  run = ctx.run

  abbrev cls : ℕ
  cls = ctx.cls

  abbrev mth : ℕ
  mth = ctx.mth

  abbrev tys : ℕ → Ty
  tys = ctx.tys

  abbrev many : ℕ
  many = ctx.many

  abbrev depth : ℕ
  depth = ctx.depth

  abbrev ds : Distinct (labelled cls mth)
  ds = ctx.ds

  abbrev fuel : ℕ
  fuel = suc depth

  abbrev C : Labelled
  C = labelled cls mth

  abbrev N : ℕ → ℕ → Turn → Told → Type 0
  N = M ctx

  abbrev pos_of : ℕ → Areas → List MVal → Turn
  pos_of = at ctx

  abbrev Fits' : List ℕ → State → Areas → Type 0
  Fits' = Fit ctx

  abbrev pub HoldsAll : TStas → Type 0
  HoldsAll ss =
      (inside : Bool) (l : Loop) (n k c p : ℕ) (old set : List ℕ) (xs : List Item)
      (hs : List Handler) (rest : Rests) (s : State) (a : Areas)
      → ((x : ℕ) → IsSet old x → IsSet set x)
      → TypedAll lay tys many C.max_stack result inside set ss → Fits' set s a → k ≤ fuel
      → (last_completes true ss ≡ true → Lives xs) → Here C p (all_code w ss l n xs)
      → Catches ctx result p xs (all_handlers w ss n hs)
      → (last_completes true ss ≡ true → Normally ctx result k c xs old rest)
      → Sides ctx result k c p xs l inside (some_break ss) old hs rest
      → N k c (pos_of (skip (all_code w ss l n xs) p) a []) (go_all t run fuel ss rest s)

  pub then_ok : (st : TSta) (ss : TStas) → Holds' ctx result st → HoldsAll ss
      → HoldsAll (Then st ss)
  unfolding go all_code TypedS completes handlers breaks
  then_ok st ss ihs ihss inside l n k c p old set xs hs rest s a sub tp fit le lv h catches normal
      z =
      let ys = all_code w ss l (labels st n) xs in
      let g1 = grows w st l n ys in
      let g2 = all_grows w ss l (labels st n) xs in
      let hb = all_handlers w ss (labels st n) hs in
      let j = ends w C st l n p ys h in
      let r2 : Rests = follow (λ v. go_all t run fuel ss) rest in
      let on_end : completes st ≡ true → last_completes true ss ≡ true
      → last_completes (completes st) ss ≡ true =
      λ c1 e. ap (λ b. last_completes b ss) c1 ∙ e in
      ihs inside l n k c p set ys hb r2 s a tp.0 fit le (λ c1. all_lives w ss l (labels st n) xs (λ
      e. lv (on_end c1 e))) h
      (λ r x y. catches r x (wider ctx y (omega arith) (omega (arith, g2))))
      (λ c1 q hq s2 a2 fit2.
      let up : p ≤ q = (let f1 = h.fits in let f2 = hq.fits in omega (arith, f1, f2, g1)) in
      ihss inside l (labels st n) k c q old (behind set st) xs hs rest s2 a2 (λ x i. behind_more
      ctx result set st x (sub x i)) tp.1 fit2 le (λ e. lv (on_end c1 e)) hq
      (λ r x y. catches r x (wider ctx y up (omega arith))
      ∙ outside env C w ds st l n p r x ys hb h (inr (let b = y.low in let f = hq.fits in omega
      (arith, b, f))))
      (λ e. normal (on_end c1 e))
      (sides_on ctx result k k c c p q xs xs l inside (breaks st || some_break ss)
      (some_break ss) old old hs hs rest rest (omega arith) (omega arith) up (omega arith)
      (or_right (breaks st) (some_break ss)) (same_set ctx result old)
      (same_hs ctx result hs q xs) (alike ctx result rest) z))
      (sides_on ctx result k k c c p p xs ys l inside (breaks st || some_break ss)
      (breaks st) old set hs hb rest r2 (omega arith) (omega arith) (omega arith)
      (omega (arith, g2))
      (or_left (breaks st) (some_break ss)) sub
      (λ r x y. all_outside env C w ds ss l (labels st n) j.0 r x xs hs j.1 (inl (let b = y.high in
      let f = (j.1).fits in omega (arith, b, f))))
      (λ v s. refl, λ v s. refl, λ v s. refl, λ x v s. refl) z)

  pub block_ok : (ss : TStas) (y1 y2 : ℕ) → HoldsAll ss → Holds' ctx result (Block ss y1 y2)
  unfolding go code TypedS completes handlers breaks
  block_ok ss y1 y2 ih inside l n k c p set xs hs rest s a tp fit le lv h catches normal z =
      spend ctx result k c _ _ (ih inside l n k (c + 16) p set set xs hs rest s a (same_set ctx
      result set) tp fit le lv h catches
      (λ e q hq s2 a2 fit2. wk ctx result k c (c + 16) _ _ (omega arith) (normal e q hq s2 a2 fit2))
      (sides_on ctx result k k c (c + 16) p p xs xs l inside (some_break ss)
      (some_break ss) set set hs hs rest rest (omega arith) (omega arith) (omega arith)
      (omega arith) (yes ctx result _) (same_set ctx result set) (same_hs ctx result hs p xs)
      (alike ctx result rest) z))

  pub end_ok : HoldsAll End
  unfolding go all_code TypedS completes
  end_ok inside l n k c p old set xs hs rest s a sub tp fit le lv h catches normal z = normal refl
      p h s a (less ctx result set old s a sub fit)
