-- The code of what is read, written and made shows its run.
use Rattle.par_evaluation_laws.specs.Laid.{HasOwn, IsMade}
use Rattle.std.proofs.Common.{ℕ, suc, ◌+◌, ◌<◌, true, false, not, List, []}
use Rattle.std.proofs.Common.{◌∷◌}
use Rattle.std.proofs.Common.{length, refl, ap, sym, ◌∙◌, subst, arith, codes}
use Rattle.std.specs.Prelude.{pos, ◌-ℤ◌, cond}
use Rattle.par_instr.specs.declared.instr.Instr.TheVariants.{AconstNull, AloadShort, Ineg}
use Rattle.par_run_laws.specs.par_typed.declared.ty.Ty.{Ty}
use Rattle.par_run_laws.specs.par_typed.declared.ty.Ty.TheVariants as ty
use Rattle.par_run_laws.specs.par_typed.declared.table.Table.{Table}
use Rattle.par_run_laws.specs.par_typed.Plain.{Mark, mark, TExp, Null, This, New, Static}
use Rattle.par_run_laws.specs.par_typed.Plain.{Field, Input, Output, Neg, Not}
use Rattle.par_values.specs.declared.kind.Kind.TheVariants as kind
use Rattle.par_values.specs.declared.value.MVal.{MVal}
use Rattle.par_values.specs.declared.value.MVal.TheVariants as value
use Rattle.par_values.specs.Areas.{Name, Areas, number_of, fits}
use Rattle.par_values.specs.Areas as areas
use Rattle.par_values.specs.Arithmetic.{negated, compares}
use Rattle.par_values.specs.Operations.{Operation, Push, PushNull, Load, Store, Discard, Copy}
use Rattle.par_values.specs.Operations.{Combine, Negate, JumpIf, JumpIfBoth, JumpIfSame, GetStatic}
use Rattle.par_values.specs.Operations.{GetField, Create}
use Rattle.par_values.specs.Operations as op
use Rattle.par_values.specs.Effects.{Goes, Happens, effect, jumps_if}
use Rattle.par_run_laws.specs.State.{State}
use Rattle.par_run_laws.specs.Tasks.{Normal, Rests, gives, follow}
use Rattle.par_run_laws.specs.Meaning.{eval}
use Rattle.par_run_laws.specs.Values.{truth}
use Rattle.par_match_laws.specs.par_step_laws.State as steps
use Rattle.par_match_laws.specs.par_step_laws.Step.{Turn}
use Rattle.par_match_laws.specs.par_code_form.declared.item.Item.{Item}
use Rattle.par_match_laws.specs.par_code_form.declared.item.Item.TheVariants.{Op, Member}
use Rattle.par_match_laws.specs.par_code_form.declared.item.Item.TheVariants.{ClassOp}
use Rattle.par_match_laws.specs.Labelled.{Labelled, Naming, lead, skip, target}
use Rattle.par_match_laws.specs.Labelled.{silent}
use Rattle.par_match_laws.specs.par_code_form.Code.{Words, is_void}
use Rattle.par_match_laws.specs.par_code_form.Code.{test_code, expr_code}
use Rattle.par_evaluation_laws.specs.Laid.{Layout, moved, HasType, Typed, kind_of}
use Rattle.par_match_laws.proofs.Rules.{Told}
use Rattle.par_match_laws.proofs.Steps.{Lives, Here, next, on, says}
use Rattle.par_evaluation_laws.specs.Agreement.{Lays}
use Rattle.par_evaluation_laws.proofs.Good.{grows_same, grows_on, reference_is}
use Rattle.par_evaluation_laws.proofs.Good.{any_fits, class_fits}
use Rattle.par_evaluation_laws.proofs.Lengths.{expr_grows}
use Rattle.par_values.specs.Operations.{InvokeStatic}
use Rattle.par_values.specs.declared.link.FieldLink.{FieldLink}
use Rattle.par_values.specs.declared.link.ClassLink.{ClassLink}
use Rattle.par_values.specs.Areas.{first_value}
use Rattle.std.proofs.Common.{map}
use Rattle.par_instr.specs.declared.instr.Instr.TheVariants.{Dup}
use Rattle.par_values.specs.Operations.{operation}
use Rattle.par_values.specs.declared.run.Event.TheVariants.{Out, Born}
use Rattle.par_values.specs.declared.link.Target.TheVariants as to
use Rattle.par_run_laws.specs.Names as names
use Rattle.par_run_laws.specs.State.{take_input, with_object}
use Rattle.par_run_laws.specs.Tasks.{unless_null, tested, happens, fine, nothing, read}
use Rattle.par_run_laws.specs.Tasks.{named}
use Rattle.par_run_laws.specs.Values.{is_true}
use Rattle.par_run_laws.specs.Values.{object_number}
use Rattle.par_run_laws.specs.Meaning.{outputs, born}
use Rattle.par_evaluation_laws.proofs.Operators.{not_not}
use Rattle.par_match_laws.specs.Labelled.{calls}
use Rattle.std.proofs.Common.{inl}
use Rattle.par_match_laws.specs.par_code_form.Code.{initializer as init_item}
use Rattle.par_evaluation_laws.proofs.Created.{init_ok}
use Rattle.par_evaluation_laws.proofs.Parts.{Setting}
use Rattle.par_evaluation_laws.proofs.Good.{taken_fit, born_fit, born_grows, put_here}
use Rattle.par_evaluation_laws.proofs.Parts.{with, not_void, M, at, Fit, Handed}
use Rattle.par_evaluation_laws.proofs.Parts.{Raises, Holds, number_moved, loads}
use Rattle.par_evaluation_laws.proofs.Parts.{fails}
use Rattle.par_evaluation_laws.proofs.Values.{giv, hand, hand_truth, int_fits, makes, number_fits}
use Rattle.par_evaluation_laws.proofs.Values.{one_fits, raises_on, spend, test}

module _ (ctx : Setting) where
  abbrev env : Naming
  env = ctx.env

  abbrev labelled : ℕ → ℕ → Labelled
  labelled = ctx.labelled

  abbrev mname : ℕ → ℕ → Name
  mname = ctx.mname

  abbrev w : Words
  w = ctx.w

  abbrev lay : Layout
  lay = ctx.lay

  abbrev t : Table
  t = ctx.t

  abbrev cls : ℕ
  cls = ctx.cls

  abbrev mth : ℕ
  mth = ctx.mth

  abbrev fs : List steps.Frame
  fs = ctx.fs

  abbrev tys : ℕ → Ty
  tys = ctx.tys

  abbrev many : ℕ
  many = ctx.many

  abbrev base : ℕ → ℕ
  base = ctx.base

  abbrev lays : Lays env w lay t
  lays = ctx.lays

  abbrev C : Labelled
  C = labelled cls mth

  abbrev H : TExp → Type 0
  H = Holds ctx

  abbrev N : ℕ → ℕ → Turn → Told → Type 0
  N = M ctx

  abbrev pos_of : ℕ → Areas → List MVal → Turn
  pos_of = at ctx

  abbrev V : List ℕ → State → ℕ → ℕ → List Item → List MVal → Ty → Rests → Type 0
  V = Handed ctx

  abbrev X : List ℕ → ℕ → ℕ → ℕ → List Item → Rests → Type 0
  X = Raises ctx

  pub neg_ok : (e : TExp) (m : Mark) → H e → H (Neg e m)
  unfolding eval expr_code Typed mark effect
  neg_ok e m ih n k c p set xs ops rest s a tp deep fit lives h ready raises =
      spend ctx k c _ _ (ih n k (c + 16) p set (Op Ineg ∷ xs) ops (follow (λ v. gives (value.Int
      (negated (number_of v)))) rest) s a tp.2 deep fit tt h
      (giv ctx set s k (c + 16) (Op Ineg ∷ xs) ops (mark e).ty ty.Int (follow (λ v. gives (value.Int
      (negated (number_of v)))) rest) tp.1 refl
      (λ p2 h2 v s2 a2 gr ht fit2. makes ctx k c (c + 16) p2 (Op Ineg) xs Negate a2
      (moved lay v ∷ ops) ops (value.Int (negated (number_of v))) _ (omega arith) h2 lives refl
      (record {
        enough = omega arith;
        fits = one_fits ctx _ (int_fits ctx s2.births v ht);
        short = omega
            (arith, tp.3);
        placed = refl;
        named = refl;
        agrees = refl;
        used = refl;
        stays = λ x g r.
            refl;
        comes = λ x g r. refl;
      })
      (ap (λ n. Goes (with a2 (value.Int (negated n) ∷ ops))) (number_moved ctx v))
      (hand ctx set s k c xs ops m.ty rest (ap is_void tp.0) ready (suc p2) (next C h2)
      (value.Int (negated (number_of v))) s2 a2 gr (subst (λ u. HasType lay s2.births u
      (value.Int (negated (number_of v)))) (sym tp.0) tt) fit2)))
      (raises_on ctx set k c (c + 16) p p xs (Op Ineg ∷ xs) rest (follow (λ v. gives (value.Int
      (negated (number_of v)))) rest) (omega arith) (omega arith) (omega arith)
      (λ x v s. refl) raises))

  pub not_ok : (e : TExp) (m : Mark) → H e → H (Not e m)
  unfolding eval expr_code Typed mark effect
  not_ok e m ih n k c p set xs ops rest s a tp deep fit lives h ready raises =
      spend ctx k c _ _ (ih (n + 2) k (c + 16) p set (test_code 153 n xs) ops (follow (λ v. gives
      (truth (not (is_true v)))) rest) s a tp.2 deep fit tt h
      (giv ctx set s k (c + 16) (test_code 153 n xs) ops (mark e).ty ty.Boolean (follow (λ v. gives
      (truth (not (is_true v)))) rest) tp.1 refl
      (λ p2 h2 v s2 a2 gr ht fit2. test ctx k c p2 153 n xs ops (moved lay v ∷ ops) a2 (not (is_true
      v)) _ (JumpIf 0 (pos (target C.items n) -ℤ pos p2)) h2 lives refl
      (record {
        enough = omega arith;
        fits = one_fits ctx _ (number_fits ctx s2.births ty.Boolean v refl
            ht);
        short = omega (arith, tp.3);
        placed = refl;
        named = refl;
        agrees = refl;
        used =
            refl;
        stays = λ x g r. refl;
        comes = λ x g r. refl;
      })
      (omega (arith, tp.3))
      (ap (λ b. jumps_if b (pos (target C.items n) -ℤ pos p2) (with a2 ops))
      (ap (λ n. compares 0 n (pos 0)) (number_moved ctx v) ∙ sym (not_not _)))
      (hand_truth ctx set s k c xs ops m.ty rest (not (is_true v)) s2 a2 tp.0 ready gr fit2)))
      (raises_on ctx set k c (c + 16) p p xs (test_code 153 n xs) rest
      (follow (λ v. gives (truth (not (is_true v)))) rest)
      (omega arith) (omega arith) (omega arith) (λ x v s. refl) raises))

  pub null_ok : (m : Mark) → H (Null m)
  unfolding eval expr_code Typed mark effect
  null_ok m n k c p set xs ops rest s a tp deep fit lives h ready raises =
      spend ctx k c _ _ (makes ctx k c (c + 16) p (Op AconstNull) xs PushNull a ops ops value.Null _
      (omega arith) h lives refl
      (record {
        enough = omega arith;
        fits = refl;
        short = omega (arith, tp.1);
        placed = refl;
        named = refl;
        agrees = refl;
        used = refl;
        stays = λ x g r. refl;
        comes = λ x g r. refl;
      })
      refl
      (hand ctx set s k c xs ops m.ty rest (ap is_void tp.0) ready (suc p)
      (next C h) value.Null s a (grows_same s)
      (subst (λ u. HasType lay s.births u value.Null) (sym tp.0) tt) fit))

  pub this_ok : (m : Mark) → H (This m)
  unfolding eval expr_code Typed mark
  this_ok m n k c p set xs ops rest s a tp deep fit lives h ready raises =
      spend ctx k c _ _ (loads ctx k c p 0 set kind.AnyObject (Op (AloadShort 0)) xs ops s a _ refl
      h lives fit tp.2 (omega (arith, tp.1))
      (any_fits lay env.names (s.locals 0) (reference_is lay s.births (tys 0)
      (s.locals 0) tp.3 tp.4 (fit.locals_are 0 tp.2).1))
      (hand ctx set s k c xs ops m.ty rest (ap is_void tp.0
      ∙ not_void (tys 0) tp.4) ready (suc p) (next C h) (s.locals 0) s a (grows_same s)
      (subst (λ u. HasType lay s.births u (s.locals 0)) (sym tp.0)
      (fit.locals_are 0 tp.2).1) fit))

  pub static_ok : (c f : ℕ) (m : Mark) → H (Static c f m)
  unfolding eval expr_code Typed mark effect
  static_ok cl f m n k c p set xs ops rest s a tp deep fit lives h ready raises =
      let g = fit.statics_are cl f m.ty tp.0 in
      spend ctx k c _ _ (makes ctx k c (c + 16) p (Member 178 (w.class cl) (w.field cl f)
      (w.field_type cl f)) xs (GetStatic (record {
        class = w.class cl;
        name = w.field cl f;
        is_static = true;
        kind = kind_of w m.ty;
        place = lay.static_at cl f;
      })) a ops ops (moved lay (s.statics cl f)) _ (omega arith) h lives
      (ap (λ l. silent (op.of_field GetStatic (op.Misnamed [] 1) l) (suc (lead xs)))
      (lays.static_link cl f m.ty tp.0))
      (record {
        enough = omega arith;
        fits = refl;
        short = omega (arith, tp.1);
        placed = refl;
        named = refl;
        agrees = refl;
        used = refl;
        stays = λ x g r. refl;
        comes = λ x g r. refl;
      })
      (ap (λ o. Goes (areas.push (areas.value_or_null o) (with a ops))) g.0)
      (hand ctx set s k c xs ops m.ty rest (not_void m.ty (lays.static_value cl f m.ty tp.0)) ready
      (suc p) (next C h) (s.statics cl f) s a (grows_same s) g.1 fit))

  pub input_ok : (c i : ℕ) (m : Mark) → H (Input c i m)
  unfolding eval expr_code Typed mark effect
  input_ok cl i m n k c p set xs ops rest s a tp deep fit lives h ready raises =
      let v = value.Int (areas.next (s.inputs cl i)) in
      spend ctx k c _ _ (on env labelled mname cls mth fs k c (c + 16) p (Member 184 (w.class cl)
      (w.channel cl i) (codes "()I")) xs (InvokeStatic (record {
        is_static = true;
        is_initializer = false;
        receiver = kind.Object (w.class cl);
        takes = [];
        gives = true;
        target = to.Input (w.class cl) (w.channel cl i);
      })) (with a ops)
      (areas.push (value.Int (areas.next (a.inputs (w.class cl) (w.channel cl i))))
      (areas.take_input (w.class cl) (w.channel cl i) (with a ops))) _ (omega arith) h lives
      (ap (λ l. calls (env.wants_exception (w.class cl) (w.channel cl i) (codes "()I"))
      (op.of_method InvokeStatic (op.Misnamed [] 0) l) (suc (lead xs))) (lays.in_link cl i tp.0)
      ∙ ap (λ z. calls z (InvokeStatic (record {
        is_static = true;
        is_initializer = false;
        receiver = kind.Object (w.class cl);
        takes = [];
        gives = true;
        target = to.Input (w.class cl) (w.channel cl i);
      })) (suc (lead xs))) (lays.in_plain cl i tp.0))
      (record {
        enough = omega arith;
        fits = refl;
        short = omega (arith, tp.2);
        placed = refl;
        named = refl;
        agrees = refl;
        used = refl;
        stays = λ x g r. refl;
        comes = λ x g r. refl;
      })
      refl
      (subst (λ l. N k c (pos_of (skip xs (suc p)) (areas.take_input (w.class cl)
      (w.channel cl i) a) (value.Int (areas.next l) ∷ ops))
      (rest Normal v (take_input cl i s))) (sym (fit.inputs_are cl i tp.0))
      (hand ctx set s k c xs ops m.ty rest (ap is_void tp.1) ready (suc p)
      (next C h) v (take_input cl i s) (areas.take_input (w.class cl) (w.channel cl i) a)
      (grows_same s)
      (subst (λ u. HasType lay s.births u v) (sym tp.1) tt)
      (taken_fit env w lay t lays tys many base set s a cl i tp.0 fit))))

  pub output_ok : (c i : ℕ) (e : TExp) (m : Mark) → H e → H (Output c i e m)
  unfolding eval expr_code Typed mark effect
  output_ok cl i e m ih n k c p set xs ops rest s a tp deep fit lives h ready raises =
      let x = Member 184 (w.class cl) (w.channel cl i) (codes "(I)V") in
      let r2 : Rests = follow (outputs t cl i) rest in
      spend ctx k c _ _ (ih n k (c + 16) p set (x ∷ xs) ops r2 s a tp.3 deep fit tt h
      (giv ctx set s k (c + 16) (x ∷ xs) ops (mark e).ty ty.Int r2 tp.1 refl
      (λ p2 h2 v s2 a2 gr ht fit2.
      subst (λ o. N k (c + 16) (pos_of p2 a2 (moved lay v ∷ ops))
      (named o (λ m. happens (Out m.class m.name (number_of v)) fine) rest s2))
      (sym (lays.out_named cl i tp.0))
      (says env labelled mname cls mth fs k c (c + 16) p2 x xs (InvokeStatic (record {
        is_static = true;
        is_initializer = false;
        receiver = kind.Object (w.class cl);
        takes = kind.Number ∷ [];
        gives = false;
        target = to.Output (w.class cl) (w.channel cl i);
      }))
      (with a2 (moved lay v ∷ ops)) (with a2 ops) (Out (w.class cl) (w.channel cl i)
      (number_of v)) s2.locks (rest Normal nothing s2) (omega arith) h2 lives
      (ap (λ l. calls (env.wants_exception (w.class cl) (w.channel cl i) (codes "(I)V"))
      (op.of_method InvokeStatic (op.Misnamed [] 0) l) (suc (lead xs))) (lays.out_link cl i tp.0)
      ∙ ap (λ z. calls z (InvokeStatic (record {
        is_static = true;
        is_initializer = false;
        receiver = kind.Object (w.class cl);
        takes = kind.Number ∷ [];
        gives = false;
        target = to.Output (w.class cl) (w.channel cl i);
      })) (suc (lead xs))) (lays.out_plain cl i tp.0))
      (record {
        enough = omega arith;
        fits = one_fits ctx _ (int_fits ctx s2.births v ht);
        short = omega
            (arith, tp.4);
        placed = refl;
        named = refl;
        agrees = refl;
        used = refl;
        stays = λ x g r.
            refl;
        comes = λ x g r. refl;
      })
      (ap (λ n. Happens (Out (w.class cl) (w.channel cl i) n) (with a2 ops)) (number_moved ctx v))
      refl
      (subst (λ b. N k c (pos_of (skip xs (suc p2)) a2 (cond b ops (moved lay nothing ∷ ops)))
      (rest Normal nothing s2)) (ap is_void tp.2)
      (ready (suc p2) (next C h2) nothing s2 a2 gr (subst (λ u. HasType lay s2.births u nothing)
      (sym tp.2) tt) fit2)))))
      (raises_on ctx set k c (c + 16) p p xs (x ∷ xs) rest r2 (omega arith) (omega arith)
      (omega arith) (λ x v s. refl) raises))

  -- a field is read of an object or of null
  pub read_ok : (cl f k c p n0 : ℕ) (u : Ty) (set : List ℕ) (xs : List Item) (ops : List MVal)
      (rest : Rests) (s2 : State) (a2 : Areas) (v : MVal)
      → HasOwn lay cl f u → length ops < C.max_stack → HasType lay s2.births (ty.Class cl) v
      → Fit ctx set s2 a2
      → Lives xs → Here C p (Member 180 (w.class cl) (w.field cl f) (w.field_type cl f) ∷ xs)
      → V set s2 k c xs ops u rest → X set k c p xs rest
      → N k (c + 16) (pos_of p a2 (moved lay v ∷ ops))
      (unless_null v (read (λ s. s.fields cl (object_number v) f)) rest s2)
  unfolding effect
  read_ok cl f k c p n0 u set xs ops rest s2 a2 (value.Int x) own lt ht fit lives h ready raises =
      absurd ht
  read_ok cl f k c p n0 u set xs ops rest s2 a2 value.Null own lt ht fit lives h ready raises =
      let fl : FieldLink = record {
        class = w.class cl;
        name = w.field cl f;
        is_static = false;
        kind = kind_of w u;
        place = lay.field_at cl f;
      } in
      fails ctx k (c + 16) p 1 (codes "NullPointerException") set
      (Member 180 (w.class cl) (w.field cl f) (w.field_type cl f)) xs (GetField fl)
      (value.Null ∷ ops) nothing s2 a2 rest lays.null_pointer lays.one_thrown h
      (ap (λ l. silent (op.of_field GetField (op.Misnamed (kind.AnyObject ∷ []) 1) l)
      (suc (lead xs))) (lays.own_link cl f u own))
      (record {
        enough = omega arith;
        fits = refl;
        short = omega (arith, lt);
        placed = refl;
        named
            = refl;
        agrees = refl;
        used = refl;
        stays = λ x g r. refl;
        comes = λ x g r. refl;
      })
      refl fit (raises_on ctx set k c (c + 16) p p xs xs rest rest (omega arith) (omega arith)
      (omega arith) (λ x v s. refl) raises)
  read_ok cl f k c p n0 u set xs ops rest s2 a2 (value.Ref d n) own lt ht fit lives h ready raises =
      let fl : FieldLink = record {
        class = w.class cl;
        name = w.field cl f;
        is_static = false;
        kind = kind_of w u;
        place = lay.field_at cl f;
      } in
      let g = fit.fields_are cl n f u own (subst (λ d. IsMade lay d) ht.0 ht.1)
      (subst (λ d. n < s2.births d) ht.0 ht.2) in
      makes ctx k c (c + 16) p (Member 180 (w.class cl) (w.field cl f)
      (w.field_type cl f)) xs (GetField fl) a2 (value.Ref (lay.number d) n ∷ ops) ops (moved
      lay (s2.fields cl n f)) _ (omega arith) h lives
      (ap (λ l. silent (op.of_field GetField (op.Misnamed (kind.AnyObject ∷ []) 1) l)
      (suc (lead xs))) (lays.own_link cl f u own))
      (record {
        enough = omega arith;
        fits = one_fits ctx _ (class_fits env w lay t lays s2.births cl
            (value.Ref d n) ht);
        short = omega (arith, lt);
        placed = refl;
        named = refl;
        agrees =
            refl;
        used = refl;
        stays = λ x g r. refl;
        comes = λ x g r. refl;
      })
      (ap (λ d. Goes (areas.push (areas.field_at (lay.number d) n (lay.field_at cl f)
      (with a2 (value.Ref (lay.number d) n ∷ ops))) (with a2 ops))) ht.0
      ∙ ap (λ o. Goes (areas.push (areas.value_or_null o) (with a2 ops))) g.0)
      (ready (suc p) (next C h) (s2.fields cl n f) s2 a2 (grows_same s2) g.1 fit)

  pub field_ok : (e : TExp) (c f : ℕ) (m : Mark) → H e → H (Field e c f m)
  unfolding eval expr_code Typed mark
  field_ok e cl f m ih n k c p set xs ops rest s a tp deep fit lives h ready raises =
      let x = Member 180 (w.class cl) (w.field cl f) (w.field_type cl f) in
      let r2 : Rests = follow (λ r. tested (mark e).sure r (read (λ s. s.fields cl (object_number
      r) f))) rest in
      spend ctx k c _ _ (ih n k (c + 16) p set (x ∷ xs) ops r2 s a tp.3 deep fit tt h
      (giv ctx set s k (c + 16) (x ∷ xs) ops (mark e).ty (ty.Class cl) r2 tp.1 refl
      (λ p2 h2 v s2 a2 gr ht fit2.
      subst (λ b. N k (c + 16) (pos_of p2 a2 (moved lay v ∷ ops))
      (tested b v (read (λ s. s.fields cl (object_number v) f)) rest s2)) (sym tp.2)
      (read_ok cl f k c p2 n m.ty set xs ops rest s2 a2 v tp.0 (omega (arith, tp.4)) ht fit2 lives
      h2
      (λ q hq z s3 a3 gr3. hand ctx set s k c xs ops m.ty rest
      (not_void m.ty (lays.own_value cl f m.ty tp.0)) ready q hq z s3 a3 (grows_on s s2 s3 gr gr3))
      (raises_on ctx set k c c p p2 xs xs rest rest (let g = expr_grows w e n (x ∷ xs) in omega (
        arith,
        h.fits,
        h2.fits,
        g,
      )) (omega arith) (omega arith) (λ x v s. refl) raises))))
      (raises_on ctx set k c (c + 16) p p xs (x ∷ xs) rest r2 (omega arith) (omega arith)
      (omega arith) (λ x v s. refl) raises))

  pub new_ok : (c : ℕ) (m : Mark) → H (New c m)
  unfolding eval expr_code Typed mark effect
  new_ok cl m n k c p set xs ops rest s a tp deep fit lives h ready raises =
      let g = lays.made_link cl tp.2 in
      let cls' : ClassLink = record {
        name = w.class cl;
        number = lay.number cl;
        fields = g.0;
        is_exception = false;
        is_made = true;
      } in
      let v = value.Ref cl (s.births cl) in
      let a' = areas.with_object (lay.number cl) (map first_value g.0) a in
      let s' = with_object cl (names.first_field t cl) s in
      let ref = value.Ref (lay.number cl) (s.births cl) in
      let h1 = next C h in
      let h2 = next C h1 in
      spend ctx k c _ _
      (subst (λ o. N k (c + 16) (pos_of p a ops) (named o (born t cl) rest s))
      (sym (lays.made_named cl tp.2))
      (says env labelled mname cls mth fs k (c + 8) (c + 16) p (ClassOp 187 (w.class cl))
      (Op Dup ∷ init_item (w.class cl) ∷ xs) (Create cls') (with a ops)
      (with a' (ref ∷ ops)) (Born (w.class cl) (s.births cl)) s.locks (rest Normal v s')
      (omega arith) h tt
      (ap (λ l. silent (op.of_class l) 1) g.1)
      (record {
        enough = omega arith;
        fits = refl;
        short = omega (arith, tp.1);
        placed = refl;
        named = refl;
        agrees = refl;
        used = refl;
        stays = λ x g r. refl;
        comes = λ x g r. refl;
      })
      (ap (λ n. Happens (Born (w.class cl) n) (with a' (value.Ref (lay.number cl) n ∷ ops)))
      (fit.many_are cl tp.2))
      refl
      (makes ctx k (c + 5) (c + 8) (suc p) (Op Dup) (init_item (w.class cl) ∷ xs) Copy a'
      (ref ∷ ops) (ref ∷ ops) ref _ (omega arith) h1 tt refl
      (record {
        enough = omega arith;
        fits = refl;
        short = omega (arith, tp.1);
        placed = refl;
        named = refl;
        agrees = refl;
        used = refl;
        stays = λ x g r. refl;
        comes = λ x g r. refl;
      })
      refl
      (init_ok ctx k c (suc (suc p)) cl (s.births cl) xs a' (ref ∷ ops) _ (inl tp.2) h2 lives
      (omega (arith, tp.1))
      (hand ctx set s k c xs ops m.ty rest (ap is_void tp.0) ready (suc (suc (suc p)))
      (next C h2) v s' a' (born_grows env w lay t lays cl s (names.first_field t cl))
      (subst (λ u. HasType lay s'.births u v) (sym tp.0) (
        refl,
        tp.2,
        (let e = put_here s.births cl (s.births cl + 1) cl refl in omega (
          arith,
          e,
        )),
      ))
      (born_fit env w lay t lays tys many base set s a cl tp.2 g.0 g.2 fit))))))
