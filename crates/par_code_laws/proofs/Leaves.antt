-- The code of a statement without parts shows its run.
use Rattle.par_evaluation_laws.specs.Laid.{HasOwn, IsLock, IsMade}
use Rattle.std.proofs.Common.{◌≡◌, ℕ, suc, ◌+◌, ◌-◌, ◌≤◌, ◌<◌, Bool, true, false, not, List, []}
use Rattle.std.proofs.Common.{◌∷◌}
use Rattle.std.proofs.Common.{length, Option, Some, None, refl, ap, sym, ◌∙◌, subst, arith, codes}
use Rattle.std.specs.Prelude.{ℤ, pos, if◌then◌else◌, cond}
use Rattle.std.proofs.lemmas.Bool.{lt-ltb}
use Rattle.par_typed.specs.declared.ty.Ty.{Ty}
use Rattle.par_typed.specs.declared.ty.Ty.TheVariants as ty
use Rattle.par_typed.specs.declared.table.Table.{Table}
use Rattle.par_values.specs.declared.kind.Kind.{Kind}
use Rattle.par_values.specs.declared.kind.Kind.TheVariants as kind
use Rattle.par_values.specs.declared.value.MVal.{MVal}
use Rattle.par_values.specs.declared.value.MVal.TheVariants as value
use Rattle.par_values.specs.Areas.{Name, Areas, number_of, fits}
use Rattle.par_values.specs.Areas as areas
use Rattle.par_values.specs.Operations.{Operation, Push, PushNull, Load, Store, Discard, Copy}
use Rattle.par_values.specs.Operations.{Combine, Negate, JumpIf, JumpIfBoth, JumpIfSame, GetStatic}
use Rattle.par_values.specs.Operations.{GetField, Create}
use Rattle.par_values.specs.Operations as op
use Rattle.par_values.specs.Effects.{Goes, Happens, effect}
use Rattle.par_run_laws.specs.State.{State}
use Rattle.par_run_laws.specs.Values.{truth}
use Rattle.par_step_laws.specs.State as steps
use Rattle.par_step_laws.specs.Step.{Turn}
use Rattle.par_code_form.specs.declared.item.Item.{Item}
use Rattle.par_code_form.specs.declared.item.Item.TheVariants.{Op, Const, Member, ClassOp, LockOp}
use Rattle.par_evaluation_laws.specs.par_match_laws.Labelled.{Labelled, Naming, lead, skip, silent}
use Rattle.par_evaluation_laws.proofs.par_match_laws.Rules.{Told}
use Rattle.par_evaluation_laws.proofs.par_match_laws.Steps.{Lives, Here, next, IsSound, P, on, says}
use Rattle.par_evaluation_laws.proofs.par_match_laws.Steps.{leaves_turn}
use Rattle.par_evaluation_laws.proofs.par_match_laws.Steps.{leaves_with_turn}
use Rattle.par_evaluation_laws.specs.Agreement.{Lays}
use Rattle.par_evaluation_laws.proofs.Good.{typed_on, class_fits, kind_fits}
use Rattle.par_evaluation_laws.proofs.Good.{born_thrown}
use Rattle.par_evaluation_laws.proofs.AgreeingValues.{kind_in, store_is}
use Rattle.par_values.specs.Operations.{InvokeStatic, PutStatic}
use Rattle.par_values.specs.declared.link.FieldLink.{FieldLink}
use Rattle.par_values.specs.declared.link.ClassLink.{ClassLink}
use Rattle.par_values.specs.Areas.{first_value}
use Rattle.par_instr.specs.declared.instr.Instr.{Instr}
use Rattle.par_values.specs.Operations.{operation}
use Rattle.par_values.specs.declared.run.Event.TheVariants.{Set}
use Rattle.par_values.specs.declared.link.Link.TheVariants as link
use Rattle.par_run_laws.specs.Values.{shown_value as source_value}
use Rattle.std.proofs.Common.{inl, inr}
use Rattle.std.proofs.lemmas.Bool.{and_right, or_from}
use Rattle.std.specs.Prelude.{is_none}
use Rattle.par_single.specs.Links.{kind_or_any}
use Rattle.par_values.specs.Reasons.{is_result, unfit_result}
use Rattle.par_instr.specs.declared.instr.Instr.TheVariants.{Pop}
use Rattle.par_instr.specs.declared.instr.Instr.TheVariants as instr
use Rattle.par_typed.specs.Plain.{mark, TExp, Absent, Present}
use Rattle.par_typed.specs.Plain.{Return, Break, Continue, Throw, Open}
use Rattle.par_typed.specs.Plain.{Close, SetLocal, SetStatic, SetField, Eval}
use Rattle.par_run_laws.specs.State.{set_local, set_static, set_result}
use Rattle.par_run_laws.specs.Tasks.{Normal, Returned, Thrown, Rests, Task, and_then, follow}
use Rattle.par_run_laws.specs.Tasks.{change}
use Rattle.par_run_laws.specs.Tasks.{done, fine, nothing, happens, named}
use Rattle.par_run_laws.specs.Meaning.{Calls, eval, go, writes_static}
use Rattle.par_completes.specs.Typed.{completes}
use Rattle.par_completes.specs.Typed.{breaks}
use Rattle.par_instr.specs.declared.instr.Instr.TheVariants.{Dup, Athrow}
use Rattle.par_values.specs.Operations.{PutField}
use Rattle.par_values.specs.declared.run.Event.TheVariants.{Put}
use Rattle.par_run_laws.specs.State.{set_field, open_lock, close_lock}
use Rattle.par_run_laws.specs.Tasks.{unless_null, tested}
use Rattle.par_run_laws.specs.Meaning.{writes_field}
use Rattle.par_evaluation_laws.proofs.par_match_laws.Steps.{hushed, object_turn}
use Rattle.par_evaluation_laws.proofs.Kept.{open_fit, close_fit, field_fit}
use Rattle.par_code_form.specs.Code.{initializer as init_item}
use Rattle.par_code_form.specs.Code.{handlers}
use Rattle.par_evaluation_laws.proofs.Created.{init_ok}
use Rattle.par_evaluation_laws.proofs.Parts.{Setting, fails}
use Rattle.par_code_form.specs.Code.{Words, is_number, is_void, store, give_back, dropped}
use Rattle.par_code_form.specs.Code.{expr_labels, expr_code, code}
use Rattle.par_evaluation_laws.specs.Laid.{Layout, moved, HasType, TypedS}
use Rattle.par_evaluation_laws.specs.Laid.{Accepts, kind_of}
use Rattle.par_evaluation_laws.proofs.Good.{set_fit, static_fit, value_shown}
use Rattle.par_evaluation_laws.proofs.Lengths.{expr_grows, expr_lives}
use Rattle.par_evaluation_laws.proofs.Parts.{with, not_void, M, at, Fit, given, Raises}
use Rattle.par_evaluation_laws.proofs.Parts.{kind_in_fits}
use Rattle.par_evaluation_laws.proofs.Values.{raises_on, one_fits, two_fit, makes}
use Rattle.par_evaluation_laws.proofs.Exprs.{expr_ok}
use Rattle.par_code_laws.proofs.Exits.{Holds', Normally, acc, expr_then, hand, jumped, raises_here}
use Rattle.par_code_laws.proofs.Exits.{spend, wk}

module _ (ctx : Setting) (result : Ty) where
  abbrev env : Naming
  env = ctx.env

  abbrev labelled : ℕ → ℕ → Labelled
  labelled = ctx.labelled

  abbrev mname : ℕ → ℕ → Name
  mname = ctx.mname

  abbrev w : Words
  w = ctx.w

  abbrev lay : Layout
  lay = ctx.lay

  abbrev t : Table
  t = ctx.t

  abbrev run : Calls
  run = ctx.run

  abbrev cls : ℕ
  cls = ctx.cls

  abbrev mth : ℕ
  mth = ctx.mth

  abbrev fs : List steps.Frame
  fs = ctx.fs

  abbrev tys : ℕ → Ty
  tys = ctx.tys

  abbrev many : ℕ
  many = ctx.many

  abbrev base : ℕ → ℕ
  base = ctx.base

  abbrev lays : Lays env w lay t
  lays = ctx.lays

  abbrev sound : IsSound (P env labelled mname)
  sound = ctx.sound

  abbrev C : Labelled
  C = labelled cls mth

  abbrev N : ℕ → ℕ → Turn → Told → Type 0
  N = M ctx

  abbrev pos_of : ℕ → Areas → List MVal → Turn
  pos_of = at ctx

  abbrev Fits' : List ℕ → State → Areas → Type 0
  Fits' = Fit ctx

  abbrev X : List ℕ → ℕ → ℕ → ℕ → List Item → Rests → Type 0
  X = Raises ctx

  pub break_ok : (x y : ℕ) → Holds' ctx result (Break x y)
  unfolding go code TypedS breaks
  break_ok x y inside l n k c p set xs hs rest s a tp fit le lv h catches normal z =
      spend ctx result k c _ _ (jumped ctx result k k c (c + 16) p l.out xs a _ (omega arith)
      (omega arith) h (z.out_stands tp refl) (z.broken tp refl s a fit))

  pub continue_ok : (x y : ℕ) → Holds' ctx result (Continue x y)
  unfolding go code TypedS
  continue_ok x y inside l n k c p set xs hs rest s a tp fit le lv h catches normal z =
      spend ctx result k c _ _ (jumped ctx result (k - 1) k c (c + 16) p l.again xs a _ (omega
      arith) (omega arith) h (z.again_stands tp) (z.continued tp s a fit))

  pub local_set : (x : ℕ) (q : Option ℕ) (e : TExp) (y1 y2 : ℕ)
      → Holds' ctx result (SetLocal x q e y1 y2)
  unfolding go code TypedS effect completes handlers
  local_set x q e y1 y2 inside l n k c p set xs hs rest s a tp fit le lv h catches normal z =
      let f : MVal → Task = λ v. change (set_local x v) fine in
      let i = store_is (mark e).ty x in
      expr_then ctx result e n k c p set xs (store (mark e).ty x ∷ xs) rest f s a tp.2 fit le
      (subst (λ y. Lives (y ∷ xs)) (sym i.1) tt)
      (omega arith) h (raises_here ctx result k c p xs set hs rest catches z.lands)
      (hand ctx result set s k (c + 16) (store (mark e).ty x ∷ xs) [] (mark e).ty (follow f rest)
      (not_void (mark e).ty tp.3)
      (λ p2 h2 v s2 a2 gr ht fit2.
      subst (λ y. (Here C p2 (y ∷ xs) → N k (c + 16)
      (pos_of (skip (y ∷ xs) p2) a2 (moved lay v ∷ []))
      (rest Normal nothing (set_local x v s2)))) (sym i.1)
      (λ h2. on env labelled mname cls mth fs k c (c + 16) p2 (Op i.0) xs (Store x (kind_in
      (is_number (mark e).ty))) (with a2 (moved lay v ∷ []))
      (with (areas.set_local x (moved lay v) a2) []) _ (omega arith) h2 (lv refl)
      (ap (λ o. silent o (suc (lead xs))) i.2)
      (record {
        enough = omega arith;
        fits = one_fits ctx _ (kind_in_fits ctx s2.births (mark e).ty v tp.3 ht);
        short = omega arith;
        placed = ap not (lt-ltb x (length a2.locals)
            (let y = fit2.size in let y2 = tp.0 in omega (arith, y, y2)));
        named = refl;
        agrees = refl;
        used = refl;
        stays = λ x g r. refl;
        comes = λ x g r. refl;
      })
      refl
      (normal refl (suc p2) (next C h2) (set_local x v s2) (areas.set_local x (moved lay v) a2)
      (set_fit env w lay t lays tys many base set s2 a2 x v tp.0 (acc ctx result s2.births (tys x)
      (mark e).ty v tp.1 ht) fit2)))
      h2))

  pub static_set : (c f : ℕ) (e : TExp) (y1 y2 : ℕ) → Holds' ctx result (SetStatic c f e y1 y2)
  unfolding go code TypedS effect completes handlers
  static_set cl f e y1 y2 inside l n k c p set xs hs rest s a tp fit le lv h catches normal z =
      let x = Member 179 (w.class cl) (w.field cl f) (w.field_type cl f) in
      let u = tp.0 in
      let fl : FieldLink = record {
        class = w.class cl;
        name = w.field cl f;
        is_static = true;
        kind
            = kind_of w u;
        place = lay.static_at cl f;
      } in
      expr_then ctx result e n k c p set xs (x ∷ xs) rest (writes_static t cl f) s a tp.3 fit le tt
      (omega arith) h (raises_here ctx result k c p xs set hs rest catches z.lands)
      (hand ctx result set s k (c + 16) (x ∷ xs) [] (mark e).ty (follow (writes_static t cl f)
      rest) (not_void (mark e).ty tp.4)
      (λ p2 h2 v s2 a2 gr ht fit2.
      let hu = acc ctx result s2.births u (mark e).ty v tp.2 ht in
      subst (λ o. N k (c + 16) (pos_of p2 a2 (moved lay v ∷ []))
      (named o (λ m. happens (Set m.class m.name (source_value t v))
      (change (set_static cl f v) fine)) rest s2)) (sym (lays.static_named cl f u tp.1))
      (says env labelled mname cls mth fs k c (c + 16) p2 x xs (PutStatic fl)
      (with a2 (moved lay v ∷ []))
      (with (areas.set_static (lay.static_at cl f) (moved lay v) a2) []) (Set (w.class cl)
      (w.field cl f) (source_value t v)) s2.locks (rest Normal nothing (set_static cl f v s2))
      (omega arith) h2 (lv refl)
      (ap (λ l. silent (op.of_field PutStatic (op.Misnamed (kind.Anything ∷ []) 0) l)
      (suc (lead xs)))
      (lays.static_link cl f u tp.1))
      (record {
        enough = omega arith;
        fits = one_fits ctx _ (kind_fits env w lay t lays s2.births u
            v (lays.static_value cl f u tp.1) hu);
        short = omega arith;
        placed = refl;
        named = refl;
        agrees = refl;
        used = refl;
        stays = λ x g r. refl;
        comes = λ x g r. refl;
      })
      (ap (λ y. Happens (Set (w.class cl) (w.field cl f) y)
      (with (areas.set_static (lay.static_at cl f) (moved lay v) a2) []))
      (value_shown env w lay t lays s2.births u v hu (lays.static_value cl f u tp.1)))
      (ap (λ b. if b then Goes (with (areas.set_static (lay.static_at cl f)
      (moved lay v) a2) []) else Happens (Set (w.class cl) (w.field cl f) (source_value t v))
      (with (areas.set_static (lay.static_at cl f) (moved lay v) a2) []))
      (lays.plain cl f u tp.1))
      (normal refl (suc p2) (next C h2) (set_static cl f v s2)
      (areas.set_static (lay.static_at cl f) (moved lay v) a2)
      (static_fit env w lay t lays tys many base set s2 a2 cl f u v tp.1 hu fit2)))))

  pub eval_ok : (e : TExp) (y1 y2 : ℕ) → Holds' ctx result (Eval e y1 y2)
  unfolding go code TypedS effect completes handlers
  eval_ok e y1 y2 inside l n k c p set xs hs rest s a tp fit le lv h catches normal z =
      expr_then ctx result e n k c p set xs (dropped (mark e).ty xs) rest (λ v. fine) s a tp fit le
      (drop_lives (is_void (mark e).ty))
      (drop_longer (is_void (mark e).ty)) h (raises_here ctx result k c p xs set hs rest
      catches z.lands)
      (λ p2 h2 v s2 a2 gr ht fit2. pick (is_void (mark e).ty) p2 v s2 a2 h2 fit2)
    where
      drop_lives : (b : Bool) → Lives (cond b xs (Op Pop ∷ xs))
      drop_lives true = lv refl
      drop_lives false = tt

      drop_longer : (b : Bool) → length xs ≤ length (cond b xs (Op Pop ∷ xs))
      drop_longer true = omega arith
      drop_longer false = omega arith

      pick : (b : Bool) (p2 : ℕ) (v : MVal) (s2 : State) (a2 : Areas)
          → Here C p2 (cond b xs (Op Pop ∷ xs)) → Fits' set s2 a2
          → N k (c + 16) (pos_of (skip (cond b xs (Op Pop ∷ xs)) p2) a2 (cond b [] (moved lay v ∷
          []))) (rest Normal nothing s2)
      pick true p2 v s2 a2 h2 fit2 = wk ctx result k c (c + 16) _ _ (omega arith)
          (normal refl p2 h2 s2 a2 fit2)
      pick false p2 v s2 a2 h2 fit2 =
          on env labelled mname cls mth fs k c (c + 16) p2 (Op Pop) xs Discard (with a2 (moved lay
          v ∷ [])) (with a2 []) _ (omega arith) h2 (lv refl) refl
          (record {
            enough = omega arith;
            fits = refl;
            short = omega arith;
            placed = refl;
            named =
                refl;
            agrees = refl;
            used = refl;
            stays = λ x g r. refl;
            comes = λ x g r. refl;
          })
          refl (normal refl (suc p2) (next C h2) s2 a2 fit2)

  -- ---- locks

  pub lock_ok : (l2 : ℕ) (b : Bool) (m : ℤ) (k c p : ℕ) (set : List ℕ) (xs : List Item)
      (s s' : State) (a : Areas) (rest : Rests)
      → truth b ≡ value.Int m → IsLock lay l2 → 0 < C.max_stack → Lives xs
      → Here C p (Const m ∷ LockOp 179 l2 ∷ xs)
      → Fits' set s' (areas.set_static (lay.lock_at l2) (value.Int m) a)
      → Normally ctx result k c xs set rest
      → N k (c + 16) (pos_of p a []) (rest Normal nothing s')
  unfolding effect
  lock_ok l2 b m k c p set xs s s' a rest e is room lv h fit normal =
      let g = lays.lock_link l2 is in
      let fl : FieldLink = record {
        class = codes "paragon/Locks";
        name = g.0;
        is_static = true;
        kind = kind.Number;
        place = lay.lock_at l2;
      } in
      let h1 = next C h in
      on env labelled mname cls mth fs k (c + 8) (c + 16) p (Const m) (LockOp 179 l2 ∷ xs)
      (Push m) (with a []) (with a (value.Int m ∷ [])) _ (omega arith) h tt refl
      (record {
        enough = omega arith;
        fits = refl;
        short = omega (arith, room);
        placed = refl;
        named = refl;
        agrees = refl;
        used = refl;
        stays = λ x g r. refl;
        comes = λ x g r. refl;
      })
      refl
      (hushed env labelled mname cls mth fs k c (c + 8) (suc p) (LockOp 179 l2) xs (PutStatic fl)
      (with a (value.Int m ∷ [])) (with (areas.set_static (lay.lock_at l2) (value.Int m) a) [])
      (Set (codes "paragon/Locks") g.0 (areas.shown_value env.names (value.Int m))) _ (omega arith)
      h1 lv
      (ap (λ l. silent (op.of_field PutStatic (op.Misnamed (kind.Anything ∷ []) 0) l)
      (suc (lead xs))) g.1)
      (record {
        enough = omega arith;
        fits = refl;
        short = omega (arith, room);
        placed = refl;
        named = refl;
        agrees = refl;
        used = refl;
        stays = λ x g r. refl;
        comes = λ x g r. refl;
      })
      refl refl
      (normal (suc (suc p)) (next C h1) s' (areas.set_static (lay.lock_at l2) (value.Int m) a) fit))

  pub opens_ok : (l2 y1 y2 : ℕ) → Holds' ctx result (Open l2 y1 y2)
  unfolding go code TypedS completes
  opens_ok l2 y1 y2 inside l n k c p set xs hs rest s a tp fit le lv h catches normal z =
      spend ctx result k c _ _ (lock_ok l2 true (pos 1) k c p set xs s (open_lock l2 s) a rest refl
      tp.0 tp.1 (lv refl) h
      (open_fit env w lay t lays tys many base set s a l2 tp.0 fit) (normal refl))

  pub closes_ok : (l2 y1 y2 : ℕ) → Holds' ctx result (Close l2 y1 y2)
  unfolding go code TypedS completes
  closes_ok l2 y1 y2 inside l n k c p set xs hs rest s a tp fit le lv h catches normal z =
      spend ctx result k c _ _ (lock_ok l2 false (pos 0) k c p set xs s (close_lock l2 s) a rest
      refl tp.0 tp.1 (lv refl) h
      (close_fit env w lay t lays tys many base set s a l2 tp.0 fit) (normal refl))

  -- ---- exceptions

  pub throw_ok : (x y1 y2 : ℕ) → Holds' ctx result (Throw x y1 y2)
  unfolding go code TypedS effect handlers
  throw_ok x y1 y2 inside l n k c p set xs hs rest s a tp fit le lv h catches normal z =
      let number = areas.next_number (lay.number x) a in
      let ref = value.Ref (lay.number x) number in
      let a1 = areas.with_object (lay.number x) [] a in
      let cl : ClassLink = record {
        name = w.class x;
        number = lay.number x;
        fields = [];
        is_exception = true;
        is_made = true;
      } in
      let h1 = next C h in
      let h2 = next C h1 in
      let h3 = next C h2 in
      let room = tp.1 in
      spend ctx result k c _ _
      (on env labelled mname cls mth fs k (c + 12) (c + 16) p (ClassOp 187 (w.class x))
      (Op Dup ∷ init_item (w.class x) ∷ Op Athrow ∷ xs) (Create cl) (with a [])
      (with a1 (ref ∷ [])) _ (omega arith) h tt
      (ap (λ l. silent (op.of_class l) 1) (lays.thrown_link x tp.0))
      (record {
        enough = omega arith;
        fits = refl;
        short = omega (arith, room);
        placed = refl;
        named = refl;
        agrees = refl;
        used = refl;
        stays = λ x g r. refl;
        comes = λ x g r. refl;
      })
      refl
      (makes ctx k (c + 5) (c + 12) (suc p) (Op Dup)
      (init_item (w.class x) ∷ Op Athrow ∷ xs) Copy a1 (ref ∷ [])
      (ref ∷ []) ref _ (omega arith) h1 tt refl
      (record {
        enough = omega arith;
        fits = refl;
        short = omega (arith, room);
        placed = refl;
        named = refl;
        agrees = refl;
        used = refl;
        stays = λ x g r. refl;
        comes = λ x g r. refl;
      })
      refl
      (init_ok ctx k c (suc (suc p)) x number (Op Athrow ∷ xs) a1 (ref ∷ []) _ (inr tp.0) h2 tt
      (omega (arith, room))
      (subst (λ y. N k c y (rest (Thrown x) nothing s))
      (sym (object_turn env labelled mname cls mth fs sound (suc (suc (suc p)))
      (Op Athrow) xs op.Throw (with a1 (ref ∷ [])) (lay.number x) number h3 refl
      (record {
        enough = omega arith;
        fits = refl;
        short = omega arith;
        placed = refl;
        named =
            refl;
        agrees = refl;
        used = ap not (lays.thrown_is x number tp.0);
        stays = λ x g r. refl;
        comes = λ x g r. refl;
      })
      refl (lays.thrown_is x number tp.0)))
      (raises_here ctx result k c p xs set hs rest catches z.lands (suc (suc (suc p))) x number
      nothing s (with a1 (ref ∷ []))
      (record { low = omega arith; high = omega (arith, h3.fits) }) tp.0
      (born_thrown env w lay t lays tys many base set s a x tp.0 fit))))))

  -- ---- fields of objects

  -- a field is written of an object, or of null
  pub written_ok : (cl f k c p : ℕ) (u : Ty) (set : List ℕ) (xs : List Item) (rest : Rests)
      (s : State) (a : Areas) (r v : MVal)
      → HasOwn lay cl f u → 1 < C.max_stack → HasType lay s.births (ty.Class cl) r
      → HasType lay s.births u v → Fits' set s a
      → Lives xs → Here C p (Member 181 (w.class cl) (w.field cl f) (w.field_type cl f) ∷ xs)
      → Normally ctx result k c xs set rest → X set k (c + 16) p xs rest
      → N k (c + 16) (pos_of p a (moved lay v ∷ moved lay r ∷ []))
      (unless_null r (writes_field t cl f r v) rest s)
  unfolding effect
  written_ok cl f k c p u set xs rest s a (value.Int x) v own room hr hv fit lv h normal raises =
      absurd hr
  written_ok cl f k c p u set xs rest s a value.Null v own room hr hv fit lv h normal raises =
      let fl : FieldLink = record {
        class = w.class cl;
        name = w.field cl f;
        is_static = false;
        kind = kind_of w u;
        place = lay.field_at cl f;
      } in
      fails ctx k (c + 16) p 1 (codes "NullPointerException") set
      (Member 181 (w.class cl) (w.field cl f) (w.field_type cl f)) xs (PutField fl)
      (moved lay v ∷ value.Null ∷ []) nothing s a rest lays.null_pointer lays.one_thrown h
      (ap
      (λ l. silent (op.of_field PutField (op.Misnamed (kind.Anything ∷ kind.AnyObject ∷ []) 0) l)
      (suc (lead xs)))
      (lays.own_link cl f u own))
      (record {
        enough = omega arith;
        fits = two_fit ctx _ _ (kind_fits env w lay t lays s.births u v (lays.own_value cl f u own)
            hv) refl;
        short = omega (arith, room);
        placed = refl;
        named = refl;
        agrees = refl;
        used = refl;
        stays = λ x g r. refl;
        comes = λ x g r. refl;
      })
      refl fit raises
  written_ok cl f k c p u set xs rest s a (value.Ref d n) v own room hr hv fit lv h normal raises =
      let fl : FieldLink = record {
        class = w.class cl;
        name = w.field cl f;
        is_static = false;
        kind = kind_of w u;
        place = lay.field_at cl f;
      } in
      let made_is : IsMade lay cl = subst (λ d. IsMade lay d) hr.0 hr.1 in
      let below : n < s.births cl = subst (λ d. n < s.births d) hr.0 hr.2 in
      let a2 = areas.set_field (lay.number cl) n (lay.field_at cl f) (moved lay v) a in
      subst (λ o. N k (c + 16) (pos_of p a (moved lay v ∷ value.Ref (lay.number d) n ∷ []))
      (named o (λ m. happens (Put m.class n m.name (source_value t v))
      (change (set_field cl n f v) fine)) rest s)) (sym (lays.own_named cl f u own))
      (says env labelled mname cls mth fs k c (c + 16) p (Member 181 (w.class cl) (w.field cl f)
      (w.field_type cl f)) xs (PutField fl)
      (with a (moved lay v ∷ value.Ref (lay.number d) n ∷ []))
      (with a2 []) (Put (w.class cl) n (w.field cl f)
      (source_value t v)) s.locks (rest Normal nothing (set_field cl n f v s))
      (omega arith) h lv
      (ap
      (λ l. silent (op.of_field PutField (op.Misnamed (kind.Anything ∷ kind.AnyObject ∷ []) 0) l)
      (suc (lead xs)))
      (lays.own_link cl f u own))
      (record {
        enough = omega arith;
        fits = two_fit ctx _ _ (kind_fits env w lay t lays s.births u v (lays.own_value cl f u own)
            hv) (class_fits env w lay t lays s.births cl (value.Ref d n) hr);
        short = omega (arith, room);
        placed = refl;
        named = refl;
        agrees = refl;
        used = refl;
        stays = λ x g r. refl;
        comes = λ x g r. refl;
      })
      (ap (λ y. Happens (Put (w.class cl) n (w.field cl f) y)
      (with (areas.set_field (lay.number d) n (lay.field_at cl f) (moved lay v) a) []))
      (value_shown env w lay t lays s.births u v hv (lays.own_value cl f u own))
      ∙ ap (λ d. Happens (Put (w.class cl) n (w.field cl f) (source_value t v))
      (with (areas.set_field (lay.number d) n (lay.field_at cl f) (moved lay v) a) [])) hr.0)
      refl
      (normal (suc p) (next C h) (set_field cl n f v s) a2 (field_fit env w lay t lays tys many
      base set s a cl n f u v own made_is below hv fit)))

  pub field_set : (o : TExp) (cl f : ℕ) (e : TExp) (y1 y2 : ℕ)
      → Holds' ctx result (SetField o cl f e y1 y2)
  unfolding go code TypedS completes handlers
  field_set o cl f e y1 y2 inside l n k c p set xs hs rest s a tp fit le lv h catches normal z =
      let x = Member 181 (w.class cl) (w.field cl f) (w.field_type cl f) in
      let ys = expr_code w e (expr_labels o n) (x ∷ xs) in
      let f2 : MVal → MVal → Task = λ r v. tested (mark o).sure r (writes_field t cl f r v) in
      let f1 : MVal → Task = λ r. and_then (eval t run e) (f2 r) in
      let g = expr_grows w e (expr_labels o n) (x ∷ xs) in
      let g2 = expr_grows w o n ys in
      let raises = raises_here ctx result k c p xs set hs rest catches z.lands in
      expr_then ctx result o n k c p set xs ys rest f1 s a tp.4 fit le (expr_lives w e (expr_labels
      o n) (x ∷ xs) tt) (omega (arith, g)) h raises
      (given ctx set s k (c + 16) ys [] (mark o).ty (ty.Class cl) (follow f1 rest) tp.2 refl
      (λ p2 h2 r s2 a2 gr hr fit2.
      expr_ok ctx e (expr_labels o n) k (c + 16) p2 set (x ∷ xs) (moved lay r ∷ [])
      (follow (f2 r) rest) s2 a2 tp.6 le fit2 tt h2
      (given ctx set s2 k (c + 16) (x ∷ xs) (moved lay r ∷ [])
      (mark e).ty (mark e).ty (follow (f2 r) rest) refl (not_void (mark e).ty tp.7)
      (λ p3 h3 v s3 a3 gr3 hv fit3.
      subst (λ b. N k (c + 16) (pos_of p3 a3 (moved lay v ∷ moved lay r ∷ []))
      (tested b r (writes_field t cl f r v) rest s3)) (sym tp.3)
      (written_ok cl f k c p3 tp.0 set xs rest s3 a3 r v tp.1 tp.8 (typed_on lay s2.births
      s3.births (ty.Class cl) r gr3 hr)
      (acc ctx result s3.births tp.0 (mark e).ty v tp.5 hv) fit3 (lv refl) h3 (normal refl)
      (raises_on ctx set k c (c + 16) p p3 xs xs rest rest (omega (arith, h.fits, h3.fits, g, g2))
      (omega arith) (omega arith) (λ x v s. refl) raises))))
      (raises_on ctx set k c (c + 16) p p2 xs (x ∷ xs) rest (follow (f2 r) rest)
      (omega (arith, h.fits, h2.fits, g2)) (omega arith) (omega arith) (λ x v s. refl) raises)))

  -- ---- returns

  abbrev pub given_kind : Ty → Option Kind
  given_kind u = cond (is_void u) None (Some (kind_of w u))

  module _ (gives_is : C.gives ≡ given_kind result) where
    pub return_ok : (y1 y2 : ℕ) → Holds' ctx result (Return Absent y1 y2)
    unfolding go code TypedS effect completes handlers
    return_ok y1 y2 inside l n k c p set xs hs rest s a tp fit le lv h catches normal z =
        let g : C.gives ≡ None = gives_is ∙ ap given_kind tp in
        spend ctx result k c _ _ (subst (λ y. N k (c + 16) y (rest Returned nothing s))
        (sym (leaves_turn env labelled mname cls mth fs p (Op instr.Return) xs op.Leave (with a
        []) h refl
        (record {
          enough = omega arith;
          fits = refl;
          short = omega arith;
          placed = refl;
          named = refl;
          agrees = refl;
          used = refl;
          stays = λ x g r. refl;
          comes = λ x gn r. ap not (gn ∙ ap is_none g);
        }) refl))
        (wk ctx result k c (c + 16) _ _ (omega arith) (z.returns p s a tp fit)))

    -- the kinds of a result and of its value
    pub back_is : (u v : Ty) → Accepts u v → (u ≡ ty.Void → ⊥)
        → (given_kind u ≡ Some (kind_of w u)) × (is_result (kind_in (is_number v))
        (kind_of w u) ≡ true) × (is_number u ≡ is_number v)
    back_is ty.Int v (inl e) n = (
      refl,
      ap (λ v. is_result (kind_in (is_number v)) kind.Number)
          (sym e),
      ap is_number e,
    )
    back_is ty.Int v (inr q) n = absurd (grind (arith, q.2))
    back_is ty.Boolean v (inl e) n = (
      refl,
      ap (λ v. is_result (kind_in (is_number v)) kind.Number)
          (sym e),
      ap is_number e,
    )
    back_is ty.Boolean v (inr q) n = absurd (grind (arith, q.2))
    back_is (ty.Class c) v (inl e) n = (
      refl,
      ap (λ v. is_result (kind_in (is_number v))
          (kind.Object (w.class c))) (sym e),
      ap is_number e,
    )
    back_is (ty.Class c) v (inr q) n = (
      refl,
      ap (λ v. is_result (kind_in (is_number v))
          (kind.Object (w.class c))) q.0,
      sym (ap is_number q.0),
    )
    back_is ty.Null v (inl e) n = (
      refl,
      ap (λ v. is_result (kind_in (is_number v)) kind.AnyObject)
          (sym e),
      ap is_number e,
    )
    back_is ty.Null v (inr q) n = absurd (grind (arith, q.2))
    back_is ty.Void v e n = absurd (n refl)

    pub fit_result : (b : Bool) (u : Ty) (b2 : ℕ → ℕ) (v : MVal) → (u ≡ ty.Void → ⊥)
        → HasType lay b2 u v
        → unfit_result env.names (kind_in b) (kind_of w u) (moved lay v) ≡ false
    fit_result true u b2 v n h = refl
    fit_result false ty.Int b2 v n h = refl
    fit_result false ty.Boolean b2 v n h = refl
    fit_result false (ty.Class c) b2 v n h = ap not (class_fits env w lay t lays b2 c v h)
    fit_result false ty.Null b2 v n h = refl
    fit_result false ty.Void b2 v n h = absurd (n refl)

    pub back_case : (b : Bool) → (i : Instr) × (cond b (Op instr.Ireturn)
        (Op instr.Areturn) ≡ Op i) × (operation (λ n. link.Other) i ≡ op.LeaveWith (kind_in b))
    back_case true = (instr.Ireturn, refl, refl)
    back_case false = (instr.Areturn, refl, refl)

    pub give_ok : (e : TExp) (y1 y2 : ℕ) → Holds' ctx result (Return (Present e) y1 y2)
    unfolding go code TypedS effect completes handlers
    give_ok e y1 y2 inside l n k c p set xs hs rest s a tp fit le lv h catches normal z =
        let f : MVal → Task = λ v. change (set_result v) (done Returned nothing) in
        let i = back_case (is_number (mark e).ty) in
        let bk = back_is result (mark e).ty tp.0 tp.2 in
        let g : C.gives ≡ Some (kind_of w result) = gives_is ∙ bk.0 in
        expr_then ctx result e n k c p set xs (give_back (mark e).ty ∷ xs) rest f s a tp.1 fit le
        (subst (λ y. Lives (y ∷ xs)) (sym i.1) tt)
        (omega arith) h (raises_here ctx result k c p xs set hs rest catches z.lands)
        (hand ctx result set s k (c + 16) (give_back (mark e).ty ∷ xs) [] (mark e).ty (follow f
        rest) (not_void (mark e).ty tp.3)
        (λ p2 h2 v s2 a2 gr ht fit2.
        let hr = acc ctx result s2.births result (mark e).ty v tp.0 ht in
        subst (λ y. (Here C p2 (y ∷ xs) → N k (c + 16)
        (pos_of (skip (y ∷ xs) p2) a2 (moved lay v ∷ []))
        (rest Returned nothing (set_result v s2)))) (sym i.1)
        (λ h2. subst (λ y. N k (c + 16) y (rest Returned nothing (set_result v s2)))
        (sym (leaves_with_turn env labelled mname cls mth fs p2 (Op i.0) xs (op.LeaveWith
        (kind_in (is_number (mark e).ty))) (with a2 (moved lay v ∷ [])) (moved lay v) h2
        (ap (λ o. silent o (suc (lead xs))) i.2)
        (record {
          enough = omega arith;
          fits = one_fits ctx _ (kind_in_fits ctx s2.births (mark e).ty v tp.3 ht);
          short = omega arith;
          placed = refl;
          named = refl;
          agrees = refl;
          used = refl;
          stays = λ x gn r. and_right (not x.gives_nothing) _ (ap (λ q. unfit_result env.names
              (kind_in (is_number (mark e).ty)) q (moved lay v)) (r ∙ ap kind_or_any g)
              ∙ fit_result (is_number (mark e).ty) result s2.births v tp.2 hr);
          comes = λ x gn r. or_from x.gives_nothing _ (gn ∙ ap is_none g)
              (ap (λ q. not (is_result (kind_in (is_number (mark e).ty)) q)) (r
              ∙ ap kind_or_any g) ∙ ap not bk.1);
        })
        refl))
        (wk ctx result k c (c + 16) _ _ (omega arith)
        (z.gives_back p2 (moved lay v ∷ []) v s2 a2 tp.2 hr fit2)))
        h2))
