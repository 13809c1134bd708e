-- Objects are made and their initializers run, and methods are called.
use Rattle.par_evaluation_laws.specs.Laid.{HasMethod, IsMade, IsThrown}
use Rattle.std.proofs.Common.{◌≡◌, ℕ, suc, ◌+◌, ◌-◌, ◌≤◌, ◌<◌, Bool, true, false, not, ◌&&◌, List}
use Rattle.std.proofs.Common.{[], ◌∷◌}
use Rattle.std.proofs.Common.{length, Option, Some, None, refl, ap, sym, ◌∙◌, subst, arith, codes}
use Rattle.std.specs.Prelude.{cond}
use Rattle.std.specs.Str.{bytes_eq}
use Rattle.std.proofs.lemmas.Bool.{le-ltb}
use Rattle.par_instr.specs.declared.instr.Instr.TheVariants.{AconstNull, AloadShort, Ineg}
use Rattle.par_run_laws.specs.par_typed.declared.ty.Ty.{Ty}
use Rattle.par_run_laws.specs.par_typed.declared.ty.Ty.TheVariants as ty
use Rattle.par_run_laws.specs.par_typed.declared.table.Table.{Table}
use Rattle.par_run_laws.specs.par_typed.Plain.{TExp}
use Rattle.par_values.specs.declared.kind.Kind.TheVariants as kind
use Rattle.par_values.specs.declared.value.MVal.{MVal}
use Rattle.par_values.specs.declared.value.MVal.TheVariants as value
use Rattle.par_values.specs.Areas.{Name, Areas, number_of, fits}
use Rattle.par_values.specs.Areas as areas
use Rattle.par_values.specs.Operations.{Operation, Push, PushNull, Load, Store, Discard, Copy}
use Rattle.par_values.specs.Operations.{Combine, Negate, JumpIf, JumpIfBoth, JumpIfSame, GetStatic}
use Rattle.par_values.specs.Operations.{GetField, Create}
use Rattle.par_values.specs.Operations as op
use Rattle.par_values.specs.Effects.{Effect, Goes, Happens, Jumps, Throws, effect, jumps_if}
use Rattle.par_run_laws.specs.State.{State}
use Rattle.par_run_laws.specs.Tasks.{Normal, Thrown, Rests}
use Rattle.par_run_laws.specs.Meaning.{Calls}
use Rattle.par_match_laws.specs.par_step_laws.State as steps
use Rattle.par_match_laws.specs.par_step_laws.Step.{Turn, Silent, thrown_to, state_with}
use Rattle.par_match_laws.specs.Engine.{Program, turn}
use Rattle.par_match_laws.specs.Engine as gen
use Rattle.par_match_laws.specs.par_code_form.declared.item.Item.{Item}
use Rattle.par_match_laws.specs.par_code_form.declared.item.Item.TheVariants.{Op, Member}
use Rattle.par_match_laws.specs.Labelled.{Labelled, Naming, lead, skip, found}
use Rattle.par_match_laws.specs.Labelled.{silent}
use Rattle.par_match_laws.specs.par_code_form.Code.{Words, is_void}
use Rattle.par_match_laws.specs.par_code_form.Operands.{with_result}
use Rattle.par_evaluation_laws.specs.Laid.{Layout, moved, HasType, kind_of}
use Rattle.par_match_laws.proofs.Rules.{Told, weaken, spend_rule}
use Rattle.par_match_laws.proofs.Steps.{Lives, Here, next, P, here, frame, Can}
use Rattle.par_match_laws.proofs.Steps.{on}
use Rattle.par_evaluation_laws.specs.Agreement.{Lays}
use Rattle.par_evaluation_laws.proofs.Good.{class_fits, kind_fits}
use Rattle.par_values.specs.Effects.{comes, is_same, combines}
use Rattle.par_values.specs.Operations.{InvokeStatic}
use Rattle.par_values.specs.Areas.{first_value}
use Rattle.std.proofs.Common.{map}
use Rattle.par_instr.specs.declared.instr.Instr.TheVariants.{Dup, Pop}
use Rattle.par_instr.specs.declared.instr.Instr.TheVariants as instr
use Rattle.par_values.specs.Operations.{operation}
use Rattle.par_values.specs.declared.link.Link.TheVariants as link
use Rattle.par_values.specs.declared.link.Target.TheVariants as to
use Rattle.par_run_laws.specs.Tasks.{unless_null, nothing}
use Rattle.par_evaluation_laws.proofs.Parts.{Setting, Enters, with, not_void, M, at, Fit, Ready}
use Rattle.par_evaluation_laws.proofs.Parts.{Handed}
use Rattle.par_evaluation_laws.proofs.Parts.{handed, Raises, Holds, fails}
use Rattle.std.specs.Prelude.{is_none}
use Rattle.std.proofs.Common.{inl, inr, ◌⊎◌}
use Rattle.std.proofs.lemmas.Slice.Eq.{bytes_eq-Decides}
use Rattle.par_values.specs.declared.link.MethodLink.{MethodLink}
use Rattle.par_values.specs.Effects.{ThrowsObject, called, called_on, arguments}
use Rattle.par_values.specs.Reasons.{is_of}
use Rattle.par_values.specs.Operations.{InvokeSpecial, InvokeVirtual, Copy, Leave}
use Rattle.par_values.specs.Areas.{first_locals}
use Rattle.par_run_laws.specs.State.{restored, entered}
use Rattle.par_run_laws.specs.Tasks.{leave}
use Rattle.par_run_laws.specs.Meaning.{calls as calls_of}
use Rattle.par_match_laws.specs.Labelled.{calls}
use Rattle.par_match_laws.proofs.Rules.{next_rule}
use Rattle.par_match_laws.proofs.Steps.{on_wanting, enters_turn, past_is}
use Rattle.par_match_laws.proofs.Steps.{leaves_turn}
use Rattle.par_evaluation_laws.specs.Laid.{Meth, OfValues, given_types}
use Rattle.std.proofs.Common.{reverse}
use Rattle.std.proofs.lemmas.List.{append-nil}
use Rattle.par_values.specs.Reasons.{all_fit}
use Rattle.par_evaluation_laws.proofs.Pushed.{pushed_is}
use Rattle.std.proofs.Common.{◌++◌}
use Rattle.par_evaluation_laws.specs.Agreement.{initializer, init_target}
use Rattle.par_evaluation_laws.proofs.Kept.{left_fit}
use Rattle.par_evaluation_laws.proofs.Pushed.{pushed, pushed_taken, pushed_left, pushed_before}
use Rattle.par_evaluation_laws.proofs.Pushed.{pushed_length, EachFits, pushed_fit, each_length}
use Rattle.par_match_laws.specs.par_code_form.Code.{initializer as init_item, initializer_code}
use Rattle.par_evaluation_laws.specs.Programs.{Init, Inits, callee}
use Rattle.par_evaluation_laws.proofs.Parts.{AllTyped}

pub fits_one : (b : Bool) → b ≡ true → (b && true) ≡ true
fits_one b e = ap (λ b. b && true) e

module _ (ctx : Setting) where
  abbrev env : Naming
  env = ctx.env

  abbrev labelled : ℕ → ℕ → Labelled
  labelled = ctx.labelled

  abbrev mname : ℕ → ℕ → Name
  mname = ctx.mname

  abbrev w : Words
  w = ctx.w

  abbrev lay : Layout
  lay = ctx.lay

  abbrev t : Table
  t = ctx.t

  abbrev run : Calls
  run = ctx.run

  abbrev cls : ℕ
  cls = ctx.cls

  abbrev mth : ℕ
  mth = ctx.mth

  abbrev fs : List steps.Frame
  fs = ctx.fs

  abbrev tys : ℕ → Ty
  tys = ctx.tys

  abbrev many : ℕ
  many = ctx.many

  abbrev base : ℕ → ℕ
  base = ctx.base

  abbrev depth : ℕ
  depth = ctx.depth

  abbrev lays : Lays env w lay t
  lays = ctx.lays

  abbrev enters : Enters env labelled mname w lay t run depth
  enters = ctx.enters

  abbrev inits : Inits labelled lay
  inits = ctx.inits

  abbrev C : Labelled
  C = labelled cls mth

  abbrev H : TExp → Type 0
  H = Holds ctx

  abbrev N : ℕ → ℕ → Turn → Told → Type 0
  N = M ctx

  abbrev pos_of : ℕ → Areas → List MVal → Turn
  pos_of = at ctx

  abbrev Fits' : List ℕ → State → Areas → Type 0
  Fits' = Fit ctx

  abbrev R : List ℕ → State → ℕ → ℕ → List Item → List MVal → Ty → Rests → Type 0
  R = Ready ctx

  abbrev V : List ℕ → State → ℕ → ℕ → List Item → List MVal → Ty → Rests → Type 0
  V = Handed ctx

  abbrev X : List ℕ → ℕ → ℕ → ℕ → List Item → Rests → Type 0
  X = Raises ctx

  abbrev Mach : Program
  Mach = P env labelled mname

  abbrev Known : ℕ → Type 0
  Known cl = IsMade lay cl ⊎ IsThrown lay cl

  known_named : (cl : ℕ) → Known cl → areas.class_named env.names (lay.number cl) ≡ w.class cl
  known_named cl (inl m) = lays.number_named cl m
  known_named cl (inr x) = lays.thrown_named cl x

  known_fits : (cl n : ℕ) → Known cl → fits env.names (kind.Object (w.class cl))
      (value.Ref (lay.number cl) n) ≡ true
  known_fits cl n is =
      ap (λ x. bytes_eq x (w.class cl)) (known_named cl is)
      ∙ (bytes_eq-Decides (w.class cl) (w.class cl)).1 refl

  -- an exception is taken by any initializer
  received : (b : Bool) (v : MVal) (a : Areas) → is_of env.exceptions v ≡ true
      → gen.is_misreceived Mach b (with a (v ∷ [])) ≡ false
  received true v a e = ap not e
  received false v a e = refl

  -- an initializer's own code: it calls that of the class above, and returns
  init_runs : (k c e there p cl n : ℕ) (xs : List Item) (a : Areas) (ops : List MVal) (g : Told)
      (above : Name) (wants : Bool)
      → c + 3 ≤ e → Init (labelled (lay.number cl) there) above
      → env.method above (codes "<init>")
      (codes "()V") ≡ link.Method (initializer kind.AnyObject to.Nothing)
      → env.wants_exception above (codes "<init>") (codes "()V") ≡ wants
      → ((b : Areas) → gen.is_misreceived Mach wants (with b (value.Ref (lay.number cl) n ∷ [])) ≡
      false)
      → N k c (gen.returned Mach (frame env labelled mname cls mth fs p (with a ops) ∷ fs)
      (state_with [] a)) g
      → N k e (turn Mach (state_with (callee Mach (lay.number cl) there 1
      (value.Ref (lay.number cl) n ∷ []) ∷ frame env labelled mname cls mth fs p (with a ops)
      ∷ fs) a)) g
  unfolding effect
  init_runs k c e there p cl n xs a ops g above wants le init link_is wants_is well r =
      let D = labelled (lay.number cl) there in
      let gs = frame env labelled mname cls mth fs p (with a ops) ∷ fs in
      let v = value.Ref (lay.number cl) n in
      let b : Areas = record a { locals = Some v ∷ []; operands = [] } in
      let h0 : Here D 0 (initializer_code above) = record {
        at = init.items;
        fits = (let e = ap
            length init.items in omega (arith, e));
      } in
      let h1 = next D h0 in
      let h2 = next D h1 in
      let room = init.room in
      subst (λ q. N k e (turn Mach (here env labelled mname (lay.number cl) there gs q b)) g)
      (sym (ap (λ ys. skip ys 0) h0.at))
      (on env labelled mname (lay.number cl) there gs k (c + 2) e 0 (Op (AloadShort 0))
      (init_item above ∷ Op instr.Return ∷ [])
      (Load 0 kind.AnyObject) b (with b (v ∷ [])) g (omega (arith, le)) h0 tt refl
      (record {
        enough = omega arith;
        fits = refl;
        short = omega (arith, room);
        placed = refl;
        named = refl;
        agrees = refl;
        used = refl;
        stays = λ x g r. refl;
        comes = λ x g r. refl;
      })
      refl
      (on_wanting env labelled mname (lay.number cl) there gs wants k (c + 1)
      (c + 2) 1 (init_item above) (Op instr.Return ∷ [])
      (InvokeSpecial (initializer kind.AnyObject to.Nothing))
      (with b (v ∷ [])) b g (omega arith) h1 tt
      (ap (λ l. calls (env.wants_exception above (codes "<init>") (codes "()V"))
      (op.of_method InvokeSpecial (op.Misnamed (kind.Anything ∷ []) 0) l) 1) link_is
      ∙ ap (λ z. calls z (InvokeSpecial (initializer kind.AnyObject to.Nothing)) 1) wants_is)
      (well b)
      (record {
        enough = omega arith;
        fits = refl;
        short = omega arith;
        placed = refl;
        named =
            refl;
        agrees = refl;
        used = refl;
        stays = λ x g r. refl;
        comes = λ x g r. refl;
      })
      refl
      (subst (λ z. N k (c + 1) z g) (sym (leaves_turn env labelled mname (lay.number cl) there gs 2
      (Op instr.Return) [] Leave b h2 refl
      (record {
        enough = omega arith;
        fits = refl;
        short = omega arith;
        placed = refl;
        named = refl;
        agrees = refl;
        used = refl;
        stays = λ x g r. refl;
        comes = λ x gn r. ap not (gn ∙ ap is_none init.gives);
      }) refl))
      (weaken Mach k k c (c + 1) _ _ (omega arith) (omega arith) r))))

  -- behind a call that gives nothing
  back_here : (k c d p : ℕ) (x : Item) (xs : List Item) (o : Operation) (a : Areas)
      (ops : List MVal) (hs : List steps.Frame) (l : List (Option MVal)) (g : Told)
      → suc c ≤ d → Here C p (x ∷ xs) → found env C.items p (x ∷ xs) ≡ silent o (suc (lead xs))
      → N k c (pos_of (skip xs (suc p)) (record a { locals = l }) ops) g
      → N k d (gen.returned Mach (frame env labelled mname cls mth fs p (with (record a {
        locals =
            l;
      }) ops) ∷ fs) (state_with hs a)) g
  back_here k c d p x xs o a ops hs l g le h f r =
      subst (λ z. N k d (Silent (state_with (z ∷ fs) a)) g)
      (sym (past_is env labelled mname cls mth fs p x xs o (with (record a { locals = l }) ops)
      h f))
      (next_rule Mach k k c d _ g (omega arith) le r)

  -- and behind one that gives a value
  back_with : (k c d p : ℕ) (x : Item) (xs : List Item) (o : Operation) (a : Areas)
      (ops : List MVal) (v : MVal) (hs : List steps.Frame) (l : List (Option MVal)) (g : Told)
      → suc c ≤ d → Here C p (x ∷ xs) → found env C.items p (x ∷ xs) ≡ silent o (suc (lead xs))
      → N k c (pos_of (skip xs (suc p)) (record a { locals = l }) (v ∷ ops)) g
      → N k d (gen.returned_with Mach v (frame env labelled mname cls mth fs p (with (record a {
        locals = l;
      }) ops) ∷ fs) (state_with hs a)) g
  back_with k c d p x xs o a ops v hs l g le h f r =
      subst (λ (z : steps.Frame).
      N k d (Silent (state_with (record z { operands = v ∷ ops } ∷ fs) a)) g)
      (sym (past_is env labelled mname cls mth fs p x xs o (with (record a { locals = l })
      ops) h f))
      (next_rule Mach k k c d _ g (omega arith) le r)

  -- the initializer of a known class, called on an object
  pub init_ok : (k c p cl n : ℕ) (xs : List Item) (a : Areas) (ops : List MVal) (g : Told)
      → Known cl
      → Here C p (init_item (w.class cl) ∷ xs) → Lives xs → length ops < C.max_stack
      → N k c (pos_of (skip xs (suc p)) a ops) g → N k (c + 5)
      (pos_of p a (value.Ref (lay.number cl) n ∷ ops)) g
  unfolding effect
  init_ok k c p cl n xs a ops g is h lives lt r = pick (lay.init_at cl) refl is
    where
      the_link : (o : Option ℕ) → lay.init_at cl ≡ o
          → found env C.items p (init_item (w.class cl) ∷ xs)
          ≡ silent (InvokeSpecial (initializer (kind.Object (w.class cl))
          (init_target (lay.number cl) o))) (suc (lead xs))
      the_link o e =
          ap (λ l. calls (env.wants_exception (w.class cl) (codes "<init>") (codes "()V"))
          (op.of_method InvokeSpecial (op.Misnamed (kind.Anything ∷ []) 0) l) (suc (lead xs)))
          (lays.init_link cl is)
          ∙ ap (λ z. calls z (InvokeSpecial (initializer (kind.Object (w.class cl))
          (init_target (lay.number cl) (lay.init_at cl)))) (suc (lead xs)))
          (lays.init_plain cl is)
          ∙ ap (λ o. silent (InvokeSpecial (initializer (kind.Object (w.class cl))
          (init_target (lay.number cl) o))) (suc (lead xs))) e

      pick : (o : Option ℕ) → lay.init_at cl ≡ o → Known cl
          → N k (c + 5) (pos_of p a (value.Ref (lay.number cl) n ∷ ops)) g
      pick None e is2 =
          on env labelled mname cls mth fs k c (c + 5) p (init_item (w.class cl)) xs (InvokeSpecial
          (initializer (kind.Object (w.class cl)) to.Nothing))
          (with a (value.Ref (lay.number cl) n ∷ ops)) (with a ops) g (omega arith) h lives
          (the_link None e)
          (record {
            enough = omega arith;
            fits = fits_one _ (known_fits cl n is);
            short = omega
                (arith, lt);
            placed = refl;
            named = refl;
            agrees = refl;
            used = refl;
            stays = λ x g
                r. refl;
            comes = λ x g r. refl;
          })
          refl r
      pick (Some there) e is2 =
          subst (λ z. N k (c + 5) z g) (sym (enters_turn env labelled mname cls mth fs p (init_item
          (w.class cl)) xs (InvokeSpecial (initializer (kind.Object (w.class cl))
          (to.Code (lay.number cl) there 1))) (with a (value.Ref (lay.number cl) n ∷ ops))
          (with a ops) (lay.number cl) there 1 (value.Ref (lay.number cl) n ∷ []) h lives
          (the_link (Some there) e)
          (record {
            enough = omega arith;
            fits = fits_one _ (known_fits cl n is);
            short = omega
                (arith, lt);
            placed = refl;
            named = refl;
            agrees = refl;
            used = refl;
            stays = λ x g
                r. refl;
            comes = λ x g r. refl;
          })
          refl))
          (next_rule Mach k k (c + 4) (c + 5) _ g (omega arith) (omega arith)
          (run_of is2
          (back_here k c (c + 1) p (init_item (w.class cl)) xs (InvokeSpecial (initializer
          (kind.Object (w.class cl)) (to.Code (lay.number cl) there 1))) a ops [] a.locals g
          (omega arith) h (the_link (Some there) e) r)))
        where
          run_of : Known cl → N k (c + 1) (gen.returned Mach (frame env labelled mname cls mth fs p
              (with a ops) ∷ fs) (state_with [] a)) g
              → N k (c + 4) (turn Mach (state_with (callee Mach (lay.number cl) there 1 (value.Ref
              (lay.number cl) n ∷ []) ∷ frame env labelled mname cls mth fs p (with a ops) ∷
              fs) a)) g
          run_of (inl m) z = init_runs k (c + 1)
              (c + 4) there p cl n xs a ops g (codes "java/lang/Object") false (omega arith)
              (inits.made cl there m e) lays.object_link lays.object_plain (λ b. refl) z
          run_of (inr x) z = init_runs k (c + 1)
              (c + 4) there p cl n xs a ops g (codes "java/lang/Exception")
              (env.wants_exception (codes "java/lang/Exception") (codes "<init>") (codes "()V"))
              (omega arith) (inits.thrown cl there x e) lays.exception_link refl
              (λ b. received (env.wants_exception (codes "java/lang/Exception") (codes "<init>")
              (codes "()V")) (value.Ref (lay.number cl) n) b (lays.thrown_is cl n x)) z

  more_raises : (k d p : ℕ) (set : List ℕ) (xs : List Item) (rest : Rests) → X set k d p xs rest
      → X set k (d + 16) p xs rest
  more_raises k d p set xs rest raises r x n v s a i is fit =
      weaken Mach k k d (d + 16) _ _ (omega arith) (omega arith) (raises r x n v s a i is fit)

  -- ---- methods

  each_kind : (us : List Ty) → length (map (kind_of w) us) ≡ length us
  each_kind [] = refl
  each_kind (u ∷ us) = ap suc (each_kind us)

  -- values fit the kinds of their types
  each_fits : (b : ℕ → ℕ) (us : List Ty) (vs : List MVal) → OfValues us → AllTyped lay b us vs
      → EachFits env.names (map (kind_of w) us) (map (moved lay) vs)
  each_fits b [] [] n h = tt
  each_fits b [] (v ∷ vs) n h = absurd h
  each_fits b (u ∷ us) [] n h = absurd h
  each_fits b (u ∷ us) (v ∷ vs) n h = (
    kind_fits env w lay t lays b u v n.0 h.0,
    each_fits b us vs
        n.1 h.1,
  )

  thrown_heap : (ns : List Name) (v : MVal) (x : ℕ) (gs : List steps.Frame) (a : Areas)
      (l : List (Option MVal)) (os : List MVal)
      → thrown_to ns v x gs (record a { locals = l; operands = os }) ≡ thrown_to ns v x gs a
  thrown_heap ns v x [] a l os = refl
  thrown_heap ns v x (g ∷ gs) a l os = refl

  -- an invoke that enters a method
  invoked : (c i : ℕ) (me : Meth) → HasMethod lay c i me
      → (k d p : ℕ) (x : Item) (xs : List Item) (o : Operation) (set : List ℕ)
      (ops ws : List MVal) (s : State) (a : Areas) (rest : Rests)
      → k ≤ suc depth → Here C p (x ∷ xs) → Lives xs
      → found env C.items p (x ∷ xs) ≡ silent o (suc (lead xs))
      → Can env labelled mname cls mth fs o (with a (pushed (map (moved lay) ws) ops))
      → effect env.names o (with a (pushed (map (moved lay) ws) ops)) ≡
      Rattle.par_values.specs.Effects.Calls (lay.number c)
      (lay.method_at c i) me.many (map (moved lay) ws) (with a ops)
      → AllTyped lay s.births (given_types c me) ws → Fits' set s a
      → R set s k d xs ops me.result rest → X set k d p xs rest
      → N k (d + 16) (pos_of p a (pushed (map (moved lay) ws) ops)) (calls_of run c i ws rest s)
  invoked c i me is k d p x xs o set ops ws s a rest deep h lives f can e ht fit ready raises =
      spend_rule Mach k (d + 16) _ _
      (subst (λ z. N k (d + 16 + 16) z (run c i (leave s.locals s.result rest) (entered ws s)))
      (sym (enters_turn env labelled mname cls mth fs p x xs o (with a (pushed (map (moved lay)
      ws) ops)) (with a ops) (lay.number c)
      (lay.method_at c i) me.many (map (moved lay) ws) h lives f can e))
      (next_rule Mach (k - 1) k (d + 8 + 2) (d + 16 + 16) _ _ (omega arith) (omega arith)
      (enters c i me is (k - 1) (d + 8) (frame env labelled mname cls mth fs p (with a ops) ∷ fs)
      ws tys many base set s a rest (omega (arith, deep)) ht fit
      (record {
        nothing_back = λ hs set' s' a' ev fit'.
            back_here (k - 1) d (d + 8) p x xs o a' ops hs a.locals _ (omega arith) h f
            (subst (λ b. N (k - 1) d (pos_of (skip xs (suc p)) (record a' { locals = a.locals })
            (cond b ops (moved lay s'.result ∷ ops)))
            (rest Normal s'.result (restored s.locals s.result s'))) (ap is_void ev)
            (weaken Mach k (k - 1) d d _ _ (omega arith) (omega arith)
            (ready (suc p) (next C h) s'.result (restored s.locals s.result s')
            (record a' { locals = a.locals; operands = ops }) fit'.grown
            (subst (λ u. HasType lay s'.births u s'.result) (sym ev) tt)
            (left_fit env w lay t tys many base set me.types me.many set' s s' a a' s.result ops
            fit fit'))));
        value_back = λ hs set' v s' a' nv hv fit'.
            back_with (k - 1) d (d + 8) p x xs o a' ops (moved lay v) hs a.locals _ (omega arith) h
            f
            (weaken Mach k (k - 1) d d _ _ (omega arith) (omega arith)
            (handed ctx set s k d xs ops me.result rest (not_void me.result nv) ready (suc p)
            (next C h) v (restored s.locals s.result s')
            (record a' { locals = a.locals; operands = ops }) fit'.grown hv
            (left_fit env w lay t tys many base set me.types me.many set' s s' a a' s.result ops
            fit fit')));
        thrown_back = λ y n set' s' a' th fit'.
            subst (λ z. N (k - 1) (d + 8) z (rest (Thrown y) nothing (restored s.locals s.result
            s')))
            (thrown_heap env.names (value.Ref (lay.number y) n) (lay.number y)
            (gen.caught Mach (lay.number y)
            (frame env labelled mname cls mth fs p (with a ops) ∷ fs)) a' a.locals ops)
            (weaken Mach k (k - 1) d (d + 8) _ _ (omega arith) (omega arith)
            (raises p y n nothing (restored s.locals s.result s')
            (record a' { locals = a.locals; operands = ops })
            (record { low = omega arith; high = omega (arith, h.fits) }) th
            (left_fit env w lay t tys many base set me.types me.many set' s s' a a' s.result ops
            fit fit')));
      }))))

  -- what a method is to an invoke
  abbrev link_to : ℕ → ℕ → Meth → MethodLink
  link_to c i me = record {
    is_static = me.static;
    is_initializer = false;
    receiver = kind.Object (w.class c);
    takes = map (kind_of w) me.takes;
    gives = not (is_void me.result);
    target = to.Code (lay.number c) (lay.method_at c i) me.many;
  }

  at_most_one : (b : Bool) → cond (not b) 1 0 ≤ 1
  at_most_one true = omega arith
  at_most_one false = omega arith

  -- where what is left fits, there is room for a result, if there is one
  room_of : (b : Bool) (h n : ℕ) → cond b h (h + 1) ≤ n → h + cond (not b) 1 0 ≤ n
  room_of true h n le = omega (arith, le)
  room_of false h n le = omega (arith, le)

  -- a static call
  pub static_call : (c i : ℕ) (me : Meth) → HasMethod lay c i me
      → (k d p : ℕ) (xs : List Item) (set : List ℕ) (ops vs : List MVal) (s : State) (a : Areas)
      (rest : Rests)
      → me.static ≡ true → k ≤ suc depth → Here C p (Member 184 (w.class c) (w.method c i)
      (w.method_type c i) ∷ xs) → Lives xs
      → with_result me.result (length ops) ≤ C.max_stack → AllTyped lay s.births me.takes vs
      → Fits' set s a → R set s k d xs ops me.result rest → X set k d p xs rest
      → N k (d + 16) (pos_of p a (pushed (map (moved lay) vs) ops)) (calls_of run c i vs rest s)
  unfolding effect
  static_call c i me is k d p xs set ops vs s a rest st deep h lives le ht fit ready raises =
      let ks = map (kind_of w) me.takes in
      let mvs = map (moved lay) vs in
      let x = Member 184 (w.class c) (w.method c i) (w.method_type c i) in
      let ef = each_fits s.births me.takes vs (lays.method_values c i me is) ht in
      let many_is : length ks ≡ length mvs = each_length env.names ks mvs ef in
      let turned : reverse ks ≡ pushed ks [] = sym (pushed_is ks [] ∙ append-nil (reverse ks)) in
      let takes_are : length (reverse ks) ≡ length ks = ap length turned ∙ pushed_length ks []
      ∙ omega arith in
      let all : length (pushed mvs ops) ≡ length mvs + length ops = pushed_length mvs ops in
      let roomy = room_of (is_void me.result) (length ops) C.max_stack le in
      let fitting = lays.method_room c i me is in
      let given_are : given_types c me ≡ me.takes = ap (λ b. cond b me.takes (ty.Class c ∷
      me.takes)) st in
      let g2 = ap length given_are in
      let l2 : length ks ≡ length me.takes = each_kind me.takes in
      invoked c i me is k d p x xs (InvokeStatic (link_to c i me)) set ops vs s a rest deep h lives
      (ap (λ l. calls (env.wants_exception (w.class c) (w.method c i) (w.method_type c i))
      (op.of_method InvokeStatic (op.Misnamed [] 0) l) (suc (lead xs)))
      (lays.method_link c i me is)
      ∙ ap (λ z. calls z (InvokeStatic (link_to c i me)) (suc (lead xs)))
      (lays.method_plain c i me is))
      (record {
        enough = omega (arith, takes_are, all, many_is);
        fits = ap (λ z. all_fit env.names z (pushed mvs ops)) turned
            ∙ pushed_fit env.names ks [] mvs ops ef refl;
        short = omega (arith, takes_are, all, many_is, roomy);
        placed = le-ltb me.many (length ks) (omega (arith, fitting, g2, l2));
        named = refl;
        agrees = ap not st;
        used = refl;
        stays = λ x g r. refl;
        comes = λ x g r. refl;
      })
      (ap (λ l. Rattle.par_values.specs.Effects.Calls (lay.number c)
      (lay.method_at c i) me.many l (areas.pop (length ks) (with a (pushed mvs ops))))
      (pushed_taken mvs ops (length ks) many_is)
      ∙ ap (λ l. Rattle.par_values.specs.Effects.Calls (lay.number c)
      (lay.method_at c i) me.many mvs (with a l)) (pushed_left mvs ops (length ks) many_is))
      (subst (λ us. AllTyped lay s.births us vs) (sym given_are) ht) fit ready raises

  -- a call on an object, or on null
  pub object_call : (c i : ℕ) (me : Meth) → HasMethod lay c i me
      → (k d p : ℕ) (xs : List Item) (set : List ℕ) (ops vs : List MVal) (r : MVal) (s : State)
      (a : Areas) (rest : Rests)
      → me.static ≡ false → k ≤ suc depth → Here C p (Member 182 (w.class c) (w.method c i)
      (w.method_type c i) ∷ xs) → Lives xs
      → length ops < C.max_stack → HasType lay s.births (ty.Class c) r
      → AllTyped lay s.births me.takes vs → Fits' set s a
      → R set s k d xs ops me.result rest → X set k d p xs rest
      → N k (d + 16) (pos_of p a (pushed (map (moved lay) vs) (moved lay r ∷ ops)))
      (unless_null r (calls_of run c i (r ∷ vs)) rest s)
  unfolding effect
  object_call c i me is k d p xs set ops vs r s a rest st deep h lives lt hr ht fit ready raises =
      pick r hr
    where
      can_of : (r : MVal) → HasType lay s.births (ty.Class c) r
          → Can env labelled mname cls mth fs (InvokeVirtual (link_to c i me))
          (with a (pushed (map (moved lay) vs) (moved lay r ∷ ops)))
      can_of r hr =
          let ks = map (kind_of w) me.takes in
          let K = kind.Object (w.class c) in
          let mvs = map (moved lay) vs in
          let mr = moved lay r in
          let ef = each_fits s.births me.takes vs (lays.method_values c i me is) ht in
          let many_is : length ks ≡ length mvs = each_length env.names ks mvs ef in
          let turned : reverse ks ++ K ∷ [] ≡ pushed ks (K ∷ []) = sym (pushed_is ks (K ∷ [])) in
          let takes_are : length (reverse ks ++ K ∷ []) ≡ length ks + 1 = ap length turned
          ∙ pushed_length ks (K ∷ []) in
          let all : length (pushed mvs (mr ∷ ops)) ≡ length mvs + suc (length ops) = pushed_length
          mvs (mr ∷ ops) in
          let one = at_most_one (is_void me.result) in
          let fitting = lays.method_room c i me is in
          let given_are : given_types c me ≡ ty.Class c ∷ me.takes = ap (λ b. cond b me.takes
          (ty.Class c ∷ me.takes)) st in
          let g2 = ap length given_are in
          let l2 : length ks ≡ length me.takes = each_kind me.takes in
          record {
            enough = omega (arith, takes_are, all, many_is);
            fits = ap (λ z. all_fit env.names z (pushed mvs (mr ∷ ops))) turned
                ∙ pushed_fit env.names ks (K ∷ []) mvs (mr ∷ ops) ef (fits_one _ (class_fits env w
                lay t lays s.births c r hr));
            short = omega (arith, takes_are, all, many_is, one, lt);
            placed = le-ltb me.many (length ks + 1) (omega (arith, fitting, g2, l2));
            named = refl;
            agrees = st;
            used = refl;
            stays = λ x g r. refl;
            comes = λ x g r. refl;
          }

      found_is : found env C.items p (Member 182 (w.class c) (w.method c i)
          (w.method_type c i) ∷ xs) ≡ silent (InvokeVirtual (link_to c i me)) (suc (lead xs))
      found_is =
          ap (λ l. calls (env.wants_exception (w.class c) (w.method c i) (w.method_type c i))
          (op.of_method InvokeVirtual (op.Misnamed (kind.Anything ∷ []) 0) l) (suc (lead xs)))
          (lays.method_link c i me is)
          ∙ ap (λ z. calls z (InvokeVirtual (link_to c i me)) (suc (lead xs)))
          (lays.method_plain c i me is)

      many_is : length (map (kind_of w) me.takes) ≡ length (map (moved lay) vs)
      many_is = each_length env.names (map (kind_of w) me.takes) (map (moved lay) vs)
          (each_fits s.births me.takes vs (lays.method_values c i me is) ht)

      first_is : (r : MVal) → areas.operand (length (map (kind_of w) me.takes))
          (with a (pushed (map (moved lay) vs) (moved lay r ∷ ops))) ≡ moved lay r
      first_is r = ap areas.value_or_null (pushed_before (map (moved lay) vs)
          (moved lay r) ops (length (map (kind_of w) me.takes)) many_is)

      pick : (r : MVal) → HasType lay s.births (ty.Class c) r
          → N k (d + 16) (pos_of p a (pushed (map (moved lay) vs) (moved lay r ∷ ops)))
          (unless_null r (calls_of run c i (r ∷ vs)) rest s)
      pick (value.Int n) hr = absurd hr
      pick value.Null hr =
          fails ctx k (d + 16) p 1 (codes "NullPointerException") set
          (Member 182 (w.class c) (w.method c i)
          (w.method_type c i)) xs (InvokeVirtual (link_to c i me))
          (pushed (map (moved lay) vs) (value.Null ∷ ops)) nothing s a rest lays.null_pointer
          lays.one_thrown h
          found_is (can_of value.Null hr)
          (ap (λ z. called_on z (length (map (kind_of w) me.takes)) (to.Code (lay.number c)
          (lay.method_at c i) me.many) (with a (pushed (map (moved lay) vs)
          (value.Null ∷ ops)))) (first_is value.Null))
          fit (more_raises k d p set xs rest raises)
      pick (value.Ref y n) hr =
          let ks = map (kind_of w) me.takes in
          let mvs = map (moved lay) vs in
          let ref = value.Ref (lay.number y) n in
          let given_are : given_types c me ≡ ty.Class c ∷ me.takes = ap (λ b. cond b me.takes
          (ty.Class c ∷ me.takes)) st in
          let more : length ks + 1 ≡ length (ref ∷ mvs) = omega (arith, many_is) in
          invoked c i me is k d p (Member 182 (w.class c) (w.method c i)
          (w.method_type c i)) xs (InvokeVirtual (link_to c i me)) set ops (value.Ref y n ∷ vs)
          s a rest deep h lives
          found_is (can_of (value.Ref y n) hr)
          (ap (λ z. called_on z (length ks) (to.Code (lay.number c) (lay.method_at c i) me.many)
          (with a (pushed mvs (ref ∷ ops)))) (first_is (value.Ref y n))
          ∙ ap (λ l. Rattle.par_values.specs.Effects.Calls (lay.number c)
          (lay.method_at c i) me.many l (areas.pop (length ks + 1)
          (with a (pushed mvs (ref ∷ ops)))))
          (pushed_taken (ref ∷ mvs) ops (length ks + 1) more)
          ∙ ap (λ l. Rattle.par_values.specs.Effects.Calls (lay.number c)
          (lay.method_at c i) me.many (ref ∷ mvs) (with a l))
          (pushed_left (ref ∷ mvs) ops (length ks + 1) more))
          (subst (λ us. AllTyped lay s.births us (value.Ref y n ∷ vs)) (sym given_are)
          (hr, ht)) fit ready raises
