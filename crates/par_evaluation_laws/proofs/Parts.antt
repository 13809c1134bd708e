-- The code of an expression shows its run.
use Rattle.par_evaluation_laws.specs.Programs.{Inits, callee}
use Rattle.par_match_laws.specs.par_step_laws.Step.{state_with, Turn, thrown_to}
use Rattle.par_evaluation_laws.specs.Laid.{HasMethod, IsThrown}
use Rattle.std.proofs.Common.{◌≡◌, ℕ, suc, ◌+◌, ◌≤◌, ◌<◌, Bool, true, false, not, List, [], ◌∷◌}
use Rattle.std.proofs.Common.{length, Some, refl, ap, sym, ◌∙◌, subst, arith}
use Rattle.std.specs.Prelude.{ℤ, pos, ◌-ℤ◌, cond}
use Rattle.par_run_laws.specs.par_typed.declared.ty.Ty.{Ty}
use Rattle.par_run_laws.specs.par_typed.declared.ty.Ty.TheVariants as ty
use Rattle.par_run_laws.specs.par_typed.declared.table.Table.{Table}
use Rattle.par_run_laws.specs.par_typed.Plain.{Mark, mark, TExp, Local}
use Rattle.par_values.specs.declared.kind.Kind.{Kind}
use Rattle.par_values.specs.declared.kind.Kind.TheVariants as kind
use Rattle.par_values.specs.declared.value.MVal.{MVal}
use Rattle.par_values.specs.declared.value.MVal.TheVariants as value
use Rattle.par_values.specs.Areas.{Name, Areas, number_of, fits}
use Rattle.par_values.specs.Areas as areas
use Rattle.par_values.specs.Operations.{Operation, Push, PushNull, Load, Store, Discard, Copy}
use Rattle.par_values.specs.Operations.{Combine, Negate, JumpIf, JumpIfBoth, JumpIfSame, GetStatic}
use Rattle.par_values.specs.Operations.{GetField, Create}
use Rattle.par_values.specs.Operations as op
use Rattle.par_values.specs.Effects.{Goes, Jumps, Throws, effect, jumps_if}
use Rattle.par_run_laws.specs.State.{State}
use Rattle.par_run_laws.specs.Tasks.{Exit, Normal, Thrown, Rest, Rests, Task, paid, gives, and_then}
use Rattle.par_run_laws.specs.Tasks.{follow}
use Rattle.par_run_laws.specs.Meaning.{Calls, eval}
use Rattle.par_run_laws.specs.Values.{truth}
use Rattle.par_match_laws.specs.par_step_laws.State as steps
use Rattle.par_match_laws.specs.Engine.{Program, turn}
use Rattle.par_match_laws.specs.Engine as gen
use Rattle.par_match_laws.specs.par_code_form.declared.item.Item.{Item}
use Rattle.par_match_laws.specs.par_code_form.declared.item.Item.TheVariants.{Label, Op, Const}
use Rattle.par_match_laws.specs.par_code_form.declared.item.Item.TheVariants.{Jump}
use Rattle.par_match_laws.specs.Labelled.{Labelled, Naming, lead, skip, target}
use Rattle.par_match_laws.specs.Labelled.{found}
use Rattle.par_match_laws.specs.Labelled.{silent, stands}
use Rattle.par_match_laws.specs.par_code_form.Code.{Words, is_number, is_void, test_code}
use Rattle.par_match_laws.specs.par_code_form.Code.{expr_code}
use Rattle.par_evaluation_laws.specs.Laid.{Layout, moved, HasType, Typed}
use Rattle.par_program_laws.specs.Locals.{IsSet}
use Rattle.par_match_laws.proofs.Rules.{Told, Matches, spend_rule, spent}
use Rattle.par_match_laws.proofs.Steps.{Lives, Here, next, Distinct, IsSound, P}
use Rattle.par_match_laws.proofs.Steps.{here}
use Rattle.par_match_laws.proofs.Steps.{frame, Can, on}
use Rattle.par_match_laws.proofs.Steps.{jumps, throws_turn, target_is}
use Rattle.par_match_laws.proofs.Steps.{stands_here}
use Rattle.par_evaluation_laws.specs.Agreement.{Lays, Fine}
use Rattle.par_evaluation_laws.proofs.Good.{Grows, grows_same, number_is, reference_is, any_fits}
use Rattle.par_evaluation_laws.proofs.Good.{born_thrown}
use Rattle.par_evaluation_laws.proofs.AgreeingValues.{kind_in, load_is}
use Rattle.par_values.specs.Reasons.{holds}
use Rattle.std.proofs.Common.{map}
use Rattle.par_values.specs.Areas.{first_locals}
use Rattle.par_run_laws.specs.State.{restored, entered}
use Rattle.par_run_laws.specs.Tasks.{leave}
use Rattle.par_evaluation_laws.specs.Laid.{Meth, given_types}

pub effects : (ns : List Name) (a : Areas) (n : ℤ)
    → effect ns (Push n) a ≡ Goes (areas.push (value.Int n) a)
unfolding effect
effects ns a n = refl

pub jump_effect : (ns : List Name) (to : ℤ) (a : Areas) → effect ns (op.Jump to) a ≡ Jumps to a
unfolding effect
jump_effect ns to a = refl

pub not_void : (u : Ty) → (u ≡ ty.Void → ⊥) → is_void u ≡ false
not_void ty.Int h = refl
not_void ty.Boolean h = refl
not_void (ty.Class c) h = refl
not_void ty.Null h = refl
not_void ty.Void h = absurd (h refl)

-- with these operands
abbrev pub with : Areas → List MVal → Areas
with a ops = record a { operands = ops }

-- values of these types
abbrev pub AllTyped : Layout → (ℕ → ℕ) → List Ty → List MVal → Type 0
AllTyped lay b [] [] = Unit {0}
AllTyped lay b [] (v ∷ vs) = ⊥
AllTyped lay b (u ∷ us) [] = ⊥
AllTyped lay b (u ∷ us) (v ∷ vs) = HasType lay b u v × AllTyped lay b us vs

module _ (env : Naming) (labelled : ℕ → ℕ → Labelled) (mname : ℕ → ℕ
    → Name) (w : Words) (lay : Layout) (t : Table) where
  -- behind a call of a method the machine shows what follows the call
  pub record Back (k d : ℕ) (gs : List steps.Frame) (me : Meth) (s : State)
      (rest : Rests) : Type 0 where
    pub nothing_back : (hs : List steps.Frame) (set : List ℕ) (s' : State) (a : Areas)
        → me.result ≡ ty.Void
        → Fine env w lay t me.types me.many s.births set s' a
        → Matches (P env labelled mname) k d
        (gen.returned (P env labelled mname) gs (state_with hs a))
        (rest Normal s'.result (restored s.locals s.result s'))
    pub value_back : (hs : List steps.Frame) (set : List ℕ) (v : MVal) (s' : State) (a : Areas)
        → (me.result ≡ ty.Void → ⊥)
        → HasType lay s'.births me.result v → Fine env w lay t me.types me.many s.births set s' a
        → Matches (P env labelled mname) k d (gen.returned_with (P env labelled mname)
        (moved lay v) gs (state_with hs a)) (rest Normal v (restored s.locals s.result s'))
    pub thrown_back : (x n : ℕ) (set : List ℕ) (s' : State) (a : Areas) → IsThrown lay x
        → Fine env w lay t me.types me.many s.births set s' a
        → Matches (P env labelled mname) k d (thrown_to env.names (value.Ref (lay.number x) n)
        (lay.number x) (gen.caught (P env labelled mname) (lay.number x) gs) a)
        (rest (Thrown x) Rattle.par_run_laws.specs.Tasks.nothing (restored s.locals s.result s'))

  -- calls as deep as this show the runs of their bodies
  abbrev pub Enters : Calls → ℕ → Type 0
  Enters run depth =
      (c i : ℕ) (me : Meth) → HasMethod lay c i me
      → (k d : ℕ) (gs : List steps.Frame) (vs : List MVal) (tys : ℕ → Ty) (many : ℕ) (base : ℕ
      → ℕ) (set : List ℕ) (s : State) (a : Areas) (rest : Rests)
      → k ≤ depth → AllTyped lay s.births (given_types c me) vs
      → Fine env w lay t tys many base set s a
      → Back k d gs me s rest
      → Matches (P env labelled mname) k (d + 2) (turn (P env labelled mname)
      (state_with (callee (P env labelled mname) (lay.number c)
      (lay.method_at c i) me.many (map (moved lay) vs) ∷ gs) a))
      (run c i (leave s.locals s.result rest) (entered vs s))

-- a method that runs, and all that is known around it
pub record Setting : Type 0 where
  -- what names are
  pub env : Naming
  -- the code of all methods
  pub labelled : ℕ → ℕ → Labelled
  -- how methods are called where code is bad
  pub mname : ℕ → ℕ → Name
  pub w : Words
  pub lay : Layout
  pub t : Table
  -- what calls do, so deep
  pub run : Calls
  -- the method that runs, the frames below it, its locals and the births where it was entered
  pub cls : ℕ
  pub mth : ℕ
  pub fs : List steps.Frame
  pub tys : ℕ → Ty
  pub many : ℕ
  pub base : ℕ → ℕ
  pub depth : ℕ
  pub lays : Lays env w lay t
  pub sound : IsSound (P env labelled mname)
  pub ds : Distinct (labelled cls mth)
  pub enters : Enters env labelled mname w lay t run depth
  pub inits : Inits labelled lay

module _ (ctx : Setting) where
  abbrev env : Naming
  env = ctx.env

  abbrev labelled : ℕ → ℕ → Labelled
  labelled = ctx.labelled

  abbrev mname : ℕ → ℕ → Name
  mname = ctx.mname

  abbrev w : Words
  w = ctx.w

  abbrev lay : Layout
  lay = ctx.lay

  abbrev t : Table
  t = ctx.t

  abbrev run : Calls
  run = ctx.run

  abbrev cls : ℕ
  cls = ctx.cls

  abbrev mth : ℕ
  mth = ctx.mth

  abbrev fs : List steps.Frame
  fs = ctx.fs

  abbrev tys : ℕ → Ty
  tys = ctx.tys

  abbrev many : ℕ
  many = ctx.many

  abbrev base : ℕ → ℕ
  base = ctx.base

  abbrev depth : ℕ
  depth = ctx.depth

  abbrev lays : Lays env w lay t
  lays = ctx.lays

  abbrev sound : IsSound (P env labelled mname)
  sound = ctx.sound

  abbrev ds : Distinct (labelled cls mth)
  ds = ctx.ds

  abbrev pub Q : Program
  Q = P env labelled mname

  abbrev pub M : ℕ → ℕ → Turn → Told → Type 0
  M = Matches Q

  abbrev pub the_code : Labelled
  the_code = labelled cls mth

  -- the turn at a position, with these areas and operands
  abbrev pub at : ℕ → Areas → List MVal → Turn
  at p a ops = turn Q (here env labelled mname cls mth fs p (with a ops))

  abbrev pub Fit : List ℕ → State → Areas → Type 0
  Fit = Fine env w lay t tys many base

  pub record Within (q p : ℕ) (xs : List Item) : Type 0 where
    pub low : p ≤ q
    pub high : q + length xs < length (the_code).items

  pub wider : {q p p' : ℕ} {xs xs' : List Item} → Within q p' xs' → p ≤ p'
      → length xs ≤ length xs' → Within q p xs
  wider h le le' = record { low = omega (arith, h.low); high = omega (arith, h.high) }

  -- what is left of a value on the operands
  abbrev pub after : Ty → MVal → List MVal → List MVal
  after u v ops = cond (is_void u) ops (moved lay v ∷ ops)

  -- behind the code the machine has the value as well
  abbrev pub Ready : List ℕ → State → ℕ → ℕ → List Item → List MVal → Ty → Rests → Type 0
  Ready set s k c xs ops u rest =
      (p : ℕ) → Here the_code p xs → (v : MVal) (s' : State) (a : Areas) → Grows s s'
      → HasType lay s'.births u v → Fit set s' a
      → M k c (at (skip xs p) a (after u v ops)) (rest Normal v s')

  -- the same where there is a value
  abbrev pub Handed : List ℕ → State → ℕ → ℕ → List Item → List MVal → Ty → Rests → Type 0
  Handed set s k c xs ops u rest =
      (p : ℕ) → Here the_code p xs → (v : MVal) (s' : State) (a : Areas) → Grows s s'
      → HasType lay s'.births u v → Fit set s' a
      → M k c (at (skip xs p) a (moved lay v ∷ ops)) (rest Normal v s')

  pub handed : (set : List ℕ) (s : State) (k c : ℕ) (xs : List Item) (ops : List MVal) (u : Ty)
      (rest : Rests)
      → is_void u ≡ false → Ready set s k c xs ops u rest → Handed set s k c xs ops u rest
  handed set s k c xs ops u rest nv ready p h v s' a gr ht fit =
      subst (λ b. M k c (at (skip xs p) a (cond b ops (moved lay v ∷ ops)))
      (rest Normal v s')) nv (ready p h v s' a gr ht fit)

  -- and what is asked of it where its type is known
  pub given : (set : List ℕ) (s : State) (k c : ℕ) (xs : List Item) (ops : List MVal) (u z : Ty)
      (rest : Rests)
      → u ≡ z → is_void z ≡ false → Handed set s k c xs ops z rest → Ready set s k c xs ops u rest
  given set s k c xs ops u z rest e nv ready p h v s' a gr ht fit =
      subst (λ b. M k c (at (skip xs p) a (cond b ops (moved lay v ∷ ops))) (rest Normal v s'))
      (sym (ap is_void e ∙ nv))
      (ready p h v s' a gr (subst (λ u. HasType lay s'.births u v) e ht) fit)

  -- an exception of a class is thrown at a position
  abbrev pub thrown : ℕ → ℕ → ℕ → Areas → Turn
  thrown q x n a =
      gen.throws Q (value.Ref (lay.number x) n) (Some (lay.number x))
      (frame env labelled mname cls mth fs q a ∷ fs) a

  abbrev pub Raises : List ℕ → ℕ → ℕ → ℕ → List Item → Rests → Type 0
  Raises set k c p xs rest =
      (q x n : ℕ) (v : MVal) (s : State) (a : Areas) → Within q p xs → IsThrown lay x → Fit set s a
      → M k c (thrown q x n a) (rest (Thrown x) v s)

  -- what is asked of the code of an expression
  abbrev pub Holds : TExp → Type 0
  Holds e =
      (n k c p : ℕ) (set : List ℕ) (xs : List Item) (ops : List MVal) (rest : Rests) (s : State)
      (a : Areas)
      → Typed lay tys many (the_code).max_stack set (length ops) e → k ≤ suc depth → Fit set s a
      → Lives xs
      → Here the_code p (expr_code w e n xs)
      → Ready set s k c xs ops (mark e).ty rest → Raises set k c p xs rest
      → M k c (at (skip (expr_code w e n xs) p) a ops) (eval t run e rest s)

  pub number_moved : (v : MVal) → number_of (moved lay v) ≡ number_of v
  number_moved (value.Int n) = refl
  number_moved value.Null = refl
  number_moved (value.Ref c n) = refl

  -- something is put on the operands
  pub pushes : (k c d p : ℕ) (x : Item) (xs : List Item) (o : Operation) (a : Areas)
      (ops : List MVal) (v : MVal) (g : Told)
      → suc c ≤ d → Here the_code p (x ∷ xs) → Lives xs
      → found env (the_code).items p (x ∷ xs) ≡ silent o (suc (lead xs))
      → Can env labelled mname cls mth fs o (with a ops)
      → effect env.names o (with a ops) ≡ Goes (with a (v ∷ ops))
      → M k c (at (skip xs (suc p)) a (v ∷ ops)) g → M k d (at p a ops) g
  pushes k c d p x xs o a ops v g le h l f can e r =
      on env labelled mname cls mth fs k c d p x xs o (with a ops)
      (with a (v ∷ ops)) g le h l f can e r

  -- 1 where a branch is taken, and else 0
  pub tests : (k c p opcode n : ℕ) (xs : List Item) (ops os : List MVal) (a : Areas) (b : Bool)
      (g : Told) (o : Operation)
      → Distinct the_code → Here the_code p (test_code opcode n xs) → Lives xs
      → found env (the_code).items p (test_code opcode n xs) ≡ silent o 1
      → Can env labelled mname cls mth fs o (with a os) → length ops < (the_code).max_stack
      → effect env.names o (with a os) ≡ jumps_if b (pos (target (the_code).items n) -ℤ pos p)
      (with a ops)
      → ((q : ℕ) → Here the_code q xs → M k c (at (skip xs q) a (truth b ∷ ops)) g)
      → M k (c + 16) (at p a os) g
  tests k c p opcode n xs ops os a true g o ds h l f can lt e r =
      let h1 = next the_code h in let h2 = next the_code h1 in let h3 = next the_code h2 in let h4
      = next the_code h3 in
      let h5 = next the_code h4 in let h6 = next the_code h5 in
      jumps env labelled mname cls mth fs k k (c + 8) (c + 16) p (target (the_code).items n)
      (Jump opcode n) _ o (with a os) (with a ops) g (omega arith) (omega arith) h
      (ap (λ q. stands (the_code).items (pos q)) (target_is the_code ds n _ _ h3)
      ∙ stands_here the_code _ _ h4 tt)
      f can e
      (subst (λ q. M k (c + 8) (at q a ops) g) (sym (target_is the_code ds n _ _ h3))
      (pushes k c (c + 8) _ (Const (pos 1)) (Label (n + 1) ∷ xs)
      (Push (pos 1)) a ops (value.Int (pos 1)) g (omega arith) h4 l refl
      (record {
        enough = omega arith;
        fits = refl;
        short = omega (arith, lt);
        placed = refl;
        named
            = refl;
        agrees = refl;
        used = refl;
        stays = λ x g r. refl;
        comes = λ x g r. refl;
      })
      (effects env.names (with a ops) (pos 1))
      (r _ h6)))
  tests k c p opcode n xs ops os a false g o ds h l f can lt e r =
      let h1 = next the_code h in let h2 = next the_code h1 in let h3 = next the_code h2 in let h4
      = next the_code h3 in
      let h5 = next the_code h4 in let h6 = next the_code h5 in
      on env labelled mname cls mth fs k (c + 8) (c + 16) p (Jump opcode n) _ o (with a os)
      (with a ops) g (omega arith) h tt f can e
      (pushes k (c + 4) (c + 8) _ (Const (pos 0)) _ (Push (pos 0)) a ops (value.Int (pos 0)) g
      (omega arith) h1 tt refl
      (record {
        enough = omega arith;
        fits = refl;
        short = omega (arith, lt);
        placed = refl;
        named
            = refl;
        agrees = refl;
        used = refl;
        stays = λ x g r. refl;
        comes = λ x g r. refl;
      })
      (effects env.names (with a ops) (pos 0))
      (jumps env labelled mname cls mth fs k k c (c + 4) (suc (suc p))
      (target (the_code).items (n + 1))
      (Jump 167 (n + 1)) _ (op.Jump (pos (target (the_code).items (n + 1)) -ℤ pos (suc (suc
      p)))) (with a (value.Int (pos 0) ∷ ops))
      (with a (value.Int (pos 0) ∷ ops)) g (omega arith) (omega arith) h2
      (ap (λ q. stands (the_code).items (pos q)) (target_is the_code ds (n + 1) _ _ h5)
      ∙ stands_here the_code _ _ h6 l)
      refl
      (record {
        enough = omega arith;
        fits = refl;
        short = omega (arith, lt);
        placed = refl;
        named
            = refl;
        agrees = refl;
        used = refl;
        stays = λ x g r. refl;
        comes = λ x g r. refl;
      })
      (jump_effect env.names _ (with a (value.Int (pos 0) ∷ ops)))
      (subst (λ q. M k c (at q a (value.Int (pos 0) ∷ ops)) g)
      (sym (target_is the_code ds (n + 1) _ _ h5)) (r _ h6))))

  abbrev pub Simple : Operation → Areas → List MVal → Type 0
  Simple o a ops = Can env labelled mname cls mth fs o (with a ops)

  -- what is in a local
  pub loads : (k c p x : ℕ) (set : List ℕ) (kd : Kind) (i : Item) (xs : List Item)
      (ops : List MVal) (s : State) (a : Areas) (g : Told)
      → found env (the_code).items p (i ∷ xs) ≡ silent (Load x kd) (suc (lead xs))
      → Here the_code p (i ∷ xs) → Lives xs → Fit set s a → IsSet set x
      → length ops < (the_code).max_stack → fits env.names kd (moved lay (s.locals x)) ≡ true
      → M k c (at (skip xs (suc p)) a (moved lay (s.locals x) ∷ ops)) g
      → M k (c + 16) (at p a ops) g
  unfolding effect
  loads k c p x set kd i xs ops s a g f h l fit is lt fk r =
      let e = (fit.locals_are x is).0 in
      pushes k c (c + 16) p i xs (Load x kd) a ops (moved lay (s.locals x)) g (omega arith) h l f
      (record {
        enough = omega arith;
        fits = refl;
        short = omega (arith, lt);
        placed = ap (λ o. not (holds env.names kd o)) e ∙ ap not fk;
        named = refl;
        agrees = refl;
        used = refl;
        stays = λ x g r. refl;
        comes = λ x g r. refl;
      })
      (ap (λ o. Goes (areas.push (areas.value_or_null o) (with a ops))) e) r

  pub kind_in_fits : (b : ℕ → ℕ) (u : Ty) (v : MVal) → (u ≡ ty.Void → ⊥) → HasType lay b u v
      → fits env.names (kind_in (is_number u)) (moved lay v) ≡ true
  kind_in_fits b u v n h = pick (is_number u) refl
    where
      pick : (q : Bool) → is_number u ≡ q → fits env.names (kind_in q) (moved lay v) ≡ true
      pick true e = subst (λ v. fits env.names kind.Number (moved lay v) ≡ true)
          (sym (number_is lay b u v e h)) refl
      pick false e = any_fits lay env.names v (reference_is lay b u v e n h)

  pub local_ok : (x : ℕ) (m : Mark) → Holds (Local x m)
  unfolding eval expr_code Typed mark
  local_ok x m n k c p set xs ops rest s a tp deep fit lives h ready raises =
      let i = load_is m.ty x in
      subst (λ z. (Here the_code p (z ∷ xs) → M k c (at (skip (z ∷ xs) p) a ops)
      (spent (rest Normal (s.locals x) s)))) (sym i.1)
      (λ h. spend_rule Q k c _ _ (loads k c p x set (kind_in (is_number m.ty))
      (Op i.0) xs ops s a _ (ap (λ o. silent o (suc (lead xs))) i.2) h lives fit tp.2 (omega
      (arith, tp.1))
      (subst (λ u. fits env.names (kind_in (is_number u)) (moved lay (s.locals x)) ≡ true)
      (sym tp.0) (kind_in_fits s.births (tys x) (s.locals x) tp.3 (fit.locals_are x tp.2).1))
      (handed set s k c xs ops m.ty rest (ap is_void tp.0
      ∙ not_void (tys x) tp.3) ready (suc p) (next the_code h)
      (s.locals x) s a (grows_same s) (subst (λ u. HasType lay s.births u (s.locals x))
      (sym tp.0) (fit.locals_are x tp.2).1) fit)))
      h

  pub const_ok : (e : TExp) (v : ℤ) (k c p : ℕ) (set : List ℕ) (xs : List Item) (ops : List MVal)
      (rest : Rests) (s : State) (a : Areas)
      → length ops < (the_code).max_stack → Fit set s a → Lives xs → Here the_code p (Const v ∷ xs)
      → HasType lay s.births (mark e).ty (value.Int v) → is_void (mark e).ty ≡ false
      → Ready set s k c xs ops (mark e).ty rest → M k c (at p a ops)
      (spent (rest Normal (value.Int v) s))
  const_ok e v k c p set xs ops rest s a lt fit lives h ht nv ready =
      spend_rule Q k c _ (rest Normal (value.Int v) s)
      (pushes k c (c + 16) p (Const v) xs (Push v) a ops (value.Int v) _ (omega arith) h lives
      refl
      (record {
        enough = omega arith;
        fits = refl;
        short = omega (arith, lt);
        placed = refl;
        named
            = refl;
        agrees = refl;
        used = refl;
        stays = λ x g r. refl;
        comes = λ x g r. refl;
      })
      (effects env.names (with a ops) v)
      (handed set s k c xs ops (mark e).ty rest nv ready (suc p) (next the_code h)
      (value.Int v) s a (grows_same s) ht fit))

  -- a zero divisor, or another exception that every program has
  pub fails : (k c p x : ℕ) (name : Name) (set : List ℕ) (i : Item) (xs : List Item)
      (o : Operation) (ops : List MVal) (v : MVal) (s : State) (a : Areas) (rest : Rests)
      → env.exception_named name ≡ lay.number x → IsThrown lay x
      → Here the_code p (i ∷ xs) → found env (the_code).items p (i ∷ xs) ≡ silent o (suc (lead xs))
      → Simple o a ops
      → effect env.names o (with a ops) ≡ Throws name → Fit set s a
      → Raises set k c p xs rest → M k c (at p a ops) (rest (Thrown x) v s)
  fails k c p x name set i xs o ops v s a rest en is h f can e fit raises =
      subst (λ z. M k c z (rest (Thrown x) v s))
      (sym (throws_turn env labelled mname cls mth fs sound p i xs o (with a ops) name h f can e
      ∙ ap (λ z. gen.throws_next Q z (frame env labelled mname cls mth fs p (with a ops) ∷ fs)
      (with a ops)) en))
      (raises p x (areas.next_number (lay.number x) a) v s (areas.with_object (lay.number x) []
      (with a ops))
      (record { low = omega arith; high = omega (arith, h.fits) }) is
      (born_thrown env w lay t lays tys many base set s a x is fit))
