-- What is asked of the code of a statement: the machine at each of its exits.
use Rattle.par_evaluation_laws.specs.Laid.{IsThrown}
use Rattle.std.proofs.Common.{◌≡◌, ℕ, suc, ◌+◌, ◌-◌, ◌≤◌, Bool, true, false, not, List, [], ◌∷◌}
use Rattle.std.proofs.Common.{length, Option, refl, ap, sym, ◌∙◌, subst, arith}
use Rattle.std.specs.Prelude.{pos, ◌-ℤ◌, ◌==◌, if◌then◌else◌, cond}
use Rattle.par_typed.specs.declared.ty.Ty.{Ty}
use Rattle.par_typed.specs.declared.ty.Ty.TheVariants as ty
use Rattle.par_typed.specs.declared.table.Table.{Table}
use Rattle.par_values.specs.declared.value.MVal.{MVal}
use Rattle.par_values.specs.declared.value.MVal.TheVariants as value
use Rattle.par_values.specs.Areas.{Name, Areas}
use Rattle.par_values.specs.Arithmetic.{compares}
use Rattle.par_values.specs.Operations.{Operation, Push, PushNull, Load, Store, Discard, Copy}
use Rattle.par_values.specs.Operations.{Combine, Negate, JumpIf, JumpIfBoth, JumpIfSame, GetStatic}
use Rattle.par_values.specs.Operations.{GetField, Create}
use Rattle.par_values.specs.Operations as op
use Rattle.par_values.specs.Effects.{effect, jumps_if}
use Rattle.par_run_laws.specs.State.{State}
use Rattle.par_step_laws.specs.State as steps
use Rattle.par_step_laws.specs.Step.{Turn}
use Rattle.par_evaluation_laws.specs.par_match_laws.Engine.{Program, turn}
use Rattle.par_evaluation_laws.specs.par_match_laws.Engine as gen
use Rattle.par_code_form.specs.declared.item.Item.{Item}
use Rattle.par_code_form.specs.declared.item.Item.TheVariants.{Label, Jump}
use Rattle.par_code_form.specs.declared.labelled.Handler.{Handler}
use Rattle.par_evaluation_laws.specs.par_match_laws.Labelled.{Labelled, Naming, skip, target}
use Rattle.par_evaluation_laws.specs.par_match_laws.Labelled.{stands}
use Rattle.par_evaluation_laws.proofs.par_match_laws.Rules.{Told, weaken, spend_rule, spent}
use Rattle.par_evaluation_laws.proofs.par_match_laws.Steps.{Lives, Here, next, Distinct, P, here}
use Rattle.par_evaluation_laws.proofs.par_match_laws.Steps.{frame}
use Rattle.par_evaluation_laws.proofs.par_match_laws.Steps.{on, jumps}
use Rattle.par_evaluation_laws.proofs.par_match_laws.Steps.{target_is, stands_here}
use Rattle.par_evaluation_laws.specs.Agreement.{Lays}
use Rattle.par_values.specs.Operations.{InvokeStatic, PutStatic}
use Rattle.par_values.specs.Operations.{operation}
use Rattle.par_run_laws.specs.Values.{is_true}
use Rattle.par_evaluation_laws.proofs.Operators.{not_not}
use Rattle.std.proofs.lemmas.Bool.{or_right}
use Rattle.par_typed.specs.Plain.{mark, TExp}
use Rattle.par_typed.specs.Plain.{TSta, Block, If, While, Try, Return, Break, Continue, Throw, Open}
use Rattle.par_typed.specs.Plain.{Close, SetLocal, SetStatic, SetField, Eval, When}
use Rattle.par_run_laws.specs.State.{set_result}
use Rattle.par_run_laws.specs.Tasks.{Normal, Broken, Continued, Returned, Thrown, Rests, Task}
use Rattle.par_run_laws.specs.Tasks.{follow}
use Rattle.par_run_laws.specs.Tasks.{nothing}
use Rattle.par_run_laws.specs.Meaning.{Calls, eval, go}
use Rattle.par_completes.specs.Typed.{completes}
use Rattle.par_completes.specs.Typed.{breaks}
use Rattle.par_values.specs.Operations.{PutField}
use Rattle.par_step_laws.specs.Handlers.{caught_by}
use Rattle.par_step_laws.specs.Step.{thrown_to}
use Rattle.par_evaluation_laws.specs.par_match_laws.Labelled.{handled}
use Rattle.par_code_form.specs.Code.{goes_on}
use Rattle.par_code_form.specs.Code.{handlers}
use Rattle.par_evaluation_laws.proofs.Parts.{Setting, Enters, fails}
use Rattle.par_code_form.specs.Code.{Words, Loop, is_void, expr_code, code}
use Rattle.par_evaluation_laws.specs.Laid.{Layout, moved, HasType, Typed}
use Rattle.par_evaluation_laws.specs.par_program_laws.Locals.{IsSet}
use Rattle.par_evaluation_laws.specs.Laid.{TypedS}
use Rattle.par_evaluation_laws.specs.Laid.{behind, Accepts}
use Rattle.par_evaluation_laws.proofs.Good.{fit_less}
use Rattle.par_evaluation_laws.proofs.Parts.{with, not_void, Q, M, the_code, at, Fit, Within, wider}
use Rattle.par_evaluation_laws.proofs.Parts.{after}
use Rattle.par_evaluation_laws.proofs.Parts.{Ready, Handed, handed, given, thrown, Raises, Holds}
use Rattle.par_evaluation_laws.proofs.Parts.{number_moved, Simple, kind_in_fits}
use Rattle.par_evaluation_laws.proofs.Values.{raises_on, number_fits, one_fits, accepts}
use Rattle.par_evaluation_laws.proofs.Exprs.{expr_ok}

module _ (ctx : Setting) (result : Ty) where
  abbrev env : Naming
  env = ctx.env

  abbrev labelled : ℕ → ℕ → Labelled
  labelled = ctx.labelled

  abbrev mname : ℕ → ℕ → Name
  mname = ctx.mname

  abbrev w : Words
  w = ctx.w

  abbrev lay : Layout
  lay = ctx.lay

  abbrev t : Table
  t = ctx.t

  abbrev run : Calls
  run = ctx.run

  abbrev cls : ℕ
  cls = ctx.cls

  abbrev mth : ℕ
  mth = ctx.mth

  abbrev fs : List steps.Frame
  fs = ctx.fs

  abbrev tys : ℕ → Ty
  tys = ctx.tys

  abbrev many : ℕ
  many = ctx.many

  abbrev base : ℕ → ℕ
  base = ctx.base

  abbrev depth : ℕ
  depth = ctx.depth

  abbrev lays : Lays env w lay t
  lays = ctx.lays

  abbrev ds : Distinct (labelled cls mth)
  ds = ctx.ds

  abbrev fuel : ℕ
  fuel = suc depth

  abbrev C : Labelled
  C = labelled cls mth

  abbrev N : ℕ → ℕ → Turn → Told → Type 0
  N = M ctx

  abbrev pos_of : ℕ → Areas → List MVal → Turn
  pos_of = at ctx

  abbrev Fits' : List ℕ → State → Areas → Type 0
  Fits' = Fit ctx

  abbrev V : List ℕ → State → ℕ → ℕ → List Item → List MVal → Ty → Rests → Type 0
  V = Handed ctx

  abbrev R : List ℕ → State → ℕ → ℕ → List Item → List MVal → Ty → Rests → Type 0
  R = Ready ctx

  abbrev X : List ℕ → ℕ → ℕ → ℕ → List Item → Rests → Type 0
  X = Raises ctx

  abbrev here_at : ℕ → Areas → steps.State
  here_at q a = here env labelled mname cls mth fs q (with a [])

  abbrev Machine : Program
  Machine = P env labelled mname

  -- what is thrown at a position, where these handlers and the frames below are left to catch it
  abbrev pub landed : List Handler → ℕ → ℕ → ℕ → Areas → Turn
  landed hs q x n a =
      thrown_to env.names (value.Ref (lay.number x) n) (lay.number x)
      (caught_by (handled env C.items hs q (lay.number x))
      (frame env labelled mname cls mth fs q a) fs (gen.caught Machine (lay.number x) fs)) a

  -- between p and xs only these handlers count
  abbrev pub Catches : ℕ → List Item → List Handler → Type 0
  Catches p xs hs =
      (q x : ℕ) → Within ctx q p xs
      → handled env C.items C.handlers q x ≡ handled env C.items hs q x

  -- at each exit of the code between p and xs but the normal one, the machine shows what follows
  -- that exit
  pub record Sides (k c p : ℕ) (xs : List Item) (l : Loop) (inside breaks_ : Bool) (set : List ℕ)
      (hs : List Handler) (rest : Rests) : Type 0 where
    pub broken : inside ≡ true → breaks_ ≡ true → (s : State) (a : Areas) → Fits' set s a
        → N k c (pos_of (target C.items l.out) a []) (rest Broken nothing s)
    pub continued : inside ≡ true → (s : State) (a : Areas) → Fits' set s a
        → N (k - 1) c (pos_of (target C.items l.again) a []) (rest Continued nothing s)
    pub returns : (q : ℕ) (s : State) (a : Areas) → result ≡ ty.Void → Fits' set s a
        → N k c (gen.returned Machine fs (here_at q a)) (rest Returned nothing s)
    pub gives_back : (q : ℕ) (os : List MVal) (v : MVal) (s : State) (a : Areas)
        → (result ≡ ty.Void → ⊥) → HasType lay s.births result v → Fits' set s a
        → N k c (gen.returned_with Machine (moved lay v) fs (here env labelled mname cls mth fs q
        (with a os))) (rest Returned nothing (set_result v s))
    pub lands : (q x n : ℕ) (v : MVal) (s : State) (a : Areas) → Within ctx q p xs
        → IsThrown lay x → Fits' set s a
        → N k c (landed hs q x n a) (rest (Thrown x) v s)
    -- the targets of break and continue are instructions
    pub out_stands : inside ≡ true → breaks_ ≡ true
        → stands C.items (pos (target C.items l.out)) ≡ true
    pub again_stands : inside ≡ true → stands C.items (pos (target C.items l.again)) ≡ true

  abbrev pub Normally : ℕ → ℕ → List Item → List ℕ → Rests → Type 0
  Normally k c xs sn rest =
      (q : ℕ) → Here C q xs → (s : State) (a : Areas) → Fits' sn s a
      → N k c (pos_of (skip xs q) a []) (rest Normal nothing s)

  abbrev pub Alike : Rests → Rests → Type 0
  Alike rest rest' =
      ((v : MVal) (s : State) → rest' Broken v s ≡ rest Broken v s) × ((v : MVal) (s : State)
      → rest' Continued v s ≡ rest Continued v s)
      × ((v : MVal) (s : State) → rest' Returned v s ≡ rest Returned v s) × ((x : ℕ) (v : MVal)
      (s : State) → rest' (Thrown x) v s ≡ rest (Thrown x) v s)

  pub alike : (rest : Rests) → Alike rest rest
  alike rest = (λ v s. refl, λ v s. refl, λ v s. refl, λ x v s. refl)

  pub wk : (k c d : ℕ) (z : Turn) (g : Told) → c ≤ d → N k c z g → N k d z g
  wk k c d z g le h = weaken Machine k k c d z g (omega arith) le h

  pub less : (set set' : List ℕ) (s : State) (a : Areas) → ((x : ℕ) → IsSet set' x → IsSet set x)
      → Fits' set s a → Fits' set' s a
  less set set' s a sub h = fit_less env w lay t lays tys many base set set' s a sub h

  pub shift : (j k c d : ℕ) (z : Turn) (g g' : Told) → k ≤ j → c ≤ d → g' ≡ g → N j c z g
      → N k d z g'
  shift j k c d z g g' lk lc e h = subst (λ g. N k d z g) (sym e)
      (weaken Machine j k c d z g lk lc h)

  pub sides_on : (j k c d p q : ℕ) (xs ys : List Item) (l : Loop) (inside b b' : Bool)
      (set set' : List ℕ) (hs hs' : List Handler) (rest rest' : Rests) → k ≤ j → c ≤ d → p ≤ q
      → length xs ≤ length ys
      → (b' ≡ true → b ≡ true) → ((x : ℕ) → IsSet set x → IsSet set' x)
      → ((r x : ℕ) → Within ctx r q ys → handled env C.items hs' r x ≡ handled env C.items hs r x)
      → Alike rest rest' → Sides j c p xs l inside b set hs rest
      → Sides k d q ys l inside b' set' hs' rest'
  sides_on j k c d p q xs ys l inside b b' set set' hs hs' rest rest' lk lc lp lx lb sub eq al z =
      record {
        broken = λ i e s a fit. shift j k c d _ _ _ lk lc (al.0 nothing s)
            (z.broken i (lb e) s a (less set' set s a sub fit));
        continued = λ i s a fit. shift (j - 1) (k - 1) c d _ _ _ (omega arith) lc (al.1 nothing s)
            (z.continued i s a (less set' set s a sub fit));
        returns = λ r s a e fit. shift j k c d _ _ _ lk lc (al.2 nothing s)
            (z.returns r s a e (less set' set s a sub fit));
        gives_back = λ r os v s a nv ht fit. shift j k c d _ _ _ lk lc
            (al.2 nothing (set_result v s))
            (z.gives_back r os v s a nv ht (less set' set s a sub fit));
        lands = λ r x n v s a i is fit.
            subst (λ (o : Option ℕ). N k d (thrown_to env.names (value.Ref (lay.number x) n)
            (lay.number x) (caught_by o (frame env labelled mname cls mth fs r a) fs (gen.caught
            Machine (lay.number x) fs)) a) (rest' (Thrown x) v s))
            (sym (eq r (lay.number x) i))
            (shift j k c d _ _ _ lk lc (al.3 x v s)
            (z.lands r x n v s a (wider ctx i lp lx) is (less set' set s a sub fit)));
        out_stands = λ i e. z.out_stands i (lb e);
        again_stands = z.again_stands;
      }

  -- what is thrown where these handlers count
  pub raises_here : (k c p : ℕ) (xs : List Item) (set : List ℕ) (hs : List Handler)
      (rest : Rests) → Catches p xs hs
      → ((q x n : ℕ) (v : MVal) (s : State) (a : Areas) → Within ctx q p xs → IsThrown lay x
      → Fits' set s a
      → N k c (landed hs q x n a) (rest (Thrown x) v s))
      → X set k c p xs rest
  unfolding gen.caught
  raises_here k c p xs set hs rest catches lands q x n v s a i is fit =
      subst (λ (o : Option ℕ). N k c (thrown_to env.names (value.Ref (lay.number x) n)
      (lay.number x) (caught_by o (frame env labelled mname cls mth fs q a) fs (gen.caught
      Machine (lay.number x) fs)) a) (rest (Thrown x) v s))
      (sym (catches q (lay.number x) i)) (lands q x n v s a i is fit)

  pub jumped : (j k c d p lbl : ℕ) (xs : List Item) (a : Areas) (g : Told) → k ≤ suc j
      → suc c ≤ d → Here C p (Jump 167 lbl ∷ xs)
      → stands C.items (pos (target C.items lbl)) ≡ true
      → N j c (pos_of (target C.items lbl) a []) g → N k d (pos_of p a []) g
  jumped j k c d p lbl xs a g lk lc h st r =
      jumps env labelled mname cls mth fs j k c d p (target C.items lbl)
      (Jump 167 lbl) xs (op.Jump (pos (target C.items lbl) -ℤ pos p)) (with a [])
      (with a []) g lk lc h st refl
      (record {
        enough = omega arith;
        fits = refl;
        short = omega arith;
        placed = refl;
        named =
            refl;
        agrees = refl;
        used = refl;
        stays = λ x g r. refl;
        comes = λ x g r. refl;
      })
      (Rattle.par_evaluation_laws.proofs.Parts.jump_effect env.names
      (pos (target C.items lbl) -ℤ pos p) (with a [])) r

  -- a jump where control comes to it
  pub went : (b : Bool) (j k c d p lbl : ℕ) (xs : List Item) (a : Areas) (g : Told) → b ≡ true
      → k ≤ suc j → suc c ≤ d → Here C p (goes_on b lbl xs)
      → stands C.items (pos (target C.items lbl)) ≡ true
      → N j c (pos_of (target C.items lbl) a []) g
      → N k d (pos_of (skip (goes_on b lbl xs) p) a []) g
  went true j k c d p lbl xs a g e lk lc h st r = jumped j k c d p lbl xs a g lk lc h st r
  went false j k c d p lbl xs a g e lk lc h st r = cc

  -- a label stands where its instruction does
  pub label_stands : (lbl p : ℕ) (xs : List Item) → Here C p (Label lbl ∷ xs) → Lives xs
      → stands C.items (pos (target C.items lbl)) ≡ true
  label_stands lbl p xs h lv = ap (λ q. stands C.items (pos q)) (target_is C ds lbl p xs h)
      ∙ stands_here C (suc p) xs (next C h) lv

  pub to_label : (k c lbl p : ℕ) (xs : List Item) (a : Areas) (g : Told)
      → Here C p (Label lbl ∷ xs) → N k c (pos_of (skip xs (suc p)) a []) g
      → N k c (pos_of (target C.items lbl) a []) g
  to_label k c lbl p xs a g h r = subst (λ q. N k c (pos_of q a []) g)
      (sym (target_is C ds lbl p xs h)) r

  pub spend : (k c : ℕ) (g : Told) (z : Turn) → N k (c + 16) z g → N k c z (spent g)
  spend k c g z h = spend_rule Machine k c z g h

  -- a node that begins with an expression
  pub expr_then : (e : TExp) (n k c p : ℕ) (set : List ℕ) (xs ys : List Item) (rest : Rests)
      (f : MVal → Task) (s : State) (a : Areas)
      → Typed lay tys many C.max_stack set 0 e → Fits' set s a → k ≤ fuel → Lives ys
      → length xs ≤ length ys → Here C p (expr_code w e n ys)
      → X set k c p xs rest → R set s k (c + 16) ys [] (mark e).ty (follow f rest)
      → N k c (pos_of (skip (expr_code w e n ys) p) a []) (spent (eval t run e (follow f rest) s))
  expr_then e n k c p set xs ys rest f s a tp fit deep lv le h raises ready =
      spend k c _ _ (expr_ok ctx e n k (c + 16) p set ys [] (follow f rest) s a tp deep fit lv h
      ready
      (raises_on ctx set k c (c + 16) p p xs ys rest (follow f rest)
      (omega arith) le (omega arith) (λ x v s. refl) raises))

  pub hand : (set : List ℕ) (s : State) (k c : ℕ) (xs : List Item) (ops : List MVal) (u : Ty)
      (rest : Rests)
      → is_void u ≡ false → V set s k c xs ops u rest → R set s k c xs ops u rest
  hand set s k c xs ops u rest nv r = given ctx set s k c xs ops u u rest refl nv r

  pub same_hs : (hs : List Handler) (q : ℕ) (ys : List Item) (r x : ℕ) → Within ctx r q ys
      → handled env C.items hs r x ≡ handled env C.items hs r x
  same_hs hs q ys r x i = refl

  pub yes : (b : Bool) → b ≡ true → b ≡ true
  yes b e = e

  pub acc : (b : ℕ → ℕ) (u z : Ty) (v : MVal) → Accepts u z → HasType lay b z v → HasType lay b u v
  acc = accepts ctx

  abbrev pub Holds' : TSta → Type 0
  Holds' st =
      (inside : Bool) (l : Loop) (n k c p : ℕ) (set : List ℕ) (xs : List Item)
      (hs : List Handler) (rest : Rests) (s : State) (a : Areas)
      → TypedS lay tys many C.max_stack result inside set st → Fits' set s a → k ≤ fuel
      → (completes st ≡ true → Lives xs) → Here C p (code w st l n xs)
      → Catches p xs (handlers w st n hs)
      → (completes st ≡ true → Normally k c xs (behind set st) rest)
      → Sides k c p xs l inside (breaks st) set hs rest
      → N k c (pos_of (skip (code w st l n xs) p) a []) (go t run fuel st rest s)

  -- what is set stays set
  pub behind_more : (set : List ℕ) (st : TSta) (x : ℕ) → IsSet set x → IsSet (behind set st) x
  behind_more set (Block ss y1 y2) x h = h
  behind_more set (If e s o y1 y2) x h = h
  behind_more set (While e s y1 y2) x h = h
  behind_more set (Try s cs y1 y2) x h = h
  behind_more set (Return o y1 y2) x h = h
  behind_more set (Break y1 y2) x h = h
  behind_more set (Continue y1 y2) x h = h
  behind_more set (Throw c y1 y2) x h = h
  behind_more set (Open i y1 y2) x h = h
  behind_more set (Close i y1 y2) x h = h
  behind_more set (SetLocal y q e y1 y2) x h = or_right (y == x) _ h
  behind_more set (SetStatic c f e y1 y2) x h = h
  behind_more set (SetField o c f e y1 y2) x h = h
  behind_more set (Eval e y1 y2) x h = h
  behind_more set (When i s o y1 y2) x h = h

  -- a choice between tasks
  pub chosen : {z : Turn} {k c : ℕ} (b : Bool) (one other : Task) (rest : Rests) (s : State)
      → N k c z (cond b (one rest s) (other rest s)) → N k c z ((if b then one else other) rest s)
  chosen true one other rest s h = h
  chosen false one other rest s h = h

  -- a test, where the machine stands at the branch
  pub branches : (k c d p lbl : ℕ) (xs : List Item) (v : MVal) (s : State) (a : Areas) (b : Bool)
      (g1 g2 : Told) → suc c ≤ d → HasType lay s.births ty.Boolean v → is_true v ≡ b
      → Here C p (Jump 153 lbl ∷ xs) → Lives xs → stands C.items (pos (target C.items lbl)) ≡ true
      → N k c (pos_of (skip xs (suc p)) a []) g1 → N k c (pos_of (target C.items lbl) a []) g2
      → N k d (pos_of p a (moved lay v ∷ [])) (cond b g1 g2)
  unfolding effect
  branches k c d p lbl xs v s a true g1 g2 le ht e h lv st y n =
      on env labelled mname cls mth fs k c d p (Jump 153 lbl) xs (JumpIf 0 (pos (target C.items
      lbl) -ℤ pos p)) (with a (moved lay v ∷ [])) (with a []) g1 le h lv refl
      (record {
        enough = omega arith;
        fits = one_fits ctx _ (number_fits ctx s.births ty.Boolean v
            refl ht);
        short = omega arith;
        placed = refl;
        named = refl;
        agrees = refl;
        used = refl;
        stays = λ x g r. refl;
        comes = λ x g r. refl;
      })
      (ap (λ b. jumps_if b (pos (target C.items lbl) -ℤ pos p) (with a []))
      (ap (λ n. compares 0 n (pos 0)) (number_moved ctx v) ∙ sym (not_not _) ∙ ap not e)) y
  branches k c d p lbl xs v s a false g1 g2 le ht e h lv st y n =
      jumps env labelled mname cls mth fs k k c d p (target C.items lbl)
      (Jump 153 lbl) xs (JumpIf 0 (pos (target C.items lbl) -ℤ pos p))
      (with a (moved lay v ∷ [])) (with a []) g2 (omega arith) le h st refl
      (record {
        enough = omega arith;
        fits = one_fits ctx _ (number_fits ctx s.births ty.Boolean v
            refl ht);
        short = omega arith;
        placed = refl;
        named = refl;
        agrees = refl;
        used = refl;
        stays = λ x g r. refl;
        comes = λ x g r. refl;
      })
      (ap (λ b. jumps_if b (pos (target C.items lbl) -ℤ pos p) (with a []))
      (ap (λ n. compares 0 n (pos 0)) (number_moved ctx v) ∙ sym (not_not _) ∙ ap not e)) n

  pub same_set : (set : List ℕ) (x : ℕ) → IsSet set x → IsSet set x
  same_set set x h = h

  -- what a part of a statement raises
  pub part_raises : (k c p q : ℕ) (xs ys : List Item) (l : Loop) (inside b : Bool) (set : List ℕ)
      (hs : List Handler) (rest : Rests) → p ≤ q → length xs ≤ length ys
      → Catches q ys hs → Sides k c p xs l inside b set hs rest → X set k c q ys rest
  part_raises k c p q xs ys l inside b set hs rest lp lx catches z =
      raises_here k c q ys set hs rest catches
      (λ r x n v s a i is fit. z.lands r x n v s a (wider ctx i lp lx) is fit)

  -- a node that begins with an expression in front of more code
  pub test_then : (e : TExp) (n k c p : ℕ) (set : List ℕ) (ys : List Item) (rest : Rests)
      (f : MVal → Task) (s : State) (a : Areas)
      → Typed lay tys many C.max_stack set 0 e → Fits' set s a → k ≤ fuel → Lives ys
      → Here C p (expr_code w e n ys)
      → X set k c p ys rest → R set s k (c + 16) ys [] (mark e).ty (follow f rest)
      → N k c (pos_of (skip (expr_code w e n ys) p) a []) (spent (eval t run e (follow f rest) s))
  test_then e n k c p set ys rest f s a tp fit deep lv h raises ready =
      spend k c _ _ (expr_ok ctx e n k (c + 16) p set ys [] (follow f rest) s a tp deep fit lv h
      ready
      (raises_on ctx set k c (c + 16) p p ys ys rest (follow f rest) (omega arith) (omega arith)
      (omega arith) (λ x v s. refl) raises))
