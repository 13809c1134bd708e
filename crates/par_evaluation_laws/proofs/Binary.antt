-- The code of an operator with two parts shows its run.
use Rattle.std.proofs.Common.{◌≡◌, ℕ, suc, ◌+◌, ◌≤◌, ◌<◌, Bool, true, false, List}
use Rattle.std.proofs.Common.{◌∷◌}
use Rattle.std.proofs.Common.{length, refl, ap, sym, ◌∙◌, subst, arith, codes}
use Rattle.std.specs.Prelude.{ℤ, pos, ◌-ℤ◌, if◌then◌else◌}
use Rattle.par_run_laws.specs.par_typed.par_lexer.declared.operator.BinOp.{BinOp}
use Rattle.par_run_laws.specs.par_typed.declared.ty.Ty.{Ty}
use Rattle.par_run_laws.specs.par_typed.declared.ty.Ty.TheVariants as ty
use Rattle.par_run_laws.specs.par_typed.declared.table.Table.{Table}
use Rattle.par_run_laws.specs.par_typed.Plain.{mark, TExp}
use Rattle.par_values.specs.declared.value.MVal.{MVal}
use Rattle.par_values.specs.declared.value.MVal.TheVariants as value
use Rattle.par_values.specs.Areas.{Name, Areas, number_of, fits}
use Rattle.par_values.specs.Areas as areas
use Rattle.par_values.specs.Arithmetic.{combined, divides_by_zero, compares}
use Rattle.par_values.specs.Operations.{Discard, Copy}
use Rattle.par_values.specs.Operations.{Combine, JumpIf, JumpIfBoth, JumpIfSame}
use Rattle.par_values.specs.Effects.{Goes, Throws, effect, jumps_if}
use Rattle.par_run_laws.specs.State.{State}
use Rattle.par_run_laws.specs.Tasks.{Normal, Thrown, Rests, Task, gives, and_then, follow}
use Rattle.par_run_laws.specs.Meaning.{Calls, eval}
use Rattle.par_match_laws.specs.par_step_laws.State as steps
use Rattle.par_match_laws.specs.par_step_laws.Step.{Turn}
use Rattle.par_match_laws.specs.par_code_form.declared.item.Item.{Item}
use Rattle.par_match_laws.specs.par_code_form.declared.item.Item.TheVariants.{Label, Op, Jump}
use Rattle.par_match_laws.specs.Labelled.{Labelled, Naming, lead, skip, target}
use Rattle.par_match_laws.specs.Labelled.{silent}
use Rattle.par_match_laws.specs.Labelled.{stands}
use Rattle.par_match_laws.specs.par_code_form.Code.{Words, is_number, is_void, Shape}
use Rattle.par_match_laws.specs.par_code_form.Code.{Calculates}
use Rattle.par_match_laws.specs.par_code_form.Code.{Compares, Sames}
use Rattle.par_match_laws.specs.par_code_form.Code.{Decides, between, shape_code}
use Rattle.par_match_laws.specs.par_code_form.Code.{test_code, expr_code}
use Rattle.par_evaluation_laws.specs.Laid.{Layout, moved, HasType, OfShape, Typed}
use Rattle.par_match_laws.proofs.Rules.{Told, spent}
use Rattle.par_match_laws.proofs.Steps.{Lives, Here, next, Distinct, on, jumps}
use Rattle.par_match_laws.proofs.Steps.{target_is}
use Rattle.par_match_laws.proofs.Steps.{stands_here}
use Rattle.par_evaluation_laws.specs.Agreement.{Lays}
use Rattle.par_evaluation_laws.proofs.Good.{Grows, grows_same, grows_on, typed_on, number_is}
use Rattle.par_evaluation_laws.proofs.Good.{reference_is}
use Rattle.par_evaluation_laws.proofs.Good.{any_fits, IsReference}
use Rattle.par_evaluation_laws.proofs.AgreeingValues.{same_moved}
use Rattle.par_evaluation_laws.proofs.Lengths.{expr_grows, expr_lives}
use Rattle.par_values.specs.Effects.{comes, combines}
use Rattle.par_values.specs.Areas.{first_value}
use Rattle.par_values.specs.Arithmetic.{Operator}
use Rattle.par_instr.specs.declared.instr.Instr.{Instr}
use Rattle.par_instr.specs.declared.instr.Instr.TheVariants.{Dup, Pop}
use Rattle.par_values.specs.Operations.{operation}
use Rattle.par_match_laws.specs.Labelled.{branch}
use Rattle.par_match_laws.specs.par_code_form.Code.{same_opcode}
use Rattle.par_values.specs.declared.link.Link.TheVariants as link
use Rattle.par_run_laws.specs.Tasks.{done, nothing}
use Rattle.par_run_laws.specs.Tasks.{ARITHMETIC}
use Rattle.par_run_laws.specs.Values.{decides, throws, applied, calculated, same}
use Rattle.par_run_laws.specs.Meaning.{operates}
use Rattle.par_evaluation_laws.proofs.Operators.{Means}
use Rattle.par_evaluation_laws.proofs.Lengths.{expr_ends}
use Rattle.par_evaluation_laws.specs.Laid.{below_second}
use Rattle.par_evaluation_laws.proofs.Parts.{Setting}
use Rattle.par_evaluation_laws.proofs.Parts.{with, not_void, M, at, Fit, Ready, Handed}
use Rattle.par_evaluation_laws.proofs.Parts.{Raises, Holds, number_moved}
use Rattle.par_evaluation_laws.proofs.Parts.{fails}
use Rattle.par_evaluation_laws.proofs.Values.{giv, hand, hand_truth, int_fits, later, makes}
use Rattle.par_evaluation_laws.proofs.Values.{number_fits}
use Rattle.par_evaluation_laws.proofs.Values.{one_fits, raises_on, spend, test, two_fit}

module _ (ctx : Setting) where
  abbrev env : Naming
  env = ctx.env

  abbrev labelled : ℕ → ℕ → Labelled
  labelled = ctx.labelled

  abbrev mname : ℕ → ℕ → Name
  mname = ctx.mname

  abbrev w : Words
  w = ctx.w

  abbrev lay : Layout
  lay = ctx.lay

  abbrev t : Table
  t = ctx.t

  abbrev run : Calls
  run = ctx.run

  abbrev cls : ℕ
  cls = ctx.cls

  abbrev mth : ℕ
  mth = ctx.mth

  abbrev fs : List steps.Frame
  fs = ctx.fs

  abbrev tys : ℕ → Ty
  tys = ctx.tys

  abbrev many : ℕ
  many = ctx.many

  abbrev depth : ℕ
  depth = ctx.depth

  abbrev lays : Lays env w lay t
  lays = ctx.lays

  abbrev ds : Distinct (labelled cls mth)
  ds = ctx.ds

  abbrev C : Labelled
  C = labelled cls mth

  abbrev H : TExp → Type 0
  H = Holds ctx

  abbrev N : ℕ → ℕ → Turn → Told → Type 0
  N = M ctx

  abbrev pos_of : ℕ → Areas → List MVal → Turn
  pos_of = at ctx

  abbrev Fits' : List ℕ → State → Areas → Type 0
  Fits' = Fit ctx

  abbrev R : List ℕ → State → ℕ → ℕ → List Item → List MVal → Ty → Rests → Type 0
  R = Ready ctx

  abbrev V : List ℕ → State → ℕ → ℕ → List Item → List MVal → Ty → Rests → Type 0
  V = Handed ctx

  abbrev X : List ℕ → ℕ → ℕ → ℕ → List Item → Rests → Type 0
  X = Raises ctx

  -- two numbers are calculated with
  pub calculates : (o : Operator) (i : Instr) (k c p : ℕ) (set : List ℕ) (xs : List Item)
      (ops : List MVal) (u v : MVal) (r : Ty) (rest : Rests) (s2 : State) (a2 : Areas) (b : Bool)
      → divides_by_zero o (number_of v) ≡ b → operation (λ n. link.Other) i ≡ Combine o
      → HasType lay s2.births ty.Int u → HasType lay s2.births ty.Int v → r ≡ ty.Int
      → suc (length ops) < C.max_stack → Fits' set s2 a2 → Lives xs
      → Here C p (Op i ∷ xs) → V set s2 k c xs ops r rest → X set k c p xs rest
      → N k (c + 16) (pos_of p a2 (moved lay v ∷ moved lay u ∷ ops))
      ((if b then done (Thrown ARITHMETIC) nothing else gives (calculated o u v)) rest s2)
  unfolding effect
  calculates o i k c p set xs ops u v r rest s2 a2 true e io hu hv hr lt fit lives h ready raises =
      fails ctx k (c + 16) p 0 (codes "ArithmeticException") set
      (Op i) xs (Combine o) (moved lay v ∷ moved lay u ∷ ops) nothing s2 a2 rest lays.arithmetic
      lays.zero_thrown h
      (ap (λ o. silent o (suc (lead xs))) io)
      (record {
        enough = omega arith;
        fits = two_fit ctx _ _ (int_fits ctx s2.births v hv)
            (int_fits ctx s2.births u hu);
        short = omega (arith, lt);
        placed = refl;
        named = refl;
        agrees
            = refl;
        used = refl;
        stays = λ x g r. refl;
        comes = λ x g r. refl;
      })
      (ap (λ z. combines o (number_of (moved lay u)) z (with a2 (moved lay v ∷ moved lay u ∷ ops)))
      (number_moved ctx v)
      ∙ ap (λ b. if b then Throws (codes "ArithmeticException") else Goes (areas.push (value.Int
      (combined o (number_of (moved lay u)) (number_of v))) (with a2 ops))) e)
      fit (raises_on ctx set k c (c + 16) p p xs xs rest rest (omega arith) (omega arith)
      (omega arith) (λ x v s. refl) raises)
  calculates o i k c p set xs ops u v r rest s2 a2 false e io hu hv hr lt fit lives h ready raises =
      makes ctx k c (c + 16) p (Op i) xs (Combine o) a2 (moved lay v ∷ moved lay u ∷ ops) ops
      (value.Int (combined o (number_of u) (number_of v))) _ (omega arith) h lives
      (ap (λ o. silent o (suc (lead xs))) io)
      (record {
        enough = omega arith;
        fits = two_fit ctx _ _ (int_fits ctx s2.births v hv)
            (int_fits ctx s2.births u hu);
        short = omega (arith, lt);
        placed = refl;
        named = refl;
        agrees
            = refl;
        used = refl;
        stays = λ x g r. refl;
        comes = λ x g r. refl;
      })
      (ap (λ z. combines o (number_of (moved lay u)) z (with a2 (moved lay v ∷ moved lay u ∷ ops)))
      (number_moved ctx v)
      ∙ ap (λ b. if b then Throws (codes "ArithmeticException") else Goes (areas.push (value.Int
      (combined o (number_of (moved lay u)) (number_of v))) (with a2 ops))) e
      ∙ ap (λ z. Goes (areas.push (value.Int (combined o z (number_of v))) (with a2 ops)))
      (number_moved ctx u))
      (ready (suc p) (next C h) (value.Int (combined o (number_of u)
      (number_of v))) s2 a2 (grows_same s2)
      (subst (λ q. HasType lay s2.births q (value.Int (combined o (number_of u)
      (number_of v)))) (sym hr) tt) fit)

  -- what follows the first part of an operator
  abbrev pub second : BinOp → TExp → MVal → Task
  second op2 b u = if decides op2 u then gives u else and_then (eval t run b) (operates op2 u)

  abbrev pub Part : TExp → BinOp → TExp → Ty → ℕ → ℕ → ℕ → List ℕ → List Item → List MVal → Rests
      → State → Areas → Type 0
  Part a op2 b r k c p set xs ops rest s a0 =
      Typed lay tys many C.max_stack set (length ops) a × Unit {0} × (suc (length ops) <
      C.max_stack) × Fits' set s a0 × Lives xs × R set s k c xs ops r rest × X set k c p xs
      rest × (k ≤ suc depth)

  -- both parts, where the first never decides
  pub two : (op2 : BinOp) (a b : TExp) (r : Ty) (k c p l l2 : ℕ) (set : List ℕ) (xs ys : List Item)
      (ops : List MVal) (rest : Rests) (s : State) (a0 : Areas)
      → H a → H b → Part a op2 b r k c p set xs ops rest s a0
      → Typed lay tys many C.max_stack set (suc (length ops)) b → Lives ys
      → length xs ≤ length ys
      → ((u : MVal) → decides op2 u ≡ false) → is_void (mark a).ty ≡ false
      → is_void (mark b).ty ≡ false
      → Here C p (expr_code w a l (expr_code w b l2 ys))
      → ((q : ℕ) (u v : MVal) (s2 : State) (a2 : Areas) → Here C q ys → Grows s s2
      → HasType lay s2.births (mark a).ty u → HasType lay s2.births (mark b).ty v
      → Fits' set s2 a2
      → X set k c q xs rest → N k (c + 16)
      (pos_of (skip ys q) a2 (moved lay v ∷ moved lay u ∷ ops)) (operates op2 u v rest s2))
      → N k c (pos_of (skip (expr_code w a l (expr_code w b l2 ys)) p) a0 ops)
      (spent (eval t run a (follow (second op2 b) rest) s))
  two op2 a b r k c p l l2 set xs ys ops rest s a0 iha ihb part tb lys le dec va vb h last =
      let r2 : Rests = follow (second op2 b) rest in
      let zs = expr_code w b l2 ys in
      let g = expr_grows w b l2 ys in
      let ga = expr_grows w a l zs in
      spend ctx k c _ _ (iha l k (c + 16) p set zs ops r2 s a0 part.0 part.7 part.3
      (expr_lives w b l2 ys lys) h
      (giv ctx set s k (c + 16) zs ops (mark a).ty (mark a).ty r2 refl va
      (λ p2 h2 u s1 a1 gr hu fit1.
      let r3 : Rests = follow (operates op2 u) rest in
      subst (λ z. N k (c + 16) (pos_of (skip zs p2) a1 (moved lay u ∷ ops))
      ((if z then gives u else and_then (eval t run b) (operates op2 u)) rest s1)) (sym (dec u))
      (ihb l2 k (c + 16) p2 set ys (moved lay u ∷ ops) r3 s1 a1 tb part.7 fit1 lys h2
      (giv ctx set s1 k (c + 16) ys (moved lay u ∷ ops) (mark b).ty (mark b).ty r3 refl vb
      (λ p3 h3 v s2 a2 gr2 hv fit2. last p3 u v s2 a2 h3 (grows_on s s1 s2 gr gr2)
      (typed_on lay s1.births s2.births (mark a).ty u gr2 hu) hv fit2
      (raises_on ctx set k c c p p3 xs xs rest rest (omega (arith, h.fits, h3.fits, g, ga))
      (omega arith) (omega arith) (λ x v s. refl) part.6)))
      (raises_on ctx set k c (c + 16) p p2 xs ys rest r3 (omega (arith, h.fits, h2.fits, g, ga)) le
      (omega arith) (λ x v s. refl) part.6))))
      (raises_on ctx set k c (c + 16) p p xs zs rest r2 (omega arith) (omega (arith, g))
      (omega arith) (λ x v s. refl) part.6))

  pub number_not_void : (u : Ty) → is_number u ≡ true → is_void u ≡ false
  number_not_void ty.Int e = refl
  number_not_void ty.Boolean e = refl
  number_not_void (ty.Class c) e = refl
  number_not_void ty.Null e = refl
  number_not_void ty.Void e = cc

  -- numbers are compared
  pub compared : (op2 : BinOp) (j : ℕ) (k c q n : ℕ) (set : List ℕ) (xs : List Item)
      (ops : List MVal) (u v : MVal) (x y : ℤ) (ta tb r : Ty) (rest : Rests) (s2 : State)
      (a2 : Areas)
      → Means op2 (Compares j) → r ≡ ty.Boolean → suc (length ops) < C.max_stack
      → u ≡ value.Int x → v ≡ value.Int y
      → Fits' set s2 a2 → Lives xs → Here C q (test_code (159 + j) n xs)
      → R set s2 k c xs ops r rest
      → N k (c + 16) (pos_of q a2 (moved lay v ∷ moved lay u ∷ ops)) (operates op2 u v rest s2)
  unfolding effect
  compared op2 j k c q n set xs ops u v x y ta tb r rest s2 a2 m er lt eu ev fit lives h ready =
      subst (λ u. N k (c + 16) (pos_of q a2 (moved lay v ∷ moved lay u ∷ ops))
      (operates op2 u v rest s2)) (sym eu)
      (subst (λ v. N k (c + 16) (pos_of q a2 (moved lay v ∷ value.Int x ∷ ops))
      (operates op2 (value.Int x) v rest s2)) (sym ev)
      (subst (λ z. N k (c + 16) (pos_of q a2 (value.Int y ∷ value.Int x ∷ ops))
      ((if z then done (Thrown ARITHMETIC) nothing else gives (applied op2 (value.Int x)
      (value.Int y))) rest s2)) (sym (m.1 (value.Int y)))
      (subst (λ z. N k (c + 16) (pos_of q a2 (value.Int y ∷ value.Int x ∷ ops))
      (rest Normal z s2)) (sym (m.2 x y))
      (test ctx k c q (159 + j) n xs ops (value.Int y ∷ value.Int x ∷ ops) a2 (compares j x y) _
      (JumpIfBoth j (pos (target C.items n) -ℤ pos q)) h lives
      (ap (λ o. silent o 1) (m.3 (pos (target C.items n) -ℤ pos q)))
      (record {
        enough = omega arith;
        fits = refl;
        short = omega (arith, lt);
        placed = refl;
        named
            = refl;
        agrees = refl;
        used = refl;
        stays = λ x g r. refl;
        comes = λ x g r. refl;
      })
      (omega arith) refl
      (hand_truth ctx set s2 k c xs ops r rest (compares j x y) s2 a2 er ready (grows_same s2)
      fit)))))

  -- references are compared
  pub sames : (op2 : BinOp) (b : Bool) (k c q n : ℕ) (set : List ℕ) (xs : List Item)
      (ops : List MVal) (u v : MVal) (r : Ty) (rest : Rests) (s2 : State) (a2 : Areas)
      → Means op2 (Sames b) → r ≡ ty.Boolean → suc (length ops) < C.max_stack → IsReference lay u
      → IsReference lay v
      → Fits' set s2 a2 → Lives xs → Here C q (test_code (same_opcode b) n xs)
      → R set s2 k c xs ops r rest
      → N k (c + 16) (pos_of q a2 (moved lay v ∷ moved lay u ∷ ops)) (operates op2 u v rest s2)
  unfolding effect
  sames op2 b k c q n set xs ops u v r rest s2 a2 m er lt ru rv fit lives h ready =
      subst (λ z. N k (c + 16) (pos_of q a2 (moved lay v ∷ moved lay u ∷ ops))
      ((if z then done (Thrown ARITHMETIC) nothing else gives (applied op2 u v)) rest s2))
      (sym (m.1 v))
      (subst (λ z. N k (c + 16) (pos_of q a2 (moved lay v ∷ moved lay u ∷ ops))
      (rest Normal z s2)) (sym (m.2 u v))
      (test ctx k c q (same_opcode b) n xs ops (moved lay v ∷ moved lay u ∷ ops) a2 (comes b (same u
      v)) _ (JumpIfSame b (pos (target C.items n) -ℤ pos q)) h lives
      (ap (λ o. silent o 1) (m.3 (pos (target C.items n) -ℤ pos q)))
      (record {
        enough = omega arith;
        fits = two_fit ctx _ _ (any_fits lay env.names v rv)
            (any_fits lay env.names u ru);
        short = omega (arith, lt);
        placed = refl;
        named = refl;
        agrees = refl;
        used = refl;
        stays = λ x g r. refl;
        comes = λ x g r. refl;
      })
      (omega arith)
      (ap (λ z. jumps_if (comes b z) (pos (target C.items n) -ℤ pos q) (with a2 ops))
      (same_moved env w lay t lays u v ru rv))
      (hand_truth ctx set s2 k c xs ops r rest (comes b (same u v)) s2 a2 er ready (grows_same s2)
      fit)))

  -- the first part decides, or is thrown away
  pub decided : (op2 : BinOp) (o j : ℕ) (b : TExp) (k c p n l2 : ℕ) (set : List ℕ) (xs : List Item)
      (ops : List MVal) (u : MVal) (r : Ty) (rest : Rests) (s1 : State) (a1 : Areas) (z : Bool)
      → ((u : MVal) → decides op2 u ≡ compares j (number_of u) (pos 0)) → ((v : MVal)
      → throws op2 v ≡ false)
      → ((u v : MVal) → applied op2 u v ≡ v) → ((to : ℤ) → branch o to ≡ JumpIf j to)
      → compares j (number_of u) (pos 0) ≡ z
      → H b → Typed lay tys many C.max_stack set (length ops) b → (mark b).ty ≡ ty.Boolean
      → r ≡ ty.Boolean
      → suc (length ops) < C.max_stack → k ≤ suc depth → HasType lay s1.births ty.Boolean u
      → Fits' set s1 a1 → Lives xs
      → Here C p (Jump o n ∷ Op Pop ∷ expr_code w b l2 (Label n ∷ xs))
      → R set s1 k c xs ops r rest → X set k c p xs rest
      → N k (c + 8) (pos_of p a1 (moved lay u ∷ moved lay u ∷ ops))
      ((if z then gives u else and_then (eval t run b) (operates op2 u)) rest s1)
  unfolding effect
  decided op2 o j b k c p n l2 set xs ops u r rest s1 a1 true dec thr app br e ihb tb eb er lt deep
      hu fit lives h ready raises =
      let q = expr_ends w C b l2 (suc (suc p)) (Label n ∷ xs) (next C (next C h)) in
      jumps env labelled mname cls mth fs k k c (c + 8) p (target C.items n)
      (Jump o n) _ (JumpIf j (pos (target C.items n) -ℤ pos p))
      (with a1 (moved lay u ∷ moved lay u ∷ ops))
      (with a1 (moved lay u ∷ ops)) _ (omega arith) (omega arith) h
      (ap (λ q. stands C.items (pos q)) (target_is C ds n _ _ q.1)
      ∙ stands_here C _ _ (next C q.1) lives)
      (ap (λ o. silent o 1) (br (pos (target C.items n) -ℤ pos p)))
      (record {
        enough = omega arith;
        fits = one_fits ctx _ (number_fits ctx s1.births ty.Boolean u refl
            hu);
        short = omega (arith, lt);
        placed = refl;
        named = refl;
        agrees = refl;
        used = refl;
        stays = λ x g r. refl;
        comes = λ x g r. refl;
      })
      (ap (λ b. jumps_if b (pos (target C.items n) -ℤ pos p) (with a1 (moved lay u ∷ ops)))
      (ap (λ n. compares j n (pos 0)) (number_moved ctx u) ∙ e))
      (subst (λ q. N k c (pos_of q a1 (moved lay u ∷ ops)) (rest Normal u s1))
      (sym (target_is C ds n _ _ q.1))
      (hand ctx set s1 k c xs ops r rest (ap is_void er) ready _ (next C q.1) u s1 a1
      (grows_same s1) (subst (λ r. HasType lay s1.births r u) (sym er) hu) fit))
  decided op2 o j b k c p n l2 set xs ops u r rest s1 a1 false dec thr app br e ihb tb eb er lt
      deep hu fit lives h ready raises =
      let r3 : Rests = follow (operates op2 u) rest in
      let h1 = next C h in
      let h2 = next C h1 in
      let g = expr_grows w b l2 (Label n ∷ xs) in
      let lb = expr_lives w b l2 (Label n ∷ xs) lives in
      on env labelled mname cls mth fs k (c + 4)
      (c + 8) p (Jump o n) _ (JumpIf j (pos (target C.items n) -ℤ pos p))
      (with a1 (moved lay u ∷ moved lay u ∷ ops))
      (with a1 (moved lay u ∷ ops)) _ (omega arith) h tt
      (ap (λ o. silent o 1) (br (pos (target C.items n) -ℤ pos p)))
      (record {
        enough = omega arith;
        fits = one_fits ctx _ (number_fits ctx s1.births ty.Boolean u refl
            hu);
        short = omega (arith, lt);
        placed = refl;
        named = refl;
        agrees = refl;
        used = refl;
        stays = λ x g r. refl;
        comes = λ x g r. refl;
      })
      (ap (λ b. jumps_if b (pos (target C.items n) -ℤ pos p) (with a1 (moved lay u ∷ ops)))
      (ap (λ n. compares j n (pos 0)) (number_moved ctx u) ∙ e))
      (on env labelled mname cls mth fs k c (c + 4) (suc p)
      (Op Pop) _ Discard (with a1 (moved lay u ∷ ops)) (with a1 ops) _ (omega arith) h1 lb refl
      (record {
        enough = omega arith;
        fits = refl;
        short = omega (arith, lt);
        placed = refl;
        named
            = refl;
        agrees = refl;
        used = refl;
        stays = λ x g r. refl;
        comes = λ x g r. refl;
      })
      refl
      (ihb l2 k c (suc (suc p)) set (Label n ∷ xs) ops r3 s1 a1 tb deep fit lives h2
      (giv ctx set s1 k c (Label n ∷ xs) ops (mark b).ty (mark b).ty r3 refl (ap is_void eb)
      (λ p3 h3 v s2 a2 gr hv fit2.
      subst (λ z. N k c (pos_of (skip xs (suc p3)) a2 (moved lay v ∷ ops))
      ((if z then done (Thrown ARITHMETIC) nothing else gives (applied op2 u v)) rest s2))
      (sym (thr v))
      (subst (λ z. N k c (pos_of (skip xs (suc p3)) a2 (moved lay v ∷ ops)) (rest Normal z s2))
      (sym (app u v))
      (hand ctx set s1 k c xs ops r rest (ap is_void er) ready (suc p3)
      (next C h3) v s2 a2 gr (subst (λ r. HasType lay s2.births r v) (eb ∙ sym er) hv) fit2))))
      (raises_on ctx set k c c p (suc (suc p)) xs (Label n ∷ xs) rest r3 (omega arith) (omega arith)
      (omega arith) (λ x v s. refl) raises)))

  pub binary : (z : Shape) (op2 : BinOp) (a b : TExp) (r : Ty) (k c p n l l2 : ℕ) (set : List ℕ)
      (xs : List Item) (ops : List MVal) (rest : Rests) (s : State) (a0 : Areas)
      → H a → H b → Part a op2 b r k c p set xs ops rest s a0
      → Typed lay tys many C.max_stack set (below_second z (length ops)) b
      → Means op2 z → OfShape z C.max_stack (length ops) (mark a).ty (mark b).ty r
      → Here C p (expr_code w a l (between z n (expr_code w b l2 (shape_code z n xs))))
      → N k c (pos_of (skip (expr_code w a l (between z n (expr_code w b l2 (shape_code z n xs))))
      p) a0 ops) (spent (eval t run a (follow (second op2 b) rest) s))
  unfolding effect
  binary (Calculates o i) op2 a b r k c p n l l2 set xs ops rest s a0 iha ihb part tb m sh h =
      two op2 a b r k c p l l2 set xs (Op i ∷ xs) ops rest s a0 iha ihb part tb tt (omega arith)
      m.0 (ap is_void sh.0) (ap is_void sh.1) h
      (λ q u v s2 a2 hq gr hu hv fit raises.
      subst (λ z. N k (c + 16) (pos_of q a2 (moved lay v ∷ moved lay u ∷ ops))
      ((if z then done (Thrown ARITHMETIC) nothing else gives (applied op2 u v)) rest s2))
      (sym (m.1 v))
      (subst (λ y. N k (c + 16) (pos_of q a2 (moved lay v ∷ moved lay u ∷ ops))
      ((if divides_by_zero o (number_of v) then done (Thrown ARITHMETIC) nothing else gives y)
      rest s2)) (sym (m.2 u v))
      (calculates o i k c q set xs ops u v r rest s2 a2 (divides_by_zero o (number_of v)) refl m.3
      (subst (λ r. HasType lay s2.births r u) sh.0 hu)
      (subst (λ r. HasType lay s2.births r v) sh.1 hv) sh.2 part.2 fit part.4 hq
      (hand ctx set s2 k c xs ops r rest (ap is_void sh.2)
      (later ctx set s s2 k c xs ops r rest gr part.5)) raises)))
  binary (Compares j) op2 a b r k c p n l l2 set xs ops rest s a0 iha ihb part tb m sh h =
      two op2 a b r k c p l l2 set xs (test_code (159 + j) n xs) ops rest s a0 iha ihb part tb tt
      (omega arith) m.0 (number_not_void _ sh.0) (number_not_void _ sh.1) h
      (λ q u v s2 a2 hq gr hu hv fit raises.
      compared op2 j k c q n set xs ops u v (number_of u) (number_of v)
      (mark a).ty (mark b).ty r rest s2 a2 m sh.2 part.2
      (number_is lay s2.births _ u sh.0 hu)
      (number_is lay s2.births _ v sh.1 hv) fit part.4 hq (later ctx set s s2 k c xs ops r rest gr
      part.5))
  binary (Sames y) op2 a b r k c p n l l2 set xs ops rest s a0 iha ihb part tb m sh h =
      two op2 a b r k c p l l2 set xs (test_code (same_opcode y) n xs) ops rest s a0 iha ihb part
      tb tt (omega arith) m.0 (not_void _ sh.3) (not_void _ sh.4) h
      (λ q u v s2 a2 hq gr hu hv fit raises.
      sames op2 y k c q n set xs ops u v r rest s2 a2 m sh.2 part.2
      (reference_is lay s2.births _ u sh.0 sh.3 hu)
      (reference_is lay s2.births _ v sh.1 sh.4 hv) fit part.4 hq (later ctx set s s2 k c xs ops r
      rest gr part.5))
  binary (Decides o) op2 a b r k c p n l l2 set xs ops rest s a0 iha ihb part tb m sh h =
      let r2 : Rests = follow (second op2 b) rest in
      let ys = Jump o n ∷ Op Pop ∷ expr_code w b l2 (Label n ∷ xs) in
      let g = expr_grows w b l2 (Label n ∷ xs) in
      let ga = expr_grows w a l (Op Dup ∷ ys) in
      spend ctx k c _ _ (iha l k (c + 16) p set (Op Dup ∷ ys) ops r2 s a0 part.0 part.7 part.3 tt h
      (giv ctx set s k (c + 16) (Op Dup ∷ ys) ops (mark a).ty ty.Boolean r2 sh.0 refl
      (λ p2 h2 u s1 a1 gr hu fit1.
      makes ctx k (c + 8) (c + 16) p2 (Op Dup) ys Copy a1 (moved lay u ∷ ops) (moved lay u ∷ ops)
      (moved lay u) _ (omega arith) h2 tt refl
      (record {
        enough = omega arith;
        fits = refl;
        short = omega (arith, sh.3);
        placed = refl;
        named = refl;
        agrees = refl;
        used = refl;
        stays = λ x g r. refl;
        comes = λ x g r. refl;
      })
      refl
      (subst (λ z. N k (c + 8) (pos_of (suc p2) a1 (moved lay u ∷ moved lay u ∷ ops))
      ((if z then gives u else and_then (eval t run b) (operates op2 u)) rest s1)) (sym (m.1 u))
      (decided op2 o m.0 b k c (suc p2) n l2 set xs ops u r rest s1 a1 (compares m.0 (number_of u)
      (pos 0)) m.1 m.2 m.3 m.4 refl ihb tb sh.1 sh.2 part.2 part.7 hu fit1 part.4 (next C h2)
      (later ctx set s s1 k c xs ops r rest gr part.5)
      (raises_on ctx set k c c p (suc p2) xs xs rest rest (omega (arith, h.fits, h2.fits, ga))
      (omega arith) (omega arith) (λ x v s. refl) part.6)))))
      (raises_on ctx set k c (c + 16) p p xs (Op Dup ∷ ys) rest r2 (omega arith) (omega (arith, g))
      (omega arith) (λ x v s. refl) part.6))
