-- What the code of an expression hands on.
use Rattle.std.proofs.Common.{◌≡◌, ℕ, suc, ◌+◌, ◌≤◌, ◌<◌, Bool, true, false, ◌&&◌, List}
use Rattle.std.proofs.Common.{◌∷◌}
use Rattle.std.proofs.Common.{length, refl, ap, sym, ◌∙◌, subst, arith}
use Rattle.std.specs.Prelude.{pos, ◌-ℤ◌}
use Rattle.par_run_laws.specs.par_typed.declared.ty.Ty.{Ty}
use Rattle.par_run_laws.specs.par_typed.declared.ty.Ty.TheVariants as ty
use Rattle.par_run_laws.specs.par_typed.declared.table.Table.{Table}
use Rattle.par_values.specs.declared.kind.Kind.TheVariants as kind
use Rattle.par_values.specs.declared.value.MVal.{MVal}
use Rattle.par_values.specs.declared.value.MVal.TheVariants as value
use Rattle.par_values.specs.Areas.{Name, Areas, fits}
use Rattle.par_values.specs.Operations.{Operation}
use Rattle.par_values.specs.Effects.{Goes, effect, jumps_if}
use Rattle.par_run_laws.specs.State.{State}
use Rattle.par_run_laws.specs.Tasks.{Normal, Thrown, Rests}
use Rattle.par_run_laws.specs.Values.{truth}
use Rattle.par_match_laws.specs.par_step_laws.State as steps
use Rattle.par_match_laws.specs.par_step_laws.Step.{Turn}
use Rattle.par_match_laws.specs.par_code_form.declared.item.Item.{Item}
use Rattle.par_match_laws.specs.Labelled.{Labelled, Naming, lead, skip, target}
use Rattle.par_match_laws.specs.Labelled.{found}
use Rattle.par_match_laws.specs.Labelled.{silent}
use Rattle.par_match_laws.specs.par_code_form.Code.{Words, is_number, is_void}
use Rattle.par_match_laws.specs.par_code_form.Code.{test_code}
use Rattle.par_evaluation_laws.specs.Laid.{Layout, moved, HasType}
use Rattle.par_match_laws.proofs.Rules.{Told, weaken, spend_rule, spent}
use Rattle.par_match_laws.proofs.Steps.{Lives, Here, Distinct, Can, on}
use Rattle.par_evaluation_laws.specs.Agreement.{Lays}
use Rattle.par_evaluation_laws.proofs.Good.{Grows, grows_on, number_is}
use Rattle.par_evaluation_laws.proofs.Good.{kind_fits}
use Rattle.par_run_laws.specs.Values.{same}
use Rattle.std.proofs.Common.{inl, inr}
use Rattle.par_evaluation_laws.specs.Laid.{Accepts}
use Rattle.par_evaluation_laws.proofs.Parts.{Setting}
use Rattle.par_evaluation_laws.proofs.Parts.{with, Q, M, at, Fit, wider, Ready, Handed, handed}
use Rattle.par_evaluation_laws.proofs.Parts.{given, thrown, Raises, tests}

pub truth_moved : (lay : Layout) (b : Bool) → moved lay (truth b) ≡ truth b
truth_moved lay true = refl
truth_moved lay false = refl

pub truth_typed : (lay : Layout) (b : ℕ → ℕ) (x : Bool) → HasType lay b ty.Boolean (truth x)
truth_typed lay b true = tt
truth_typed lay b false = tt

module _ (ctx : Setting) where
  abbrev env : Naming
  env = ctx.env

  abbrev labelled : ℕ → ℕ → Labelled
  labelled = ctx.labelled

  abbrev mname : ℕ → ℕ → Name
  mname = ctx.mname

  abbrev w : Words
  w = ctx.w

  abbrev lay : Layout
  lay = ctx.lay

  abbrev t : Table
  t = ctx.t

  abbrev cls : ℕ
  cls = ctx.cls

  abbrev mth : ℕ
  mth = ctx.mth

  abbrev fs : List steps.Frame
  fs = ctx.fs

  abbrev lays : Lays env w lay t
  lays = ctx.lays

  abbrev ds : Distinct (labelled cls mth)
  ds = ctx.ds

  abbrev C : Labelled
  C = labelled cls mth

  abbrev N : ℕ → ℕ → Turn → Told → Type 0
  N = M ctx

  abbrev pos_of : ℕ → Areas → List MVal → Turn
  pos_of = at ctx

  abbrev Fits' : List ℕ → State → Areas → Type 0
  Fits' = Fit ctx

  abbrev R : List ℕ → State → ℕ → ℕ → List Item → List MVal → Ty → Rests → Type 0
  R = Ready ctx

  abbrev V : List ℕ → State → ℕ → ℕ → List Item → List MVal → Ty → Rests → Type 0
  V = Handed ctx

  abbrev X : List ℕ → ℕ → ℕ → ℕ → List Item → Rests → Type 0
  X = Raises ctx

  -- more may be raised by more code
  pub raises_on : (set : List ℕ) (k c d p q : ℕ) (xs ys : List Item) (rest rest' : Rests) → p ≤ q
      → length xs ≤ length ys → c ≤ d
      → ((x : ℕ) (v : MVal) (s : State) → rest' (Thrown x) v s ≡ rest (Thrown x) v s)
      → X set k c p xs rest → X set k d q ys rest'
  raises_on set k c d p q xs ys rest rest' le le' up same raises r x n v s a i is fit =
      subst (λ g. N k d (thrown ctx r x n a) g) (sym (same x v s))
      (weaken (Q ctx) k k c d _ _ (omega arith) up
      (raises r x n v s a (wider ctx i le le') is fit))

  pub hand : (set : List ℕ) (s : State) (k c : ℕ) (xs : List Item) (ops : List MVal) (u : Ty)
      (rest : Rests)
      → is_void u ≡ false → R set s k c xs ops u rest → V set s k c xs ops u rest
  hand = handed ctx

  pub giv : (set : List ℕ) (s : State) (k c : ℕ) (xs : List Item) (ops : List MVal) (u z : Ty)
      (rest : Rests)
      → u ≡ z → is_void z ≡ false → V set s k c xs ops z rest → R set s k c xs ops u rest
  giv = given ctx

  pub spend : (k c : ℕ) (g : Told) (z : Turn) → N k (c + 16) z g → N k c z (spent g)
  spend k c g z h = spend_rule (Q ctx) k c z g h

  -- some operands are replaced by a value
  pub makes : (k c d p : ℕ) (x : Item) (xs : List Item) (o : Operation) (a : Areas)
      (os ops : List MVal) (v : MVal) (g : Told)
      → suc c ≤ d → Here C p (x ∷ xs) → Lives xs
      → found env C.items p (x ∷ xs) ≡ silent o (suc (lead xs))
      → Can env labelled mname cls mth fs o (with a os)
      → effect env.names o (with a os) ≡ Goes (with a (v ∷ ops))
      → N k c (pos_of (skip xs (suc p)) a (v ∷ ops)) g → N k d (pos_of p a os) g
  makes k c d p x xs o a os ops v g le h l f can e r =
      on env labelled mname cls mth fs k c d p x xs o (with a os)
      (with a (v ∷ ops)) g le h l f can e r

  pub one_fits : (b : Bool) → b ≡ true → (b && true) ≡ true
  one_fits b e = ap (λ b. b && true) e

  pub two_fit : (b d : Bool) → b ≡ true → d ≡ true → (b && (d && true)) ≡ true
  two_fit b d e f = ap (λ b. b && (d && true)) e ∙ ap (λ b. b && true) f

  pub int_fits : (b : ℕ → ℕ) (v : MVal) → HasType lay b ty.Int v
      → fits env.names kind.Number (moved lay v) ≡ true
  int_fits b v h = kind_fits env w lay t lays b ty.Int v (λ e. grind (arith, e)) h

  pub number_fits : (b : ℕ → ℕ) (u : Ty) (v : MVal) → is_number u ≡ true → HasType lay b u v
      → fits env.names kind.Number (moved lay v) ≡ true
  number_fits b u v e h = subst (λ v. fits env.names kind.Number (moved lay v) ≡ true)
      (sym (number_is lay b u v e h)) refl

  pub test : (k c p opcode n : ℕ) (xs : List Item) (ops os : List MVal) (a : Areas) (b : Bool)
      (g : Told) (o : Operation)
      → Here C p (test_code opcode n xs) → Lives xs
      → found env C.items p (test_code opcode n xs) ≡ silent o 1
      → Can env labelled mname cls mth fs o (with a os) → length ops < C.max_stack
      → effect env.names o (with a os) ≡ jumps_if b (pos (target C.items n) -ℤ pos p) (with a ops)
      → ((q : ℕ) → Here C q xs → N k c (pos_of (skip xs q) a (truth b ∷ ops)) g)
      → N k (c + 16) (pos_of p a os) g
  test k c p opcode n xs ops os a b g o h l f can lt e r =
      tests ctx k c p opcode n xs ops os a b g o ds h l f can lt e r

  -- a boolean is handed on
  pub hand_truth : (set : List ℕ) (s : State) (k c : ℕ) (xs : List Item) (ops : List MVal) (u : Ty)
      (rest : Rests) (b : Bool) (s2 : State) (a2 : Areas)
      → u ≡ ty.Boolean → R set s k c xs ops u rest → Grows s s2 → Fits' set s2 a2
      → (q : ℕ) → Here C q xs → N k c (pos_of (skip xs q) a2 (truth b ∷ ops))
      (rest Normal (truth b) s2)
  hand_truth set s k c xs ops u rest b s2 a2 e ready gr fit q h =
      subst (λ v. N k c (pos_of (skip xs q) a2 (v ∷ ops)) (rest Normal (truth b) s2))
      (truth_moved lay b)
      (hand set s k c xs ops u rest (ap is_void e) ready q h (truth b) s2 a2 gr (subst (λ u.
      HasType lay s2.births u (truth b)) (sym e) (truth_typed lay s2.births b)) fit)

  pub later : (set : List ℕ) (s s2 : State) (k c : ℕ) (xs : List Item) (ops : List MVal) (r : Ty)
      (rest : Rests) → Grows s s2
      → R set s k c xs ops r rest → R set s2 k c xs ops r rest
  later set s s2 k c xs ops r rest gr ready q h v s3 a3 gr3 = ready q h v s3 a3 (grows_on s s2 s3
      gr gr3)

  pub accepts : (b : ℕ → ℕ) (u z : Ty) (v : MVal) → Accepts u z → HasType lay b z v
      → HasType lay b u v
  accepts b u z v (inl e) h = subst (λ z. HasType lay b z v) (sym e) h
  accepts b u z (value.Int n) (inr q) h = absurd (subst (λ z. HasType lay b z (value.Int n)) q.0 h)
  accepts b u z value.Null (inr q) h = subst (λ u. HasType lay b u value.Null) (sym q.2) tt
  accepts b u z (value.Ref c n) (inr q) h = absurd (subst (λ z. HasType lay b z (value.Ref c n))
      q.0 h)
