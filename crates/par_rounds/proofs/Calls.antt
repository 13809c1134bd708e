-- The parts of a call.
use Rattle.std.proofs.Common.{◌≡◌, ℕ, zero, suc, ◌+◌, ◌<◌, Some, None, Option, List, []}
use Rattle.std.proofs.Common.{◌∷◌, length, get_or, drop, refl, sym, ap, ◌∙◌, subst, arith, add-one}
use Rattle.std.specs.declared.boxed.Box.{Box}
use Rattle.std.specs.declared.alloc.Global.{Global}
use Rattle.par_typed.specs.declared.expr.TExpr.{TExpr}
use Rattle.par_typed.specs.Shown.{shown, all_shown, receiver}
use Rattle.par_typed.specs.Plain.{MayTExp, Absent, Present, TExps, NoExps, More}
use Rattle.par_program_laws.specs.Lattice.{numbers}
use Rattle.par_program_laws.specs.Kinds.{Next, absorbed}
use Rattle.par_program_laws.specs.Declares.{Declares}
use Rattle.par_program_laws.specs.Ranges.{IsFromInRange}
use Rattle.par_program_laws.specs.Rules.{From, Entry, Rules, Part, spot, way}
use Rattle.par_program_laws.specs.Body.{past, exp, args}
use Rattle.par_nodes.specs.Starts.{start_at, behind, call_start}
use Rattle.par_pass_laws.specs.par_except.declared.way.Way as code_way
use Rattle.par_pass_laws.specs.par_except.Seen.{seen}
use Rattle.par_pass_laws.specs.Pass.{HeadWays, pass, visited}
use Rattle.par_rounds.specs.declared.notes.Notes.{Notes}
use Rattle.par_rounds.specs.declared.pass.SoFar.{SoFar}
use Rattle.par_ways.specs.Seen.{latest_first}
use Rattle.par_rounds.specs.Passes.{GoesOn, TookPart, IsPassable, ArePassable, IsReady, IsSoFar}
use Rattle.par_rounds.specs.Passes.{IsLed, AreArgsAlong}
use Rattle.par_rounds.proofs.Needs.{part_needs}
use Rattle.par_rounds.proofs.Walks as walks
use Rattle.par_rounds.proofs.Walks.{part_walks}

ahead : (es : List TExpr) (p : ℕ) (e : TExpr) → p < length es → e ≡ get_or es p e
    → drop p es ≡ e ∷ drop (suc p) es
ahead [] p e h q = absurd (omega (arith, h))
ahead (x ∷ es) zero e h q = ap (λ z. z ∷ es) (sym q)
ahead (x ∷ es) (suc p) e h q = ahead es p e (omega (arith, h)) q

pub start_in_range : (locals p : ℕ) (f from : From) → f ≡ start_at p from
    → IsFromInRange locals from → IsFromInRange locals f
unfolding IsFromInRange
start_in_range locals p f from e h = subst (IsFromInRange locals) (sym e) (range p) where
  range : (n : ℕ) → IsFromInRange locals (start_at n from)
  range zero = h
  range (suc n) = tt

-- the arguments from a place on are the one there and those behind it
args_at : (d : Declares) (f from : From) (es : List TExpr) (p : ℕ) (e : TExpr) (more : Rules)
    → p < length es → e ≡ get_or es p e
    → args d f (all_shown (drop p es)) more ≡ Part f Next (exp d (shown e))
    (args d (start_at (suc p) from) (all_shown (drop (suc p) es)) more)
unfolding args
args_at d f from es p e more h q = ap (λ l. args d f (all_shown l) more) (ahead es p e h q)

drop_all : (es : List TExpr) → drop (length es) es ≡ []
drop_all [] = refl
drop_all (x ∷ es) = drop_all es

module _ (d : Declares) (h : HeadWays) (w : code_way.Way) (hs : List (Option code_way.Way))
    (from : From) (es : List TExpr) (first so : SoFar) (m n : Notes) where
  -- what the argument at the place needs
  pub arg_needs : (p : ℕ) (e : TExpr) → p < length es → e ≡ get_or es p e
      → AreArgsAlong d h w hs from es p first so m n
      → IsPassable n.locals (length n.heads.items) (exp d (shown e))
  arg_needs p e g q a =
      let f = start_at p from in
      (part_needs n.locals (length n.heads.items) (args d f (all_shown (drop p es)) a.last) f Next
      (exp d (shown e)) _ (args_at d f from es p e a.last g q) a.needs).1

  -- one more argument
  pub arg_next : (p : ℕ) (e : TExpr) (f : From) (to : SoFar) (o : Notes) → p < length es
      → e ≡ get_or es p e → f ≡ start_at p from
      → AreArgsAlong d h w hs from es p first so m n → to.head ≡ so.head
      → (let v = way numbers (Some (seen w)) (latest_first so.parts.items []) f in
      let k = exp d (shown e) in
      TookPart (absorbed Next) v (visited v (spot k) (pass h k)) so to n o)
      → AreArgsAlong d h w hs from es (p + 1) first to m o
  arg_next p e f to o g q is a eh k =
      let start = start_at p from in
      let x = exp d (shown e) in
      let rest : Rules → Rules =
      λ more. args d (start_at (suc p) from) (all_shown (drop (suc p) es)) more in
      let t =
      subst (λ (z : From). let v = way numbers (Some (seen w)) (latest_first so.parts.items []) z in
      TookPart (absorbed Next) v (visited v (spot x) (pass h x)) so to n o) is k in
      let b = walks.behind (absorbed Next) _ _ w hs so to n o t eh a.ready a.so_far in
      let y =
      part_needs n.locals (length n.heads.items) (args d start (all_shown (drop p es)) a.last) start
      Next x (rest a.last) (args_at d start from es p e a.last g q) a.needs in
      subst (λ i. AreArgsAlong d h w hs from es i first to m o) (sym (add-one p)) (record {
        ready = b.ready;
        so_far = b.so_far;
        same = λ rs z. b.rules rs (a.same rs z);
        last = a.last;
        needs = b.rules (rest a.last) y.2;
        goes =
            λ more r u z. a.goes more r u
            (part_walks h (seen w) Next start x (args d start (all_shown (drop p es)) more)
            (rest more) so to r n o u (args_at d start from es p e more g q) eh t z);
      })

  -- behind the last one
  pub args_led : (p : ℕ) → p ≡ length es → AreArgsAlong d h w hs from es p first so m n
      → IsLed h w hs (args d from (all_shown es)) first so m n
  unfolding args
  args_led p e a = record {
    ready = a.ready;
    so_far = a.so_far;
    rules = a.same;
    goes =
        λ more r o z. a.goes more r o
        (subst (λ (rs : Rules). GoesOn h rs (seen w) so n r o) (sym (done p e more)) z);
  } where
    done : (p : ℕ) → p ≡ length es → (more : Rules)
        → args d (start_at p from) (all_shown (drop p es)) more ≡ more
    done p e more =
        ap (λ l. args d (start_at p from) (all_shown l) more)
        (ap (λ i. drop i es) e ∙ drop_all es)

-- behind the receiver, and where there is none
pub none_led : (d : Declares) (h : HeadWays) (w : code_way.Way) (hs : List (Option code_way.Way))
    (o : Option (Box TExpr Global)) (so : SoFar) (m : Notes) → o ≡ None → IsReady w hs m
    → IsSoFar m so → IsLed h w hs (behind d (receiver o)) so so m m
none_led d h w hs o so m e r s = record {
  ready = r;
  so_far = s;
  rules = λ rs x. x;
  goes =
      λ more y p z. subst (λ (v : Option (Box TExpr Global)).
      GoesOn h (behind d (receiver v) more) (seen w) so m y p) (sym e) z;
}

pub some_is : (d : Declares) (o : Option (Box TExpr Global)) (b : Box TExpr Global) (x : TExpr)
    (more : Rules) → o ≡ Some b → x ≡ b.value
    → behind d (receiver o) more ≡ Part Entry Next (exp d (shown x)) more
some_is d o b x more e g =
    ap (λ v. behind d (receiver v) more) e
    ∙ ap (λ z. Part Entry Next (exp d (shown z)) more) (sym g)

pub some_led : (d : Declares) (h : HeadWays) (w : code_way.Way) (hs : List (Option code_way.Way))
    (o : Option (Box TExpr Global)) (b : Box TExpr Global) (x : TExpr) (so to : SoFar) (m n : Notes)
    → o ≡ Some b → x ≡ b.value → to.head ≡ so.head
    → (let v = way numbers (Some (seen w)) (latest_first so.parts.items []) Entry in
    let k = exp d (shown x) in
    TookPart (absorbed Next) v (visited v (spot k) (pass h k)) so to m n)
    → IsReady w hs m → IsSoFar m so → IsLed h w hs (behind d (receiver o)) so to m n
some_led d h w hs o b x so to m n e g eh k r s =
    let c = walks.behind (absorbed Next) _ _ w hs so to m n k eh r s in record {
      ready = c.ready;
      so_far = c.so_far;
      rules = c.rules;
      goes =
          λ more y p z.
          part_walks h (seen w) Next Entry (exp d (shown x)) (behind d (receiver o) more) more so to
          y m n p (some_is d o b x more e g) eh k z;
    }

-- what rules behind the receiver, and behind the arguments, need
pub behind_needs_of : (d : Declares) (locals points : ℕ) (o : MayTExp) (more : Rules)
    → ArePassable locals points (behind d o more) → ArePassable locals points more
behind_needs_of d locals points Absent more h = h
behind_needs_of d locals points (Present e) more h =
    (part_needs locals points (Part Entry Next (exp d e) more) Entry Next (exp d e) more refl h).2

pub args_needs_of : (d : Declares) (locals points : ℕ) (f : From) (es : TExps) (more : Rules)
    → ArePassable locals points (args d f es more) → ArePassable locals points more
unfolding args
args_needs_of d locals points f NoExps more h = h
args_needs_of d locals points f (More e es) more h =
    args_needs_of d locals points past es more
    (part_needs locals points (Part f Next (exp d e) (args d past es more)) f Next (exp d e)
    (args d past es more) refl h).2

pub call_range : (locals : ℕ) (o : MayTExp) → IsFromInRange locals (call_start o)
unfolding IsFromInRange
call_range locals Absent = tt
call_range locals (Present e) = tt
