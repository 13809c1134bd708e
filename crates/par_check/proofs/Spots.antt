-- What is known at each form of spot.
use Rattle.std.proofs.Common.{◌≡◌, ℕ, suc, ◌+◌, ◌-◌, Bool, true, false, cond, Option, Some, None}
use Rattle.std.proofs.Common.{List, [], ◌∷◌, length, refl, sym, ap, ◌∙◌, arith}
use Rattle.std.specs.Prelude.{map, slice_get}
use Rattle.std.specs.Borrow.{Bor}
use Rattle.par_bits.specs.Sets.{Set}
use Rattle.par_typed.specs.declared.expr.TExpr.{TExpr}
use Rattle.par_typed.specs.Plain.{TExps, NoExps, More, mark}
use Rattle.par_typed.specs.Shown.{shown, all_shown}
use Rattle.par_typed.proofs.Shown.{shown_mark}
use Rattle.par_asked.specs.par_program_laws.Lattice.{numbers}
use Rattle.par_asked.specs.par_program_laws.Kinds.{Normal}
use Rattle.par_asked.specs.par_program_laws.Ways.{Way, raised, moved}
use Rattle.par_asked.specs.par_program_laws.Facts.{Facts}
use Rattle.par_asked.specs.par_program_laws.Rules.{way, part_at, Entry}
use Rattle.par_asked.specs.par_program_laws.Body.{past, args_past, args_count}
use Rattle.par_asked.specs.par_check_laws.Checks.{points_past}
use Rattle.par_nodes.specs.declared.rule.Kind as code
use Rattle.par_nodes.specs.Seen.{seen_kind}
use Rattle.par_asked.specs.declared.check.Way.TheVariants as spot
use Rattle.par_flow.specs.Standing.{standing}
use Rattle.par_check.specs.Meets.{heightened}
use Rattle.par_check.specs.Spots.{at_spot, behind, listed}

pub at_entry : (f : Facts numbers) (p : ℕ) → at_spot f p spot.Entry ≡ standing (f p).entry
unfolding at_spot way
at_entry f p = refl

pub at_behind : (f : Facts numbers) (p part : ℕ)
    → at_spot f p (spot.Behind part) ≡ standing ((f part).exit Normal)
unfolding at_spot way
at_behind f p part = refl

pub at_left : (f : Facts numbers) (p : ℕ) (k : code.Kind)
    → at_spot f p (spot.Left k) ≡ standing ((f p).exit (seen_kind k))
unfolding at_spot way
at_left f p k = refl

-- a value that joins the context
tested : (v : Set) (o : Option (Way numbers))
    → standing (moved numbers (raised numbers v) o) ≡ heightened v (standing o)
tested v None = refl
tested v (Some w) = refl

pub at_written : (f : Facts numbers) (p value of : ℕ) (sure : Bool)
    → at_spot f p (spot.Written value of sure)
    ≡ cond sure (standing ((f value).exit Normal))
    (heightened (f of).value (standing ((f value).exit Normal)))
unfolding at_spot way
at_written f p value of true = refl
at_written f p value of false = tested (f of).value ((f value).exit Normal)

-- the latest of some points, and those before
record Latest (ps : List ℕ) : Type 0 where
  last : ℕ
  rest : List ℕ
  is : ps ≡ last ∷ rest

latest : (p : ℕ) (ps : List ℕ) (es : TExps) → Latest (points_past (p ∷ ps) es)
latest p ps NoExps = record { last = p; rest = ps; is = refl }
latest p ps (More e es) = latest (mark e).point (p ∷ ps) es

-- a part that stands before the arguments
before_args : (f : Facts numbers) (ps : List ℕ) (es : TExps) (k : ℕ)
    → part_at numbers (map f (points_past ps es)) (args_count es + k) ≡ part_at numbers (map f ps) k
before_args f ps NoExps k = let e : 0 + k ≡ k = omega arith in ap (part_at numbers (map f ps)) e
before_args f ps (More e es) k =
    let g : suc (args_count es) + k ≡ args_count es + suc k = omega arith in
    ap (part_at numbers (map f (points_past ((mark e).point ∷ ps) es))) g
    ∙ before_args f ((mark e).point ∷ ps) es (suc k)

-- behind the latest part
behind_latest : (f : Facts numbers) (p : ℕ) (ps : List ℕ) → Latest ps → (o : Option ℕ)
    → o ≡ slice_get ps 0
    → standing (way numbers (f p).entry (map f ps) past) ≡ behind f p o
unfolding way
behind_latest f p ps l o e =
    ap (λ qs. standing (way numbers (f p).entry (map f qs) past)) l.is
    ∙ sym (ap (behind f p) (e ∙ ap (λ qs. slice_get qs 0) l.is))

pub at_call : (f : Facts numbers) (p : ℕ) (es : Bor (List TExpr)) (o : Option ℕ)
    → o ≡ slice_get (points_past (listed None) (all_shown es.now)) 0
    → at_spot f p (spot.Called None es) ≡ behind f p o
unfolding at_spot way
at_call f p es o e = of_args (all_shown es.now) e where
  of_args : (es : TExps) → o ≡ slice_get (points_past [] es) 0
      → standing (way numbers (f p).entry (map f (points_past [] es)) (args_past Entry es)) ≡ behind
      f p o
  of_args NoExps e = sym (ap (behind f p) e)
  of_args (More x es) e = behind_latest f p (points_past ((mark x).point ∷ []) es)
      (latest (mark x).point [] es) o e

pub at_call_on : (f : Facts numbers) (p of : ℕ) (es : Bor (List TExpr)) (o : Option ℕ)
    → o ≡ slice_get (points_past (listed (Some of)) (all_shown es.now)) 0
    → at_spot f p (spot.Called (Some of) es) ≡ heightened (f of).value (behind f p o)
unfolding at_spot way
at_call_on f p of es o e =
    let ps = points_past (of ∷ []) (all_shown es.now) in
    let none_more : args_count (all_shown es.now) + 0 ≡ args_count (all_shown es.now) = omega arith
    in
    let value : (part_at numbers (map f ps) (args_count (all_shown es.now))).value ≡ (f of).value =
    ap (λ n. (part_at numbers (map f ps) n).value) (sym none_more)
    ∙ ap (λ g. g.value) (before_args f (of ∷ []) (all_shown es.now) 0) in
    tested _ (way numbers (f p).entry (map f ps) past)
    ∙ ap (λ v. heightened v (standing (way numbers (f p).entry (map f ps) past))) value
    ∙ ap (heightened (f of).value) (behind_latest f p ps (latest of [] (all_shown es.now)) o e)

pub ruleset spots = (at_entry, at_behind, at_left, at_written)

-- the point of the last argument
pub last_point : (ps : List ℕ) (es : List TExpr) (e : TExpr) → Some e ≡ slice_get es (length es - 1)
    → Some e.point ≡ slice_get (points_past ps (all_shown es)) 0
last_point ps [] e h = cc
last_point ps (x ∷ []) e h = ap (λ o. o)
    (ap Some (ap (λ y. y.point) (first e x h) ∙ sym (ap (λ m. m.point) (shown_mark x.kind _))))
  where
    first : (e x : TExpr) → Some e ≡ Some x → e ≡ x
    first e x h = cc
last_point ps (x ∷ y ∷ es) e h =
    let n : length (x ∷ y ∷ es) - 1 ≡ suc (length (y ∷ es) - 1) = omega arith in
    last_point ((mark (shown x)).point ∷ ps) (y ∷ es) e (h ∙ ap (slice_get (x ∷ y ∷ es)) n)
