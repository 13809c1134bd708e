-- The write effect that rules ask about is that of the method around.
use Rattle.std.proofs.Common.{◌≡◌, ℕ, ◌<◌, ◌≤◌, arith, false, Option, Some, None, List, [], ◌∷◌}
use Rattle.std.proofs.Common.{◌++◌, Contains, subst, sym, length}
use Rattle.std.specs.Prelude.{slice_get, IsTrue}
use Rattle.par_policy.proofs.Ordered.{Contains-nil}
use Rattle.par_typed.specs.declared.table.Table.{Table}
use Rattle.par_typed.specs.Plain as typed
use Rattle.par_typed.specs.Plain.{TExp, MayTExp, TExps, TSta, MayTSta, TStas, TCatches, Body, mark}
use Rattle.par_program_laws.specs.Declares.{Method, Thrown, declares}
use Rattle.par_program_laws.specs.Rules.{Entry}
use Rattle.par_program_laws.specs.Body.{args_past, args_tested}
use Rattle.par_check.specs.par_check_laws.Asked.{Effect, Spot, Check}
use Rattle.par_check.specs.par_check_laws.Checks.{exp_checks, args_checks, may_checks, sta_checks}
use Rattle.par_check.specs.par_check_laws.Checks.{other_checks}
use Rattle.par_check.specs.par_check_laws.Checks.{stas_checks, catches_checks, arguments, called}
use Rattle.par_check.specs.par_check_laws.Checks.{returned, set}
use Rattle.par_check.specs.par_check_laws.Checks.{locked, lock_written, throws_checks}
use Rattle.par_check.specs.par_check_laws.Checks.{undeclared_checks}
use Rattle.par_check.specs.par_check_laws.Checks.{method_checks, checks, others, points_past}
use Rattle.par_program_laws.specs.Inferred.{inferred, AreOfFields}
use Rattle.par_infer.proofs.Choices.{first_or_later}

module _ (table : Table) (own : Method) where
  abbrev IsOwn : Check → Type 0
  IsOwn c = (e p : ℕ) → c.condition ≡ Effect e p → e ≡ own.effect

  abbrev AreOwn : List Check → Type 0
  AreOwn [] = Unit {0}
  AreOwn (c ∷ cs) = IsOwn c × AreOwn cs

  both : (xs ys : List Check) → AreOwn xs → AreOwn ys → AreOwn (xs ++ ys)
  both [] ys f g = g
  both (x ∷ xs) ys f g = (f.0, both xs ys f.1 g)

  each : (cs : List Check) (c : Check) → AreOwn cs → Contains cs c → IsOwn c
  each [] c f m = absurd (Contains-nil c m)
  each (d ∷ cs) c f m =
      first_or_later d cs c (IsOwn c) (λ e. subst (λ d. IsOwn d) (sym e) f.0)
      (each cs c f.1) m

  arguments_own : (ps : List ℕ) (es : TExps) → AreOwn (arguments table own ps es)
  arguments_own [] es = tt
  arguments_own (p ∷ ps) typed.NoExps = tt
  arguments_own (p ∷ ps) (typed.More e es) = (λ a b h. cc, arguments_own ps es)

  called_own : (at : ℕ) (spot : Spot) (m : Method) → AreOwn (called table own at spot m)
  called_own at spot m = (λ a b h. cc, (λ a b h. cc, (λ a b h. cc, (λ a b h. cc, tt))))

  mutual
    unfolding exp_checks args_checks

    exp_own : (e : TExp) → AreOwn (exp_checks table own e)
    exp_own (typed.Int n m) = tt
    exp_own (typed.Boolean b m) = tt
    exp_own (typed.Null m) = tt
    exp_own (typed.This m) = tt
    exp_own (typed.New class m) = (λ a b h. cc, (λ a b h. cc, tt))
    exp_own (typed.Local x m) = tt
    exp_own (typed.Static c f m) = tt
    exp_own (typed.Field e c f m) = exp_own e
    exp_own (typed.Input c k m) = (λ a b h. cc, (λ a b h. cc, tt))
    exp_own (typed.Output c k e m) =
        both (exp_checks table own e) _ (exp_own e)
        (λ a b h. cc, (λ a b h. cc, (λ a b h. cc, tt)))
    exp_own (typed.Call c k typed.Absent es m) =
        let callee = (declares table).method c k in
        let spot : Spot =
        record { point = m.point; parts = points_past [] es; from = args_past Entry es } in
        both (args_checks table own es ++ arguments table own callee.params es)
        (called table own m.at spot callee)
        (both (args_checks table own es) (arguments table own callee.params es) (args_own es)
        (arguments_own callee.params es)) (called_own m.at spot callee)
    exp_own (typed.Call c k (typed.Present e) es m) =
        let callee = (declares table).method c k in
        let spot : Spot = record {
          point = m.point;
          parts = points_past ((mark e).point ∷ []) es;
          from = args_tested es;
        } in
        both ((exp_checks table own e ++ args_checks table own es)
        ++ arguments table own callee.params es) (called table own m.at spot callee)
        (both (exp_checks table own e ++ args_checks table own es)
        (arguments table own callee.params es)
        (both (exp_checks table own e) (args_checks table own es) (exp_own e) (args_own es))
        (arguments_own callee.params es)) (called_own m.at spot callee)
    exp_own (typed.Neg e m) = exp_own e
    exp_own (typed.Not e m) = exp_own e
    exp_own (typed.Binary op a b m) =
        both (exp_checks table own a) (exp_checks table own b) (exp_own a) (exp_own b)

    args_own : (es : TExps) → AreOwn (args_checks table own es)
    args_own typed.NoExps = tt
    args_own (typed.More e es) =
        both (exp_checks table own e) (args_checks table own es) (exp_own e) (args_own es)

  may_own : (e : MayTExp) → AreOwn (may_checks table own e)
  may_own typed.Absent = tt
  may_own (typed.Present e) = exp_own e

  returned_own : (e : MayTExp) (at p : ℕ) → AreOwn (returned table own e at p)
  returned_own typed.Absent at p = tt
  returned_own (typed.Present e) at p = (λ a b h. cc, tt)

  set_own : (o : Option ℕ) (e : TExp) (at p : ℕ) → AreOwn (set table own o e at p)
  set_own None e at p = tt
  set_own (Some policy) e at p = (λ a b h. cc, tt)

  locked_own : (o : Option ℕ) (at p : ℕ) → AreOwn (locked table own o at p)
  locked_own None at p = tt
  locked_own (Some policy) at p = (λ a b h. cc, (λ a b h. cc, tt))

  mutual
    unfolding sta_checks other_checks stas_checks catches_checks

    sta_own : (s : TSta) → AreOwn (sta_checks table own s)
    sta_own (typed.Block ss at p) = stas_own ss
    sta_own (typed.If e s o at p) =
        both (exp_checks table own e ++ sta_checks table own s) (other_checks table own o)
        (both (exp_checks table own e) (sta_checks table own s) (exp_own e) (sta_own s))
        (other_own o)
    sta_own (typed.While e s at p) =
        both (exp_checks table own e) (sta_checks table own s) (exp_own e) (sta_own s)
    sta_own (typed.Try s cs at p) =
        both (sta_checks table own s) (catches_checks table own cs) (sta_own s) (catches_own cs)
    sta_own (typed.Return e at p) =
        both (may_checks table own e) _ (may_own e) (returned_own e at p)
    sta_own (typed.Break at p) = tt
    sta_own (typed.Continue at p) = tt
    sta_own (typed.Throw class at p) = tt
    sta_own (typed.Open lock at p) = locked_own (lock_written (slice_get table.locks lock)) at p
    sta_own (typed.Close lock at p) =
        (λ a b h. cc, locked_own (lock_written (slice_get table.locks lock)) at p)
    sta_own (typed.SetLocal x policy e at p) =
        both (exp_checks table own e) _ (exp_own e) (set_own policy e at p)
    sta_own (typed.SetStatic c f e at p) =
        both (exp_checks table own e) _ (exp_own e)
        (λ a b h. cc, (λ a b h. cc, (λ a b h. cc, tt)))
    sta_own (typed.SetField o c f e at p) =
        both (exp_checks table own o ++ exp_checks table own e) _
        (both (exp_checks table own o) (exp_checks table own e) (exp_own o) (exp_own e))
        (λ a b h. cc, (λ a b h. cc, (λ a b h. cc, (λ a b h. cc, tt))))
    sta_own (typed.Eval e at p) = exp_own e
    sta_own (typed.When lock s o at p) =
        both (sta_checks table own s) (other_checks table own o) (sta_own s) (other_own o)

    other_own : (o : MayTSta) → AreOwn (other_checks table own o)
    other_own typed.NoElse = tt
    other_own (typed.Otherwise s) = sta_own s

    stas_own : (ss : TStas) → AreOwn (stas_checks table own ss)
    stas_own typed.End = tt
    stas_own (typed.Then s ss) =
        both (sta_checks table own s) (stas_checks table own ss) (sta_own s) (stas_own ss)

    catches_own : (cs : TCatches) → AreOwn (catches_checks table own cs)
    catches_own typed.NoCatch = tt
    catches_own (typed.Catch class s cs) =
        both (sta_checks table own s) (catches_checks table own cs) (sta_own s) (catches_own cs)

  throws_own : (at p : ℕ) (ts : List Thrown) → AreOwn (throws_checks at p ts)
  throws_own at p [] = tt
  throws_own at p (t ∷ ts) = (λ a b h. cc, throws_own at p ts)

  undeclared_own : (at p : ℕ) (cs : List ℕ) → AreOwn (undeclared_checks at p cs)
  undeclared_own at p [] = tt
  undeclared_own at p (c ∷ cs) = (λ a b h. cc, undeclared_own at p cs)

  method_own : (m : Method) (at p : ℕ) → AreOwn (method_checks table m at p)
  method_own m at p = (
    λ a b h. cc,
    (
      λ a b h. cc,
      both (throws_checks at p m.throws) _ (throws_own at p m.throws)
          (undeclared_own at p (others m.throws (length table.classes))),
    ),
  )

pub effects_own : (table : Table) (b : Body) (c : Check) (e p : ℕ) → Contains (checks table b) c
    → c.condition ≡ Effect e p → e ≡ ((declares table).method b.class b.method).effect
effects_own table b c e p m h =
    let own = (declares table).method b.class b.method in
    each table own (checks table b) c
    (both table own (sta_checks table own b.body) _ (sta_own table own b.body)
    (method_own table own own _ _)) m e p h

-- numbers of inferred fields are those of policies, and no rule asks about one as a write effect
pub record AreApart (table : Table) (bs : List Body) : Type 0 where
  pub ranges : (i : ℕ) → IsTrue (inferred table i) → i < length table.policies
  pub few : (i : ℕ) → IsTrue (inferred table i) → i < 256
  pub effects : (b : Body) (c : Check) (e p : ℕ) → Contains bs b → Contains (checks table b) c
      → c.condition ≡ Effect e p → inferred table e ≡ false

pub apart : (table : Table) (bs : List Body) → AreOfFields table → length table.policies ≤ 256
    → AreApart table bs
apart table bs f few = record {
  ranges = f.ranges;
  few = λ i h. let l = f.ranges i h in omega (arith, l, few);
  effects = λ b c e p there asked h.
      subst (λ e. inferred table e ≡ false) (sym (effects_own table b c e p asked h))
      (f.effects b.class b.method);
}
