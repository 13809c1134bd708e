-- What is asked of a body is asked at places of its typed tree, and of its method's name.
use Rattle.std.proofs.Common.{ℕ, ◌≤◌, Option, Some, None, List, [], ◌∷◌, ◌++◌, length}
use Rattle.std.specs.Prelude.{slice_get}
use Rattle.std.specs.List.{AllByRecursion}
use Rattle.par_typed.specs.declared.table.Table.{Table}
use Rattle.par_typed.specs.Plain as typed
use Rattle.par_typed.specs.Plain.{TExp, MayTExp, TExps, TSta, MayTSta, TStas, TCatches, Body}
use Rattle.par_typed.specs.Plain.{mark, point}
use Rattle.par_program_laws.specs.Declares.{Method, Thrown, declares}
use Rattle.par_span_laws.proofs.Broken.{both}
use Rattle.par_check_laws.specs.Asked.{Check}
use Rattle.par_check_laws.specs.Checks.{arguments, exp_checks, args_checks}
use Rattle.par_check_laws.specs.Checks.{may_checks, returned, set, lock_written, locked}
use Rattle.par_check_laws.specs.Checks.{sta_checks, other_checks, stas_checks, catches_checks}
use Rattle.par_check_laws.specs.Checks.{throws_checks, others, undeclared_checks, method_checks}
use Rattle.par_check_laws.specs.Checks.{name_at, checks}
use Rattle.par_observer.specs.Spans.{MarkIn, TExpIn, MayTExpIn, TExpsIn}
use Rattle.par_observer.specs.Spans.{TStaIn, MayTStaIn, TStasIn, TCatchesIn, BodyIn}
use Rattle.par_observer.proofs.TableSpans.{TableIn, name_at_in}

module _ (m : ℕ) where
  -- each of these is asked at this place or before
  abbrev pub AskedIn : List Check → Type 0
  AskedIn cs = AllByRecursion (λ c. c.at ≤ m) cs

  abbrev join : (xs ys : List Check) → AskedIn xs → AskedIn ys → AskedIn (xs ++ ys)
  join xs ys p q = both (λ (c : Check). c.at ≤ m) xs ys p q

  -- the place of an expression is one in it
  mark_in : (e : TExp) → TExpIn m e → MarkIn m (mark e)
  unfolding TExpIn mark
  mark_in (typed.Int n k) h = h
  mark_in (typed.Boolean b k) h = h
  mark_in (typed.Null k) h = h
  mark_in (typed.This k) h = h
  mark_in (typed.New class k) h = h
  mark_in (typed.Local x k) h = h
  mark_in (typed.Static c f k) h = h
  mark_in (typed.Field e c f k) h = h.1
  mark_in (typed.Input c i k) h = h
  mark_in (typed.Output c i e k) h = h.1
  mark_in (typed.Call c i o es k) h = h.2
  mark_in (typed.Neg e k) h = h.1
  mark_in (typed.Not e k) h = h.1
  mark_in (typed.Binary op a b k) h = h.2

  module _ (table : Table) (own : Method) where
    arguments_in : (ps : List ℕ) (es : TExps) → TExpsIn m es → AskedIn (arguments table own ps es)
    unfolding TExpIn
    arguments_in [] es h = tt
    arguments_in (p ∷ ps) typed.NoExps h = tt
    arguments_in (p ∷ ps) (typed.More e es) h = (mark_in e h.0, arguments_in ps es h.1)

    returned_in : (o : MayTExp) (at p : ℕ) → at ≤ m → AskedIn (returned table own o at p)
    returned_in typed.Absent at p h = tt
    returned_in (typed.Present e) at p h = (h, tt)

    set_in : (policy : Option ℕ) (e : TExp) (at p : ℕ) → at ≤ m
        → AskedIn (set table own policy e at p)
    set_in None e at p h = tt
    set_in (Some policy) e at p h = (h, tt)

    locked_in : (policy : Option ℕ) (at p : ℕ) → at ≤ m → AskedIn (locked table own policy at p)
    locked_in None at p h = tt
    locked_in (Some policy) at p h = (h, (h, tt))

    mutual
      unfolding exp_checks TExpIn

      exp_in : (e : TExp) → TExpIn m e → AskedIn (exp_checks table own e)
      exp_in (typed.Int n k) h = tt
      exp_in (typed.Boolean b k) h = tt
      exp_in (typed.Null k) h = tt
      exp_in (typed.This k) h = tt
      exp_in (typed.New class k) h = (h, (h, tt))
      exp_in (typed.Local x k) h = tt
      exp_in (typed.Static c f k) h = tt
      exp_in (typed.Field e c f k) h = exp_in e h.0
      exp_in (typed.Input c i k) h = (h, (h, tt))
      exp_in (typed.Output c i e k) h = join _ _ (exp_in e h.0) (h.1, (h.1, (h.1, tt)))
      exp_in (typed.Call c i typed.Absent es k) h =
          join _ _ (join _ _ (args_in es h.1) (arguments_in _ es h.1))
          (h.2, (h.2, (h.2, (h.2, tt))))
      exp_in (typed.Call c i (typed.Present e) es k) h =
          join _ _ (join _ _ (join _ _ (exp_in e h.0) (args_in es h.1)) (arguments_in _ es h.1))
          (h.2, (h.2, (h.2, (h.2, tt))))
      exp_in (typed.Neg e k) h = exp_in e h.0
      exp_in (typed.Not e k) h = exp_in e h.0
      exp_in (typed.Binary op a b k) h = join _ _ (exp_in a h.0) (exp_in b h.1)

      args_in : (es : TExps) → TExpsIn m es → AskedIn (args_checks table own es)
      args_in typed.NoExps h = tt
      args_in (typed.More e es) h = join _ _ (exp_in e h.0) (args_in es h.1)

    may_in : (o : MayTExp) → MayTExpIn m o → AskedIn (may_checks table own o)
    unfolding TExpIn
    may_in typed.Absent h = tt
    may_in (typed.Present e) h = exp_in e h

    mutual
      unfolding sta_checks TStaIn

      pub sta_in : (s : TSta) → TStaIn m s → AskedIn (sta_checks table own s)
      sta_in (typed.Block ss at p) h = stas_in ss h.0
      sta_in (typed.If e s o at p) h =
          join _ _ (join _ _ (exp_in e h.0) (sta_in s h.1)) (other_in o h.2)
      sta_in (typed.While e s at p) h = join _ _ (exp_in e h.0) (sta_in s h.1)
      sta_in (typed.Try s cs at p) h = join _ _ (sta_in s h.0) (catches_in cs h.1)
      sta_in (typed.Return o at p) h = join _ _ (may_in o h.0) (returned_in o at p h.1)
      sta_in (typed.Break at p) h = tt
      sta_in (typed.Continue at p) h = tt
      sta_in (typed.Throw class at p) h = tt
      sta_in (typed.Open lock at p) h =
          locked_in (lock_written (slice_get table.locks lock)) at p h
      sta_in (typed.Close lock at p) h =
          (h, locked_in (lock_written (slice_get table.locks lock)) at p h)
      sta_in (typed.SetLocal x policy e at p) h =
          join _ _ (exp_in e h.0) (set_in policy e at p h.1)
      sta_in (typed.SetStatic c f e at p) h = join _ _ (exp_in e h.0) (h.1, (h.1, (h.1, tt)))
      sta_in (typed.SetField o c f e at p) h =
          join _ _ (join _ _ (exp_in o h.0) (exp_in e h.1)) (h.2, (h.2, (h.2, (h.2, tt))))
      sta_in (typed.Eval e at p) h = exp_in e h.0
      sta_in (typed.When lock s o at p) h = join _ _ (sta_in s h.0) (other_in o h.1)

      other_in : (o : MayTSta) → MayTStaIn m o → AskedIn (other_checks table own o)
      other_in typed.NoElse h = tt
      other_in (typed.Otherwise s) h = sta_in s h

      stas_in : (ss : TStas) → TStasIn m ss → AskedIn (stas_checks table own ss)
      stas_in typed.End h = tt
      stas_in (typed.Then s ss) h = join _ _ (sta_in s h.0) (stas_in ss h.1)

      catches_in : (cs : TCatches) → TCatchesIn m cs → AskedIn (catches_checks table own cs)
      catches_in typed.NoCatch h = tt
      catches_in (typed.Catch class s cs) h = join _ _ (sta_in s h.0) (catches_in cs h.1)

  -- ---- the ways in which a method is left

  throws_in : (at p : ℕ) (ts : List Thrown) → at ≤ m → AskedIn (throws_checks at p ts)
  throws_in at p [] h = tt
  throws_in at p (t ∷ ts) h = (h, throws_in at p ts h)

  undeclared_in : (at p : ℕ) (classes : List ℕ) → at ≤ m
      → AskedIn (undeclared_checks at p classes)
  undeclared_in at p [] h = tt
  undeclared_in at p (class ∷ classes) h = (h, undeclared_in at p classes h)

  method_in : (table : Table) (k : Method) (at p : ℕ) → at ≤ m
      → AskedIn (method_checks table k at p)
  method_in table k at p h = (
    h,
    (
      h,
      join (throws_checks at p k.throws) _ (throws_in at p k.throws h)
          (undeclared_in at p (others k.throws (length table.classes)) h),
    ),
  )

  pub checks_in : (table : Table) (b : Body) → TableIn m table → BodyIn m b
      → AskedIn (checks table b)
  checks_in table b placed body =
      join _ _ (sta_in table ((declares table).method b.class b.method) b.body body)
      (method_in table ((declares table).method b.class b.method)
      (name_at (slice_get table.classes b.class) b.method) (point b.body)
      (name_at_in m table.classes b.class b.method placed))
