-- No break and no continue leaves a proper body.
use Rattle.std.proofs.Common.{◌≡◌, ℕ, zero, suc, Bool, true, false, not, ◌&&◌, ◌||◌, List, [], ◌∷◌}
use Rattle.std.proofs.Common.{refl, ap}
use Rattle.par_typed.specs.par_lexer.declared.operator.BinOp.{BinOp}
use Rattle.par_typed.specs.par_lexer.declared.operator.BinOp.TheVariants.{And, Or, Div, Rem}
use Rattle.par_typed.specs.Plain as plain
use Rattle.par_typed.specs.Plain.{TExp, TExps, TSta, TStas, TCatches, mark}
use Rattle.par_program_laws.specs.Kinds as kind
use Rattle.par_program_laws.specs.Kinds.{Kind, Absorber, Next, Loop, absorbed}
use Rattle.par_program_laws.specs.Declares.{Declares, Method, Thrown}
use Rattle.par_program_laws.specs.Rules.{From, Node, node, Rules, Done, Part, Test, Heads, Leaves}
use Rattle.par_program_laws.specs.Rules.{Worths}
use Rattle.par_program_laws.specs.Rules.{Worth, can, can_by, goes_on}
use Rattle.par_program_laws.specs.Body as body
use Rattle.par_program_laws.specs.Body.{exp, args, sta, stas, catches, if_not}
use Rattle.par_completes.specs.Typed.{completes}
use Rattle.par_program_laws.specs.Locals.{behind}
use Rattle.par_program_laws.specs.Forms.{Setting}
use Rattle.par_program_laws.specs.Proper.{StaIsProper, AllAreProper, CatchesAreProper}

-- a break or a continue
pub record IsJump (k : Kind) : Type 0 where
  pub normal : kind.same kind.Normal k ≡ false
  pub returned : kind.same kind.Return k ≡ false
  -- what a method throws
  pub thrown : (class : ℕ) → kind.same (kind.Throw class) k ≡ false
  pub not_normal : kind.normal k ≡ false
  pub looped : kind.of_loop k ≡ true

pub a_break : IsJump kind.Break
a_break = record {
  normal = refl;
  returned = refl;
  thrown = λ class. refl;
  not_normal = refl;
  looped = refl;
}

pub a_continue : IsJump kind.Continue
a_continue = record {
  normal = refl;
  returned = refl;
  thrown = λ class. refl;
  not_normal = refl;
  looped = refl;
}

and_false : (b c : Bool) → c ≡ false → (b && c) ≡ false
and_false true c e = e
and_false false c e = refl

false_and : (b c : Bool) → b ≡ false → (b && c) ≡ false
false_and true c e = absurd cc
false_and false c e = refl

-- one of two that do not hold
neither : (b c : Bool) → b ≡ false → c ≡ false → (b || c) ≡ false
neither true c e f = absurd cc
neither false c e f = f

-- ---- rules, of one such completion

module _ (k : Kind) (j : IsJump k) where
  -- no rule makes it possible
  record Never (rules : Rules) : Type 0 where
    at : (fs : List (Kind → Bool)) → can_by fs rules k ≡ false

  abbrev Cannot : Node → Type 0
  Cannot n = can n k ≡ false

  -- a node under such rules
  cannot : (p : ℕ) (rules : Rules) → Never rules → Cannot (node p rules)
  unfolding can
  cannot p rules h = h.at []

  done : Never Done
  unfolding can_by
  done = record { at = λ fs. refl }

  -- a part that cannot complete so
  part : (from : From) (absorber : Absorber) (n : Node) (more : Rules) → Cannot n → Never more
      → Never (Part from absorber n more)
  unfolding can_by
  part from absorber n more c h = record {
    at = λ fs. neither _ _ (false_and _ _ (and_false _ (can n k) c)) (h.at _);
  }

  -- what a loop takes for itself
  block : (from : From) (n : Node) (more : Rules) → Never more → Never (Part from Loop n more)
  unfolding can_by
  block from n more h = record {
    at = λ fs. neither _ _ (and_false _ (not (kind.of_loop k)) (ap not j.looped)) (h.at _);
  }

  test : (n : Node) (more : Rules) → Cannot n → Never more → Never (Test n more)
  unfolding can_by
  test n more c h = record { at = λ fs. neither _ _ (false_and (can n k) _ c) (h.at _) }

  heads : (from : From) (more : Rules) → Never more → Never (Heads from more)
  unfolding can_by
  heads from more h = record { at = λ fs. h.at fs }

  worths : (v : Worth) (more : Rules) → Never more → Never (Worths v more)
  unfolding can_by
  worths v more h = record { at = λ fs. h.at fs }

  leaves : (from : From) (i : Kind) (more : Rules) → kind.same i k ≡ false → Never more
      → Never (Leaves from i more)
  unfolding can_by
  leaves from i more e h = record {
    at = λ fs. neither _ _ (and_false _ (kind.same i k) e) (h.at fs);
  }

  on : (from : From) (more : Rules) → Never more → Never (goes_on from more)
  on from more h = leaves from kind.Normal more j.normal h

  -- a null test
  unless_throws : (b : Bool) (from : From) (class : ℕ) (more : Rules) → Never more
      → Never (if_not b (Leaves from (kind.Throw class)) more)
  unless_throws true from class more h = h
  unless_throws false from class more h = leaves from (kind.Throw class) more (j.thrown class) h

  -- the way behind a loop
  unless_on : (b : Bool) (from : From) (more : Rules) → Never more
      → Never (if_not b (goes_on from) more)
  unless_on true from more h = h
  unless_on false from more h = on from more h

  -- a division
  divides : (op : BinOp) (e : TExp) (more : Rules) → Never more → Never (body.divides op e more)
  divides Div e more h = unless_throws (body.is_sure e) body.tested kind.ARITHMETIC more h
  divides Rem e more h = unless_throws (body.is_sure e) body.tested kind.ARITHMETIC more h
  divides _ e more h = h

  -- the second operand of `&&` and `||`
  skips : (op : BinOp) (more : Rules) → Never more → Never (body.skips op more)
  skips And more h = on _ more h
  skips Or more h = on _ more h
  skips _ more h = h

  module _ (d : Declares) where
    thrown : (m : Method) (from : From) (ts : List Thrown) (more : Rules) → Never more
        → Never (body.thrown d m from ts more)
    thrown m from [] more h = h
    thrown m from (t ∷ ts) more h =
        leaves _ (kind.Throw t.class) _ (j.thrown t.class) (thrown m from ts more h)

    -- a call
    called : (m : Method) (from : From) → Never (body.called d m from)
    called m from = thrown m from m.throws _ (on _ _ (worths _ Done done))

    mutual
      unfolding exp

      -- an expression
      exp_cannot : (e : TExp) → Cannot (exp d e)
      exp_cannot (plain.Int n m) = cannot _ _ (on _ Done done)
      exp_cannot (plain.Boolean b m) = cannot _ _ (on _ Done done)
      exp_cannot (plain.Null m) = cannot _ _ (on _ Done done)
      exp_cannot (plain.This m) = cannot _ _ (on _ Done done)
      exp_cannot (plain.New class m) = cannot _ _ (on _ _ (worths _ Done done))
      exp_cannot (plain.Local x m) = cannot _ _ (on _ _ (worths _ Done done))
      exp_cannot (plain.Static c f m) = cannot _ _ (on _ _ (worths _ Done done))
      exp_cannot (plain.Field e c f m) =
          cannot _ _
          (part _ Next (exp d e) _ (exp_cannot e)
          (unless_throws (mark e).sure _ kind.NULL_POINTER _
          (on _ _ (worths _ _ (worths _ Done done)))))
      exp_cannot (plain.Input c k m) = cannot _ _ (on _ _ (worths _ Done done))
      exp_cannot (plain.Output c k e m) =
          cannot _ _ (part _ Next (exp d e) _ (exp_cannot e) (on _ Done done))
      exp_cannot (plain.Call c k plain.Absent es m) =
          cannot _ _ (args_never _ es _ (called (d.method c k) _))
      exp_cannot (plain.Call c k (plain.Present e) es m) =
          cannot _ _
          (part _ Next (exp d e) _ (exp_cannot e)
          (args_never _ es _
          (unless_throws (mark e).sure _ kind.NULL_POINTER _
          (worths _ _ (called (d.method c k) _)))))
      exp_cannot (plain.Neg e m) =
          cannot _ _ (part _ Next (exp d e) _ (exp_cannot e) (on _ _ (worths _ Done done)))
      exp_cannot (plain.Not e m) =
          cannot _ _ (part _ Next (exp d e) _ (exp_cannot e) (on _ _ (worths _ Done done)))
      exp_cannot (plain.Binary op x y m) =
          cannot _ _
          (part _ Next (exp d x) _ (exp_cannot x)
          (part _ Next (exp d y) _ (exp_cannot y)
          (divides op y _ (skips op _ (on _ _ (worths _ _ (worths _ Done done)))))))

      -- arguments
      args_never : (from : From) (es : TExps) (more : Rules) → Never more
          → Never (args d from es more)
      args_never from plain.NoExps more h = h
      args_never from (plain.More e es) more h =
          part _ Next (exp d e) _ (exp_cannot e) (args_never _ es more h)

    module _ (s : Setting) where
      mutual
        unfolding sta StaIsProper

        -- a statement that is proper outside a loop
        pub sta_cannot : (set : List ℕ) (b : TSta) → StaIsProper s false set b → Cannot (sta d b)
        sta_cannot set (plain.Block ss at p) h = cannot _ _ (stas_never _ true set ss h)
        sta_cannot set (plain.If e b plain.NoElse at p) h =
            cannot _ _
            (part _ Next (exp d e) _ (exp_cannot e)
            (on _ _ (part _ Next (sta d b) _ (sta_cannot set b h.2) (on _ Done done))))
        sta_cannot set (plain.If e b (plain.Otherwise t) at p) h =
            cannot _ _
            (part _ Next (exp d e) _ (exp_cannot e)
            (part _ Next (sta d b) _ (sta_cannot set b h.2)
            (on _ _ (part _ Next (sta d t) _ (sta_cannot set t h.3) (on _ Done done)))))
        sta_cannot set (plain.While e b at p) h =
            cannot _ _
            (test (exp d e) _ (exp_cannot e)
            (heads _ _
            (unless_on (body.is_forever e) _ _
            (block _ (sta d b) _ (heads _ _ (heads _ _ (on _ Done done)))))))
        sta_cannot set (plain.Try b cs at p) h =
            cannot _ _
            (part _ _ (sta d b) _ (sta_cannot set b h.0)
            (on _ _ (catches_never (sta d b) cs zero set h.1)))
        sta_cannot set (plain.Return plain.Absent at p) h =
            cannot _ _ (leaves _ kind.Return Done j.returned done)
        sta_cannot set (plain.Return (plain.Present e) at p) h =
            cannot _ _
            (part _ Next (exp d e) _ (exp_cannot e) (leaves _ kind.Return Done j.returned done))
        sta_cannot set (plain.Break at p) h = absurd cc
        sta_cannot set (plain.Continue at p) h = absurd cc
        sta_cannot set (plain.Throw class at p) h =
            cannot _ _ (leaves _ (kind.Throw class) Done (j.thrown class) done)
        sta_cannot set (plain.Open lock at p) h = cannot _ _ (on _ Done done)
        sta_cannot set (plain.Close lock at p) h = cannot _ _ (on _ Done done)
        sta_cannot set (plain.SetLocal x policy e at p) h =
            cannot _ _ (part _ Next (exp d e) _ (exp_cannot e) (on _ Done done))
        sta_cannot set (plain.SetStatic c f e at p) h =
            cannot _ _ (part _ Next (exp d e) _ (exp_cannot e) (on _ Done done))
        sta_cannot set (plain.SetField o c f e at p) h =
            cannot _ _
            (part _ Next (exp d o) _ (exp_cannot o)
            (part _ Next (exp d e) _ (exp_cannot e)
            (unless_throws (mark o).sure _ kind.NULL_POINTER _ (on _ Done done))))
        sta_cannot set (plain.Eval e at p) h =
            cannot _ _ (part _ Next (exp d e) _ (exp_cannot e) (on _ Done done))
        sta_cannot set (plain.When lock b plain.NoElse at p) h =
            cannot _ _ (on _ _ (part _ Next (sta d b) _ (sta_cannot set b h.1) (on _ Done done)))
        sta_cannot set (plain.When lock b (plain.Otherwise t) at p) h =
            cannot _ _
            (part _ Next (sta d b) _ (sta_cannot set b h.1)
            (on _ _ (part _ Next (sta d t) _ (sta_cannot set t h.2) (on _ Done done))))

        -- statements, one after the other
        stas_never : (from : From) (reached : Bool) (set : List ℕ) (ss : TStas)
            → AllAreProper s false reached set ss → Never (stas d from ss)
        stas_never from reached set plain.End h = on _ Done done
        stas_never from reached set (plain.Then b bs) h =
            part _ Next (sta d b) _ (sta_cannot set b h.1)
            (stas_never _ (completes b) (behind set b) bs h.2)

        -- catches, behind as many others
        catches_never : (n : Node) (cs : TCatches) (before : ℕ) (set : List ℕ)
            → CatchesAreProper s false set cs → Never (catches d n cs before)
        catches_never n plain.NoCatch before set h = done
        catches_never n (plain.Catch class b cs) before set h =
            part _ Next (sta d b) _ (sta_cannot set b h.1)
            (on _ _ (catches_never n cs (suc before) set h.2))
