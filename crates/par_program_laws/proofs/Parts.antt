-- What a proper body asks, one thing by itself.
use Rattle.std.proofs.Common.{◌≡◌, ℕ, suc, Bool, true, false, not, List, [], ◌∷◌, length, Option}
use Rattle.std.proofs.Common.{refl, sym, ap, subst}
use Rattle.std.specs.Prelude.{slice_get}
use Rattle.std.proofs.lemmas.Option.{slice_get_within}
use Rattle.par_completes.specs.par_typed.declared.table.ParamInfo.{ParamInfo}
use Rattle.par_completes.specs.par_typed.Plain.{TExp, Int, Boolean, Null, This, New, Local, Static}
use Rattle.par_completes.specs.par_typed.Plain.{Field, Input}
use Rattle.par_completes.specs.par_typed.Plain.{Output, Call, Neg, Not, Binary, MayTExp, Absent}
use Rattle.par_completes.specs.par_typed.Plain.{Present}
use Rattle.par_completes.specs.par_typed.Plain.{TExps, NoExps, More}
use Rattle.par_completes.specs.par_typed.Plain.{TSta, Block, If, While, Try, Return, Break}
use Rattle.par_completes.specs.par_typed.Plain.{Continue, Throw, Open}
use Rattle.par_completes.specs.par_typed.Plain.{Close, SetLocal, SetStatic, SetField, Eval, When}
use Rattle.par_completes.specs.par_typed.Plain.{MayTSta, NoElse}
use Rattle.par_completes.specs.par_typed.Plain.{Otherwise, TStas, End, Then, TCatches, NoCatch}
use Rattle.par_completes.specs.par_typed.Plain.{Catch}
use Rattle.par_completes.specs.Typed.{completes}
use Rattle.par_program_laws.specs.Locals.{set_by_call, behind}
use Rattle.par_program_laws.specs.BodyNames.{IsField, IsChannel, IsException, is_present, how_many}
use Rattle.par_program_laws.specs.BodyNames.{IsCalled}
use Rattle.par_program_laws.specs.BodyNames.{MayBeObject, ExpNames, MayExpNames, ExpsName, StaNames}
use Rattle.par_program_laws.specs.BodyNames.{ElseNames, StasName, CatchesName}
use Rattle.par_program_laws.specs.Makes.{IsOrdinary, ExpMakes, MayExpMakes, ExpsMake, StaMakes}
use Rattle.par_program_laws.specs.Makes.{ElseMakes, StasMake, CatchesMake}
use Rattle.par_program_laws.specs.Uses.{StaUses, ElseUses, StasUse, CatchesUse, IsNotThis}
use Rattle.par_program_laws.specs.Uses.{HasPolicy}
use Rattle.par_program_laws.specs.Forms.{Setting, IsReceiver, AreArguments, SetsLocal, AsksLock}
use Rattle.par_program_laws.specs.Proper.{ExpIsProper, MayExpIsProper, ExpsAreProper, StaIsProper}
use Rattle.par_program_laws.specs.Proper.{ElseIsProper, AllAreProper, CatchesAreProper}
use Rattle.par_program_laws.specs.BodyLaws.{ProperBodiesNameMembers, ProperBodiesMakeObjects}
use Rattle.par_program_laws.specs.BodyLaws.{ProperBodiesLeaveThis}

-- ---- calls

present : (class : ℕ) (b : Bool) (o : MayTExp) → IsReceiver class b o → is_present o ≡ not b
present class true Absent h = refl
present class true (Present e) h = absurd h
present class false Absent h = absurd h
present class false (Present e) h = refl

on_object : (class : ℕ) (b : Bool) (o : MayTExp) → IsReceiver class b o → MayBeObject class o
on_object class b Absent h = tt
on_object class true (Present e) h = absurd h
on_object class false (Present e) h = h

one_each : (ps : List ParamInfo) (es : TExps) → AreArguments ps es → how_many es ≡ length ps
one_each [] NoExps h = refl
one_each [] (More e es) h = absurd h
one_each (p ∷ ps) NoExps h = absurd h
one_each (p ∷ ps) (More e es) h = ap suc (one_each ps es h.1)

module _ (s : Setting) where
  -- ---- it names the classes and members that it should

  mutual
    unfolding ExpIsProper ExpNames

    pub exp_names : (set : List ℕ) (e : TExp) → ExpIsProper s set e → ExpNames s.table e
    exp_names set (Int n m) h = tt
    exp_names set (Boolean b m) h = tt
    exp_names set (Null m) h = tt
    exp_names set (This m) h = tt
    exp_names set (New class m) h = slice_get_within s.table.classes class h.info h.there
    exp_names set (Local x m) h = tt
    exp_names set (Static c f m) h = subst (IsField true) (sym h.there) h.kind
    exp_names set (Field e c f m) h =
        (h.0, subst (IsField false) (sym h.1.there) h.1.kind, exp_names set e h.2)
    exp_names set (Input c k m) h = subst (IsChannel true) (sym h.0.there) h.0.kind
    exp_names set (Output c k e m) h =
        (subst (IsChannel false) (sym h.0.there) h.0.kind, exp_names set e h.3)
    exp_names set (Call c k o es m) h =
        let i = h.0.info in (
          subst (λ f. IsCalled f o es) (sym h.0.there)
              (present c i.is_static o h.0.receiver, one_each i.params es h.0.arguments),
          on_object c i.is_static o h.0.receiver,
          may_exp_names set o h.1,
          exps_name set es h.2,
        )
    exp_names set (Neg e m) h = exp_names set e h.2
    exp_names set (Not e m) h = exp_names set e h.2
    exp_names set (Binary op a b m) h = (exp_names set a h.2, exp_names set b h.3)

    pub may_exp_names : (set : List ℕ) (o : MayTExp) → MayExpIsProper s set o
        → MayExpNames s.table o
    may_exp_names set Absent h = tt
    may_exp_names set (Present e) h = exp_names set e h

    pub exps_name : (set : List ℕ) (es : TExps) → ExpsAreProper s set es → ExpsName s.table es
    exps_name set NoExps h = tt
    exps_name set (More e es) h = (exp_names set e h.0, exps_name set es h.1)

  mutual
    unfolding StaIsProper StaNames

    pub sta_names : (looped : Bool) (set : List ℕ) (b : TSta) → StaIsProper s looped set b
        → StaNames s.table b
    sta_names looped set (Block bs at p) h = stas_name looped true set bs h
    sta_names looped set (If e b o at p) h =
        (exp_names set e h.1, sta_names looped set b h.2, else_names looped set o h.3)
    sta_names looped set (While e b at p) h = (exp_names set e h.1, sta_names true set b h.2)
    sta_names looped set (Try b cs at p) h =
        (sta_names looped set b h.0, catches_name looped set cs h.1)
    sta_names looped set (Return o at p) h = may_exp_names set o h.1
    sta_names looped set (Break at p) h = tt
    sta_names looped set (Continue at p) h = tt
    sta_names looped set (Throw class at p) h = subst IsException (sym h.there) h.exception
    sta_names looped set (Open lock at p) h = tt
    sta_names looped set (Close lock at p) h = tt
    sta_names looped set (SetLocal x policy e at p) h = exp_names set e h.1
    sta_names looped set (SetStatic c f e at p) h =
        (subst (IsField true) (sym h.0.there) h.0.kind, exp_names set e h.1)
    sta_names looped set (SetField o c f e at p) h = (
      h.0,
      subst (IsField false) (sym h.1.there) h.1.kind,
      exp_names set o h.2,
      exp_names set e h.3,
    )
    sta_names looped set (Eval e at p) h = exp_names set e h
    sta_names looped set (When lock b o at p) h =
        (sta_names looped set b h.1, else_names looped set o h.2)

    else_names : (looped : Bool) (set : List ℕ) (o : MayTSta) → ElseIsProper s looped set o
        → ElseNames s.table o
    else_names looped set NoElse h = tt
    else_names looped set (Otherwise b) h = sta_names looped set b h

    stas_name : (looped reached : Bool) (set : List ℕ) (bs : TStas)
        → AllAreProper s looped reached set bs → StasName s.table bs
    stas_name looped reached set End h = tt
    stas_name looped reached set (Then b bs) h =
        (sta_names looped set b h.1, stas_name looped (completes b) (behind set b) bs h.2)

    catches_name : (looped : Bool) (set : List ℕ) (cs : TCatches)
        → CatchesAreProper s looped set cs → CatchesName s.table cs
    catches_name looped set NoCatch h = tt
    catches_name looped set (Catch class b cs) h = (
      subst IsException (sym h.0.there) h.0.exception,
      sta_names looped set b h.1,
      catches_name looped set cs h.2,
    )

  -- ---- it makes objects of ordinary classes, and has `this` where there is a receiver

  mutual
    unfolding ExpIsProper ExpMakes

    pub exp_makes : (set : List ℕ) (e : TExp) → ExpIsProper s set e
        → ExpMakes s.table s.method.is_static e
    exp_makes set (Int n m) h = tt
    exp_makes set (Boolean b m) h = tt
    exp_makes set (Null m) h = tt
    exp_makes set (This m) h = h.instance
    exp_makes set (New class m) h = subst IsOrdinary (sym h.there) h.ordinary
    exp_makes set (Local x m) h = tt
    exp_makes set (Static c f m) h = tt
    exp_makes set (Field e c f m) h = exp_makes set e h.2
    exp_makes set (Input c k m) h = tt
    exp_makes set (Output c k e m) h = exp_makes set e h.3
    exp_makes set (Call c k o es m) h = (may_exp_makes set o h.1, exps_make set es h.2)
    exp_makes set (Neg e m) h = exp_makes set e h.2
    exp_makes set (Not e m) h = exp_makes set e h.2
    exp_makes set (Binary op a b m) h = (exp_makes set a h.2, exp_makes set b h.3)

    pub may_exp_makes : (set : List ℕ) (o : MayTExp) → MayExpIsProper s set o
        → MayExpMakes s.table s.method.is_static o
    may_exp_makes set Absent h = tt
    may_exp_makes set (Present e) h = exp_makes set e h

    pub exps_make : (set : List ℕ) (es : TExps) → ExpsAreProper s set es
        → ExpsMake s.table s.method.is_static es
    exps_make set NoExps h = tt
    exps_make set (More e es) h = (exp_makes set e h.0, exps_make set es h.1)

  mutual
    unfolding StaIsProper StaMakes

    pub sta_makes : (looped : Bool) (set : List ℕ) (b : TSta) → StaIsProper s looped set b
        → StaMakes s.table s.method.is_static b
    sta_makes looped set (Block bs at p) h = stas_make looped true set bs h
    sta_makes looped set (If e b o at p) h =
        (exp_makes set e h.1, sta_makes looped set b h.2, else_makes looped set o h.3)
    sta_makes looped set (While e b at p) h = (exp_makes set e h.1, sta_makes true set b h.2)
    sta_makes looped set (Try b cs at p) h =
        (sta_makes looped set b h.0, catches_make looped set cs h.1)
    sta_makes looped set (Return o at p) h = may_exp_makes set o h.1
    sta_makes looped set (Break at p) h = tt
    sta_makes looped set (Continue at p) h = tt
    sta_makes looped set (Throw class at p) h = tt
    sta_makes looped set (Open lock at p) h = tt
    sta_makes looped set (Close lock at p) h = tt
    sta_makes looped set (SetLocal x policy e at p) h = exp_makes set e h.1
    sta_makes looped set (SetStatic c f e at p) h = exp_makes set e h.1
    sta_makes looped set (SetField o c f e at p) h = (exp_makes set o h.2, exp_makes set e h.3)
    sta_makes looped set (Eval e at p) h = exp_makes set e h
    sta_makes looped set (When lock b o at p) h =
        (sta_makes looped set b h.1, else_makes looped set o h.2)

    else_makes : (looped : Bool) (set : List ℕ) (o : MayTSta) → ElseIsProper s looped set o
        → ElseMakes s.table s.method.is_static o
    else_makes looped set NoElse h = tt
    else_makes looped set (Otherwise b) h = sta_makes looped set b h

    stas_make : (looped reached : Bool) (set : List ℕ) (bs : TStas)
        → AllAreProper s looped reached set bs → StasMake s.table s.method.is_static bs
    stas_make looped reached set End h = tt
    stas_make looped reached set (Then b bs) h =
        (sta_makes looped set b h.1, stas_make looped (completes b) (behind set b) bs h.2)

    catches_make : (looped : Bool) (set : List ℕ) (cs : TCatches)
        → CatchesAreProper s looped set cs → CatchesMake s.table s.method.is_static cs
    catches_make looped set NoCatch h = tt
    catches_make looped set (Catch class b cs) h =
        (sta_makes looped set b h.1, catches_make looped set cs h.2)

  -- ---- whatever is true of locals that are set, and of locks that are asked for

  module _ (Set Asked : ℕ → Type 0)
      (each_set : (x : ℕ) (policy : Option ℕ) (e : TExp) → SetsLocal s x policy e → Set x)
      (each_asked : (lock : ℕ) → AsksLock s lock → Asked lock) where
    mutual
      unfolding StaIsProper StaUses

      pub sta_uses : (looped : Bool) (set : List ℕ) (b : TSta) → StaIsProper s looped set b
          → StaUses Set Asked b
      sta_uses looped set (Block bs at p) h = stas_use looped true set bs h
      sta_uses looped set (If e b o at p) h =
          (sta_uses looped set b h.2, else_uses looped set o h.3)
      sta_uses looped set (While e b at p) h = sta_uses true set b h.2
      sta_uses looped set (Try b cs at p) h =
          (sta_uses looped set b h.0, catches_use looped set cs h.1)
      sta_uses looped set (Return o at p) h = tt
      sta_uses looped set (Break at p) h = tt
      sta_uses looped set (Continue at p) h = tt
      sta_uses looped set (Throw class at p) h = tt
      sta_uses looped set (Open lock at p) h = tt
      sta_uses looped set (Close lock at p) h = tt
      sta_uses looped set (SetLocal x policy e at p) h = each_set x policy e h.0
      sta_uses looped set (SetStatic c f e at p) h = tt
      sta_uses looped set (SetField o c f e at p) h = tt
      sta_uses looped set (Eval e at p) h = tt
      sta_uses looped set (When lock b o at p) h =
          (each_asked lock h.0, sta_uses looped set b h.1, else_uses looped set o h.2)

      else_uses : (looped : Bool) (set : List ℕ) (o : MayTSta) → ElseIsProper s looped set o
          → ElseUses Set Asked o
      else_uses looped set NoElse h = tt
      else_uses looped set (Otherwise b) h = sta_uses looped set b h

      stas_use : (looped reached : Bool) (set : List ℕ) (bs : TStas)
          → AllAreProper s looped reached set bs → StasUse Set Asked bs
      stas_use looped reached set End h = tt
      stas_use looped reached set (Then b bs) h =
          (sta_uses looped set b h.1, stas_use looped (completes b) (behind set b) bs h.2)

      catches_use : (looped : Bool) (set : List ℕ) (cs : TCatches)
          → CatchesAreProper s looped set cs → CatchesUse Set Asked cs
      catches_use looped set NoCatch h = tt
      catches_use looped set (Catch class b cs) h =
          (sta_uses looped set b h.1, catches_use looped set cs h.2)

-- ---- bodies

with_policy : (s : Setting) (lock : ℕ) → AsksLock s lock
    → HasPolicy (slice_get s.table.locks lock)
with_policy s lock h = subst HasPolicy (sym h.there) (h.policy, h.said)

pub proper_bodies_name_members : ProperBodiesNameMembers
proper_bodies_name_members table b (m, sures, h) =
    sta_names (record { table = table; class = b.class; method = m; sures = sures }) false
    (set_by_call m) b.body h.code

pub proper_bodies_make_objects : ProperBodiesMakeObjects
proper_bodies_make_objects table b (m, sures, h) =
    let s : Setting = record { table = table; class = b.class; method = m; sures = sures } in
    (m, record { method = h.method; makes = sta_makes s false (set_by_call m) b.body h.code })

pub proper_bodies_leave_this : ProperBodiesLeaveThis
proper_bodies_leave_this table b (m, sures, h) =
    let s : Setting = record { table = table; class = b.class; method = m; sures = sures } in (
      m,
      record {
        method = h.method;
        uses =
            sta_uses s (IsNotThis m.is_static) (λ lock. HasPolicy (slice_get table.locks lock))
            (λ x policy e is. is.leaves_this) (with_policy s) false (set_by_call m) b.body h.code;
      },
    )
