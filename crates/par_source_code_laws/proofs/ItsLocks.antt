-- Code names the locks of its body alone.
use Rattle.std.proofs.Common.{ℕ, ◌+◌, Bool, true, false, List}
use Rattle.std.specs.List.{AllByRecursion}
use Rattle.par_typed.specs.declared.ty.Ty.{Ty}
use Rattle.par_typed.specs.declared.ty.Ty.TheVariants as ty
use Rattle.par_typed.specs.Plain.{mark, TExp, Int, Boolean, Null, This, New, Local, Static}
use Rattle.par_typed.specs.Plain.{Field, Input, Output, Call, Neg, Not, Binary}
use Rattle.par_typed.specs.Plain.{MayTExp, Absent, Present, TExps, NoExps, More}
use Rattle.par_typed.specs.Plain.{TSta, Block, If, While, Try, Return, Break, Continue, Throw, Open}
use Rattle.par_typed.specs.Plain.{Close, SetLocal, SetStatic, SetField, Eval, When}
use Rattle.par_typed.specs.Plain.{MayTSta, NoElse, Otherwise, TStas, End, Then, TCatches, NoCatch}
use Rattle.par_typed.specs.Plain.{Catch}
use Rattle.std.specs.Prelude.{nat_le, if◌then◌else◌}
use Rattle.par_typed_laws.specs.par_completes.Typed.{completes, is_true}
use Rattle.par_evaluation_laws.specs.par_code_form.declared.item.Item.{Item}
use Rattle.par_evaluation_laws.specs.par_code_form.Code.{Words, Shape, Calculates, Compares, Sames}
use Rattle.par_evaluation_laws.specs.par_code_form.Code.{Decides, shape_of}
use Rattle.par_evaluation_laws.specs.par_code_form.Code.{shape_labels, shape_code, between}
use Rattle.par_evaluation_laws.specs.par_code_form.Code.{expr_labels}
use Rattle.par_evaluation_laws.specs.par_code_form.Code.{may_labels}
use Rattle.par_evaluation_laws.specs.par_code_form.Code.{expr_code, may_code, args_code, load}
use Rattle.par_evaluation_laws.specs.par_code_form.Code.{is_number}
use Rattle.par_evaluation_laws.specs.par_code_form.Code.{labels, Loop, give_back, dropped, goes_on}
use Rattle.par_evaluation_laws.specs.par_code_form.Code.{loop_test, store}
use Rattle.par_evaluation_laws.specs.par_code_form.Code.{code, else_code, all_code, catch_code}
use Rattle.par_evaluation_laws.specs.par_code_form.Code.{no_loop}
use Rattle.par_evaluation_laws.specs.par_code_form.Code.{ending}
use Rattle.par_source_code_laws.specs.Named.{EachInSta, EachInElse, EachInStas, EachInCatches}
use Rattle.par_source_code_laws.specs.Named.{Named}
use Rattle.par_source_code_laws.specs.Items.{ItemLockPasses, LockPasses}
use Rattle.par_source_code_laws.specs.Laws.{CodeUsesItsLocks}

module _ (locks : ℕ → Bool) (w : Words) where
  abbrev P : Named → Type 0
  P = LockPasses locks

  abbrev Items : List Item → Type 0
  Items = AllByRecursion (ItemLockPasses locks)

  -- ---- single items

  short : (b : Bool) (i j : Item) → ItemLockPasses locks i → ItemLockPasses locks j
      → ItemLockPasses locks (if b then i else j)
  short true i j h g = h
  short false i j h g = g

  loads : (t : Ty) (x : ℕ) → ItemLockPasses locks (load t x)
  loads t x =
      short (is_number t) _ _ (short (nat_le x 3) _ _ tt tt) (short (nat_le x 3) _ _ tt tt)

  stores : (t : Ty) (x : ℕ) → ItemLockPasses locks (store t x)
  stores t x =
      short (is_number t) _ _ (short (nat_le x 3) _ _ tt tt) (short (nat_le x 3) _ _ tt tt)

  gives : (t : Ty) → ItemLockPasses locks (give_back t)
  gives t = short (is_number t) _ _ tt tt

  shapes : (s : Shape) (n : ℕ) (k : List Item) → Items k → Items (shape_code s n k)
  shapes (Calculates o i) n k h = (tt, h)
  shapes (Compares t) n k h = (tt, (tt, (tt, (tt, (tt, (tt, h))))))
  shapes (Sames b) n k h = (tt, (tt, (tt, (tt, (tt, (tt, h))))))
  shapes (Decides o) n k h = (tt, h)

  betweens : (s : Shape) (n : ℕ) (k : List Item) → Items k → Items (between s n k)
  betweens (Calculates o i) n k h = h
  betweens (Compares t) n k h = h
  betweens (Sames b) n k h = h
  betweens (Decides o) n k h = (tt, (tt, (tt, h)))

  jumps : (b : Bool) (l : ℕ) (k : List Item) → Items k → Items (goes_on b l k)
  jumps true l k h = (tt, h)
  jumps false l k h = h

  drops : (t : Ty) (k : List Item) → Items k → Items (dropped t k)
  drops ty.Int k h = (tt, h)
  drops ty.Boolean k h = (tt, h)
  drops (ty.Class c) k h = (tt, h)
  drops ty.Null k h = (tt, h)
  drops ty.Void k h = h

  -- ---- expressions

  mutual
    unfolding expr_code

    exps : (e : TExp) (n : ℕ) (k : List Item) → Items k → Items (expr_code w e n k)
    exps (Int v m) n k h = (tt, h)
    exps (Boolean true m) n k h = (tt, h)
    exps (Boolean false m) n k h = (tt, h)
    exps (Null m) n k h = (tt, h)
    exps (This m) n k h = (tt, h)
    exps (New c m) n k h = (tt, (tt, (tt, h)))
    exps (Local x m) n k h = (loads m.ty x, h)
    exps (Static c f m) n k h = (tt, h)
    exps (Field e c f m) n k h = exps e n _ (tt, h)
    exps (Input c i m) n k h = (tt, h)
    exps (Output c i e m) n k h = exps e n _ (tt, h)
    exps (Call c i o es m) n k h = mays o n _ (args es (may_labels o n) _ (tt, h))
    exps (Neg e m) n k h = exps e n _ (tt, h)
    exps (Not e m) n k h = exps e (n + 2) _ (tt, (tt, (tt, (tt, (tt, (tt, h))))))
    exps (Binary op a b m) n k h =
        let s = shape_of op a in
        let l = n + shape_labels s in
        exps a l _ (betweens s n _ (exps b (expr_labels a l) _ (shapes s n k h)))

    mays : (o : MayTExp) (n : ℕ) (k : List Item) → Items k → Items (may_code w o n k)
    mays Absent n k h = h
    mays (Present e) n k h = exps e n k h

    args : (es : TExps) (n : ℕ) (k : List Item) → Items k → Items (args_code w es n k)
    args NoExps n k h = h
    args (More e es) n k h = exps e n _ (args es (expr_labels e n) k h)

  -- ---- statements

  tests : (b : Bool) (e : TExp) (n out : ℕ) (k : List Item) → Items k
      → Items (loop_test w b e n out k)
  tests true e n out k h = h
  tests false e n out k h = exps e n _ (tt, h)

  mutual
    unfolding code EachInSta

    stas : (s : TSta) (l : Loop) (n : ℕ) (k : List Item) → EachInSta P s → Items k
        → Items (code w s l n k)
    stas (Block ss at p) l n k g h = alls ss l n k g h
    stas (If e s o at p) l n k g h =
        let i = expr_labels e (n + 2) in
        exps e (n + 2) _ (
          tt,
          stas s l i _ g.1 (jumps (completes s) (n + 1) _ (
            tt,
            elses o l (labels s i) _ g.2 (tt, h),
          )),
        )
    stas (While e s at p) l n k g h = (
      tt,
      tests (is_true e) e (n + 2) (n + 1) _
          (stas s (record { out = n + 1; again = n }) (expr_labels e (n + 2)) _ g.1
          (jumps (completes s) n _ (tt, h))),
    )
    stas (Try s cs at p) l n k g h = (
      tt,
      stas s l (n + 3) _ g.0
          (jumps (completes s) (n + 2) _ (
            tt,
            catches cs l (n + 2) (labels s (n + 3)) _ g.1
                (tt, h),
          )),
    )
    stas (Return Absent at p) l n k g h = (tt, h)
    stas (Return (Present e) at p) l n k g h = exps e n _ (gives (mark e).ty, h)
    stas (Break at p) l n k g h = (tt, h)
    stas (Continue at p) l n k g h = (tt, h)
    stas (Throw c at p) l n k g h = (tt, (tt, (tt, (tt, h))))
    stas (Open i at p) l n k g h = (tt, (g, h))
    stas (Close i at p) l n k g h = (tt, (g, h))
    stas (SetLocal x q e at p) l n k g h = exps e n _ (stores (mark e).ty x, h)
    stas (SetStatic c f e at p) l n k g h = exps e n _ (tt, h)
    stas (SetField o c f e at p) l n k g h = exps o n _ (exps e (expr_labels o n) _ (tt, h))
    stas (Eval e at p) l n k g h = exps e n _ (drops (mark e).ty k h)
    stas (When i s o at p) l n k g h = (
      g.0,
      (
        tt,
        stas s l (n + 2) _ g.1
            (jumps (completes s) (n + 1) _ (tt, elses o l (labels s (n + 2)) _ g.2 (tt, h))),
      ),
    )

    elses : (o : MayTSta) (l : Loop) (n : ℕ) (k : List Item) → EachInElse P o → Items k
        → Items (else_code w o l n k)
    elses NoElse l n k g h = h
    elses (Otherwise s) l n k g h = stas s l n k g h

    alls : (ss : TStas) (l : Loop) (n : ℕ) (k : List Item) → EachInStas P ss → Items k
        → Items (all_code w ss l n k)
    alls End l n k g h = h
    alls (Then s ss) l n k g h = stas s l n _ g.0 (alls ss l (labels s n) k g.1 h)

    catches : (cs : TCatches) (l : Loop) (end n : ℕ) (k : List Item) → EachInCatches P cs
        → Items k → Items (catch_code w cs l end n k)
    catches NoCatch l end n k g h = h
    catches (Catch c s cs) l end n k g h = (
      tt,
      (
        tt,
        stas s l (n + 1) _ g.1
            (jumps (completes s) end _ (catches cs l end (labels s (n + 1)) k g.2 h)),
      ),
    )

  ends : (b : Bool) → Items (ending b)
  ends true = (tt, tt)
  ends false = tt

pub code_uses_its_locks : CodeUsesItsLocks
code_uses_its_locks locks w s named =
    stas locks w s no_loop 0 (ending (completes s)) named (ends locks w (completes s))
