-- The classes that the frames of a body name are those of its table.
use Rattle.std.proofs.Common.{◌≡◌, ℕ, ◌+◌, ◌-◌, ◌<◌, Bool, true, false, List, [], ◌∷◌, ◌++◌, map}
use Rattle.std.proofs.Common.{length, Option, Some, None, refl, subst, take}
use Rattle.std.specs.Prelude.{slice_get, replicate}
use Rattle.std.specs.List.{AllByRecursion}
use Rattle.std.proofs.lemmas.List.Elements.{All-from_recursion, recursion_from_All, All-append}
use Rattle.std.proofs.lemmas.List.Elements.{All-set, All-take, All-replicate}
use Rattle.std.proofs.lemmas.Option.{slice_get_within, get_or_from_slice_get}
use Rattle.par_typed.specs.declared.ty.Ty.{Ty}
use Rattle.par_typed.specs.declared.ty.Ty.TheVariants as ty
use Rattle.par_typed.specs.declared.table.MethodInfo.{MethodInfo}
use Rattle.par_typed.specs.Plain.{mark, TExp, Int, Boolean, Null, This, New, Local, Static}
use Rattle.par_typed.specs.Plain.{Field, Input, Output, Call, Neg, Not, Binary}
use Rattle.par_typed.specs.Plain.{MayTExp, Absent, Present, TExps, NoExps, More}
use Rattle.par_typed.specs.Plain.{TSta, Block, If, While, Try, Return, Break, Continue, Throw, Open}
use Rattle.par_typed.specs.Plain.{Close, SetLocal, SetStatic, SetField, Eval, When}
use Rattle.par_typed.specs.Plain.{MayTSta, NoElse, Otherwise, TStas, End, Then, TCatches, NoCatch}
use Rattle.par_typed.specs.Plain.{Catch}
use Rattle.par_typed_laws.specs.par_completes.Typed.{completes, is_true}
use Rattle.par_code_form.specs.declared.labelled.LabelFrame.{LabelFrame}
use Rattle.par_code_form.specs.Code.{Words, Shape, Calculates, Compares, Sames}
use Rattle.par_code_form.specs.Code.{Decides, shape_of}
use Rattle.par_code_form.specs.Code.{shape_labels, expr_labels, may_labels, labels}
use Rattle.par_code_form.specs.Again.{goes_again}
use Rattle.par_code_form.specs.Frames.{Types, declared_type, with_local}
use Rattle.par_code_form.specs.Frames.{scope_behind}
use Rattle.par_code_form.specs.Frames.{with_operand, with_receiver, below, slot}
use Rattle.par_code_form.specs.Frames.{frame, frame_if}
use Rattle.par_code_form.specs.Frames.{test_frames, shape_frames, expr_frames}
use Rattle.par_code_form.specs.Frames.{may_frames}
use Rattle.par_code_form.specs.Frames.{args_frames, loop_frames, frames}
use Rattle.par_code_form.specs.Frames.{else_frames, all_frames}
use Rattle.par_code_form.specs.Frames.{catch_frames}
use Rattle.par_code_form.specs.Method.{first_scope, set_by_call}
use Rattle.par_source_code_laws.specs.Slots.{IsOfClass, IsOfClasses}

-- a class below this number, or no class
abbrev pub IsBelow : ℕ → Ty → Type 0
IsBelow n ty.Int = Unit {0}
IsBelow n ty.Boolean = Unit {0}
IsBelow n (ty.Class c) = c < n
IsBelow n ty.Null = Unit {0}
IsBelow n ty.Void = Unit {0}

-- ---- the types of values

module _ (n : ℕ) where
  abbrev pub Below : Types → Type 0
  Below ts = AllByRecursion (IsBelow n) ts

  abbrev pub HasBelow : TExp → Type 0
  HasBelow e = IsBelow n (mark e).ty

  unfoldable mutual
    pub ExpIsBelow : TExp → Type 0
    ExpIsBelow (Int v m) = Unit {0}
    ExpIsBelow (Boolean b m) = Unit {0}
    ExpIsBelow (Null m) = Unit {0}
    ExpIsBelow (This m) = Unit {0}
    ExpIsBelow (New c m) = Unit {0}
    ExpIsBelow (Local x m) = Unit {0}
    ExpIsBelow (Static c f m) = Unit {0}
    ExpIsBelow (Field e c f m) = ExpIsBelow e
    ExpIsBelow (Input c k m) = Unit {0}
    ExpIsBelow (Output c k e m) = ExpIsBelow e
    ExpIsBelow (Call c k o es m) = MayIsBelow o × ArgsAreBelow es
    ExpIsBelow (Neg e m) = ExpIsBelow e
    ExpIsBelow (Not e m) = ExpIsBelow e
    ExpIsBelow (Binary op a b m) = HasBelow a × ExpIsBelow a × ExpIsBelow b

    pub MayIsBelow : MayTExp → Type 0
    MayIsBelow Absent = Unit {0}
    MayIsBelow (Present e) = HasBelow e × ExpIsBelow e

    pub ArgsAreBelow : TExps → Type 0
    ArgsAreBelow NoExps = Unit {0}
    ArgsAreBelow (More e es) = HasBelow e × ExpIsBelow e × ArgsAreBelow es

  unfoldable mutual
    pub StaIsBelow : TSta → Type 0
    StaIsBelow (Block ss at p) = AllAreBelow ss
    StaIsBelow (If e s o at p) = ExpIsBelow e × StaIsBelow s × ElseIsBelow o
    StaIsBelow (While e s at p) = ExpIsBelow e × StaIsBelow s
    StaIsBelow (Try s cs at p) = StaIsBelow s × CatchesAreBelow cs
    StaIsBelow (Return o at p) = MayIsBelow o
    StaIsBelow (Break at p) = Unit {0}
    StaIsBelow (Continue at p) = Unit {0}
    StaIsBelow (Throw c at p) = Unit {0}
    StaIsBelow (Open l at p) = Unit {0}
    StaIsBelow (Close l at p) = Unit {0}
    StaIsBelow (SetLocal x q e at p) = ExpIsBelow e
    StaIsBelow (SetStatic c f e at p) = ExpIsBelow e
    StaIsBelow (SetField o c f e at p) = HasBelow o × ExpIsBelow o × ExpIsBelow e
    StaIsBelow (Eval e at p) = ExpIsBelow e
    StaIsBelow (When l s o at p) = StaIsBelow s × ElseIsBelow o

    pub ElseIsBelow : MayTSta → Type 0
    ElseIsBelow NoElse = Unit {0}
    ElseIsBelow (Otherwise s) = StaIsBelow s

    pub AllAreBelow : TStas → Type 0
    AllAreBelow End = Unit {0}
    AllAreBelow (Then s ss) = StaIsBelow s × AllAreBelow ss

    pub CatchesAreBelow : TCatches → Type 0
    CatchesAreBelow NoCatch = Unit {0}
    CatchesAreBelow (Catch c s cs) = (c < n) × StaIsBelow s × CatchesAreBelow cs

  -- ---- scopes and operands

  one_more : (ts : Types) (t : Ty) → Below ts → IsBelow n t → Below (ts ++ t ∷ [])
  one_more [] t h k = (k, tt)
  one_more (u ∷ ts) t h k = (h.0, one_more ts t h.1 k)

  at : (ts : Types) (x : ℕ) → Below ts → IsBelow n (declared_type (slice_get ts x))
  at ts x h = pick (slice_get ts x) refl
    where
      pick : (o : Option Ty) → slice_get ts x ≡ o → IsBelow n (declared_type o)
      pick None e = tt
      pick (Some u) e =
          subst (IsBelow n) (get_or_from_slice_get ts x u u e)
          (All-from_recursion (IsBelow n) ts h x u (slice_get_within ts x u e))

  with_one : (d : Types) (x : ℕ) (scope : Types) → Below d → Below scope
      → Below (with_local d x scope)
  with_one d x scope h k =
      recursion_from_All (IsBelow n) (with_local d x scope)
      (All-set (IsBelow n) scope x (declared_type (slice_get d x)) (at d x h)
      (All-from_recursion (IsBelow n) scope k))

  behind_below : (d : Types) (s : TSta) (scope : Types) → Below d → Below scope
      → Below (scope_behind d s scope)
  behind_below d (Block ss at p) scope h k = k
  behind_below d (If e s o at p) scope h k = k
  behind_below d (While e s at p) scope h k = k
  behind_below d (Try s cs at p) scope h k = k
  behind_below d (Return o at p) scope h k = k
  behind_below d (Break at p) scope h k = k
  behind_below d (Continue at p) scope h k = k
  behind_below d (Throw c at p) scope h k = k
  behind_below d (Open l at p) scope h k = k
  behind_below d (Close l at p) scope h k = k
  behind_below d (SetLocal x q e at p) scope h k = with_one d x scope h k
  behind_below d (SetStatic c f e at p) scope h k = k
  behind_below d (SetField o c f e at p) scope h k = k
  behind_below d (Eval e at p) scope h k = k
  behind_below d (When l s o at p) scope h k = k

  pub first_below : (m : MethodInfo) → Below m.locals → Below (first_scope m)
  first_below m h =
      recursion_from_All (IsBelow n) (first_scope m)
      (All-append (IsBelow n) (take (set_by_call m) m.locals)
      (replicate (length m.locals - set_by_call m) ty.Void)
      (All-take (IsBelow n) (set_by_call m) m.locals (All-from_recursion (IsBelow n) m.locals h))
      (All-replicate (IsBelow n) (length m.locals - set_by_call m) ty.Void tt))

  module _ (w : Words) where
    slot_of : (t : Ty) → IsBelow n t → IsOfClass w n (slot w t)
    slot_of ty.Int h = tt
    slot_of ty.Boolean h = tt
    slot_of (ty.Class c) h = (c, h, refl)
    slot_of ty.Null h = tt
    slot_of ty.Void h = tt

    slots_of : (ts : Types) → Below ts → AllByRecursion (IsOfClass w n) (map (slot w) ts)
    slots_of [] h = tt
    slots_of (t ∷ ts) h = (slot_of t h.0, slots_of ts h.1)

    abbrev pub AllOf : List LabelFrame → Type 0
    AllOf fs = AllByRecursion (IsOfClasses w n) fs

    one : (l : ℕ) (scope os : Types) → Below scope → Below os → IsOfClasses w n (frame w l scope os)
    one l scope os h k = record { locals = slots_of scope h; stack = slots_of os k }

    one_if : (b : Bool) (l : ℕ) (scope : Types) (fk : List LabelFrame) → Below scope → AllOf fk
        → AllOf (frame_if w b l scope fk)
    one_if true l scope fk h g = (one l scope [] h tt, g)
    one_if false l scope fk h g = g

    tests : (l : ℕ) (scope os : Types) (fk : List LabelFrame) → Below scope → Below os → AllOf fk
        → AllOf (test_frames w l scope os fk)
    tests l scope os fk h k g = (
      one l scope os h k,
      (one (l + 1) scope (os ++ ty.Boolean ∷ []) h (one_more os ty.Boolean k tt), g),
    )

    shapes : (s : Shape) (l : ℕ) (scope os : Types) (fk : List LabelFrame) → Below scope
        → Below os → AllOf fk → AllOf (shape_frames w s l scope os fk)
    shapes (Calculates o i) l scope os fk h k g = g
    shapes (Compares t) l scope os fk h k g = tests l scope os fk h k g
    shapes (Sames b) l scope os fk h k g = tests l scope os fk h k g
    shapes (Decides o) l scope os fk h k g =
        (one l scope (os ++ ty.Boolean ∷ []) h (one_more os ty.Boolean k tt), g)

    below_second : (s : Shape) (os : Types) (a : TExp) → Below os → HasBelow a
        → Below (below s os a)
    below_second (Calculates o i) os a h k = one_more os (mark a).ty h k
    below_second (Compares t) os a h k = one_more os (mark a).ty h k
    below_second (Sames b) os a h k = one_more os (mark a).ty h k
    below_second (Decides o) os a h k = h

    received : (os : Types) (o : MayTExp) → Below os → MayIsBelow o → Below (with_receiver os o)
    unfolding MayIsBelow
    received os Absent h k = h
    received os (Present e) h k = one_more os (mark e).ty h k.0

    mutual
      unfolding expr_frames ExpIsBelow

      exprs : (e : TExp) (l : ℕ) (scope os : Types) (fk : List LabelFrame) → ExpIsBelow e
          → Below scope → Below os → AllOf fk → AllOf (expr_frames w e l scope os fk)
      exprs (Int v m) l scope os fk x h k g = g
      exprs (Boolean b m) l scope os fk x h k g = g
      exprs (Null m) l scope os fk x h k g = g
      exprs (This m) l scope os fk x h k g = g
      exprs (New c m) l scope os fk x h k g = g
      exprs (Local y m) l scope os fk x h k g = g
      exprs (Static c f m) l scope os fk x h k g = g
      exprs (Field e c f m) l scope os fk x h k g = exprs e l scope os fk x h k g
      exprs (Input c i m) l scope os fk x h k g = g
      exprs (Output c i e m) l scope os fk x h k g = exprs e l scope os fk x h k g
      exprs (Call c i o es m) l scope os fk x h k g =
          mays o l scope os _ x.0 h k
          (args es (may_labels o l) scope (with_receiver os o) fk x.1 h (received os o k x.0) g)
      exprs (Neg e m) l scope os fk x h k g = exprs e l scope os fk x h k g
      exprs (Not e m) l scope os fk x h k g =
          exprs e (l + 2) scope os _ x h k (tests l scope os fk h k g)
      exprs (Binary op a b m) l scope os fk x h k g =
          let s = shape_of op a in
          let i = l + shape_labels s in
          exprs a i scope os _ x.1 h k
          (exprs b (expr_labels a i) scope (below s os a) _ x.2 h (below_second s os a k x.0)
          (shapes s l scope os fk h k g))

      mays : (o : MayTExp) (l : ℕ) (scope os : Types) (fk : List LabelFrame) → MayIsBelow o
          → Below scope → Below os → AllOf fk → AllOf (may_frames w o l scope os fk)
      mays Absent l scope os fk x h k g = g
      mays (Present e) l scope os fk x h k g = exprs e l scope os fk x.1 h k g

      args : (es : TExps) (l : ℕ) (scope os : Types) (fk : List LabelFrame) → ArgsAreBelow es
          → Below scope → Below os → AllOf fk → AllOf (args_frames w es l scope os fk)
      args NoExps l scope os fk x h k g = g
      args (More e es) l scope os fk x h k g =
          exprs e l scope os _ x.1 h k
          (args es (expr_labels e l) scope (with_operand os e) fk x.2 h
          (one_more os (mark e).ty k x.0) g)

    loops : (b : Bool) (e : TExp) (l : ℕ) (scope : Types) (fk : List LabelFrame) → ExpIsBelow e
        → Below scope → AllOf fk → AllOf (loop_frames w b e l scope fk)
    loops true e l scope fk x h g = g
    loops false e l scope fk x h g = exprs e l scope [] fk x h tt g

    module _ (d : Types) (known : Below d) where
      mutual
        unfolding frames StaIsBelow

        pub frames_below : (s : TSta) (l : ℕ) (scope : Types) (fk : List LabelFrame) → StaIsBelow s
            → Below scope → AllOf fk → AllOf (frames w d s l scope fk)
        frames_below (Block ss at p) l scope fk x h g = alls ss l scope fk x h g
        frames_below (If e s o at p) l scope fk x h g =
            let i = expr_labels e (l + 2) in
            exprs e (l + 2) scope [] _ x.0 h tt
            (frames_below s i scope _ x.1 h (
              one l scope [] h tt,
              elses o (labels s i) scope _ x.2 h (one_if (completes s) (l + 1) scope fk h g),
            ))
        frames_below (While e s at p) l scope fk x h g =
            one_if (goes_again s) l scope _ h
            (loops (is_true e) e (l + 2) scope _ x.0 h
            (frames_below s (expr_labels e (l + 2)) scope _ x.1 h
            (one_if (completes (While e s at p)) (l + 1) scope fk h g)))
        frames_below (Try s cs at p) l scope fk x h g =
            frames_below s (l + 3) scope _ x.0 h
            (catches cs (labels s (l + 3)) scope _ x.1 h
            (one_if (completes (Try s cs at p)) (l + 2) scope fk h g))
        frames_below (Return o at p) l scope fk x h g = mays o l scope [] fk x h tt g
        frames_below (Break at p) l scope fk x h g = g
        frames_below (Continue at p) l scope fk x h g = g
        frames_below (Throw c at p) l scope fk x h g = g
        frames_below (Open i at p) l scope fk x h g = g
        frames_below (Close i at p) l scope fk x h g = g
        frames_below (SetLocal y q e at p) l scope fk x h g = exprs e l scope [] fk x h tt g
        frames_below (SetStatic c f e at p) l scope fk x h g = exprs e l scope [] fk x h tt g
        frames_below (SetField o c f e at p) l scope fk x h g =
            exprs o l scope [] _ x.1 h tt
            (exprs e (expr_labels o l) scope (with_operand [] o) fk x.2 h (x.0, tt) g)
        frames_below (Eval e at p) l scope fk x h g = exprs e l scope [] fk x h tt g
        frames_below (When i s o at p) l scope fk x h g =
            frames_below s (l + 2) scope _ x.0 h (
              one l scope [] h tt,
              elses o (labels s (l + 2)) scope _ x.1 h (one_if (completes s) (l + 1) scope fk h g),
            )

        elses : (o : MayTSta) (l : ℕ) (scope : Types) (fk : List LabelFrame) → ElseIsBelow o
            → Below scope → AllOf fk → AllOf (else_frames w d o l scope fk)
        elses NoElse l scope fk x h g = g
        elses (Otherwise s) l scope fk x h g = frames_below s l scope fk x h g

        alls : (ss : TStas) (l : ℕ) (scope : Types) (fk : List LabelFrame) → AllAreBelow ss
            → Below scope → AllOf fk → AllOf (all_frames w d ss l scope fk)
        alls End l scope fk x h g = g
        alls (Then s ss) l scope fk x h g =
            frames_below s l scope _ x.0 h
            (alls ss (labels s l) (scope_behind d s scope) fk x.1
            (behind_below d s scope known h) g)

        catches : (cs : TCatches) (l : ℕ) (scope : Types) (fk : List LabelFrame)
            → CatchesAreBelow cs → Below scope → AllOf fk → AllOf (catch_frames w d cs l scope fk)
        catches NoCatch l scope fk x h g = g
        catches (Catch c s cs) l scope fk x h g = (
          one l scope (ty.Class c ∷ []) h (x.0, tt),
          frames_below s (l + 1) scope _ x.1 h (catches cs (labels s (l + 1)) scope fk x.2 h g),
        )
