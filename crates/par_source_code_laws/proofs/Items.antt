-- The classes and locks that a body names are named by its code.
use Rattle.std.proofs.Common.{◌≡◌, ℕ, ◌+◌, Bool, true, false, List, [], ◌∷◌, refl}
use Rattle.std.specs.List.{AllByRecursion}
use Rattle.std.specs.Prelude.{codes}
use Rattle.par_typed.specs.declared.ty.Ty.{Ty}
use Rattle.par_typed.specs.declared.ty.Ty.TheVariants as ty
use Rattle.par_typed.specs.Plain.{mark, TExp, Int, Boolean, Null, This, New, Local, Static}
use Rattle.par_typed.specs.Plain.{Field, Input, Output, Call, Neg, Not, Binary}
use Rattle.par_typed.specs.Plain.{MayTExp, Absent, Present, TExps, NoExps, More}
use Rattle.par_typed.specs.Plain.{TSta, Block, If, While, Try, Return, Break, Continue, Throw, Open}
use Rattle.par_typed.specs.Plain.{Close, SetLocal, SetStatic, SetField, Eval, When}
use Rattle.par_typed.specs.Plain.{MayTSta, NoElse, Otherwise, TStas, End, Then, TCatches, NoCatch}
use Rattle.par_typed.specs.Plain.{Catch}
use Rattle.par_values.specs.Areas.{Name}
use Rattle.par_typed_laws.specs.par_completes.Typed.{completes, is_true}
use Rattle.par_evaluation_laws.specs.par_code_form.declared.item.Item.{Item}
use Rattle.par_evaluation_laws.specs.par_code_form.declared.item.Item.TheVariants.{Label, Jump}
use Rattle.par_evaluation_laws.specs.par_code_form.declared.item.Item.TheVariants.{Member}
use Rattle.par_evaluation_laws.specs.par_code_form.declared.labelled.Handler.{Handler}
use Rattle.par_evaluation_laws.specs.par_code_form.Opcodes.{IFEQ, GETFIELD, PUTFIELD, PUTSTATIC}
use Rattle.par_evaluation_laws.specs.par_code_form.Opcodes.{INVOKESTATIC}
use Rattle.par_evaluation_laws.specs.par_code_form.Code.{Words, Shape, Calculates, Compares, Sames}
use Rattle.par_evaluation_laws.specs.par_code_form.Code.{Decides, shape_of}
use Rattle.par_evaluation_laws.specs.par_code_form.Code.{shape_labels, shape_code, between}
use Rattle.par_evaluation_laws.specs.par_code_form.Code.{expr_labels}
use Rattle.par_evaluation_laws.specs.par_code_form.Code.{may_labels}
use Rattle.par_evaluation_laws.specs.par_code_form.Code.{expr_code, may_code, args_code, invoke}
use Rattle.par_evaluation_laws.specs.par_code_form.Code.{test_code}
use Rattle.par_evaluation_laws.specs.par_code_form.Code.{labels, Loop, give_back}
use Rattle.par_evaluation_laws.specs.par_code_form.Code.{dropped, goes_on, loop_test, store, code}
use Rattle.par_evaluation_laws.specs.par_code_form.Code.{else_code, all_code}
use Rattle.par_evaluation_laws.specs.par_code_form.Code.{catch_code, handlers, else_handlers}
use Rattle.par_evaluation_laws.specs.par_code_form.Code.{all_handlers}
use Rattle.par_evaluation_laws.specs.par_code_form.Code.{catch_handlers, no_loop, ending}
use Rattle.par_source_code_laws.specs.Named.{EachInExp, EachInMay, EachInExps, EachInSta}
use Rattle.par_source_code_laws.specs.Named.{EachInElse}
use Rattle.par_source_code_laws.specs.Named.{EachInStas, EachInCatches, Named}
use Rattle.par_source_code_laws.specs.Items.{ItemPasses, HandlerPasses, NamedPasses}
use Rattle.par_source_code_laws.specs.Laws.{CodeNamesEach}

module _ (test : Name → Bool) (locks : ℕ → Bool) (w : Words) where
  abbrev N : Named → Type 0
  N = NamedPasses test locks w

  abbrev Items : List Item → Type 0
  Items = AllByRecursion (ItemPasses test locks)

  abbrev Handlers : List Handler → Type 0
  Handlers = AllByRecursion (HandlerPasses test)

  -- ---- what names no class

  behind_shape : (s : Shape) (n : ℕ) (k : List Item) → Items (shape_code s n k) → Items k
  behind_shape (Calculates o i) n k h = h.1
  behind_shape (Compares t) n k h = h.1.1.1.1.1.1
  behind_shape (Sames b) n k h = h.1.1.1.1.1.1
  behind_shape (Decides o) n k h = h.1

  behind_between : (s : Shape) (n : ℕ) (k : List Item) → Items (between s n k) → Items k
  behind_between (Calculates o i) n k h = h
  behind_between (Compares t) n k h = h
  behind_between (Sames b) n k h = h
  behind_between (Decides o) n k h = h.1.1.1

  behind_jump : (b : Bool) (l : ℕ) (k : List Item) → Items (goes_on b l k) → Items k
  behind_jump true l k h = h.1
  behind_jump false l k h = h

  behind_drop : (t : Ty) (k : List Item) → Items (dropped t k) → Items k
  behind_drop ty.Int k h = h.1
  behind_drop ty.Boolean k h = h.1
  behind_drop (ty.Class c) k h = h.1
  behind_drop ty.Null k h = h.1
  behind_drop ty.Void k h = h

  -- ---- expressions

  mutual
    unfolding expr_code EachInExp

    exp_names : (e : TExp) (n : ℕ) (k : List Item) → Items (expr_code w e n k)
        → EachInExp N e × Items k
    exp_names (Int v m) n k h = (tt, h.1)
    exp_names (Boolean true m) n k h = (tt, h.1)
    exp_names (Boolean false m) n k h = (tt, h.1)
    exp_names (Null m) n k h = (tt, h.1)
    exp_names (This m) n k h = (tt, h.1)
    exp_names (New c m) n k h = (h.0, h.1.1.1)
    exp_names (Local x m) n k h = (tt, h.1)
    exp_names (Static c f m) n k h = (h.0, h.1)
    exp_names (Field e c f m) n k h =
        let i = exp_names e n
        (Member GETFIELD (w.class c) (w.field c f) (w.field_type c f) ∷ k) h in
        ((i.1.0, i.0), i.1.1)
    exp_names (Input c i m) n k h = (h.0, h.1)
    exp_names (Output c i e m) n k h =
        let j = exp_names e n
        (Member INVOKESTATIC (w.class c) (w.channel c i) (codes "(I)V") ∷ k) h in
        ((j.1.0, j.0), j.1.1)
    exp_names (Call c i o es m) n k h =
        let call = Member (invoke o) (w.class c) (w.method c i) (w.method_type c i) ∷ k in
        let l = may_labels o n in
        let first = may_names o n (args_code w es l call) h in
        let rest = args_names es l call first.1 in
        ((rest.1.0, first.0, rest.0), rest.1.1)
    exp_names (Neg e m) n k h = let i = exp_names e n _ h in (i.0, i.1.1)
    exp_names (Not e m) n k h =
        let i = exp_names e (n + 2) (test_code IFEQ n k) h in (i.0, i.1.1.1.1.1.1.1)
    exp_names (Binary op a b m) n k h =
        let s = shape_of op a in
        let l = n + shape_labels s in
        let second = expr_code w b (expr_labels a l) (shape_code s n k) in
        let i = exp_names a l (between s n second) h in
        let j = exp_names b (expr_labels a l) (shape_code s n k)
        (behind_between s n second i.1) in
        ((i.0, j.0), behind_shape s n k j.1)

    may_names : (o : MayTExp) (n : ℕ) (k : List Item) → Items (may_code w o n k)
        → EachInMay N o × Items k
    may_names Absent n k h = (tt, h)
    may_names (Present e) n k h = exp_names e n k h

    args_names : (es : TExps) (n : ℕ) (k : List Item) → Items (args_code w es n k)
        → EachInExps N es × Items k
    args_names NoExps n k h = (tt, h)
    args_names (More e es) n k h =
        let i = exp_names e n (args_code w es (expr_labels e n) k) h in
        let j = args_names es (expr_labels e n) k i.1 in
        ((i.0, j.0), j.1)

  -- the literal `true` names nothing
  literal_names : (e : TExp) → is_true e ≡ true → EachInExp N e
  unfolding is_true EachInExp
  literal_names (Int v m) is = absurd (cc)
  literal_names (Boolean b m) is = tt
  literal_names (Null m) is = absurd (cc)
  literal_names (This m) is = absurd (cc)
  literal_names (New c m) is = absurd (cc)
  literal_names (Local x m) is = absurd (cc)
  literal_names (Static c f m) is = absurd (cc)
  literal_names (Field e c f m) is = absurd (cc)
  literal_names (Input c i m) is = absurd (cc)
  literal_names (Output c i e m) is = absurd (cc)
  literal_names (Call c i o es m) is = absurd (cc)
  literal_names (Neg e m) is = absurd (cc)
  literal_names (Not e m) is = absurd (cc)
  literal_names (Binary op a b m) is = absurd (cc)

  test_names : (literal : Bool) (e : TExp) (n out : ℕ) (k : List Item) → is_true e ≡ literal
      → Items (loop_test w literal e n out k) → EachInExp N e × Items k
  test_names true e n out k is h = (literal_names e is, h)
  test_names false e n out k is h =
      let i = exp_names e n (Jump IFEQ out ∷ k) h in (i.0, i.1.1)

  -- ---- statements, with their handlers

  mutual
    unfolding code handlers EachInSta EachInMay

    sta_names : (s : TSta) (l : Loop) (n m : ℕ) (k : List Item) (hs : List Handler)
        → Items (code w s l n k) → Handlers (handlers w s m hs)
        → EachInSta N s × Items k × Handlers hs
    sta_names (Block ss at p) l n m k hs h r = all_names ss l n m k hs h r
    sta_names (If e s o at p) l n m k hs h r =
        let i = expr_labels e (n + 2) in
        let j = expr_labels e (m + 2) in
        let other = else_code w o l (labels s i) (Label (n + 1) ∷ k) in
        let jump = goes_on (completes s) (n + 1) (Label n ∷ other) in
        let tests = exp_names e (n + 2) (Jump IFEQ n ∷ code w s l i jump) h in
        let one = sta_names s l i j jump (else_handlers w o (labels s j) hs) tests.1.1 r in
        let rest = behind_jump (completes s) (n + 1) (Label n ∷ other) one.1 in
        let two = else_names o l (labels s i) (labels s j) (Label (n + 1) ∷ k) hs rest.1 one.2 in
        ((tests.0, one.0, two.0), two.1.1, two.2)
    sta_names (While e s at p) l n m k hs h r =
        let i = expr_labels e (n + 2) in
        let loop : Loop = record { out = n + 1; again = n } in
        let jump = goes_on (completes s) n (Label (n + 1) ∷ k) in
        let tests = test_names (is_true e) e (n + 2) (n + 1) (code w s loop i jump) refl h.1 in
        let one = sta_names s loop i (expr_labels e (m + 2)) jump hs tests.1 r in
        let rest = behind_jump (completes s) n (Label (n + 1) ∷ k) one.1 in
        ((tests.0, one.0), rest.1, one.2)
    sta_names (Try s cs at p) l n m k hs h r =
        let catches = catch_code w cs l (n + 2) (labels s (n + 3)) (Label (n + 2) ∷ k) in
        let jump = goes_on (completes s) (n + 2) (Label (n + 1) ∷ catches) in
        let one = sta_names s l (n + 3) (m + 3) jump
        (catch_handlers w cs m (labels s (m + 3)) hs) h.1 r in
        let rest = behind_jump (completes s) (n + 2) (Label (n + 1) ∷ catches) one.1 in
        let two = catches_name cs l (n + 2) (labels s (n + 3)) m (labels s (m + 3))
        (Label (n + 2) ∷ k) hs rest.1 one.2 in
        ((one.0, two.0), two.1.1, two.2)
    sta_names (Return Absent at p) l n m k hs h r = (tt, h.1, r)
    sta_names (Return (Present e) at p) l n m k hs h r =
        let i = exp_names e n (give_back (mark e).ty ∷ k) h in (i.0, i.1.1, r)
    sta_names (Break at p) l n m k hs h r = (tt, h.1, r)
    sta_names (Continue at p) l n m k hs h r = (tt, h.1, r)
    sta_names (Throw c at p) l n m k hs h r = (h.0, h.1.1.1.1, r)
    sta_names (Open i at p) l n m k hs h r = (h.1.0, h.1.1, r)
    sta_names (Close i at p) l n m k hs h r = (h.1.0, h.1.1, r)
    sta_names (SetLocal x q e at p) l n m k hs h r =
        let i = exp_names e n (store (mark e).ty x ∷ k) h in (i.0, i.1.1, r)
    sta_names (SetStatic c f e at p) l n m k hs h r =
        let i = exp_names e n
        (Member PUTSTATIC (w.class c) (w.field c f) (w.field_type c f) ∷ k) h in
        ((i.1.0, i.0), i.1.1, r)
    sta_names (SetField o c f e at p) l n m k hs h r =
        let put = Member PUTFIELD (w.class c) (w.field c f) (w.field_type c f) ∷ k in
        let i = exp_names o n (expr_code w e (expr_labels o n) put) h in
        let j = exp_names e (expr_labels o n) put i.1 in
        ((j.1.0, i.0, j.0), j.1.1, r)
    sta_names (Eval e at p) l n m k hs h r =
        let i = exp_names e n (dropped (mark e).ty k) h in (i.0, behind_drop (mark e).ty k i.1, r)
    sta_names (When lock s o at p) l n m k hs h r =
        let other = else_code w o l (labels s (n + 2)) (Label (n + 1) ∷ k) in
        let jump = goes_on (completes s) (n + 1) (Label n ∷ other) in
        let one = sta_names s l (n + 2) (m + 2) jump (else_handlers w o (labels s (m + 2)) hs)
        h.1.1 r in
        let rest = behind_jump (completes s) (n + 1) (Label n ∷ other) one.1 in
        let two = else_names o l (labels s (n + 2)) (labels s (m + 2)) (Label (n + 1) ∷ k) hs
        rest.1 one.2 in
        ((h.0, one.0, two.0), two.1.1, two.2)

    else_names : (o : MayTSta) (l : Loop) (n m : ℕ) (k : List Item) (hs : List Handler)
        → Items (else_code w o l n k) → Handlers (else_handlers w o m hs)
        → EachInElse N o × Items k × Handlers hs
    else_names NoElse l n m k hs h r = (tt, h, r)
    else_names (Otherwise s) l n m k hs h r = sta_names s l n m k hs h r

    all_names : (ss : TStas) (l : Loop) (n m : ℕ) (k : List Item) (hs : List Handler)
        → Items (all_code w ss l n k) → Handlers (all_handlers w ss m hs)
        → EachInStas N ss × Items k × Handlers hs
    all_names End l n m k hs h r = (tt, h, r)
    all_names (Then s ss) l n m k hs h r =
        let one = sta_names s l n m (all_code w ss l (labels s n) k)
        (all_handlers w ss (labels s m) hs) h r in
        let rest = all_names ss l (labels s n) (labels s m) k hs one.1 one.2 in
        ((one.0, rest.0), rest.1, rest.2)

    catches_name : (cs : TCatches) (l : Loop) (end n from m : ℕ) (k : List Item)
        (hs : List Handler)
        → Items (catch_code w cs l end n k) → Handlers (catch_handlers w cs from m hs)
        → EachInCatches N cs × Items k × Handlers hs
    catches_name NoCatch l end n from m k hs h r = (tt, h, r)
    catches_name (Catch c s cs) l end n from m k hs h r =
        let later = catch_code w cs l end (labels s (n + 1)) k in
        let jump = goes_on (completes s) end later in
        let one = sta_names s l (n + 1) (m + 1) jump
        (catch_handlers w cs from (labels s (m + 1)) hs) h.1.1 r.1 in
        let rest = behind_jump (completes s) end later one.1 in
        let two = catches_name cs l end (labels s (n + 1)) from (labels s (m + 1)) k hs rest
        one.2 in
        ((r.0, one.0, two.0), two.1, two.2)

pub code_names_each : CodeNamesEach
code_names_each test locks w s h r =
    (sta_names test locks w s no_loop 0 0 (ending (completes s)) [] h r).0
