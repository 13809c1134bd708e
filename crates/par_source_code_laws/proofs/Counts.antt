-- Each label that the code of a form uses stands in it, and once.
use Rattle.std.proofs.Common.{◌≡◌, ℕ, ◌+◌, Bool, true, false, cond, List, [], ◌∷◌, refl, ap}
use Rattle.std.proofs.Common.{◌∙◌, arith, codes}
use Rattle.std.specs.Prelude.{nat_lt, nat_le, ◌==◌, count_by, if◌then◌else◌}
use Rattle.std.proofs.lemmas.List.Sums.{sum_by-cons}
use Rattle.std.proofs.lemmas.Bool.Decides.{nat_tests}
use Rattle.par_typed.specs.Plain.{mark, TExp, Int, Boolean, Null, This, New, Local, Static}
use Rattle.par_typed.specs.Plain.{Field, Input, Output, Call, Neg, Not, Binary}
use Rattle.par_typed.specs.Plain.{MayTExp, Absent, Present, TExps, NoExps, More}
use Rattle.par_typed.specs.Plain.{TSta, Block, If, While, Try, Return, Break, Continue, Throw, Open}
use Rattle.par_typed.specs.Plain.{Close, SetLocal, SetStatic, SetField, Eval, When}
use Rattle.par_typed.specs.Plain.{MayTSta, NoElse, Otherwise, TStas, End, Then, TCatches, NoCatch}
use Rattle.par_typed.specs.Plain.{Catch}
use Rattle.par_typed_laws.specs.par_completes.Typed.{completes, is_true}
use Rattle.par_code_form.specs.declared.item.Item.{Item}
use Rattle.par_code_form.specs.declared.item.Item.TheVariants.{Label, Op, Jump}
use Rattle.par_code_form.specs.declared.item.Item.TheVariants.{Member}
use Rattle.par_code_form.specs.Opcodes.{IFEQ, IF_ICMPEQ, GETFIELD, PUTSTATIC}
use Rattle.par_code_form.specs.Opcodes.{PUTFIELD}
use Rattle.par_code_form.specs.Opcodes.{INVOKESTATIC}
use Rattle.par_instr.specs.declared.instr.Instr.TheVariants.{Iload, Aload, IloadShort, AloadShort}
use Rattle.par_instr.specs.declared.instr.Instr.TheVariants.{Istore, Astore, IstoreShort}
use Rattle.par_instr.specs.declared.instr.Instr.TheVariants.{AstoreShort, Ireturn, Areturn, Pop}
use Rattle.par_instr.specs.declared.instr.Instr.TheVariants.{Ineg}
use Rattle.par_code_form.specs.Code.{Words, Shape, Calculates, Compares, Sames}
use Rattle.par_code_form.specs.Code.{Decides, shape_of}
use Rattle.par_code_form.specs.Code.{shape_labels, shape_code, between, test_code}
use Rattle.par_code_form.specs.Code.{expr_labels, may_labels, args_labels}
use Rattle.par_code_form.specs.Code.{expr_code, may_code}
use Rattle.par_code_form.specs.Code.{args_code}
use Rattle.par_code_form.specs.Code.{Loop, goes_on, loop_test, labels, else_labels}
use Rattle.par_code_form.specs.Code.{all_labels}
use Rattle.par_code_form.specs.Code.{catch_labels, code, else_code, all_code}
use Rattle.par_code_form.specs.Code.{catch_code, ending}
use Rattle.par_code_form.specs.Code.{is_number, is_void, no_loop, body_code, invoke}
use Rattle.par_code_form.specs.Code.{store}
use Rattle.par_code_form.specs.Code.{give_back, dropped, same_opcode}
use Rattle.par_code_form.specs.Placed.{is_label}

abbrev pub bit : Bool → ℕ
bit b = cond b 1 0

-- how often a label stands in items
abbrev pub count : ℕ → List Item → ℕ
count l [] = 0
count l (x ∷ xs) = bit (is_label l x) + count l xs

pub count_is : (l : ℕ) (xs : List Item) → count_by (is_label l) xs ≡ count l xs
count_is l [] = refl
count_is l (x ∷ xs) =
    sum_by-cons (λ y. bit (is_label l y)) x xs
    ∙ ap (λ n. bit (is_label l x) + n) (count_is l xs)

-- 1 where the label is below a number
abbrev pub under : ℕ → ℕ → ℕ
under l n = bit (nat_lt l n)

pub step : (l n : ℕ) → bit (n == l) + under l n ≡ under l (n + 1)
step l n = grind (arith, nat_tests)

pub step_two : (l n : ℕ) → bit (n == l) + bit (n + 1 == l) + under l n ≡ under l (n + 2)
step_two l n = grind (arith, nat_tests)

pub step_three : (l n : ℕ)
    → bit (n == l) + bit (n + 1 == l) + bit (n + 2 == l) + under l n ≡ under l (n + 3)
step_three l n = grind (arith, nat_tests)

-- ---- expressions

test_count : (l o n : ℕ) (k : List Item)
    → count l (test_code o n k) + under l n ≡ under l (n + 2) + count l k
test_count l o n k = let a = step_two l n in omega (arith, a)

shape_count : (l : ℕ) (s : Shape) (n : ℕ) (k : List Item)
    → count l (shape_code s n k) + under l n ≡ under l (n + shape_labels s) + count l k
shape_count l (Calculates o i) n k =
    let a : under l (n + 0) ≡ under l n = ap (under l) (omega arith) in omega (arith, a)
shape_count l (Compares t) n k = test_count l (IF_ICMPEQ + t) n k
shape_count l (Sames b) n k = test_count l (same_opcode b) n k
shape_count l (Decides o) n k = let a = step l n in omega (arith, a)

between_count : (l : ℕ) (s : Shape) (n : ℕ) (k : List Item) → count l (between s n k) ≡ count l k
between_count l (Calculates o i) n k = refl
between_count l (Compares t) n k = refl
between_count l (Sames b) n k = refl
between_count l (Decides o) n k = omega arith

-- one of four instructions, which are no label
four_count : (l : ℕ) (a b : Bool) (w x y z : Item) (k : List Item) → is_label l w ≡ false
    → is_label l x ≡ false → is_label l y ≡ false → is_label l z ≡ false
    → count l ((if a then (if b then w else x) else (if b then y else z)) ∷ k) ≡ count l k
four_count l true true w x y z k e f g h = let a = ap bit e in omega (arith, a)
four_count l true false w x y z k e f g h = let a = ap bit f in omega (arith, a)
four_count l false true w x y z k e f g h = let a = ap bit g in omega (arith, a)
four_count l false false w x y z k e f g h = let a = ap bit h in omega (arith, a)

one_count : (l : ℕ) (b : Bool) (x y : Item) (k : List Item) → is_label l x ≡ false
    → is_label l y ≡ false → count l ((if b then x else y) ∷ k) ≡ count l k
one_count l true x y k e f = let a = ap bit e in omega (arith, a)
one_count l false x y k e f = let a = ap bit f in omega (arith, a)

module _ (w : Words) (l : ℕ) where
  mutual
    unfolding expr_code expr_labels

    pub expr_count : (e : TExp) (n : ℕ) (k : List Item)
        → count l (expr_code w e n k) + under l n ≡ under l (expr_labels e n) + count l k
    expr_count (Int v m) n k = omega arith
    expr_count (Boolean true m) n k = omega arith
    expr_count (Boolean false m) n k = omega arith
    expr_count (Null m) n k = omega arith
    expr_count (This m) n k = omega arith
    expr_count (New c m) n k = omega arith
    expr_count (Local x m) n k =
        let a =
        four_count l (is_number m.ty) (nat_le x 3) (Op (IloadShort x)) (Op (Iload x))
        (Op (AloadShort x)) (Op (Aload x)) k refl refl refl refl in
        omega (arith, a)
    expr_count (Static c f m) n k = omega arith
    expr_count (Field e c f m) n k =
        let a =
        expr_count e n (Member GETFIELD (w.class c) (w.field c f) (w.field_type c f) ∷ k) in
        omega (arith, a)
    expr_count (Input c i m) n k = omega arith
    expr_count (Output c i e m) n k =
        let a =
        expr_count e n (Member INVOKESTATIC (w.class c) (w.channel c i) (codes "(I)V") ∷ k) in
        omega (arith, a)
    expr_count (Call c i o es m) n k =
        let k1 : List Item =
        Member (invoke o) (w.class c) (w.method c i) (w.method_type c i) ∷ k in
        let a = may_count o n (args_code w es (may_labels o n) k1) in
        let b = args_count es (may_labels o n) k1 in
        omega (arith, a, b)
    expr_count (Neg e m) n k = let a = expr_count e n (Op Ineg ∷ k) in omega (arith, a)
    expr_count (Not e m) n k =
        let a = expr_count e (n + 2) (test_code IFEQ n k) in
        let b = test_count l IFEQ n k in
        omega (arith, a, b)
    expr_count (Binary op a b m) n k =
        let s = shape_of op a in
        let i = n + shape_labels s in
        let k1 = shape_code s n k in
        let k2 = expr_code w b (expr_labels a i) k1 in
        let x = expr_count a i (between s n k2) in
        let y = between_count l s n k2 in
        let z = expr_count b (expr_labels a i) k1 in
        let u = shape_count l s n k in
        omega (arith, x, y, z, u)

    pub may_count : (o : MayTExp) (n : ℕ) (k : List Item)
        → count l (may_code w o n k) + under l n ≡ under l (may_labels o n) + count l k
    may_count Absent n k = omega arith
    may_count (Present e) n k = expr_count e n k

    pub args_count : (es : TExps) (n : ℕ) (k : List Item)
        → count l (args_code w es n k) + under l n ≡ under l (args_labels es n) + count l k
    args_count NoExps n k = omega arith
    args_count (More e es) n k =
        let a = expr_count e n (args_code w es (expr_labels e n) k) in
        let b = args_count es (expr_labels e n) k in
        omega (arith, a, b)

-- ---- statements

goes_count : (l : ℕ) (b : Bool) (o : ℕ) (k : List Item) → count l (goes_on b o k) ≡ count l k
goes_count l true o k = omega arith
goes_count l false o k = refl

dropped_count : (l : ℕ) (b : Bool) (x : Item) (k : List Item) → is_label l x ≡ false
    → count l (if b then k else (x ∷ k)) ≡ count l k
dropped_count l true x k e = refl
dropped_count l false x k e = let a = ap bit e in omega (arith, a)

-- the literal `true` uses no labels
pub true_labels : (e : TExp) (n : ℕ) → is_true e ≡ true → expr_labels e n ≡ n
unfolding is_true expr_labels
true_labels (Int v m) n is = refl
true_labels (Boolean b m) n is = refl
true_labels (Null m) n is = refl
true_labels (This m) n is = refl
true_labels (New c m) n is = refl
true_labels (Local x m) n is = refl
true_labels (Static c f m) n is = refl
true_labels (Field e c f m) n is = absurd (cc is)
true_labels (Input c i m) n is = refl
true_labels (Output c i e m) n is = absurd (cc is)
true_labels (Call c i o es m) n is = absurd (cc is)
true_labels (Neg e m) n is = absurd (cc is)
true_labels (Not e m) n is = absurd (cc is)
true_labels (Binary op a b m) n is = absurd (cc is)

module _ (w : Words) (l : ℕ) where
  loop_count : (b : Bool) (e : TExp) (n out : ℕ) (k : List Item) → is_true e ≡ b
      → count l (loop_test w b e n out k) + under l n ≡ under l (expr_labels e n) + count l k
  loop_count true e n out k is =
      let a : under l (expr_labels e n) ≡ under l n = ap (under l) (true_labels e n is) in
      omega (arith, a)
  loop_count false e n out k is =
      let a = expr_count w l e n (Jump IFEQ out ∷ k) in omega (arith, a)

  mutual
    unfolding code labels may_labels

    pub sta_count : (s : TSta) (lp : Loop) (n : ℕ) (k : List Item)
        → count l (code w s lp n k) + under l n ≡ under l (labels s n) + count l k
    sta_count (Block ss at p) lp n k = all_count ss lp n k
    sta_count (If e s o at p) lp n k =
        let i = expr_labels e (n + 2) in
        let k1 : List Item = Label (n + 1) ∷ k in
        let k2 : List Item = Label n ∷ else_code w o lp (labels s i) k1 in
        let k3 = goes_on (completes s) (n + 1) k2 in
        let a = expr_count w l e (n + 2) (Jump IFEQ n ∷ code w s lp i k3) in
        let b = sta_count s lp i k3 in
        let c = goes_count l (completes s) (n + 1) k2 in
        let d = else_count o lp (labels s i) k1 in
        let f = step_two l n in
        omega (arith, a, b, c, d, f)
    sta_count (While e s at p) lp n k =
        let i = expr_labels e (n + 2) in
        let inner : Loop = record { out = n + 1; again = n } in
        let k1 : List Item = Label (n + 1) ∷ k in
        let k2 = goes_on (completes s) n k1 in
        let a = loop_count (is_true e) e (n + 2) (n + 1) (code w s inner i k2) refl in
        let b = sta_count s inner i k2 in
        let c = goes_count l (completes s) n k1 in
        let f = step_two l n in
        omega (arith, a, b, c, f)
    sta_count (Try s cs at p) lp n k =
        let k1 : List Item = Label (n + 2) ∷ k in
        let k2 : List Item = Label (n + 1) ∷ catch_code w cs lp (n + 2) (labels s (n + 3)) k1 in
        let b = sta_count s lp (n + 3) (goes_on (completes s) (n + 2) k2) in
        let c = goes_count l (completes s) (n + 2) k2 in
        let d = catch_count cs lp (n + 2) (labels s (n + 3)) k1 in
        let f = step_three l n in
        omega (arith, b, c, d, f)
    sta_count (Return Absent at p) lp n k = omega arith
    sta_count (Return (Present e) at p) lp n k =
        let a = expr_count w l e n (give_back (mark e).ty ∷ k) in
        let b = one_count l (is_number (mark e).ty) (Op Ireturn) (Op Areturn) k refl refl in
        omega (arith, a, b)
    sta_count (Break at p) lp n k = omega arith
    sta_count (Continue at p) lp n k = omega arith
    sta_count (Throw c at p) lp n k = omega arith
    sta_count (Open i at p) lp n k = omega arith
    sta_count (Close i at p) lp n k = omega arith
    sta_count (SetLocal x q e at p) lp n k =
        let a = expr_count w l e n (store (mark e).ty x ∷ k) in
        let b =
        four_count l (is_number (mark e).ty) (nat_le x 3) (Op (IstoreShort x)) (Op (Istore x))
        (Op (AstoreShort x)) (Op (Astore x)) k refl refl refl refl in
        omega (arith, a, b)
    sta_count (SetStatic c f e at p) lp n k =
        let a =
        expr_count w l e n (Member PUTSTATIC (w.class c) (w.field c f) (w.field_type c f) ∷ k) in
        omega (arith, a)
    sta_count (SetField o c f e at p) lp n k =
        let k1 : List Item = Member PUTFIELD (w.class c) (w.field c f) (w.field_type c f) ∷ k in
        let a = expr_count w l o n (expr_code w e (expr_labels o n) k1) in
        let b = expr_count w l e (expr_labels o n) k1 in
        omega (arith, a, b)
    sta_count (Eval e at p) lp n k =
        let a = expr_count w l e n (dropped (mark e).ty k) in
        let b = dropped_count l (is_void (mark e).ty) (Op Pop) k refl in
        omega (arith, a, b)
    sta_count (When i s o at p) lp n k =
        let k1 : List Item = Label (n + 1) ∷ k in
        let k2 : List Item = Label n ∷ else_code w o lp (labels s (n + 2)) k1 in
        let b = sta_count s lp (n + 2) (goes_on (completes s) (n + 1) k2) in
        let c = goes_count l (completes s) (n + 1) k2 in
        let d = else_count o lp (labels s (n + 2)) k1 in
        let f = step_two l n in
        omega (arith, b, c, d, f)

    pub else_count : (o : MayTSta) (lp : Loop) (n : ℕ) (k : List Item)
        → count l (else_code w o lp n k) + under l n ≡ under l (else_labels o n) + count l k
    else_count NoElse lp n k = omega arith
    else_count (Otherwise s) lp n k = sta_count s lp n k

    pub all_count : (ss : TStas) (lp : Loop) (n : ℕ) (k : List Item)
        → count l (all_code w ss lp n k) + under l n ≡ under l (all_labels ss n) + count l k
    all_count End lp n k = omega arith
    all_count (Then s ss) lp n k =
        let a = sta_count s lp n (all_code w ss lp (labels s n) k) in
        let b = all_count ss lp (labels s n) k in
        omega (arith, a, b)

    pub catch_count : (cs : TCatches) (lp : Loop) (end n : ℕ) (k : List Item)
        → count l (catch_code w cs lp end n k) + under l n ≡ under l (catch_labels cs n) + count l k
    catch_count NoCatch lp end n k = omega arith
    catch_count (Catch c s cs) lp end n k =
        let k1 = catch_code w cs lp end (labels s (n + 1)) k in
        let a = sta_count s lp (n + 1) (goes_on (completes s) end k1) in
        let b = goes_count l (completes s) end k1 in
        let d = catch_count cs lp end (labels s (n + 1)) k in
        let f = step l n in
        omega (arith, a, b, d, f)

-- in the code of a body, exactly the labels below their number
pub body_count : (w : Words) (s : TSta) (l : ℕ) → count l (body_code w s) ≡ under l (labels s 0)
body_count w s l =
    let a = sta_count w l s no_loop 0 (ending (completes s)) in
    let b = ending_count (completes s) in
    let none : under l 0 ≡ 0 = grind (arith, nat_tests) in
    omega (arith, a, b, none)
  where
    ending_count : (b : Bool) → count l (ending b) ≡ 0
    ending_count true = omega arith
    ending_count false = refl
