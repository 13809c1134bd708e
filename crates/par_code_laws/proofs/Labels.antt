-- Each label stands at most once in the code of a body.
use Rattle.std.proofs.Common.{◌≡◌, ℕ, zero, suc, ◌+◌, ◌≤◌, ◌<◌, ◌⊎◌, inl, inr, Bool, true, false}
use Rattle.std.proofs.Common.{cond, List, [], ◌∷◌, drop, refl, ap, sym, ◌∙◌, subst, arith}
use Rattle.std.specs.Prelude.{nat_le, if◌then◌else◌}
use Rattle.std.proofs.lemmas.Bool.{eq-eqb, ne_eqb}
use Rattle.par_instr.specs.declared.instr.Instr.TheVariants.{Pop}
use Rattle.par_typed.specs.Plain.{mark, TExp, Int, Boolean, Null, This, New, Local, Static}
use Rattle.par_typed.specs.Plain.{Field, Input, Output, Call, Neg, Not, Binary}
use Rattle.par_typed.specs.Plain.{MayTExp, Absent as NoExp, Present, TExps, NoExps, More}
use Rattle.par_typed.specs.Plain.{TSta, Block, If, While, Try, Return, Break, Continue, Throw, Open}
use Rattle.par_typed.specs.Plain.{Close, SetLocal, SetStatic, SetField, Eval, When}
use Rattle.par_typed.specs.Plain.{MayTSta, NoElse, Otherwise, TStas, End, Then, TCatches, NoCatch}
use Rattle.par_typed.specs.Plain.{Catch}
use Rattle.par_completes.specs.Typed.{completes, is_true}
use Rattle.par_code_form.specs.declared.item.Item.{Item}
use Rattle.par_code_form.specs.declared.item.Item.TheVariants.{Label, Op, Const, Jump, Member}
use Rattle.par_code_form.specs.declared.item.Item.TheVariants.{ClassOp, LockOp}
use Rattle.par_code_form.specs.Code.{Words, Shape, Calculates, Compares, Sames, Decides, shape_of}
use Rattle.par_code_form.specs.Code.{shape_labels, shape_code, between, test_code, same_opcode}
use Rattle.par_code_form.specs.Code.{is_number, is_void}
use Rattle.par_code_form.specs.Code.{expr_labels, may_labels, args_labels, expr_code, may_code}
use Rattle.par_code_form.specs.Code.{args_code}
use Rattle.par_code_form.specs.Code.{Loop, goes_on, loop_test, labels, else_labels, all_labels}
use Rattle.par_code_form.specs.Code.{catch_labels, code, else_code, all_code, catch_code, ending}
use Rattle.par_code_form.specs.Code.{no_loop, body_code}
use Rattle.par_evaluation_laws.specs.par_match_laws.Labelled.{Labelled, spot}
use Rattle.par_evaluation_laws.proofs.par_match_laws.Steps.{Distinct}

abbrev pub Absent : ℕ → List Item → Type 0
Absent l [] = Unit {0}
Absent l (Label k ∷ xs) = (k ≡ l → ⊥) × Absent l xs
Absent l (Op i ∷ xs) = Absent l xs
Absent l (Const n ∷ xs) = Absent l xs
Absent l (Jump o k ∷ xs) = Absent l xs
Absent l (Member o c m d ∷ xs) = Absent l xs
Absent l (ClassOp o c ∷ xs) = Absent l xs
Absent l (LockOp o k ∷ xs) = Absent l xs

abbrev pub Once : List Item → Type 0
Once [] = Unit {0}
Once (Label k ∷ xs) = Absent k xs × Once xs
Once (Op i ∷ xs) = Once xs
Once (Const n ∷ xs) = Once xs
Once (Jump o k ∷ xs) = Once xs
Once (Member o c m d ∷ xs) = Once xs
Once (ClassOp o c ∷ xs) = Once xs
Once (LockOp o k ∷ xs) = Once xs

absent_drop : (k l p : ℕ) (items xs : List Item) → Absent k items → drop p items ≡ Label l ∷ xs
    → l ≡ k → ⊥
absent_drop k l zero items xs a e = (subst (λ ys. Absent k ys) e a).0
absent_drop k l (suc p) [] xs a e = absurd (grind (arith, e))
absent_drop k l (suc p) (Label j ∷ items) xs a e = absent_drop k l p items xs a.1 e
absent_drop k l (suc p) (Op i ∷ items) xs a e = absent_drop k l p items xs a e
absent_drop k l (suc p) (Const n ∷ items) xs a e = absent_drop k l p items xs a e
absent_drop k l (suc p) (Jump o j ∷ items) xs a e = absent_drop k l p items xs a e
absent_drop k l (suc p) (Member o c m d ∷ items) xs a e = absent_drop k l p items xs a e
absent_drop k l (suc p) (ClassOp o c ∷ items) xs a e = absent_drop k l p items xs a e
absent_drop k l (suc p) (LockOp o j ∷ items) xs a e = absent_drop k l p items xs a e

spot_at : (l p : ℕ) (items xs : List Item) → Once items → drop p items ≡ Label l ∷ xs
    → spot items l ≡ p
spot_at l zero items xs o e =
    ap (λ i. spot i l) e ∙ ap (λ b. if b then 0 else suc (spot xs l)) (eq-eqb l l refl)
spot_at l (suc p) [] xs o e = absurd (grind (arith, e))
spot_at l (suc p) (Label j ∷ items) xs o e =
    ap (λ b. if b then 0 else suc (spot items l))
    (ne_eqb j l (λ q. absent_drop j l p items xs o.0 e (sym q)))
    ∙ ap suc (spot_at l p items xs o.1 e)
spot_at l (suc p) (Op i ∷ items) xs o e = ap suc (spot_at l p items xs o e)
spot_at l (suc p) (Const n ∷ items) xs o e = ap suc (spot_at l p items xs o e)
spot_at l (suc p) (Jump i j ∷ items) xs o e = ap suc (spot_at l p items xs o e)
spot_at l (suc p) (Member i c m d ∷ items) xs o e = ap suc (spot_at l p items xs o e)
spot_at l (suc p) (ClassOp i c ∷ items) xs o e = ap suc (spot_at l p items xs o e)
spot_at l (suc p) (LockOp i j ∷ items) xs o e = ap suc (spot_at l p items xs o e)

once_distinct : (c : Labelled) → Once c.items → Distinct c
once_distinct c o l p xs h = spot_at l p c.items xs o h.at

-- l is none of the labels from n up to m
abbrev Beyond : ℕ → ℕ → ℕ → Type 0
Beyond l n m = (l < n) ⊎ (m ≤ l)

beyond : (l n m n' m' : ℕ) → Beyond l n m → n ≤ n' → m' ≤ m → Beyond l n' m'
beyond l n m n' m' (inl a) le le' = inl (omega arith)
beyond l n m n' m' (inr a) le le' = inr (omega arith)

differs : (l n m k : ℕ) → Beyond l n m → n ≤ k → k < m → k ≡ l → ⊥
differs l n m k (inl a) le lt e = omega arith
differs l n m k (inr a) le lt e = omega arith

-- none of the labels from n up to m is in xs
abbrev Free : ℕ → ℕ → List Item → Type 0
Free n m xs = (l : ℕ) → n ≤ l → l < m → Absent l xs

-- ---- expressions

mutual
  unfolding expr_labels

  pub expr_more : (e : TExp) (n : ℕ) → n ≤ expr_labels e n
  expr_more (Int v m) n = omega arith
  expr_more (Boolean b m) n = omega arith
  expr_more (Null m) n = omega arith
  expr_more (This m) n = omega arith
  expr_more (New c m) n = omega arith
  expr_more (Local x m) n = omega arith
  expr_more (Static c f m) n = omega arith
  expr_more (Field e c f m) n = expr_more e n
  expr_more (Input c k m) n = omega arith
  expr_more (Output c k e m) n = expr_more e n
  expr_more (Call c k o es m) n = let a = may_more o n in let b = args_more es (may_labels o n) in
      omega (arith, a, b)
  expr_more (Neg e m) n = expr_more e n
  expr_more (Not e m) n = let a = expr_more e (n + 2) in omega (arith, a)
  expr_more (Binary op a b m) n =
      let l = n + shape_labels (shape_of op a) in
      let g = expr_more a l in let g2 = expr_more b (expr_labels a l) in omega (arith, g, g2)

  may_more : (o : MayTExp) (n : ℕ) → n ≤ may_labels o n
  may_more NoExp n = omega arith
  may_more (Present e) n = expr_more e n

  args_more : (es : TExps) (n : ℕ) → n ≤ args_labels es n
  args_more NoExps n = omega arith
  args_more (More e es) n = let a = expr_more e n in let b = args_more es (expr_labels e n) in
      omega (arith, a, b)

-- one of four instructions
four_absent : (l : ℕ) (a b : Bool) (w x y z : Item) (xs : List Item) → Absent l (w ∷ xs)
    → Absent l (x ∷ xs) → Absent l (y ∷ xs) → Absent l (z ∷ xs)
    → Absent l (cond a (cond b w x) (cond b y z) ∷ xs)
four_absent l true true w x y z xs h i j k = h
four_absent l true false w x y z xs h i j k = i
four_absent l false true w x y z xs h i j k = j
four_absent l false false w x y z xs h i j k = k

four_once : (a b : Bool) (w x y z : Item) (xs : List Item) → Once (w ∷ xs) → Once (x ∷ xs)
    → Once (y ∷ xs) → Once (z ∷ xs)
    → Once (cond a (cond b w x) (cond b y z) ∷ xs)
four_once true true w x y z xs h i j k = h
four_once true false w x y z xs h i j k = i
four_once false true w x y z xs h i j k = j
four_once false false w x y z xs h i j k = k

test_absent : (l o n : ℕ) (xs : List Item) → Beyond l n (n + 2) → Absent l xs
    → Absent l (test_code o n xs)
test_absent l o n xs b h = (
  differs l n (n + 2) n b (omega arith)
      (omega arith),
  (differs l n (n + 2) (n + 1) b (omega arith) (omega arith), h),
)

test_once : (o n : ℕ) (xs : List Item) → Once xs → Free n (n + 2) xs → Once (test_code o n xs)
test_once o n xs h f = (
  ((λ e. omega (arith, e)), f n (omega arith) (omega arith)),
  (
    f (n + 1)
        (omega arith) (omega arith),
    h,
  ),
)

shape_absent : (s : Shape) (l n : ℕ) (xs : List Item) → Beyond l n (n + shape_labels s)
    → Absent l xs → Absent l (shape_code s n xs)
shape_absent (Calculates o i) l n xs b h = h
shape_absent (Compares t) l n xs b h = test_absent l (159 + t) n xs b h
shape_absent (Sames s) l n xs b h = test_absent l (same_opcode s) n xs b h
shape_absent (Decides o) l n xs b h = (differs l n (n + 1) n b (omega arith) (omega arith), h)

shape_once : (s : Shape) (n : ℕ) (xs : List Item) → Once xs → Free n (n + shape_labels s) xs
    → Once (shape_code s n xs)
shape_once (Calculates o i) n xs h f = h
shape_once (Compares t) n xs h f = test_once (159 + t) n xs h f
shape_once (Sames s) n xs h f = test_once (same_opcode s) n xs h f
shape_once (Decides o) n xs h f = (f n (omega arith) (omega arith), h)

between_absent : (s : Shape) (l n : ℕ) (xs : List Item) → Absent l xs → Absent l (between s n xs)
between_absent (Calculates o i) l n xs h = h
between_absent (Compares t) l n xs h = h
between_absent (Sames s) l n xs h = h
between_absent (Decides o) l n xs h = h

between_once : (s : Shape) (n : ℕ) (xs : List Item) → Once xs → Once (between s n xs)
between_once (Calculates o i) n xs h = h
between_once (Compares t) n xs h = h
between_once (Sames s) n xs h = h
between_once (Decides o) n xs h = h

module _ (w : Words) where
  mutual
    unfolding expr_code expr_labels

    pub absent_expr : (l : ℕ) (e : TExp) (n : ℕ) (xs : List Item) → Absent l xs
        → Beyond l n (expr_labels e n) → Absent l (expr_code w e n xs)
    absent_expr l (Int v m) n xs h b = h
    absent_expr l (Boolean true m) n xs h b = h
    absent_expr l (Boolean false m) n xs h b = h
    absent_expr l (Null m) n xs h b = h
    absent_expr l (This m) n xs h b = h
    absent_expr l (New c m) n xs h b = h
    absent_expr l (Local x m) n xs h b = four_absent l (is_number m.ty)
        (nat_le x 3) _ _ _ _ xs h h h h
    absent_expr l (Static c f m) n xs h b = h
    absent_expr l (Field e c f m) n xs h b = absent_expr l e n _ h b
    absent_expr l (Input c k m) n xs h b = h
    absent_expr l (Output c k e m) n xs h b = absent_expr l e n _ h b
    absent_expr l (Call c k o es m) n xs h b =
        let g = may_more o n in let g2 = args_more es (may_labels o n) in
        absent_may l o n _ (absent_args l es (may_labels o n) _ h (beyond l n _ (may_labels o n) _
        b g (omega arith))) (beyond l n _ n (may_labels o n) b (omega arith) g2)
    absent_expr l (Neg e m) n xs h b = absent_expr l e n _ h b
    absent_expr l (Not e m) n xs h b =
        let g = expr_more e (n + 2) in
        absent_expr l e (n + 2) _ (test_absent l 153 n xs (beyond l n _ n (n + 2) b (omega arith)
        g) h) (beyond l n _ (n + 2) _ b (omega arith) (omega arith))
    absent_expr l (Binary op a b' m) n xs h b =
        let s = shape_of op a in
        let l0 = n + shape_labels s in
        let g = expr_more a l0 in let g2 = expr_more b' (expr_labels a l0) in
        absent_expr l a l0 _ (between_absent s l n _ (absent_expr l b' (expr_labels a l0) _
        (shape_absent s l n xs (beyond l n _ n l0 b (omega arith) (omega (arith, g, g2))) h)
        (beyond l n _ (expr_labels a l0) _ b (omega (arith, g)) (omega arith))))
        (beyond l n _ l0 (expr_labels a l0) b (omega arith) g2)

    absent_may : (l : ℕ) (o : MayTExp) (n : ℕ) (xs : List Item) → Absent l xs
        → Beyond l n (may_labels o n) → Absent l (may_code w o n xs)
    absent_may l NoExp n xs h b = h
    absent_may l (Present e) n xs h b = absent_expr l e n xs h b

    absent_args : (l : ℕ) (es : TExps) (n : ℕ) (xs : List Item) → Absent l xs
        → Beyond l n (args_labels es n) → Absent l (args_code w es n xs)
    absent_args l NoExps n xs h b = h
    absent_args l (More e es) n xs h b =
        let g = expr_more e n in let g2 = args_more es (expr_labels e n) in
        absent_expr l e n _ (absent_args l es (expr_labels e n) xs h (beyond l n _ (expr_labels e
        n) _ b g (omega arith))) (beyond l n _ n (expr_labels e n) b (omega arith) g2)

  mutual
    unfolding expr_code expr_labels

    pub once_expr : (e : TExp) (n : ℕ) (xs : List Item) → Once xs → Free n (expr_labels e n) xs
        → Once (expr_code w e n xs)
    once_expr (Int v m) n xs h f = h
    once_expr (Boolean true m) n xs h f = h
    once_expr (Boolean false m) n xs h f = h
    once_expr (Null m) n xs h f = h
    once_expr (This m) n xs h f = h
    once_expr (New c m) n xs h f = h
    once_expr (Local x m) n xs h f = four_once (is_number m.ty) (nat_le x 3) _ _ _ _ xs h h h h
    once_expr (Static c f m) n xs h f' = h
    once_expr (Field e c f m) n xs h f' = once_expr e n _ h f'
    once_expr (Input c k m) n xs h f = h
    once_expr (Output c k e m) n xs h f = once_expr e n _ h f
    once_expr (Call c k o es m) n xs h f =
        let g = may_more o n in let g2 = args_more es (may_labels o n) in
        once_may o n _ (once_args es (may_labels o n) _ h (λ l le lt. f l (omega (arith, g, le))
        lt))
        (λ l le lt. absent_args l es (may_labels o n) _ (f l le (omega (arith, g2, lt))) (inl lt))
    once_expr (Neg e m) n xs h f = once_expr e n _ h f
    once_expr (Not e m) n xs h f =
        let g = expr_more e (n + 2) in
        once_expr e (n + 2) _ (test_once 153 n xs h (λ l le lt. f l le (omega (arith, g, lt))))
        (λ l le lt. test_absent l 153 n xs (inr le) (f l (omega (arith, le)) lt))
    once_expr (Binary op a b m) n xs h f =
        let s = shape_of op a in
        let l0 = n + shape_labels s in
        let g = expr_more a l0 in let g2 = expr_more b (expr_labels a l0) in
        once_expr a l0 _ (between_once s n _ (once_expr b (expr_labels a l0) _ (shape_once s n xs h
        (λ l le lt. f l le (omega (arith, g, g2, lt))))
        (λ l le lt. shape_absent s l n xs (inr (omega (arith, g, le)))
        (f l (omega (arith, g, le)) lt))))
        (λ l le lt. between_absent s l n _ (absent_expr l b (expr_labels a l0) _ (shape_absent s l
        n xs (inr le) (f l (omega (arith, le)) (omega (arith, g2, lt)))) (inl lt)))

    once_may : (o : MayTExp) (n : ℕ) (xs : List Item) → Once xs → Free n (may_labels o n) xs
        → Once (may_code w o n xs)
    once_may NoExp n xs h f = h
    once_may (Present e) n xs h f = once_expr e n xs h f

    once_args : (es : TExps) (n : ℕ) (xs : List Item) → Once xs → Free n (args_labels es n) xs
        → Once (args_code w es n xs)
    once_args NoExps n xs h f = h
    once_args (More e es) n xs h f =
        let g = expr_more e n in let g2 = args_more es (expr_labels e n) in
        once_expr e n _ (once_args es (expr_labels e n) xs h (λ l le lt. f l (omega (arith, g, le))
        lt))
        (λ l le lt. absent_args l es (expr_labels e n) xs (f l le (omega (arith, g2, lt))) (inl lt))

-- ---- statements

mutual
  unfolding labels

  more : (s : TSta) (n : ℕ) → n ≤ labels s n
  more (Block ss y1 y2) n = all_more ss n
  more (If e s o y1 y2) n =
      let i = expr_labels e (n + 2) in
      let g = expr_more e (n + 2) in let g2 = more s i in let g3 = else_more o (labels s i) in
      omega (arith, g, g2, g3)
  more (While e s y1 y2) n =
      let g = expr_more e (n + 2) in let g2 = more s (expr_labels e (n + 2)) in omega (arith, g, g2)
  more (Try s cs y1 y2) n = let g = more s (n + 3) in let g2 = catch_more cs (labels s (n + 3)) in
      omega (arith, g, g2)
  more (Return o y1 y2) n = may_more o n
  more (Break y1 y2) n = omega arith
  more (Continue y1 y2) n = omega arith
  more (Throw c y1 y2) n = omega arith
  more (Open l y1 y2) n = omega arith
  more (Close l y1 y2) n = omega arith
  more (SetLocal x q e y1 y2) n = expr_more e n
  more (SetStatic c f e y1 y2) n = expr_more e n
  more (SetField o c f e y1 y2) n = let g = expr_more o n in let g2 = expr_more e (expr_labels o n)
      in omega (arith, g, g2)
  more (Eval e y1 y2) n = expr_more e n
  more (When l s o y1 y2) n = let g = more s (n + 2) in let g2 = else_more o (labels s (n + 2)) in
      omega (arith, g, g2)

  else_more : (o : MayTSta) (n : ℕ) → n ≤ else_labels o n
  else_more NoElse n = omega arith
  else_more (Otherwise s) n = more s n

  all_more : (ss : TStas) (n : ℕ) → n ≤ all_labels ss n
  all_more End n = omega arith
  all_more (Then s ss) n = let g = more s n in let g2 = all_more ss (labels s n) in omega (
    arith,
    g,
    g2,
  )

  catch_more : (cs : TCatches) (n : ℕ) → n ≤ catch_labels cs n
  catch_more NoCatch n = omega arith
  catch_more (Catch c s cs) n = let g = more s (n + 1) in let g2 = catch_more cs (labels s (n + 1))
      in omega (arith, g, g2)

goes_absent : (b : Bool) (l k : ℕ) (xs : List Item) → Absent l xs → Absent l (goes_on b k xs)
goes_absent true l k xs h = h
goes_absent false l k xs h = h

goes_once : (b : Bool) (k : ℕ) (xs : List Item) → Once xs → Once (goes_on b k xs)
goes_once true k xs h = h
goes_once false k xs h = h

dropped_absent : (b : Bool) (l : ℕ) (xs : List Item) → Absent l xs
    → Absent l (cond b xs (Op Pop ∷ xs))
dropped_absent true l xs h = h
dropped_absent false l xs h = h

dropped_once : (b : Bool) (xs : List Item) → Once xs → Once (cond b xs (Op Pop ∷ xs))
dropped_once true xs h = h
dropped_once false xs h = h

two_absent : (b : Bool) (l : ℕ) (y z : Item) (xs : List Item) → Absent l (y ∷ xs)
    → Absent l (z ∷ xs) → Absent l (cond b y z ∷ xs)
two_absent true l y z xs h i = h
two_absent false l y z xs h i = i

two_once : (b : Bool) (y z : Item) (xs : List Item) → Once (y ∷ xs) → Once (z ∷ xs)
    → Once (cond b y z ∷ xs)
two_once true y z xs h i = h
two_once false y z xs h i = i

ending_once : (b : Bool) → Once (ending b)
ending_once true = tt
ending_once false = tt

ending_absent : (b : Bool) (l : ℕ) → Absent l (ending b)
ending_absent true l = tt
ending_absent false l = tt

module _ (w : Words) where
  loop_absent : (b : Bool) (l : ℕ) (e : TExp) (n k : ℕ) (xs : List Item) → Absent l xs
      → Beyond l n (expr_labels e n) → Absent l (loop_test w b e n k xs)
  loop_absent true l e n k xs h b = h
  loop_absent false l e n k xs h b = absent_expr w l e n (Jump 153 k ∷ xs) h b

  loop_once : (b : Bool) (e : TExp) (n k : ℕ) (xs : List Item) → Once xs
      → Free n (expr_labels e n) xs → Once (loop_test w b e n k xs)
  loop_once true e n k xs h f = h
  loop_once false e n k xs h f = once_expr w e n (Jump 153 k ∷ xs) h f

  mutual
    unfolding code labels expr_labels

    absent : (x : ℕ) (s : TSta) (l : Loop) (n : ℕ) (xs : List Item) → Absent x xs
        → Beyond x n (labels s n) → Absent x (code w s l n xs)
    absent x (Block ss y1 y2) l n xs h b = all_absent x ss l n xs h b
    absent x (If e s o y1 y2) l n xs h b =
        let i = expr_labels e (n + 2) in
        let m = labels s i in
        let g = expr_more e (n + 2) in let g2 = more s i in let g3 = else_more o m in
        absent_expr w x e (n + 2) _ (absent x s l i _ (goes_absent (completes s) x (n + 1) _ (
          differs x n _ n b (omega arith) (omega (arith, g, g2, g3)),
          else_absent x o l m _ (
            differs
                x n _ (n + 1) b (omega arith) (omega (arith, g, g2, g3)),
            h,
          )
              (beyond x n _ m _ b (omega (arith, g, g2)) (omega arith)),
        ))
        (beyond x n _ i m b (omega (arith, g)) g3)) (beyond x n _ (n + 2) i b (omega arith)
        (omega (arith, g2, g3)))
    absent x (While e s y1 y2) l n xs h b =
        let i = expr_labels e (n + 2) in
        let g = expr_more e (n + 2) in let g2 = more s i in (
          differs x n _ n b (omega arith) (omega (arith, g, g2)),
          loop_absent (is_true e) x e (n + 2)
              (n + 1) _ (absent x s (record { out = n + 1; again = n }) i _ (goes_absent (completes
              s) x n _
              (differs x n _ (n + 1) b (omega arith) (omega (arith, g, g2)), h))
              (beyond x n _ i _ b (omega (arith, g)) (omega arith)))
              (beyond x n _ (n + 2) i b (omega arith) g2),
        )
    absent x (Try s cs y1 y2) l n xs h b =
        let m = labels s (n + 3) in
        let g = more s (n + 3) in let g2 = catch_more cs m in (
          differs x n _ n b (omega arith) (omega (arith, g, g2)),
          absent x s l (n + 3) _ (goes_absent (completes s) x (n + 2) _ (
            differs x n _ (n + 1) b (omega arith)
                (omega (arith, g, g2)),
            catch_absent x cs l (n + 2) m _ (
              differs x n _ (n + 2) b
                  (omega arith) (omega (arith, g, g2)),
              h,
            ) (beyond x n _ m _ b (omega (arith, g))
                (omega arith)),
          ))
              (beyond x n _ (n + 3) m b (omega arith) g2),
        )
    absent x (Return NoExp y1 y2) l n xs h b = h
    absent x (Return (Present e) y1 y2) l n xs h b = absent_expr w x e n _ (two_absent (is_number
        (mark e).ty) x _ _ xs h h) b
    absent x (Break y1 y2) l n xs h b = h
    absent x (Continue y1 y2) l n xs h b = h
    absent x (Throw c y1 y2) l n xs h b = h
    absent x (Open i y1 y2) l n xs h b = h
    absent x (Close i y1 y2) l n xs h b = h
    absent x (SetLocal y q e y1 y2) l n xs h b = absent_expr w x e n _ (four_absent x (is_number
        (mark e).ty) (nat_le y 3) _ _ _ _ xs h h h h) b
    absent x (SetStatic c f e y1 y2) l n xs h b = absent_expr w x e n _ h b
    absent x (SetField o c f e y1 y2) l n xs h b =
        let g = expr_more o n in let g2 = expr_more e (expr_labels o n) in
        absent_expr w x o n _ (absent_expr w x e (expr_labels o n) _ h (beyond x n _ (expr_labels o
        n) _ b g (omega arith))) (beyond x n _ n (expr_labels o n) b (omega arith) g2)
    absent x (Eval e y1 y2) l n xs h b = absent_expr w x e n _ (dropped_absent (is_void (mark
        e).ty) x xs h) b
    absent x (When i s o y1 y2) l n xs h b =
        let m = labels s (n + 2) in
        let g2 = more s (n + 2) in let g3 = else_more o m in
        absent x s l (n + 2) _ (goes_absent (completes s) x (n + 1) _ (
          differs x n _ n b (omega arith) (omega (arith, g2, g3)),
          else_absent x o l m _ (
            differs x
                n _ (n + 1) b (omega arith) (omega (arith, g2, g3)),
            h,
          )
              (beyond x n _ m _ b (omega (arith, g2)) (omega arith)),
        ))
        (beyond x n _ (n + 2) m b (omega arith) g3)

    else_absent : (x : ℕ) (o : MayTSta) (l : Loop) (n : ℕ) (xs : List Item) → Absent x xs
        → Beyond x n (else_labels o n) → Absent x (else_code w o l n xs)
    else_absent x NoElse l n xs h b = h
    else_absent x (Otherwise s) l n xs h b = absent x s l n xs h b

    all_absent : (x : ℕ) (ss : TStas) (l : Loop) (n : ℕ) (xs : List Item) → Absent x xs
        → Beyond x n (all_labels ss n) → Absent x (all_code w ss l n xs)
    all_absent x End l n xs h b = h
    all_absent x (Then s ss) l n xs h b =
        let g = more s n in let g2 = all_more ss (labels s n) in
        absent x s l n _ (all_absent x ss l (labels s n) xs h (beyond x n _ (labels s n) _ b g
        (omega arith))) (beyond x n _ n (labels s n) b (omega arith) g2)

    catch_absent : (x : ℕ) (cs : TCatches) (l : Loop) (end n : ℕ) (xs : List Item) → Absent x xs
        → Beyond x n (catch_labels cs n) → Absent x (catch_code w cs l end n xs)
    catch_absent x NoCatch l end n xs h b = h
    catch_absent x (Catch c s cs) l end n xs h b =
        let m = labels s (n + 1) in
        let g = more s (n + 1) in let g2 = catch_more cs m in (
          differs x n _ n b (omega arith) (omega (arith, g, g2)),
          absent x s l (n + 1) _ (goes_absent (completes s) x end _ (catch_absent x cs l end m xs h
              (beyond x n _ m _ b (omega (arith, g)) (omega arith))))
              (beyond x n _ (n + 1) m b (omega arith) g2),
        )

  mutual
    unfolding code labels expr_labels

    once : (s : TSta) (l : Loop) (n : ℕ) (xs : List Item) → Once xs → Free n (labels s n) xs
        → Once (code w s l n xs)
    once (Block ss y1 y2) l n xs h f = all_once ss l n xs h f
    once (If e s o y1 y2) l n xs h f =
        let i = expr_labels e (n + 2) in
        let m = labels s i in
        let g = expr_more e (n + 2) in let g2 = more s i in let g3 = else_more o m in
        let ws = Label (n + 1) ∷ xs in
        let zs = else_code w o l m ws in
        let behind : (x : ℕ) → n + 2 ≤ x → x < m → Absent x (Label n ∷ zs) = λ x le lt. (
          (λ e. omega (arith, e, le)),
          else_absent x o l m ws (
            (λ e. omega (arith, e, le)),
            f x
                (omega (arith, le)) (omega (arith, g3, lt)),
          ) (inl lt),
        ) in
        once_expr w e (n + 2) _ (once s l i _ (goes_once (completes s) (n + 1) _ (
          else_absent n o l m ws (
            (λ e. omega (arith, e)),
            f n (omega arith)
                (omega (arith, g, g2, g3)),
          ) (inl (omega (arith, g, g2))),
          else_once o l m ws (f (n + 1) (omega arith) (omega (arith, g, g2, g3)), h)
              (λ x le lt. ((λ e. omega (arith, e, le, g, g2)), f x (omega (arith, le, g, g2)) lt)),
        ))
        (λ x le lt. goes_absent (completes s) x (n + 1) _ (behind x (omega (arith, g, le)) lt)))
        (λ x le lt. absent x s l i _ (goes_absent (completes s) x (n + 1) _ (behind x le (omega
        (arith, g2, lt)))) (inl lt))
    once (While e s y1 y2) l n xs h f =
        let i = expr_labels e (n + 2) in
        let g = expr_more e (n + 2) in let g2 = more s i in
        let l2 : Loop = record { out = n + 1; again = n } in
        let ws = Label (n + 1) ∷ xs in
        let ys = goes_on (completes s) n ws in
        let us = code w s l2 i ys in (
          loop_absent (is_true e) n e (n + 2)
              (n + 1) us (absent n s l2 i ys (goes_absent (completes s) n n ws (
                (λ e. omega (
                  arith,
                  e,
                )),
                f n (omega arith) (omega (arith, g, g2)),
              )) (inl (omega (arith, g))))
              (inl (omega arith)),
          loop_once (is_true e) e (n + 2) (n + 1) us (once s l2 i ys (goes_once (completes s) n ws
              (f (n + 1) (omega arith) (omega (arith, g, g2)), h))
              (λ x le lt. goes_absent (completes s) x n ws (
                (λ e. omega (arith, e, le, g)),
                f x
                    (omega (arith, le, g)) lt,
              )))
              (λ x le lt. absent x s l2 i ys (goes_absent (completes s) x n ws (
                (λ e. omega (
                  arith,
                  e,
                  le,
                )),
                f x (omega (arith, le)) (omega (arith, lt, g2)),
              )) (inl lt)),
        )
    once (Try s cs y1 y2) l n xs h f =
        let m = labels s (n + 3) in
        let g = more s (n + 3) in let g2 = catch_more cs m in
        let ws = Label (n + 2) ∷ xs in
        let zs = catch_code w cs l (n + 2) m ws in
        let ys = goes_on (completes s) (n + 2) (Label (n + 1) ∷ zs) in (
          absent n s l (n + 3) ys (goes_absent (completes s) n (n + 2) _ (
            (λ e. omega (arith, e)),
            catch_absent n cs l (n + 2) m ws (
              (λ e. omega (arith, e)),
              f n (omega arith)
                  (omega (arith, g, g2)),
            ) (inl (omega (arith, g))),
          )) (inl (omega arith)),
          once s l (n + 3) ys (goes_once (completes s) (n + 2) _ (
            catch_absent (n + 1) cs l (n + 2) m ws (
              (λ e. omega (arith, e)),
              f (n + 1)
                  (omega arith) (omega (arith, g, g2)),
            ) (inl (omega (arith, g))),
            catch_once cs l (n + 2) m ws (f (n + 2) (omega arith) (omega (arith, g, g2)), h)
                (λ x le lt. ((λ e. omega (arith, e, le, g)), f x (omega (arith, le, g)) lt)),
          ))
              (λ x le lt. goes_absent (completes s) x (n + 2) _ (
                (λ e. omega (arith, e, le)),
                catch_absent x cs l (n + 2) m ws (
                  (λ e. omega (arith, e, le)),
                  f x (omega (
                    arith,
                    le,
                  )) (omega (arith, lt, g2)),
                ) (inl lt),
              )),
        )
    once (Return NoExp y1 y2) l n xs h f = h
    once (Return (Present e) y1 y2) l n xs h f = once_expr w e n _ (two_once (is_number (mark
        e).ty) _ _ xs h h) (λ x le lt. two_absent (is_number (mark e).ty) x _ _ xs (f x le lt)
        (f x le lt))
    once (Break y1 y2) l n xs h f = h
    once (Continue y1 y2) l n xs h f = h
    once (Throw c y1 y2) l n xs h f = h
    once (Open i y1 y2) l n xs h f = h
    once (Close i y1 y2) l n xs h f = h
    once (SetLocal y q e y1 y2) l n xs h f =
        once_expr w e n _ (four_once (is_number (mark e).ty) (nat_le y 3) _ _ _ _ xs h h h h)
        (λ x le lt. let k = f x le lt in four_absent x (is_number (mark e).ty)
        (nat_le y 3) _ _ _ _ xs k k k k)
    once (SetStatic c f' e y1 y2) l n xs h f = once_expr w e n _ h f
    once (SetField o c f' e y1 y2) l n xs h f =
        let g = expr_more o n in let g2 = expr_more e (expr_labels o n) in
        once_expr w o n _ (once_expr w e (expr_labels o n) _ h (λ x le lt. f x (omega (
          arith,
          g,
          le,
        )) lt))
        (λ x le lt. absent_expr w x e (expr_labels o n) _ (f x le (omega (arith, g2, lt))) (inl lt))
    once (Eval e y1 y2) l n xs h f = once_expr w e n _ (dropped_once (is_void (mark e).ty) xs h)
        (λ x le lt. dropped_absent (is_void (mark e).ty) x xs (f x le lt))
    once (When i s o y1 y2) l n xs h f =
        let m = labels s (n + 2) in
        let g2 = more s (n + 2) in let g3 = else_more o m in
        let ws = Label (n + 1) ∷ xs in
        let zs = else_code w o l m ws in
        once s l (n + 2) _ (goes_once (completes s) (n + 1) _ (
          else_absent n o l m ws (
            (λ e. omega (arith, e)),
            f n (omega arith)
                (omega (arith, g2, g3)),
          ) (inl (omega (arith, g2))),
          else_once o l m ws (f (n + 1) (omega arith) (omega (arith, g2, g3)), h)
              (λ x le lt. ((λ e. omega (arith, e, le, g2)), f x (omega (arith, le, g2)) lt)),
        ))
        (λ x le lt. goes_absent (completes s) x (n + 1) _ (
          (λ e. omega (arith, e, le)),
          else_absent
              x o l m ws (
                (λ e. omega (arith, e, le)),
                f x (omega (arith, le))
                    (omega (arith, g3, lt)),
              ) (inl lt),
        ))

    else_once : (o : MayTSta) (l : Loop) (n : ℕ) (xs : List Item) → Once xs
        → Free n (else_labels o n) xs → Once (else_code w o l n xs)
    else_once NoElse l n xs h f = h
    else_once (Otherwise s) l n xs h f = once s l n xs h f

    all_once : (ss : TStas) (l : Loop) (n : ℕ) (xs : List Item) → Once xs
        → Free n (all_labels ss n) xs → Once (all_code w ss l n xs)
    all_once End l n xs h f = h
    all_once (Then s ss) l n xs h f =
        let g = more s n in let g2 = all_more ss (labels s n) in
        once s l n _ (all_once ss l (labels s n) xs h (λ x le lt. f x (omega (arith, g, le)) lt))
        (λ x le lt. all_absent x ss l (labels s n) xs (f x le (omega (arith, g2, lt))) (inl lt))

    catch_once : (cs : TCatches) (l : Loop) (end n : ℕ) (xs : List Item) → Once xs
        → Free n (catch_labels cs n) xs → Once (catch_code w cs l end n xs)
    catch_once NoCatch l end n xs h f = h
    catch_once (Catch c s cs) l end n xs h f =
        let m = labels s (n + 1) in
        let g = more s (n + 1) in let g2 = catch_more cs m in
        let zs = catch_code w cs l end m xs in (
          absent n s l (n + 1) _ (goes_absent (completes s) n end zs (catch_absent n cs l end m xs
              (f n (omega arith) (omega (arith, g, g2))) (inl (omega (arith, g)))))
              (inl (omega arith)),
          once s l (n + 1) _ (goes_once (completes s) end zs (catch_once cs l end m xs h (λ x le
              lt. f x (omega (arith, g, le)) lt)))
              (λ x le lt. goes_absent (completes s) x end zs (catch_absent x cs l end m xs (f x
              (omega (arith, le)) (omega (arith, g2, lt))) (inl lt))),
        )

  -- in the code of a body
  pub body_distinct : (c : Labelled) (s : TSta) → c.items ≡ body_code w s → Distinct c
  body_distinct c s e =
      once_distinct c (subst (λ (xs : List Item). Once xs) (sym e)
      (once s no_loop 0 (ending (completes s)) (ending_once (completes s))
      (λ l le lt. ending_absent (completes s) l)))
