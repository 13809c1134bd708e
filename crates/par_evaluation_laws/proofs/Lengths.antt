-- A code is no shorter than what follows it, and lives where that lives.
use Rattle.std.proofs.Common.{ℕ, ◌+◌, ◌≤◌, ◌<◌, Bool, true, false, List, ◌∷◌, length, arith, codes}
use Rattle.std.specs.Prelude.{pos, nat_le}
use Rattle.par_run_laws.specs.par_typed.declared.ty.Ty.{Ty}
use Rattle.par_run_laws.specs.par_typed.Plain.{TExp, Int, Boolean, Null, This, New, Local, Static}
use Rattle.par_run_laws.specs.par_typed.Plain.{Field, Input, Output, Call, Neg, Not, Binary}
use Rattle.par_run_laws.specs.par_typed.Plain.{MayTExp, Absent, Present, TExps, NoExps, More}
use Rattle.par_match_laws.specs.par_code_form.declared.item.Item.{Item}
use Rattle.par_match_laws.specs.par_code_form.declared.item.Item.TheVariants.{Op, Member}
use Rattle.par_match_laws.specs.Labelled.{Labelled}
use Rattle.par_match_laws.specs.par_code_form.Code.{Words, Shape, Calculates, Compares, Sames}
use Rattle.par_match_laws.specs.par_code_form.Code.{Decides, is_number}
use Rattle.par_match_laws.specs.par_code_form.Code.{load, store, shape_of, shape_labels}
use Rattle.par_match_laws.specs.par_code_form.Code.{shape_code}
use Rattle.par_match_laws.specs.par_code_form.Code.{between}
use Rattle.par_match_laws.specs.par_code_form.Code.{test_code, expr_labels, expr_code}
use Rattle.par_match_laws.specs.par_code_form.Code.{may_labels}
use Rattle.par_match_laws.specs.par_code_form.Code.{may_code}
use Rattle.par_match_laws.specs.par_code_form.Code.{args_code, invoke}
use Rattle.par_match_laws.proofs.Steps.{Lives, Here, next}

shape_grows : (s : Shape) (n : ℕ) (xs : List Item) → length xs < length (shape_code s n xs)
shape_grows (Calculates o i) n xs = omega arith
shape_grows (Compares t) n xs = omega arith
shape_grows (Sames b) n xs = omega arith
shape_grows (Decides o) n xs = omega arith

between_grows : (s : Shape) (n : ℕ) (xs : List Item) → length xs ≤ length (between s n xs)
between_grows (Calculates o i) n xs = omega arith
between_grows (Compares t) n xs = omega arith
between_grows (Sames b) n xs = omega arith
between_grows (Decides o) n xs = omega arith

pub shape_lives : (s : Shape) (n : ℕ) (xs : List Item) → Lives xs → Lives (shape_code s n xs)
shape_lives (Calculates o i) n xs h = tt
shape_lives (Compares t) n xs h = tt
shape_lives (Sames b) n xs h = tt
shape_lives (Decides o) n xs h = h

pub between_lives : (s : Shape) (n : ℕ) (xs : List Item) → Lives xs → Lives (between s n xs)
between_lives (Calculates o i) n xs h = h
between_lives (Compares t) n xs h = h
between_lives (Sames b) n xs h = h
between_lives (Decides o) n xs h = tt

if_lives : (a b : Bool) (w x y z : Item) (xs : List Item) → Lives (w ∷ xs) → Lives (x ∷ xs)
    → Lives (y ∷ xs) → Lives (z ∷ xs)
    → Lives (Rattle.std.specs.Prelude.cond a (Rattle.std.specs.Prelude.cond b w x)
    (Rattle.std.specs.Prelude.cond b y z) ∷ xs)
if_lives true true w x y z xs h i j k = h
if_lives true false w x y z xs h i j k = i
if_lives false true w x y z xs h i j k = j
if_lives false false w x y z xs h i j k = k

pub load_lives : (u : Ty) (x : ℕ) (xs : List Item) → Lives (load u x ∷ xs)
load_lives u x xs = if_lives (is_number u) (nat_le x 3) _ _ _ _ xs tt tt tt tt

pub store_lives : (u : Ty) (x : ℕ) (xs : List Item) → Lives (store u x ∷ xs)
store_lives u x xs = if_lives (is_number u) (nat_le x 3) _ _ _ _ xs tt tt tt tt

module _ (w : Words) where
  mutual
    unfolding expr_code may_code args_code

    pub expr_grows : (e : TExp) (n : ℕ) (xs : List Item) → length xs < length (expr_code w e n xs)
    expr_grows (Int v m) n xs = omega arith
    expr_grows (Boolean true m) n xs = omega arith
    expr_grows (Boolean false m) n xs = omega arith
    expr_grows (Null m) n xs = omega arith
    expr_grows (This m) n xs = omega arith
    expr_grows (New c m) n xs = omega arith
    expr_grows (Local x m) n xs = omega arith
    expr_grows (Static c f m) n xs = omega arith
    expr_grows (Field e c f m) n xs =
        omega (arith, expr_grows e n (Member 180 (w.class c) (w.field c f) (w.field_type c f) ∷ xs))
    expr_grows (Input c k m) n xs = omega arith
    expr_grows (Output c k e m) n xs =
        omega (arith, expr_grows e n (Member 184 (w.class c) (w.channel c k) (codes "(I)V") ∷ xs))
    expr_grows (Call c k o es m) n xs =
        let ys = Member (invoke o) (w.class c) (w.method c k) (w.method_type c k) ∷ xs in
        let g = may_grows o n (args_code w es (may_labels o n) ys) in
        let g' = args_grows es (may_labels o n) ys in omega (arith, g, g')
    expr_grows (Neg e m) n xs =
        omega (
          arith,
          expr_grows e n (Op
              Rattle.par_instr.specs.declared.instr.Instr.TheVariants.Ineg ∷ xs),
        )
    expr_grows (Not e m) n xs = omega (arith, expr_grows e (n + 2) (test_code 153 n xs))
    expr_grows (Binary op a b m) n xs =
        let s = shape_of op a in
        let l = n + shape_labels s in
        let ys = shape_code s n xs in
        let zs = expr_code w b (expr_labels a l) ys in
        let g1 = expr_grows a l (between s n zs) in
        let g2 = between_grows s n zs in
        let g3 = expr_grows b (expr_labels a l) ys in
        let g4 = shape_grows s n xs in omega (arith, g1, g2, g3, g4)

    pub may_grows : (e : MayTExp) (n : ℕ) (xs : List Item) → length xs ≤ length (may_code w e n xs)
    may_grows Absent n xs = omega arith
    may_grows (Present e) n xs = omega (arith, expr_grows e n xs)

    pub args_grows : (es : TExps) (n : ℕ) (xs : List Item)
        → length xs ≤ length (args_code w es n xs)
    args_grows NoExps n xs = omega arith
    args_grows (More e es) n xs =
        let g1 = expr_grows e n (args_code w es (expr_labels e n) xs) in
        let g2 = args_grows es (expr_labels e n) xs in omega (arith, g1, g2)

  mutual
    unfolding expr_code may_code args_code

    pub expr_lives : (e : TExp) (n : ℕ) (xs : List Item) → Lives xs → Lives (expr_code w e n xs)
    expr_lives (Int v m) n xs h = tt
    expr_lives (Boolean true m) n xs h = tt
    expr_lives (Boolean false m) n xs h = tt
    expr_lives (Null m) n xs h = tt
    expr_lives (This m) n xs h = tt
    expr_lives (New c m) n xs h = tt
    expr_lives (Local x m) n xs h = load_lives m.ty x xs
    expr_lives (Static c f m) n xs h = tt
    expr_lives (Field e c f m) n xs h = expr_lives e n _ tt
    expr_lives (Input c k m) n xs h = tt
    expr_lives (Output c k e m) n xs h = expr_lives e n _ tt
    expr_lives (Call c k o es m) n xs h = may_lives o n _ (args_lives es (may_labels o n) _ tt)
    expr_lives (Neg e m) n xs h = expr_lives e n _ tt
    expr_lives (Not e m) n xs h = expr_lives e (n + 2) _ tt
    expr_lives (Binary op a b m) n xs h =
        let s = shape_of op a in
        let l = n + shape_labels s in
        let ys = shape_code s n xs in
        expr_lives a l _ (between_lives s n _ (expr_lives b (expr_labels a l) ys (shape_lives s n
        xs h)))

    pub may_lives : (e : MayTExp) (n : ℕ) (xs : List Item) → Lives xs → Lives (may_code w e n xs)
    may_lives Absent n xs h = h
    may_lives (Present e) n xs h = expr_lives e n xs h

    pub args_lives : (es : TExps) (n : ℕ) (xs : List Item) → Lives xs → Lives (args_code w es n xs)
    args_lives NoExps n xs h = h
    args_lives (More e es) n xs h = expr_lives e n _ (args_lives es (expr_labels e n) xs h)

  -- the position behind a code
  module _ (code : Labelled) where
    abbrev Behind : List Item → Type 0
    Behind xs = (q : ℕ) × Here code q xs

    shape_ends : (s : Shape) (n p : ℕ) (xs : List Item) → Here code p (shape_code s n xs)
        → Behind xs
    shape_ends (Calculates o i) n p xs h = (_, next code h)
    shape_ends (Compares t) n p xs h = (
      _,
      next code (next code (next code (next code (next code
          (next code h))))),
    )
    shape_ends (Sames b) n p xs h = (
      _,
      next code (next code (next code (next code (next code (next
          code h))))),
    )
    shape_ends (Decides o) n p xs h = (_, next code h)

    between_ends : (s : Shape) (n p : ℕ) (xs : List Item) → Here code p (between s n xs) → Behind xs
    between_ends (Calculates o i) n p xs h = (p, h)
    between_ends (Compares t) n p xs h = (p, h)
    between_ends (Sames b) n p xs h = (p, h)
    between_ends (Decides o) n p xs h = (_, next code (next code (next code h)))

    mutual
      unfolding expr_code may_code args_code

      pub expr_ends : (e : TExp) (n p : ℕ) (xs : List Item) → Here code p (expr_code w e n xs)
          → Behind xs
      expr_ends (Int v m) n p xs h = (_, next code h)
      expr_ends (Boolean true m) n p xs h = (_, next code h)
      expr_ends (Boolean false m) n p xs h = (_, next code h)
      expr_ends (Null m) n p xs h = (_, next code h)
      expr_ends (This m) n p xs h = (_, next code h)
      expr_ends (New c m) n p xs h = (_, next code (next code (next code h)))
      expr_ends (Local x m) n p xs h = (_, next code h)
      expr_ends (Static c f m) n p xs h = (_, next code h)
      expr_ends (Field e c f m) n p xs h = let i = expr_ends e n p _ h in (_, next code i.1)
      expr_ends (Input c k m) n p xs h = (_, next code h)
      expr_ends (Output c k e m) n p xs h = let i = expr_ends e n p _ h in (_, next code i.1)
      expr_ends (Call c k o es m) n p xs h =
          let i = may_ends o n p _ h in let j = args_ends es (may_labels o n) i.0 _ i.1 in (
            _,
            next
                code j.1,
          )
      expr_ends (Neg e m) n p xs h = let i = expr_ends e n p _ h in (_, next code i.1)
      expr_ends (Not e m) n p xs h =
          let i = expr_ends e (n + 2) p _ h in (
            _,
            next code (next code (next code (next code (next
                code (next code i.1))))),
          )
      expr_ends (Binary op a b m) n p xs h =
          let s = shape_of op a in
          let l = n + shape_labels s in
          let i = expr_ends a l p _ h in
          let j = between_ends s n i.0 _ i.1 in
          let i2 = expr_ends b (expr_labels a l) j.0 _ j.1 in
          shape_ends s n i2.0 xs i2.1

      pub may_ends : (e : MayTExp) (n p : ℕ) (xs : List Item) → Here code p (may_code w e n xs)
          → Behind xs
      may_ends Absent n p xs h = (p, h)
      may_ends (Present e) n p xs h = expr_ends e n p xs h

      pub args_ends : (es : TExps) (n p : ℕ) (xs : List Item) → Here code p (args_code w es n xs)
          → Behind xs
      args_ends NoExps n p xs h = (p, h)
      args_ends (More e es) n p xs h = let i = expr_ends e n p _ h in args_ends es (expr_labels e
          n) i.0 xs i.1
