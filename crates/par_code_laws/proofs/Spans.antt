-- The same of statements.
use Rattle.std.proofs.Common.{◌≡◌, ℕ, suc, ◌+◌, ◌≤◌, Bool, true, false, List, ◌∷◌, length, refl, ap}
use Rattle.std.proofs.Common.{◌∙◌, arith}
use Rattle.std.specs.Prelude.{cond}
use Rattle.par_instr.specs.declared.instr.Instr.TheVariants.{Pop, Athrow}
use Rattle.par_instr.specs.declared.instr.Instr.TheVariants as instr
use Rattle.par_typed.specs.Plain.{TExp, mark, Absent, Present}
use Rattle.par_typed.specs.Plain.{TSta, Block, If, While, Try, Return, Break, Continue, Throw, Open}
use Rattle.par_typed.specs.Plain.{Close, SetLocal, SetStatic, SetField, Eval, When}
use Rattle.par_typed.specs.Plain.{MayTSta, NoElse, Otherwise, TStas, End, Then, TCatches, NoCatch}
use Rattle.par_typed.specs.Plain.{Catch}
use Rattle.par_code_form.specs.declared.item.Item.{Item}
use Rattle.par_code_form.specs.declared.item.Item.TheVariants.{Label, Op, Jump, Member}
use Rattle.par_evaluation_laws.specs.par_match_laws.Labelled.{Labelled}
use Rattle.par_completes.specs.Typed.{completes, else_completes, last_completes, is_true}
use Rattle.par_code_form.specs.Code.{goes_on, loop_test, Words, Loop, is_void, is_number, store}
use Rattle.par_code_form.specs.Code.{give_back, dropped, expr_labels, expr_code, labels, code}
use Rattle.par_code_form.specs.Code.{else_code, all_code, catch_code}
use Rattle.par_evaluation_laws.proofs.par_match_laws.Steps.{Lives, Here, next}
use Rattle.par_evaluation_laws.proofs.Lengths.{expr_grows, expr_lives, expr_ends, store_lives}

dropped_grows : (b : Bool) (xs : List Item) → length xs ≤ length (cond b xs (Op Pop ∷ xs))
dropped_grows true xs = omega arith
dropped_grows false xs = omega arith

dropped_lives : (b : Bool) (xs : List Item) → Lives xs → Lives (cond b xs (Op Pop ∷ xs))
dropped_lives true xs h = h
dropped_lives false xs h = tt

back_lives : (b : Bool) (xs : List Item) → Lives (cond b (Op instr.Ireturn) (Op instr.Areturn) ∷ xs)
back_lives true xs = tt
back_lives false xs = tt

pub goes_grows : (b : Bool) (l : ℕ) (xs : List Item) → length xs ≤ length (goes_on b l xs)
goes_grows true l xs = omega arith
goes_grows false l xs = omega arith

pub goes_lives : (b : Bool) (l : ℕ) (xs : List Item) → b ≡ true → Lives (goes_on b l xs)
goes_lives true l xs e = tt
goes_lives false l xs e = cc

pub goes_ends : (c : Labelled) (b : Bool) (l p : ℕ) (xs : List Item) → Here c p (goes_on b l xs)
    → (q : ℕ) × (p ≤ q) × Here c q xs
goes_ends c true l p xs h = (suc p, omega arith, next c h)
goes_ends c false l p xs h = (p, omega arith, h)

module _ (w : Words) where
  pub test_grows : (b : Bool) (e : TExp) (n l : ℕ) (xs : List Item)
      → length xs ≤ length (loop_test w b e n l xs)
  test_grows true e n l xs = omega arith
  test_grows false e n l xs = let g = expr_grows w e n (Jump 153 l ∷ xs) in omega (arith, g)

  pub test_lives : (b : Bool) (e : TExp) (n l : ℕ) (xs : List Item) → Lives xs
      → Lives (loop_test w b e n l xs)
  test_lives true e n l xs h = h
  test_lives false e n l xs h = expr_lives w e n (Jump 153 l ∷ xs) tt

  pub test_ends : (c : Labelled) (b : Bool) (e : TExp) (n l p : ℕ) (xs : List Item)
      → Here c p (loop_test w b e n l xs) → (q : ℕ) × Here c q xs
  test_ends c true e n l p xs h = (p, h)
  test_ends c false e n l p xs h = let i = expr_ends w c e n p (Jump 153 l ∷ xs) h in (
    suc i.0,
    next c i.1,
  )

  mutual
    unfolding code else_code all_code catch_code

    pub grows : (s : TSta) (l : Loop) (n : ℕ) (xs : List Item)
        → length xs ≤ length (code w s l n xs)
    grows (Block ss at p) l n xs = all_grows ss l n xs
    grows (If e s o at p) l n xs =
        let i = expr_labels e (n + 2) in
        let ws = else_code w o l (labels s i) (Label (n + 1) ∷ xs) in
        let ys = goes_on (completes s) (n + 1) (Label n ∷ ws) in
        let g0 = else_grows o l (labels s i) (Label (n + 1) ∷ xs) in
        let g1 = goes_grows (completes s) (n + 1) (Label n ∷ ws) in
        let g2 = grows s l i ys in
        let g3 = expr_grows w e (n + 2) (Jump 153 n ∷ code w s l i ys) in omega (
          arith,
          g0,
          g1,
          g2,
          g3,
        )
    grows (While e s at p) l n xs =
        let l2 : Loop = record { out = n + 1; again = n } in
        let ys = goes_on (completes s) n (Label (n + 1) ∷ xs) in
        let g0 = goes_grows (completes s) n (Label (n + 1) ∷ xs) in
        let g1 = grows s l2 (expr_labels e (n + 2)) ys in
        let g2 = test_grows (is_true e) e (n + 2) (n + 1)
        (code w s l2 (expr_labels e (n + 2)) ys) in omega (arith, g0, g1, g2)
    grows (Try s cs at p) l n xs =
        let ws = catch_code w cs l (n + 2) (labels s (n + 3)) (Label (n + 2) ∷ xs) in
        let ys = goes_on (completes s) (n + 2) (Label (n + 1) ∷ ws) in
        let g0 = goes_grows (completes s) (n + 2) (Label (n + 1) ∷ ws) in
        let g1 = catch_grows cs l (n + 2) (labels s (n + 3)) (Label (n + 2) ∷ xs) in
        let g2 = grows s l (n + 3) ys in omega (arith, g0, g1, g2)
    grows (Return Absent at p) l n xs = omega arith
    grows (Return (Present e) at p) l n xs = omega (
      arith,
      expr_grows w e n (give_back (mark e).ty
          ∷ xs),
    )
    grows (Break at p) l n xs = omega arith
    grows (Continue at p) l n xs = omega arith
    grows (Throw c at p) l n xs = omega arith
    grows (Open i at p) l n xs = omega arith
    grows (Close i at p) l n xs = omega arith
    grows (SetLocal x q e at p) l n xs = omega (arith, expr_grows w e n (store (mark e).ty x ∷ xs))
    grows (SetStatic c f e at p) l n xs =
        omega (
          arith,
          expr_grows w e n (Member 179 (w.class c) (w.field c f)
              (w.field_type c f) ∷ xs),
        )
    grows (SetField o c f e at p) l n xs =
        let ys = Member 181 (w.class c) (w.field c f) (w.field_type c f) ∷ xs in
        let g1 = expr_grows w e (expr_labels o n) ys in
        let g2 = expr_grows w o n (expr_code w e (expr_labels o n) ys) in omega (arith, g1, g2)
    grows (Eval e at p) l n xs =
        let g1 = dropped_grows (is_void (mark e).ty) xs in
        let g2 = expr_grows w e n (dropped (mark e).ty xs) in omega (arith, g1, g2)
    grows (When i s o at p) l n xs =
        let ws = else_code w o l (labels s (n + 2)) (Label (n + 1) ∷ xs) in
        let ys = goes_on (completes s) (n + 1) (Label n ∷ ws) in
        let g0 = goes_grows (completes s) (n + 1) (Label n ∷ ws) in
        let g1 = else_grows o l (labels s (n + 2)) (Label (n + 1) ∷ xs) in
        let g2 = grows s l (n + 2) ys in omega (arith, g0, g1, g2)

    pub else_grows : (o : MayTSta) (l : Loop) (n : ℕ) (xs : List Item)
        → length xs ≤ length (else_code w o l n xs)
    else_grows NoElse l n xs = omega arith
    else_grows (Otherwise s) l n xs = grows s l n xs

    pub all_grows : (ss : TStas) (l : Loop) (n : ℕ) (xs : List Item)
        → length xs ≤ length (all_code w ss l n xs)
    all_grows End l n xs = omega arith
    all_grows (Then s ss) l n xs =
        let g1 = all_grows ss l (labels s n) xs in
        let g2 = grows s l n (all_code w ss l (labels s n) xs) in omega (arith, g1, g2)

    pub catch_grows : (cs : TCatches) (l : Loop) (end n : ℕ) (xs : List Item)
        → length xs ≤ length (catch_code w cs l end n xs)
    catch_grows NoCatch l end n xs = omega arith
    catch_grows (Catch c s cs) l end n xs =
        let ws = catch_code w cs l end (labels s (n + 1)) xs in
        let g0 = goes_grows (completes s) end ws in
        let g1 = catch_grows cs l end (labels s (n + 1)) xs in
        let g2 = grows s l (n + 1) (goes_on (completes s) end ws) in omega (arith, g0, g1, g2)

  mutual
    unfolding code else_code all_code catch_code completes

    pub lives : (s : TSta) (l : Loop) (n : ℕ) (xs : List Item) → (completes s ≡ true → Lives xs)
        → Lives (code w s l n xs)
    lives (Block ss at p) l n xs h = all_lives ss l n xs h
    lives (If e s o at p) l n xs h = expr_lives w e (n + 2) _ tt
    lives (While e s at p) l n xs h =
        test_lives (is_true e) e (n + 2) (n + 1) _ (lives s _ _ _ (λ c. goes_lives (completes s) n
        _ c))
    lives (Try s cs at p) l n xs h = lives s l (n + 3) _ (λ c. goes_lives (completes s) (n + 2) _ c)
    lives (Return Absent at p) l n xs h = tt
    lives (Return (Present e) at p) l n xs h = expr_lives w e n _ (back_lives (is_number (mark
        e).ty) xs)
    lives (Break at p) l n xs h = tt
    lives (Continue at p) l n xs h = tt
    lives (Throw c at p) l n xs h = tt
    lives (Open i at p) l n xs h = tt
    lives (Close i at p) l n xs h = tt
    lives (SetLocal x q e at p) l n xs h = expr_lives w e n _ (store_lives (mark e).ty x xs)
    lives (SetStatic c f e at p) l n xs h = expr_lives w e n _ tt
    lives (SetField o c f e at p) l n xs h = expr_lives w o n _ (expr_lives w e (expr_labels o n) _
        tt)
    lives (Eval e at p) l n xs h = expr_lives w e n _ (dropped_lives (is_void (mark e).ty) xs (h
        refl))
    lives (When i s o at p) l n xs h = tt

    pub else_lives : (o : MayTSta) (l : Loop) (n : ℕ) (xs : List Item) → (else_completes o ≡ true
        → Lives xs) → Lives (else_code w o l n xs)
    else_lives NoElse l n xs h = h refl
    else_lives (Otherwise s) l n xs h = lives s l n xs h

    pub all_lives : (ss : TStas) (l : Loop) (n : ℕ) (xs : List Item)
        → (last_completes true ss ≡ true → Lives xs) → Lives (all_code w ss l n xs)
    all_lives End l n xs h = h refl
    all_lives (Then s ss) l n xs h =
        lives s l n _ (λ c. all_lives ss l (labels s n) xs (λ e. h (ap (λ b. last_completes b ss) c
        ∙ e)))

  module _ (c : Labelled) where
    abbrev pub Behind : List Item → Type 0
    Behind xs = (q : ℕ) × Here c q xs

    dropped_ends : (b : Bool) (p : ℕ) (xs : List Item) → Here c p (cond b xs (Op Pop ∷ xs))
        → Behind xs
    dropped_ends true p xs h = (p, h)
    dropped_ends false p xs h = (suc p, next c h)

    mutual
      unfolding code else_code all_code catch_code

      pub ends : (s : TSta) (l : Loop) (n p : ℕ) (xs : List Item) → Here c p (code w s l n xs)
          → Behind xs
      ends (Block ss at p) l n q xs h = all_ends ss l n q xs h
      ends (If e s o at p) l n q xs h =
          let i = expr_ends w c e (n + 2) q _ h in
          let j = ends s l (expr_labels e (n + 2)) (suc i.0) _ (next c i.1) in
          let g = goes_ends c (completes s) (n + 1) j.0 _ j.1 in
          let k = else_ends o l _ _ _ (next c g.2) in (_, next c k.1)
      ends (While e s at p) l n q xs h =
          let i = test_ends c (is_true e) e (n + 2) (n + 1) (suc q) _ (next c h) in
          let j = ends s (record { out = n + 1; again = n }) (expr_labels e (n + 2)) i.0 _ i.1 in
          let g = goes_ends c (completes s) n j.0 _ j.1 in (_, next c g.2)
      ends (Try s cs at p) l n q xs h =
          let i = ends s l (n + 3) (suc q) _ (next c h) in
          let g = goes_ends c (completes s) (n + 2) i.0 _ i.1 in
          let j = catch_ends cs l (n + 2) _ _ _ (next c g.2) in (_, next c j.1)
      ends (Return Absent at p) l n q xs h = (_, next c h)
      ends (Return (Present e) at p) l n q xs h = let i = expr_ends w c e n q _ h in (_, next c i.1)
      ends (Break at p) l n q xs h = (_, next c h)
      ends (Continue at p) l n q xs h = (_, next c h)
      ends (Throw d at p) l n q xs h = (_, next c (next c (next c (next c h))))
      ends (Open i at p) l n q xs h = (_, next c (next c h))
      ends (Close i at p) l n q xs h = (_, next c (next c h))
      ends (SetLocal x r e at p) l n q xs h = let i = expr_ends w c e n q _ h in (_, next c i.1)
      ends (SetStatic d f e at p) l n q xs h = let i = expr_ends w c e n q _ h in (_, next c i.1)
      ends (SetField o d f e at p) l n q xs h =
          let i = expr_ends w c o n q _ h in let j = expr_ends w c e (expr_labels o n) i.0 _ i.1 in
          (_, next c j.1)
      ends (Eval e at p) l n q xs h = let i = expr_ends w c e n q _ h in dropped_ends (is_void
          (mark e).ty) i.0 xs i.1
      ends (When i s o at p) l n q xs h =
          let j = ends s l (n + 2) _ _ (next c (next c h)) in
          let g = goes_ends c (completes s) (n + 1) j.0 _ j.1 in
          let k = else_ends o l _ _ _ (next c g.2) in (_, next c k.1)

      pub else_ends : (o : MayTSta) (l : Loop) (n p : ℕ) (xs : List Item)
          → Here c p (else_code w o l n xs) → Behind xs
      else_ends NoElse l n p xs h = (p, h)
      else_ends (Otherwise s) l n p xs h = ends s l n p xs h

      pub all_ends : (ss : TStas) (l : Loop) (n p : ℕ) (xs : List Item)
          → Here c p (all_code w ss l n xs) → Behind xs
      all_ends End l n p xs h = (p, h)
      all_ends (Then s ss) l n p xs h = let i = ends s l n p _ h in all_ends ss l (labels s n) i.0
          xs i.1

      pub catch_ends : (cs : TCatches) (l : Loop) (end n p : ℕ) (xs : List Item)
          → Here c p (catch_code w cs l end n xs) → Behind xs
      catch_ends NoCatch l end n p xs h = (p, h)
      catch_ends (Catch d s cs) l end n p xs h =
          let i = ends s l (n + 1) _ _ (next c (next c h)) in
          let g = goes_ends c (completes s) end i.0 _ i.1 in catch_ends cs l end _ _ xs g.2
