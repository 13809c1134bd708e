-- Each item of a body's code fits, and each branch goes to a label that stands in the code.
use Rattle.std.proofs.Common.{◌≡◌, ℕ, ◌+◌, Bool, true, false, List, ◌∷◌, refl}
use Rattle.std.proofs.Common.{codes, arith}
use Rattle.std.specs.Prelude.{nat_le, nat_lt, IsTrue, if◌then◌else◌}
use Rattle.std.specs.List.{AllByRecursion}
use Rattle.std.proofs.lemmas.Bool.Decides.{nat_tests}
use Rattle.par_typed.specs.par_lexer.declared.operator.BinOp.{BinOp}
use Rattle.par_typed.specs.par_lexer.declared.operator.BinOp.TheVariants as bin
use Rattle.par_instr.specs.declared.instr.Instr.TheVariants.{Iload, Aload, IloadShort, AloadShort}
use Rattle.par_instr.specs.declared.instr.Instr.TheVariants.{Istore, Astore, IstoreShort}
use Rattle.par_instr.specs.declared.instr.Instr.TheVariants.{AstoreShort, Ireturn, Areturn, Pop}
use Rattle.par_instr.specs.declared.instr.Instr.TheVariants.{Athrow}
use Rattle.par_typed.specs.declared.ty.Ty.{Ty}
use Rattle.par_typed.specs.Plain.{mark, TExp, Int, Boolean, Null, This, New, Local, Static}
use Rattle.par_typed.specs.Plain.{Field, Input, Output, Call, Neg, Not, Binary}
use Rattle.par_typed.specs.Plain.{MayTExp, Absent, Present, TExps, NoExps, More}
use Rattle.par_typed.specs.Plain.{TSta, Block, If, While, Try, Return, Break, Continue, Throw, Open}
use Rattle.par_typed.specs.Plain.{Close, SetLocal, SetStatic, SetField, Eval, When}
use Rattle.par_typed.specs.Plain.{MayTSta, NoElse, Otherwise, TStas, End, Then, TCatches, NoCatch}
use Rattle.par_typed.specs.Plain.{Catch}
use Rattle.par_typed_laws.specs.par_completes.Typed.{completes, is_true}
use Rattle.par_pool.specs.Spelling.{IsText}
use Rattle.par_code_form.specs.declared.item.Item.{Item}
use Rattle.par_code_form.specs.declared.item.Item.TheVariants.{Label, Op, Const}
use Rattle.par_code_form.specs.declared.item.Item.TheVariants.{Jump, Member}
use Rattle.par_code_form.specs.declared.item.Item.TheVariants.{ClassOp, LockOp}
use Rattle.par_code_form.specs.Code.{Words, Shape, Calculates, Compares, Sames}
use Rattle.par_code_form.specs.Code.{Decides, shape}
use Rattle.par_code_form.specs.Code.{shape_of, shape_labels, shape_code, between}
use Rattle.par_code_form.specs.Code.{test_code, made}
use Rattle.par_code_form.specs.Code.{expr_labels, may_labels, expr_code, may_code}
use Rattle.par_code_form.specs.Code.{args_code}
use Rattle.par_code_form.specs.Code.{Loop, goes_on, loop_test, labels, code}
use Rattle.par_code_form.specs.Code.{else_code, all_code}
use Rattle.par_code_form.specs.Code.{catch_code, ending, load, store, invoke}
use Rattle.par_code_form.specs.Code.{is_number, is_void}
use Rattle.par_code_form.specs.Placeable.{FitsItem}
use Rattle.par_code_form.specs.Instructions.{is_branch, is_member}
use Rattle.par_source_code_laws.specs.Texts.{AreTexts}
use Rattle.par_source_code_laws.proofs.Fitting.{StaFits, ElseFits, AllFit, CatchesFit}
use Rattle.par_source_code_laws.proofs.Ends.{IsEnd, past, chain, expr_end, may_end, between_end}
use Rattle.par_source_code_laws.proofs.Ends.{sta_end}
use Rattle.par_source_code_laws.proofs.Spots.{ways, turns, tries, next_catch}

-- the texts that the code has of its own
init_text : IsText (codes "<init>")
init_text = record { short = omega arith; plain = refl }

init_type : IsText (codes "()V")
init_type = record { short = omega arith; plain = refl }

input_type : IsText (codes "()I")
input_type = record { short = omega arith; plain = refl }

output_type : IsText (codes "(I)V")
output_type = record { short = omega arith; plain = refl }

short_local : (x : ℕ) → nat_le x 3 ≡ true → IsTrue (nat_lt x 4)
short_local x h =
    let e : nat_lt x 4 ≡ true = grind (arith, nat_tests) in
    e

four_fit : (a b : Bool) (w x y z : Item) → (b ≡ true → FitsItem w) → FitsItem x
    → (b ≡ true → FitsItem y) → FitsItem z
    → FitsItem (if a then (if b then w else x) else (if b then y else z))
four_fit true true w x y z f g h i = f refl
four_fit true false w x y z f g h i = g
four_fit false true w x y z f g h i = h refl
four_fit false false w x y z f g h i = i

load_fits : (t : Ty) (x : ℕ) → FitsItem (load t x)
load_fits t x =
    four_fit (is_number t) (nat_le x 3) (Op (IloadShort x)) (Op (Iload x)) (Op (AloadShort x))
    (Op (Aload x)) (λ e. (short_local x e, refl)) (refl, refl)
    (λ e. (short_local x e, refl)) (refl, refl)

store_fits : (t : Ty) (x : ℕ) → FitsItem (store t x)
store_fits t x =
    four_fit (is_number t) (nat_le x 3) (Op (IstoreShort x)) (Op (Istore x)) (Op (AstoreShort x))
    (Op (Astore x)) (λ e. (short_local x e, refl)) (refl, refl)
    (λ e. (short_local x e, refl)) (refl, refl)

-- how an operator is made fits
abbrev ShapeFits : Shape → Type 0
ShapeFits (Calculates o i) = FitsItem (Op i)
ShapeFits (Compares t) = IsTrue (is_branch (159 + t))
ShapeFits (Sames b) = Unit {0}
ShapeFits (Decides o) = IsTrue (is_branch o)

either_shape : (b : Bool) (x y : Shape) → ShapeFits x → ShapeFits y
    → ShapeFits (if b then x else y)
either_shape true x y f g = f
either_shape false x y f g = g

shape_fits : (op : BinOp) (b : Bool) → ShapeFits (shape op b)
shape_fits bin.Or b = refl
shape_fits bin.And b = refl
shape_fits bin.BitOr b = (refl, refl)
shape_fits bin.BitXor b = (refl, refl)
shape_fits bin.BitAnd b = (refl, refl)
shape_fits bin.Eq b = either_shape b (Compares 0) (Sames true) refl tt
shape_fits bin.Ne b = either_shape b (Compares 1) (Sames false) refl tt
shape_fits bin.Lt b = refl
shape_fits bin.Le b = refl
shape_fits bin.Gt b = refl
shape_fits bin.Ge b = refl
shape_fits bin.Shl b = (refl, refl)
shape_fits bin.Shr b = (refl, refl)
shape_fits bin.Ushr b = (refl, refl)
shape_fits bin.Add b = (refl, refl)
shape_fits bin.Sub b = (refl, refl)
shape_fits bin.Mul b = (refl, refl)
shape_fits bin.Div b = (refl, refl)
shape_fits bin.Rem b = (refl, refl)

module _ (w : Words) (whole : List Item) (texts : AreTexts w) where
  -- a label of the code
  pub record Stands (l : ℕ) : Type 0 where
    pub rest : List Item
    pub at : IsEnd (Label l ∷ rest) whole

  abbrev pub Goes : Item → Type 0
  Goes (Label l) = Unit {0}
  Goes (Op i) = Unit {0}
  Goes (Const v) = Unit {0}
  Goes (Jump o l) = Stands l
  Goes (Member o c m d) = Unit {0}
  Goes (ClassOp o c) = Unit {0}
  Goes (LockOp o l) = Unit {0}

  abbrev pub Good : Item → Type 0
  Good x = FitsItem x × Goes x

  abbrev AllGood : List Item → Type 0
  AllGood xs = AllByRecursion Good xs

  stands : {l : ℕ} {rest : List Item} → IsEnd (Label l ∷ rest) whole → Stands l
  stands {l} {rest} e = record { rest = rest; at = e }

  four_go : (a b : Bool) (x y z u : Item) → Goes x → Goes y → Goes z → Goes u
      → Goes (if a then (if b then x else y) else (if b then z else u))
  four_go true true x y z u f g h i = f
  four_go true false x y z u f g h i = g
  four_go false true x y z u f g h i = h
  four_go false false x y z u f g h i = i

  load_goes : (t : Ty) (x : ℕ) → Goes (load t x)
  load_goes t x = four_go (is_number t) (nat_le x 3) _ _ _ _ tt tt tt tt

  store_goes : (t : Ty) (x : ℕ) → Goes (store t x)
  store_goes t x = four_go (is_number t) (nat_le x 3) _ _ _ _ tt tt tt tt

  invoke_fits : (o : MayTExp) → IsTrue (is_member (invoke o))
  invoke_fits Absent = refl
  invoke_fits (Present e) = refl

  back_good : (b : Bool) (k : List Item) → AllGood k
      → AllGood ((if b then Op Ireturn else Op Areturn) ∷ k)
  back_good true k g = (((refl, refl), tt), g)
  back_good false k g = (((refl, refl), tt), g)

  drop_good : (b : Bool) (k : List Item) → AllGood k → AllGood (if b then k else (Op Pop ∷ k))
  drop_good true k g = g
  drop_good false k g = (((refl, refl), tt), g)

  -- ---- expressions

  test_good : (o n : ℕ) (k : List Item) → IsTrue (is_branch o) → IsEnd (test_code o n k) whole
      → AllGood k → AllGood (test_code o n k)
  test_good o n k b h g =
      let first = past (past (past h)) in
      let second = past (past first) in (
        (b, stands first),
        ((tt, tt), ((refl, stands second), ((tt, tt), ((tt, tt), ((tt, tt), g))))),
      )

  shape_good : (s : Shape) (n : ℕ) (k : List Item) → ShapeFits s → IsEnd (shape_code s n k) whole
      → AllGood k → AllGood (shape_code s n k)
  shape_good (Calculates o i) n k f h g = ((f, tt), g)
  shape_good (Compares t) n k f h g = test_good (159 + t) n k f h g
  shape_good (Sames true) n k f h g = test_good 165 n k refl h g
  shape_good (Sames false) n k f h g = test_good 166 n k refl h g
  shape_good (Decides o) n k f h g = ((tt, tt), g)

  between_good : (s : Shape) (n : ℕ) (k j : List Item) → ShapeFits s
      → IsEnd (shape_code s n k) whole → AllGood j → AllGood (between s n j)
  between_good (Calculates o i) n k j f h g = g
  between_good (Compares t) n k j f h g = g
  between_good (Sames b) n k j f h g = g
  between_good (Decides o) n k j f h g =
      (((refl, refl), tt), ((f, stands h), (((refl, refl), tt), g)))

  made_good : (c : ℕ) (k : List Item) → AllGood k → AllGood (made (w.class c) k)
  made_good c k g = (
    ((refl, texts.class c), tt),
    (
      ((refl, refl), tt),
      (((refl, texts.class c, init_text, init_type), tt), g),
    ),
  )

  mutual
    unfolding expr_code

    expr_good : (e : TExp) (n : ℕ) (k : List Item) → IsEnd (expr_code w e n k) whole
        → AllGood k → AllGood (expr_code w e n k)
    expr_good (Int v m) n k h g = ((tt, tt), g)
    expr_good (Boolean true m) n k h g = ((tt, tt), g)
    expr_good (Boolean false m) n k h g = ((tt, tt), g)
    expr_good (Null m) n k h g = (((refl, refl), tt), g)
    expr_good (This m) n k h g = (((refl, refl), tt), g)
    expr_good (New c m) n k h g = made_good c k g
    expr_good (Local x m) n k h g = ((load_fits m.ty x, load_goes m.ty x), g)
    expr_good (Static c f m) n k h g =
        (((refl, texts.class c, texts.field c f, texts.field_type c f), tt), g)
    expr_good (Field e c f m) n k h g =
        expr_good e n _ h (((refl, texts.class c, texts.field c f, texts.field_type c f), tt), g)
    expr_good (Input c i m) n k h g =
        (((refl, texts.class c, texts.channel c i, input_type), tt), g)
    expr_good (Output c i e m) n k h g =
        expr_good e n _ h (((refl, texts.class c, texts.channel c i, output_type), tt), g)
    expr_good (Call c i o es m) n k h g =
        let a = chain (may_end w o n _) h in
        may_good o n _ h (args_good es (may_labels o n) _ a
        (((invoke_fits o, texts.class c, texts.method c i, texts.method_type c i), tt), g))
    expr_good (Neg e m) n k h g = expr_good e n _ h (((refl, refl), tt), g)
    expr_good (Not e m) n k h g =
        expr_good e (n + 2) _ h (test_good 153 n k refl (chain (expr_end w e (n + 2) _) h) g)
    expr_good (Binary op a b m) n k h g =
        let s = shape_of op a in
        let f = shape_fits op (is_number (mark a).ty) in
        let i = n + shape_labels s in
        let x = chain (between_end s n _) (chain (expr_end w a i _) h) in
        let y = chain (expr_end w b (expr_labels a i) _) x in
        expr_good a i _ h
        (between_good s n k _ f y (expr_good b (expr_labels a i) _ x (shape_good s n k f y g)))

    may_good : (o : MayTExp) (n : ℕ) (k : List Item) → IsEnd (may_code w o n k) whole
        → AllGood k → AllGood (may_code w o n k)
    may_good Absent n k h g = g
    may_good (Present e) n k h g = expr_good e n k h g

    args_good : (es : TExps) (n : ℕ) (k : List Item) → IsEnd (args_code w es n k) whole
        → AllGood k → AllGood (args_code w es n k)
    args_good NoExps n k h g = g
    args_good (More e es) n k h g =
        expr_good e n _ h (args_good es (expr_labels e n) k (chain (expr_end w e n _) h) g)

  -- ---- statements

  goes_good : (b : Bool) (l : ℕ) (k : List Item) → Stands l → AllGood k → AllGood (goes_on b l k)
  goes_good true l k s g = ((refl, s), g)
  goes_good false l k s g = g

  loop_good : (b : Bool) (e : TExp) (n out : ℕ) (k : List Item)
      → IsEnd (loop_test w b e n out k) whole → Stands out → AllGood k
      → AllGood (loop_test w b e n out k)
  loop_good true e n out k h s g = g
  loop_good false e n out k h s g = expr_good e n _ h ((refl, s), g)

  -- where break and continue go, in a loop
  abbrev pub LoopStands : Bool → Loop → Type 0
  LoopStands looped l = looped ≡ true → Stands l.out × Stands l.again

  mutual
    unfolding code StaFits

    pub sta_good : (looped : Bool) (s : TSta) (l : Loop) (n : ℕ) (k : List Item)
        → StaFits looped s → LoopStands looped l → IsEnd (code w s l n k) whole → AllGood k
        → AllGood (code w s l n k)
    sta_good y (Block ss at p) l n k f t h g = all_good y ss l n k f t h g
    sta_good y (If e s o at p) l n k f t h g =
        let i = expr_labels e (n + 2) in
        let a = past (chain (expr_end w e (n + 2) _) h) in
        let b = ways w whole s o l n i k a in
        expr_good e (n + 2) _ h (
          (refl, stands b.label),
          sta_good y s l i _ f.1 t a
              (goes_good (completes s) (n + 1) _ (stands b.end) (
                (tt, tt),
                else_good y o l (labels s i) _
                    f.2 t (past b.label) ((tt, tt), g),
              )),
        )
    sta_good y (While e s at p) l n k f t h g =
        let a = turns w whole e s n k (past h) in (
          (tt, tt),
          loop_good (is_true e) e (n + 2) (n + 1) _ (past h) (stands a.end)
              (sta_good true s (record { out = n + 1; again = n }) (expr_labels e (n + 2)) _ f.1
              (λ is. (stands a.end, stands h)) a.body
              (goes_good (completes s) n _ (stands h) ((tt, tt), g))),
        )
    sta_good y (Try s cs at p) l n k f t h g =
        let a = tries w whole s cs l n k (past h) in (
          (tt, tt),
          sta_good y s l (n + 3) _ f.0 t (past h)
              (goes_good (completes s) (n + 2) _ (stands a.end) (
                (tt, tt),
                catch_good y cs l (n + 2) (labels s (n + 3)) _ f.1 t (stands a.end) (past a.to)
                    ((tt, tt), g),
              )),
        )
    sta_good y (Return Absent at p) l n k f t h g = (((refl, refl), tt), g)
    sta_good y (Return (Present e) at p) l n k f t h g =
        expr_good e n _ h (back_good (is_number (mark e).ty) k g)
    sta_good y (Break at p) l n k f t h g = ((refl, (t f).0), g)
    sta_good y (Continue at p) l n k f t h g = ((refl, (t f).1), g)
    sta_good y (Throw c at p) l n k f t h g = made_good c (Op Athrow ∷ k) (((refl, refl), tt), g)
    sta_good y (Open i at p) l n k f t h g = ((tt, tt), (((refl, f), tt), g))
    sta_good y (Close i at p) l n k f t h g = ((tt, tt), (((refl, f), tt), g))
    sta_good y (SetLocal x q e at p) l n k f t h g =
        expr_good e n _ h ((store_fits (mark e).ty x, store_goes (mark e).ty x), g)
    sta_good y (SetStatic c i e at p) l n k f t h g =
        expr_good e n _ h (((refl, texts.class c, texts.field c i, texts.field_type c i), tt), g)
    sta_good y (SetField o c i e at p) l n k f t h g =
        expr_good o n _ h (expr_good e (expr_labels o n) _ (chain (expr_end w o n _) h)
        (((refl, texts.class c, texts.field c i, texts.field_type c i), tt), g))
    sta_good y (Eval e at p) l n k f t h g =
        expr_good e n _ h (drop_good (is_void (mark e).ty) k g)
    sta_good y (When i s o at p) l n k f t h g =
        let a = past (past h) in
        let b = ways w whole s o l n (n + 2) k a in (
          ((refl, f.0), tt),
          (
            (refl, stands b.label),
            sta_good y s l (n + 2) _ f.1 t a
                (goes_good (completes s) (n + 1) _ (stands b.end) (
                  (tt, tt),
                  else_good y o l
                      (labels s (n + 2)) _ f.2 t (past b.label) ((tt, tt), g),
                )),
          ),
        )

    else_good : (looped : Bool) (o : MayTSta) (l : Loop) (n : ℕ) (k : List Item)
        → ElseFits looped o → LoopStands looped l → IsEnd (else_code w o l n k) whole → AllGood k
        → AllGood (else_code w o l n k)
    else_good y NoElse l n k f t h g = g
    else_good y (Otherwise s) l n k f t h g = sta_good y s l n k f t h g

    all_good : (looped : Bool) (ss : TStas) (l : Loop) (n : ℕ) (k : List Item)
        → AllFit looped ss → LoopStands looped l → IsEnd (all_code w ss l n k) whole → AllGood k
        → AllGood (all_code w ss l n k)
    all_good y End l n k f t h g = g
    all_good y (Then s ss) l n k f t h g =
        sta_good y s l n _ f.0 t h
        (all_good y ss l (labels s n) k f.1 t (chain (sta_end w s l n _) h) g)

    catch_good : (looped : Bool) (cs : TCatches) (l : Loop) (end n : ℕ) (k : List Item)
        → CatchesFit looped cs → LoopStands looped l → Stands end
        → IsEnd (catch_code w cs l end n k) whole → AllGood k
        → AllGood (catch_code w cs l end n k)
    catch_good y NoCatch l end n k f t z h g = g
    catch_good y (Catch c s cs) l end n k f t z h g =
        let a = past (past h) in (
          (tt, tt),
          (
            ((refl, refl), tt),
            sta_good y s l (n + 1) _ f.0 t a
                (goes_good (completes s) end _ z (catch_good y cs l end (labels s (n + 1)) k f.1 t z
                (next_catch w whole s l end (n + 1) _ a) g)),
          ),
        )

  pub ending_good : (b : Bool) → AllGood (ending b)
  ending_good true = (((refl, refl), tt), tt)
  ending_good false = tt
