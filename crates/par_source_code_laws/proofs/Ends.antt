-- What stands at the end of the code of each form: all that follows it.
use Rattle.std.proofs.Common.{◌≡◌, ℕ, ◌+◌, Bool, true, false, List, [], ◌∷◌, ◌++◌, refl, sym}
use Rattle.std.proofs.Common.{ap, ◌∙◌, append_assoc}
use Rattle.std.proofs.lemmas.List.{append-nil}
use Rattle.std.specs.Prelude.{IsTrue, if◌then◌else◌}
use Rattle.par_typed.specs.Plain.{mark, TExp, Int, Boolean, Null, This, New, Local, Static}
use Rattle.par_typed.specs.Plain.{Field, Input, Output, Call, Neg, Not, Binary}
use Rattle.par_typed.specs.Plain.{MayTExp, Absent, Present, TExps, NoExps, More}
use Rattle.par_typed.specs.Plain.{TSta, Block, If, While, Try, Return, Break, Continue, Throw, Open}
use Rattle.par_typed.specs.Plain.{Close, SetLocal, SetStatic, SetField, Eval, When}
use Rattle.par_typed.specs.Plain.{MayTSta, NoElse, Otherwise, TStas, End, Then, TCatches, NoCatch}
use Rattle.par_typed.specs.Plain.{Catch}
use Rattle.par_typed_laws.specs.par_completes.Typed.{completes, is_true}
use Rattle.par_code_form.specs.declared.item.Item.{Item}
use Rattle.par_code_form.specs.Code.{Words, Shape, Calculates, Compares, Sames}
use Rattle.par_code_form.specs.Code.{Decides, shape_of}
use Rattle.par_code_form.specs.Code.{shape_labels, shape_code, between, test_code}
use Rattle.par_code_form.specs.Code.{made}
use Rattle.par_code_form.specs.Code.{expr_labels, may_labels, expr_code, may_code}
use Rattle.par_code_form.specs.Code.{args_code}
use Rattle.par_code_form.specs.Code.{Loop, goes_on, loop_test, labels, code}
use Rattle.par_code_form.specs.Code.{else_code, all_code}
use Rattle.par_code_form.specs.Code.{catch_code, is_void}
use Rattle.par_code_form.specs.Instructions.{is_instruction}

-- these items stand at the end of those
pub record IsEnd (xs ys : List Item) : Type 0 where
  pub front : List Item
  pub is : ys ≡ front ++ xs

pub here : (xs : List Item) → IsEnd xs xs
here xs = record { front = []; is = refl }

pub more : (x : Item) {xs ys : List Item} → IsEnd xs ys → IsEnd xs (x ∷ ys)
more x e = record { front = x ∷ e.front; is = ap (λ (zs : List Item). x ∷ zs) e.is }

unfoldable pub past : {x : Item} {xs ys : List Item} → IsEnd (x ∷ xs) ys → IsEnd xs ys
past {x} {xs} e = record {
  front = e.front ++ x ∷ [];
  is = e.is ∙ sym (append_assoc e.front (x ∷ []) xs);
}

unfoldable pub chain : {xs ys zs : List Item} → IsEnd xs ys → IsEnd ys zs → IsEnd xs zs
chain {xs} e f = record {
  front = f.front ++ e.front;
  is =
      f.is ∙ ap (λ (ys : List Item). f.front ++ ys) e.is
      ∙ sym (append_assoc f.front e.front xs);
}

-- an instruction stands in xs, and ys behind it
pub record IsBefore (ys xs : List Item) : Type 0 where
  pub item : Item
  pub rest : List Item
  pub is : IsTrue (is_instruction item)
  pub stands : IsEnd (item ∷ rest) xs
  pub later : IsEnd ys rest

-- an instruction stands in xs
abbrev pub HasOp : List Item → Type 0
HasOp xs = IsBefore [] xs

pub in_more : {ys xs zs : List Item} → IsBefore ys xs → IsEnd xs zs → IsBefore ys zs
in_more b e = record {
  item = b.item;
  rest = b.rest;
  is = b.is;
  stands = chain b.stands e;
  later = b.later;
}

pub at_head : (x : Item) {ys xs : List Item} → IsTrue (is_instruction x) → IsEnd ys xs
    → IsBefore ys (x ∷ xs)
at_head x {ys} {xs} is e = record {
  item = x;
  rest = xs;
  is = is;
  stands = here (x ∷ xs);
  later = e;
}

pub none : (xs : List Item) → IsEnd [] xs
none xs = record { front = xs; is = sym (append-nil xs) }

-- ---- expressions

test_end : (o n : ℕ) (k : List Item) → IsEnd k (test_code o n k)
test_end o n k = more _ (more _ (more _ (more _ (more _ (more _ (here k))))))

pub shape_end : (s : Shape) (n : ℕ) (k : List Item) → IsEnd k (shape_code s n k)
shape_end (Calculates o i) n k = more _ (here k)
shape_end (Compares t) n k = test_end _ n k
shape_end (Sames b) n k = test_end _ n k
shape_end (Decides o) n k = more _ (here k)

pub between_end : (s : Shape) (n : ℕ) (k : List Item) → IsEnd k (between s n k)
between_end (Calculates o i) n k = here k
between_end (Compares t) n k = here k
between_end (Sames b) n k = here k
between_end (Decides o) n k = more _ (more _ (more _ (here k)))

pub made_end : (c : List ℕ) (k : List Item) → IsEnd k (made c k)
made_end c k = more _ (more _ (more _ (here k)))

module _ (w : Words) where
  mutual
    unfolding expr_code

    pub expr_end : (e : TExp) (n : ℕ) (k : List Item) → IsEnd k (expr_code w e n k)
    expr_end (Int v m) n k = more _ (here k)
    expr_end (Boolean true m) n k = more _ (here k)
    expr_end (Boolean false m) n k = more _ (here k)
    expr_end (Null m) n k = more _ (here k)
    expr_end (This m) n k = more _ (here k)
    expr_end (New c m) n k = made_end (w.class c) k
    expr_end (Local x m) n k = more _ (here k)
    expr_end (Static c f m) n k = more _ (here k)
    expr_end (Field e c f m) n k = chain (more _ (here k)) (expr_end e n _)
    expr_end (Input c i m) n k = more _ (here k)
    expr_end (Output c i e m) n k = chain (more _ (here k)) (expr_end e n _)
    expr_end (Call c i o es m) n k =
        chain (chain (more _ (here k)) (args_end es (may_labels o n) _)) (may_end o n _)
    expr_end (Neg e m) n k = chain (more _ (here k)) (expr_end e n _)
    expr_end (Not e m) n k = chain (test_end _ n k) (expr_end e (n + 2) _)
    expr_end (Binary op a b m) n k =
        let s = shape_of op a in
        let l = n + shape_labels s in
        chain (chain (shape_end s n k) (expr_end b (expr_labels a l) _))
        (chain (between_end s n _) (expr_end a l _))

    pub may_end : (o : MayTExp) (n : ℕ) (k : List Item) → IsEnd k (may_code w o n k)
    may_end Absent n k = here k
    may_end (Present e) n k = expr_end e n k

    pub args_end : (es : TExps) (n : ℕ) (k : List Item) → IsEnd k (args_code w es n k)
    args_end NoExps n k = here k
    args_end (More e es) n k = chain (args_end es (expr_labels e n) k) (expr_end e n _)

-- ---- statements

pub goes_end : (b : Bool) (l : ℕ) (k : List Item) → IsEnd k (goes_on b l k)
goes_end true l k = more _ (here k)
goes_end false l k = here k

pub dropped_end : (b : Bool) (x : Item) (k : List Item)
    → IsEnd k (if b then k else (x ∷ k))
dropped_end true x k = here k
dropped_end false x k = more _ (here k)

module _ (w : Words) where
  pub loop_end : (b : Bool) (e : TExp) (n out : ℕ) (k : List Item)
      → IsEnd k (loop_test w b e n out k)
  loop_end true e n out k = here k
  loop_end false e n out k = chain (more _ (here k)) (expr_end w e n _)

  mutual
    unfolding code

    pub sta_end : (s : TSta) (l : Loop) (n : ℕ) (k : List Item) → IsEnd k (code w s l n k)
    sta_end (Block ss at p) l n k = all_end ss l n k
    sta_end (If e s o at p) l n k =
        let i = expr_labels e (n + 2) in
        chain (chain (chain (chain (more _ (here k)) (else_end o l (labels s i) _)) (more _
        (here _))) (chain (goes_end (completes s) (n + 1) _) (sta_end s l i _)))
        (chain (more _ (here _)) (expr_end w e (n + 2) _))
    sta_end (While e s at p) l n k =
        more _
        (chain (chain (chain (more _ (here k)) (goes_end (completes s) n _))
        (sta_end s (record { out = n + 1; again = n }) (expr_labels e (n + 2)) _))
        (loop_end (is_true e) e (n + 2) (n + 1) _))
    sta_end (Try s cs at p) l n k =
        more _
        (chain (chain (chain (more _ (here k)) (catch_end cs l (n + 2) (labels s (n + 3)) _))
        (more _ (here _))) (chain (goes_end (completes s) (n + 2) _) (sta_end s l (n + 3) _)))
    sta_end (Return Absent at p) l n k = more _ (here k)
    sta_end (Return (Present e) at p) l n k = chain (more _ (here k)) (expr_end w e n _)
    sta_end (Break at p) l n k = more _ (here k)
    sta_end (Continue at p) l n k = more _ (here k)
    sta_end (Throw c at p) l n k = chain (more _ (here k)) (made_end (w.class c) _)
    sta_end (Open i at p) l n k = more _ (more _ (here k))
    sta_end (Close i at p) l n k = more _ (more _ (here k))
    sta_end (SetLocal x q e at p) l n k = chain (more _ (here k)) (expr_end w e n _)
    sta_end (SetStatic c f e at p) l n k = chain (more _ (here k)) (expr_end w e n _)
    sta_end (SetField o c f e at p) l n k =
        chain (chain (more _ (here k)) (expr_end w e (expr_labels o n) _)) (expr_end w o n _)
    sta_end (Eval e at p) l n k =
        chain (dropped_end (is_void (mark e).ty) _ k) (expr_end w e n _)
    sta_end (When i s o at p) l n k =
        more _ (more _
        (chain (chain (chain (more _ (here k)) (else_end o l (labels s (n + 2)) _)) (more _
        (here _))) (chain (goes_end (completes s) (n + 1) _) (sta_end s l (n + 2) _))))

    pub else_end : (o : MayTSta) (l : Loop) (n : ℕ) (k : List Item)
        → IsEnd k (else_code w o l n k)
    else_end NoElse l n k = here k
    else_end (Otherwise s) l n k = sta_end s l n k

    pub all_end : (ss : TStas) (l : Loop) (n : ℕ) (k : List Item) → IsEnd k (all_code w ss l n k)
    all_end End l n k = here k
    all_end (Then s ss) l n k = chain (all_end ss l (labels s n) k) (sta_end s l n _)

    pub catch_end : (cs : TCatches) (l : Loop) (end n : ℕ) (k : List Item)
        → IsEnd k (catch_code w cs l end n k)
    catch_end NoCatch l end n k = here k
    catch_end (Catch c s cs) l end n k =
        more _ (more _
        (chain (chain (catch_end cs l end (labels s (n + 1)) k) (goes_end (completes s) end _))
        (sta_end s l (n + 1) _)))
