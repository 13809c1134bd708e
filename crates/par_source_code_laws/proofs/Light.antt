-- The code of a node has at most 16 bytes and needs at most 8 entries of a pool.
use Rattle.std.proofs.Common.{◌≡◌, ℕ, ◌+◌, ◌*◌, ◌≤◌, ℤ, Bool, true, false, cond, List, [], ◌∷◌}
use Rattle.std.proofs.Common.{length, refl, ap, ◌∙◌, arith, codes}
use Rattle.std.specs.Prelude.{nat_le, sum_by, if◌then◌else◌}
use Rattle.std.proofs.lemmas.List.Sums.{sum_by-cons}
use Rattle.par_typed.specs.par_lexer.declared.operator.BinOp.{BinOp}
use Rattle.par_typed.specs.par_lexer.declared.operator.BinOp.TheVariants as bin
use Rattle.par_typed.specs.Plain.{mark, TExp, Int, Boolean, Null, This, New, Local, Static}
use Rattle.par_typed.specs.Plain.{Field, Input, Output, Call, Neg, Not, Binary}
use Rattle.par_typed.specs.Plain.{MayTExp, Absent, Present, TExps, NoExps, More}
use Rattle.par_typed.specs.Plain.{TSta, Block, If, While, Try, Return, Break, Continue, Throw, Open}
use Rattle.par_typed.specs.Plain.{Close, SetLocal, SetStatic, SetField, Eval, When}
use Rattle.par_typed.specs.Plain.{MayTSta, NoElse, Otherwise, TStas, End, Then, TCatches, NoCatch}
use Rattle.par_typed.specs.Plain.{Catch}
use Rattle.par_typed_laws.specs.par_completes.Typed.{completes, is_true}
use Rattle.par_code_form.specs.declared.item.Item.{Item}
use Rattle.par_code_form.specs.declared.item.Item.TheVariants.{Label, Op, Const}
use Rattle.par_code_form.specs.declared.item.Item.TheVariants.{Jump, Member}
use Rattle.par_code_form.specs.declared.labelled.Handler.{Handler}
use Rattle.par_code_form.specs.Code.{Words, Shape, Calculates, Compares, Sames}
use Rattle.par_code_form.specs.Code.{Decides, shape}
use Rattle.par_code_form.specs.Code.{shape_of, shape_labels, shape_code, between}
use Rattle.par_code_form.specs.Code.{expr_labels, may_labels, expr_code, may_code}
use Rattle.par_code_form.specs.Code.{args_code}
use Rattle.par_code_form.specs.Code.{Loop, goes_on, loop_test, labels, code}
use Rattle.par_code_form.specs.Code.{else_code, all_code}
use Rattle.par_code_form.specs.Code.{catch_code, ending, load, store, give_back}
use Rattle.par_code_form.specs.Code.{dropped}
use Rattle.par_code_form.specs.Code.{handlers, else_handlers, all_handlers}
use Rattle.par_code_form.specs.Code.{catch_handlers}
use Rattle.par_code_form.specs.Code.{is_number, is_void, no_loop, body_code}
use Rattle.par_code_form.specs.Code.{body_handlers}
use Rattle.par_code_form.specs.Code.{invoke, test_code}
use Rattle.par_code_form.specs.Opcodes.{IFEQ, GETFIELD, PUTSTATIC, PUTFIELD}
use Rattle.par_code_form.specs.Opcodes.{INVOKESTATIC}
use Rattle.par_instr.specs.declared.instr.Instr.TheVariants.{Ineg, Pop}
use Rattle.par_instr.specs.Spelling.{is_constant}
use Rattle.par_typed.specs.declared.ty.Ty.{Ty}
use Rattle.par_code_form.specs.Instructions.{within}
use Rattle.par_code_form.specs.PoolNames.{entries}
use Rattle.par_code_form.specs.Placeable.{most_bytes}
use Rattle.par_typed_laws.specs.Sizes.{is_this, size, receiver_size, args_size}
use Rattle.par_typed_laws.specs.Sizes.{stmt_size, else_size, all_size, catches_size}
use Rattle.par_typed_laws.specs.Blocks.{is_block, HasBlocks, ElseHasBlocks, AllHaveBlocks}
use Rattle.par_typed_laws.specs.Blocks.{CatchesHaveBlocks}

-- the sum of the weights of items
abbrev pub total : (Item → ℕ) → List Item → ℕ
total f [] = 0
total f (x ∷ xs) = f x + total f xs

pub total_is : (f : Item → ℕ) (xs : List Item) → sum_by f xs ≡ total f xs
total_is f [] = refl
total_is f (x ∷ xs) = sum_by-cons f x xs ∙ ap (λ n. f x + n) (total_is f xs)

-- what stands before k is of so many nodes
record IsLight (xs : List Item) (nodes : ℕ) (k : List Item) : Type 0 where
  bytes : total most_bytes xs ≤ 16 * nodes + total most_bytes k
  needs : total entries xs ≤ 8 * nodes + total entries k

-- the same where a receiver is not counted
record IsPart (xs : List Item) (nodes : ℕ) (k : List Item) : Type 0 where
  bytes : total most_bytes xs ≤ 1 + 16 * nodes + total most_bytes k
  needs : total entries xs ≤ 8 * nodes + total entries k

as_part : (xs : List Item) (nodes : ℕ) (k : List Item) → IsLight xs nodes k → IsPart xs nodes k
as_part xs nodes k h = record { bytes = omega (arith, h.bytes); needs = h.needs }

-- ---- one item

choice_bytes : (a b : Bool) → (if a then 1 else if b then 2 else 3) ≤ 3
choice_bytes true b = omega arith
choice_bytes false true = omega arith
choice_bytes false false = omega arith

const_bytes : (v : ℤ) → most_bytes (Const v) ≤ 3
const_bytes v = choice_bytes (is_constant v) (within 128 v)

choice_needs : (a : Bool) → (if a then 0 else 1) ≤ 1
choice_needs true = omega arith
choice_needs false = omega arith

const_needs : (v : ℤ) → entries (Const v) ≤ 1
const_needs v = choice_needs (within 32768 v)

load_bytes : (a b : Bool) (f : Item → ℕ) (w x y z : Item) (n : ℕ) → f w ≤ n → f x ≤ n → f y ≤ n
    → f z ≤ n → f (if a then (if b then w else x) else (if b then y else z)) ≤ n
load_bytes true true f w x y z n e g h i = e
load_bytes true false f w x y z n e g h i = g
load_bytes false true f w x y z n e g h i = h
load_bytes false false f w x y z n e g h i = i

one_of : (a : Bool) (f : Item → ℕ) (x y : Item) (n : ℕ) → f x ≤ n → f y ≤ n
    → f (if a then x else y) ≤ n
one_of true f x y n e g = e
one_of false f x y n e g = g

local_bytes : (t : Ty) (x : ℕ) → most_bytes (load t x) ≤ 2
local_bytes t x =
    load_bytes (is_number t) (nat_le x 3) most_bytes _ _ _ _ 2 (omega arith) (omega arith)
    (omega arith) (omega arith)

local_needs : (t : Ty) (x : ℕ) → entries (load t x) ≤ 0
local_needs t x =
    load_bytes (is_number t) (nat_le x 3) entries _ _ _ _ 0 (omega arith) (omega arith)
    (omega arith) (omega arith)

store_bytes : (t : Ty) (x : ℕ) → most_bytes (store t x) ≤ 2
store_bytes t x =
    load_bytes (is_number t) (nat_le x 3) most_bytes _ _ _ _ 2 (omega arith) (omega arith)
    (omega arith) (omega arith)

store_needs : (t : Ty) (x : ℕ) → entries (store t x) ≤ 0
store_needs t x =
    load_bytes (is_number t) (nat_le x 3) entries _ _ _ _ 0 (omega arith) (omega arith)
    (omega arith) (omega arith)

back_bytes : (t : Ty) → most_bytes (give_back t) ≤ 1
back_bytes t = one_of (is_number t) most_bytes _ _ 1 (omega arith) (omega arith)

back_needs : (t : Ty) → entries (give_back t) ≤ 0
back_needs t = one_of (is_number t) entries _ _ 0 (omega arith) (omega arith)

-- ---- expressions

-- what an operator adds of its own
record IsOwn (xs k : List Item) : Type 0 where
  bytes : total most_bytes xs ≤ 8 + total most_bytes k
  needs : total entries xs ≤ total entries k

equal_own : (b : Bool) (x y : Shape) (n : ℕ) (k : List Item) → IsOwn (shape_code x n k) k
    → IsOwn (shape_code y n k) k → IsOwn (shape_code (if b then x else y) n k) k
equal_own true x y n k g h = g
equal_own false x y n k g h = h

shape_own : (op : BinOp) (b : Bool) (n : ℕ) (k : List Item) → IsOwn (shape_code (shape op b) n k) k
shape_own bin.Or b n k = record { bytes = omega arith; needs = omega arith }
shape_own bin.And b n k = record { bytes = omega arith; needs = omega arith }
shape_own bin.BitOr b n k = record { bytes = omega arith; needs = omega arith }
shape_own bin.BitXor b n k = record { bytes = omega arith; needs = omega arith }
shape_own bin.BitAnd b n k = record { bytes = omega arith; needs = omega arith }
shape_own bin.Eq b n k =
    equal_own b _ _ n k (record { bytes = omega arith; needs = omega arith })
    (record { bytes = omega arith; needs = omega arith })
shape_own bin.Ne b n k =
    equal_own b _ _ n k (record { bytes = omega arith; needs = omega arith })
    (record { bytes = omega arith; needs = omega arith })
shape_own bin.Lt b n k = record { bytes = omega arith; needs = omega arith }
shape_own bin.Le b n k = record { bytes = omega arith; needs = omega arith }
shape_own bin.Gt b n k = record { bytes = omega arith; needs = omega arith }
shape_own bin.Ge b n k = record { bytes = omega arith; needs = omega arith }
shape_own bin.Shl b n k = record { bytes = omega arith; needs = omega arith }
shape_own bin.Shr b n k = record { bytes = omega arith; needs = omega arith }
shape_own bin.Ushr b n k = record { bytes = omega arith; needs = omega arith }
shape_own bin.Add b n k = record { bytes = omega arith; needs = omega arith }
shape_own bin.Sub b n k = record { bytes = omega arith; needs = omega arith }
shape_own bin.Mul b n k = record { bytes = omega arith; needs = omega arith }
shape_own bin.Div b n k = record { bytes = omega arith; needs = omega arith }
shape_own bin.Rem b n k = record { bytes = omega arith; needs = omega arith }

between_own : (s : Shape) (n : ℕ) (k : List Item) → IsOwn (between s n k) k
between_own (Calculates o i) n k = record { bytes = omega arith; needs = omega arith }
between_own (Compares t) n k = record { bytes = omega arith; needs = omega arith }
between_own (Sames b) n k = record { bytes = omega arith; needs = omega arith }
between_own (Decides o) n k = record { bytes = omega arith; needs = omega arith }

module _ (w : Words) where
  this_part : (e : TExp) (n : ℕ) (k : List Item) → IsLight (expr_code w e n k) (size e) k
      → IsPart (expr_code w e n k) (cond (is_this e) 0 (size e)) k
  unfolding expr_code
  this_part (Int v m) n k h = as_part _ _ k h
  this_part (Boolean b m) n k h = as_part _ _ k h
  this_part (Null m) n k h = as_part _ _ k h
  this_part (This m) n k h = record { bytes = omega arith; needs = omega arith }
  this_part (New c m) n k h = as_part _ _ k h
  this_part (Local x m) n k h = as_part _ _ k h
  this_part (Static c f m) n k h = as_part _ _ k h
  this_part (Field e c f m) n k h = as_part _ _ k h
  this_part (Input c i m) n k h = as_part _ _ k h
  this_part (Output c i e m) n k h = as_part _ _ k h
  this_part (Call c i o es m) n k h = as_part _ _ k h
  this_part (Neg e m) n k h = as_part _ _ k h
  this_part (Not e m) n k h = as_part _ _ k h
  this_part (Binary op a b m) n k h = as_part _ _ k h

  mutual
    unfolding expr_code size

    expr_light : (e : TExp) (n : ℕ) (k : List Item) → IsLight (expr_code w e n k) (size e) k
    expr_light (Int v m) n k =
        let a = const_bytes v in let b = const_needs v in
        record { bytes = omega (arith, a); needs = omega (arith, b) }
    expr_light (Boolean true m) n k = record { bytes = omega arith; needs = omega arith }
    expr_light (Boolean false m) n k = record { bytes = omega arith; needs = omega arith }
    expr_light (Null m) n k = record { bytes = omega arith; needs = omega arith }
    expr_light (This m) n k = record { bytes = omega arith; needs = omega arith }
    expr_light (New c m) n k = record { bytes = omega arith; needs = omega arith }
    expr_light (Local x m) n k =
        let a = local_bytes m.ty x in let b = local_needs m.ty x in
        record { bytes = omega (arith, a); needs = omega (arith, b) }
    expr_light (Static c f m) n k = record { bytes = omega arith; needs = omega arith }
    expr_light (Field e c f m) n k =
        let k1 : List Item = Member GETFIELD (w.class c) (w.field c f) (w.field_type c f) ∷ k in
        let a = this_part e n k1 (expr_light e n k1) in
        record { bytes = omega (arith, a.bytes); needs = omega (arith, a.needs) }
    expr_light (Input c i m) n k = record { bytes = omega arith; needs = omega arith }
    expr_light (Output c i e m) n k =
        let a =
        expr_light e n (Member INVOKESTATIC (w.class c) (w.channel c i) (codes "(I)V") ∷ k) in
        record { bytes = omega (arith, a.bytes); needs = omega (arith, a.needs) }
    expr_light (Call c i o es m) n k =
        let k1 : List Item =
        Member (invoke o) (w.class c) (w.method c i) (w.method_type c i) ∷ k in
        let a = receiver_light o n (args_code w es (may_labels o n) k1) in
        let b = args_light es (may_labels o n) k1 in
        record { bytes = omega (arith, a.bytes, b.bytes); needs = omega (arith, a.needs, b.needs) }
    expr_light (Neg e m) n k =
        let a = expr_light e n (Op Ineg ∷ k) in
        record { bytes = omega (arith, a.bytes); needs = omega (arith, a.needs) }
    expr_light (Not e m) n k =
        let a = expr_light e (n + 2) (test_code IFEQ n k) in
        record { bytes = omega (arith, a.bytes); needs = omega (arith, a.needs) }
    expr_light (Binary op a b m) n k =
        let s = shape_of op a in
        let i = n + shape_labels s in
        let k1 = shape_code s n k in
        let k2 = expr_code w b (expr_labels a i) k1 in
        let x = expr_light a i (between s n k2) in
        let y = between_own s n k2 in
        let z = expr_light b (expr_labels a i) k1 in
        let u = shape_own op (is_number (mark a).ty) n k in
        record {
          bytes = omega (arith, x.bytes, y.bytes, z.bytes, u.bytes);
          needs = omega (arith, x.needs, y.needs, z.needs, u.needs);
        }

    receiver_light : (o : MayTExp) (n : ℕ) (k : List Item)
        → IsPart (may_code w o n k) (receiver_size o) k
    receiver_light Absent n k = record { bytes = omega arith; needs = omega arith }
    receiver_light (Present e) n k = this_part e n k (expr_light e n k)

    args_light : (es : TExps) (n : ℕ) (k : List Item)
        → IsLight (args_code w es n k) (args_size es) k
    args_light NoExps n k = record { bytes = omega arith; needs = omega arith }
    args_light (More e es) n k =
        let a = expr_light e n (args_code w es (expr_labels e n) k) in
        let b = args_light es (expr_labels e n) k in
        record { bytes = omega (arith, a.bytes, b.bytes); needs = omega (arith, a.needs, b.needs) }

-- ---- statements

-- items and handlers of so many nodes, where these many bytes and entries are still left
record IsSmall (xs k : List Item) (hs hk : List Handler) (nodes left spare : ℕ) : Type 0 where
  bytes : total most_bytes xs + left ≤ 16 * nodes + total most_bytes k
  needs : total entries xs + 2 * length hs + spare
      ≤ 8 * nodes + total entries k + 2 * length hk

-- a jump where control comes to it
goes_own : (b : Bool) (l : ℕ) (k : List Item)
    → (total most_bytes (goes_on b l k) ≤ 3 + total most_bytes k)
    × (total entries (goes_on b l k) ≤ total entries k)
goes_own true l k = (omega arith, omega arith)
goes_own false l k = (omega arith, omega arith)

drop_own : (b : Bool) (k : List Item) (x : Item) → most_bytes x ≤ 1 → entries x ≤ 0
    → (total most_bytes (if b then k else (x ∷ k)) ≤ 1 + total most_bytes k)
    × (total entries (if b then k else (x ∷ k)) ≤ total entries k)
drop_own true k x e f = (omega arith, omega arith)
drop_own false k x e f = (omega (arith, e), omega (arith, f))

-- a block has room for the handler of a catch
abbrev spare_of : TSta → ℕ
spare_of s = cond (is_block s) 2 0

module _ (w : Words) where
  test_own : (b : Bool) (e : TExp) (n out : ℕ) (k : List Item)
      → (total most_bytes (loop_test w b e n out k) ≤ 3 + 16 * size e + total most_bytes k)
      × (total entries (loop_test w b e n out k) ≤ 8 * size e + total entries k)
  test_own true e n out k = (omega arith, omega arith)
  test_own false e n out k =
      let a = expr_light w e n (Jump IFEQ out ∷ k) in
      (omega (arith, a.bytes), omega (arith, a.needs))

  mutual
    unfolding code handlers stmt_size HasBlocks

    sta_small : (s : TSta) (l : Loop) (n : ℕ) (k : List Item) (hk : List Handler) → HasBlocks s
        → IsSmall (code w s l n k) k (handlers w s n hk) hk (stmt_size s) 4 (spare_of s)
    sta_small (Block ss at p) l n k hk b =
        let a = all_small ss l n k hk b in
        record { bytes = omega (arith, a.bytes); needs = omega (arith, a.needs) }
    sta_small (If e s o at p) l n k hk b =
        let i = expr_labels e (n + 2) in
        let k1 : List Item = Label (n + 1) ∷ k in
        let k2 : List Item = Label n ∷ else_code w o l (labels s i) k1 in
        let k3 = goes_on (completes s) (n + 1) k2 in
        let x = expr_light w e (n + 2) (Jump IFEQ n ∷ code w s l i k3) in
        let g = goes_own (completes s) (n + 1) k2 in
        let d = else_small o l (labels s i) k1 hk b.1 in
        let a = sta_small s l i k3 (else_handlers w o (labels s i) hk) b.0 in
        record {
          bytes = omega (arith, x.bytes, a.bytes, g.0, d.bytes);
          needs = omega (arith, x.needs, a.needs, g.1, d.needs);
        }
    sta_small (While e s at p) l n k hk b =
        let i = expr_labels e (n + 2) in
        let inner : Loop = record { out = n + 1; again = n } in
        let k1 : List Item = Label (n + 1) ∷ k in
        let k2 = goes_on (completes s) n k1 in
        let x = test_own (is_true e) e (n + 2) (n + 1) (code w s inner i k2) in
        let g = goes_own (completes s) n k1 in
        let a = sta_small s inner i k2 hk b in
        record {
          bytes = omega (arith, x.0, a.bytes, g.0);
          needs = omega (arith, x.1, a.needs, g.1);
        }
    sta_small (Try s cs at p) l n k hk b =
        let k1 : List Item = Label (n + 2) ∷ k in
        let k2 : List Item = Label (n + 1) ∷ catch_code w cs l (n + 2) (labels s (n + 3)) k1 in
        let k3 = goes_on (completes s) (n + 2) k2 in
        let g = goes_own (completes s) (n + 2) k2 in
        let d = catch_small cs l (n + 2) n (labels s (n + 3)) k1 hk b.1 in
        let a = sta_small s l (n + 3) k3 (catch_handlers w cs n (labels s (n + 3)) hk) b.0 in
        record {
          bytes = omega (arith, a.bytes, g.0, d.bytes);
          needs = omega (arith, a.needs, g.1, d.needs);
        }
    sta_small (Return Absent at p) l n k hk b = record { bytes = omega arith; needs = omega arith }
    sta_small (Return (Present e) at p) l n k hk b =
        let x = expr_light w e n (give_back (mark e).ty ∷ k) in
        let g = back_bytes (mark e).ty in let h = back_needs (mark e).ty in
        record { bytes = omega (arith, x.bytes, g); needs = omega (arith, x.needs, h) }
    sta_small (Break at p) l n k hk b = record { bytes = omega arith; needs = omega arith }
    sta_small (Continue at p) l n k hk b = record { bytes = omega arith; needs = omega arith }
    sta_small (Throw c at p) l n k hk b = record { bytes = omega arith; needs = omega arith }
    sta_small (Open i at p) l n k hk b = record { bytes = omega arith; needs = omega arith }
    sta_small (Close i at p) l n k hk b = record { bytes = omega arith; needs = omega arith }
    sta_small (SetLocal x q e at p) l n k hk b =
        let y = expr_light w e n (store (mark e).ty x ∷ k) in
        let g = store_bytes (mark e).ty x in let h = store_needs (mark e).ty x in
        record { bytes = omega (arith, y.bytes, g); needs = omega (arith, y.needs, h) }
    sta_small (SetStatic c f e at p) l n k hk b =
        let y =
        expr_light w e n (Member PUTSTATIC (w.class c) (w.field c f) (w.field_type c f) ∷ k) in
        record { bytes = omega (arith, y.bytes); needs = omega (arith, y.needs) }
    sta_small (SetField o c f e at p) l n k hk b =
        let k1 : List Item = Member PUTFIELD (w.class c) (w.field c f) (w.field_type c f) ∷ k in
        let k2 = expr_code w e (expr_labels o n) k1 in
        let x = this_part w o n k2 (expr_light w o n k2) in
        let y = expr_light w e (expr_labels o n) k1 in
        record {
          bytes = omega (arith, x.bytes, y.bytes);
          needs = omega (arith, x.needs, y.needs);
        }
    sta_small (Eval e at p) l n k hk b =
        let y = expr_light w e n (dropped (mark e).ty k) in
        let g = drop_own (is_void (mark e).ty) k (Op Pop) (omega arith) (omega arith) in
        record { bytes = omega (arith, y.bytes, g.0); needs = omega (arith, y.needs, g.1) }
    sta_small (When i s o at p) l n k hk b =
        let k1 : List Item = Label (n + 1) ∷ k in
        let k2 : List Item = Label n ∷ else_code w o l (labels s (n + 2)) k1 in
        let k3 = goes_on (completes s) (n + 1) k2 in
        let g = goes_own (completes s) (n + 1) k2 in
        let d = else_small o l (labels s (n + 2)) k1 hk b.1 in
        let a = sta_small s l (n + 2) k3 (else_handlers w o (labels s (n + 2)) hk) b.0 in
        record {
          bytes = omega (arith, a.bytes, g.0, d.bytes);
          needs = omega (arith, a.needs, g.1, d.needs);
        }

    else_small : (o : MayTSta) (l : Loop) (n : ℕ) (k : List Item) (hk : List Handler)
        → ElseHasBlocks o
        → IsSmall (else_code w o l n k) k (else_handlers w o n hk) hk (else_size o) 0 0
    else_small NoElse l n k hk b = record { bytes = omega arith; needs = omega arith }
    else_small (Otherwise s) l n k hk b =
        let a = sta_small s l n k hk b in
        record { bytes = omega (arith, a.bytes); needs = omega (arith, a.needs) }

    all_small : (ss : TStas) (l : Loop) (n : ℕ) (k : List Item) (hk : List Handler)
        → AllHaveBlocks ss
        → IsSmall (all_code w ss l n k) k (all_handlers w ss n hk) hk (all_size ss) 0 0
    all_small End l n k hk b = record { bytes = omega arith; needs = omega arith }
    all_small (Then s ss) l n k hk b =
        let d = all_small ss l (labels s n) k hk b.1 in
        let k1 = all_code w ss l (labels s n) k in
        let a = sta_small s l n k1 (all_handlers w ss (labels s n) hk) b.0 in
        record {
          bytes = omega (arith, a.bytes, d.bytes);
          needs = omega (arith, a.needs, d.needs);
        }

    catch_small : (cs : TCatches) (l : Loop) (end from n : ℕ) (k : List Item) (hk : List Handler)
        → CatchesHaveBlocks cs
        → IsSmall (catch_code w cs l end n k) k (catch_handlers w cs from n hk) hk
        (catches_size cs) 0 0
    catch_small NoCatch l end from n k hk b = record { bytes = omega arith; needs = omega arith }
    catch_small (Catch c s cs) l end from n k hk b =
        let k1 = catch_code w cs l end (labels s (n + 1)) k in
        let k2 = goes_on (completes s) end k1 in
        let g = goes_own (completes s) end k1 in
        let d = catch_small cs l end from (labels s (n + 1)) k hk b.2 in
        let a = sta_small s l (n + 1) k2 (catch_handlers w cs from (labels s (n + 1)) hk) b.1 in
        let two : spare_of s ≡ 2 = ap (λ y. cond y 2 0) b.0 in
        record {
          bytes = omega (arith, a.bytes, g.0, d.bytes);
          needs = omega (arith, a.needs, g.1, d.needs, two);
        }

  ending_own : (b : Bool)
      → (total most_bytes (ending b) ≤ 1) × (total entries (ending b) ≤ 0)
  ending_own true = (omega arith, omega arith)
  ending_own false = (omega arith, omega arith)

  -- of a body
  pub body_bytes : (s : TSta) → HasBlocks s
      → total most_bytes (body_code w s) ≤ 16 * stmt_size s
  body_bytes s b =
      let a = sta_small s no_loop 0 (ending (completes s)) [] b in
      let g = ending_own (completes s) in
      omega (arith, a.bytes, g.0)

  pub body_needs : (s : TSta) → HasBlocks s
      → total entries (body_code w s) + 2 * length (body_handlers w s) ≤ 8 * stmt_size s
  body_needs s b =
      let a = sta_small s no_loop 0 (ending (completes s)) [] b in
      let g = ending_own (completes s) in
      omega (arith, a.needs, g.1)
