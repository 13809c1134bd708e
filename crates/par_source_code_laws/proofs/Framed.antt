-- Each frame of a body stands at a label with an instruction behind it, and is within the method's
-- locals and operands.
use Rattle.std.proofs.Common.{◌≡◌, ℕ, ◌+◌, ◌≤◌, max, Bool, true, false, List, [], ◌∷◌, ◌++◌}
use Rattle.std.proofs.Common.{length, refl, sym, subst, arith}
use Rattle.std.specs.Prelude.{if◌then◌else◌}
use Rattle.std.specs.List.{AllByRecursion}
use Rattle.std.proofs.lemmas.List.{length-map, length-append, length-set}
use Rattle.par_instr.specs.declared.instr.Instr.TheVariants.{Ireturn, Areturn}
use Rattle.par_typed.specs.declared.ty.Ty.TheVariants as ty
use Rattle.par_typed.specs.Plain.{mark, TExp, Int, Boolean, Null, This, New, Local, Static}
use Rattle.par_typed.specs.Plain.{Field, Input, Output, Call, Neg, Not, Binary}
use Rattle.par_typed.specs.Plain.{MayTExp, Absent, Present, TExps, NoExps, More}
use Rattle.par_typed.specs.Plain.{TSta, Block, If, While, Try, Return, Break, Continue, Throw, Open}
use Rattle.par_typed.specs.Plain.{Close, SetLocal, SetStatic, SetField, Eval, When}
use Rattle.par_typed.specs.Plain.{MayTSta, NoElse, Otherwise, TStas, End, Then, TCatches, NoCatch}
use Rattle.par_typed.specs.Plain.{Catch}
use Rattle.par_typed_laws.specs.par_completes.Typed.{completes, else_completes, last_completes}
use Rattle.par_typed_laws.specs.par_completes.Typed.{is_true}
use Rattle.par_code_form.specs.declared.item.Item.{Item}
use Rattle.par_code_form.specs.declared.item.Item.TheVariants.{Label, Op}
use Rattle.par_code_form.specs.declared.labelled.LabelFrame.{LabelFrame}
use Rattle.par_code_form.specs.Code.{Words, Shape, Calculates, Compares, Sames}
use Rattle.par_code_form.specs.Code.{Decides}
use Rattle.par_code_form.specs.Code.{shape_of, shape_labels, shape_code, test_code}
use Rattle.par_code_form.specs.Code.{expr_labels, may_labels, expr_code, may_code}
use Rattle.par_code_form.specs.Code.{args_code}
use Rattle.par_code_form.specs.Code.{Loop, loop_test, labels, code, else_code}
use Rattle.par_code_form.specs.Code.{all_code}
use Rattle.par_code_form.specs.Code.{catch_code, is_void, is_number}
use Rattle.par_code_form.specs.Operands.{expr_top, may_top, receivers, args_top}
use Rattle.par_code_form.specs.Operands.{below_second}
use Rattle.par_code_form.specs.Operands.{between_top, top, else_top, all_top}
use Rattle.par_code_form.specs.Operands.{catch_top}
use Rattle.par_code_form.specs.Again.{goes_again}
use Rattle.par_code_form.specs.Frames.{Types, with_local, scope_behind}
use Rattle.par_code_form.specs.Frames.{with_operand, with_receiver, below, slot}
use Rattle.par_code_form.specs.Frames.{frame, frame_if}
use Rattle.par_code_form.specs.Frames.{test_frames, shape_frames, expr_frames}
use Rattle.par_code_form.specs.Frames.{may_frames}
use Rattle.par_code_form.specs.Frames.{args_frames, loop_frames, frames}
use Rattle.par_code_form.specs.Frames.{else_frames, all_frames}
use Rattle.par_code_form.specs.Frames.{catch_frames}
use Rattle.par_source_code_laws.proofs.Fitting.{Gives, ExpFits, MayFits, ArgsFit, StaFits, ElseFits}
use Rattle.par_source_code_laws.proofs.Fitting.{AllFit, CatchesFit}
use Rattle.par_source_code_laws.proofs.Ends.{IsEnd, here, more, past, chain, HasOp, in_more}
use Rattle.par_source_code_laws.proofs.Ends.{at_head}
use Rattle.par_source_code_laws.proofs.Ends.{none}
use Rattle.par_source_code_laws.proofs.Ends.{shape_end, between_end, expr_end, may_end, args_end}
use Rattle.par_source_code_laws.proofs.Ends.{sta_end, loop_end, dropped_end}
use Rattle.par_source_code_laws.proofs.Spots.{ways, turns, tries, next_catch, either_left}
use Rattle.par_source_code_laws.proofs.Spots.{either_right}
use Rattle.par_source_code_laws.proofs.Spots.{goes_op, sta_op, else_op, all_op}

-- ---- what is left of a value

most_left : (a b h : ℕ) → h ≤ a → h ≤ max a b
most_left a b h le = omega arith

void_less : (b : Bool) (h : ℕ) → b ≡ false → h + 1 ≤ (if b then h else h + 1)
void_less true h e = absurd (cc e)
void_less false h e = omega arith

between_more : (s : Shape) (h : ℕ) → h + 1 ≤ between_top s h
between_more (Calculates o i) h = omega arith
between_more (Compares t) h = omega arith
between_more (Sames b) h = omega arith
between_more (Decides o) h = omega arith

-- a value lies above what lay there
value_top : (e : TExp) (h : ℕ) → ExpFits e → Gives e → h + 1 ≤ expr_top e h
unfolding expr_top ExpFits mark
value_top (Int v m) h f g = omega arith
value_top (Boolean b m) h f g = omega arith
value_top (Null m) h f g = omega arith
value_top (This m) h f g = omega arith
value_top (New c m) h f g = omega arith
value_top (Local x m) h f g = omega arith
value_top (Static c i m) h f g = omega arith
value_top (Field e c i m) h f g = value_top e h f.1 f.0
value_top (Input c k m) h f g = omega arith
value_top (Output c k e m) h f g = value_top e h f.1 f.0
value_top (Call c i o es m) h f g =
    let a = void_less (is_void m.ty) h g in omega (arith, a)
value_top (Neg e m) h f g = value_top e h f.1 f.0
value_top (Not e m) h f g = value_top e h f.1 f.0
value_top (Binary op a b m) h f g = let x = between_more (shape_of op a) h in omega (arith, x)

-- ---- how many operands there are

operands_more : (os : Types) (e : TExp) → length (with_operand os e) ≡ length os + 1
operands_more os e = length-append os ((mark e).ty ∷ [])

receivers_are : (os : Types) (o : MayTExp) → length (with_receiver os o) ≡ receivers o (length os)
unfolding receivers
receivers_are os Absent = refl
receivers_are os (Present e) = operands_more os e

below_are : (s : Shape) (os : Types) (a : TExp)
    → length (below s os a) ≡ below_second s (length os)
below_are (Calculates o i) os a = operands_more os a
below_are (Compares t) os a = operands_more os a
below_are (Sames b) os a = operands_more os a
below_are (Decides o) os a = refl

-- a scope keeps its length
local_length : (d : Types) (x : ℕ) (scope : Types) → length (with_local d x scope) ≡ length scope
local_length d x scope = length-set scope x _

scope_length : (d : Types) (s : TSta) (scope : Types)
    → length (scope_behind d s scope) ≡ length scope
scope_length d (Block ss at p) scope = refl
scope_length d (If e s o at p) scope = refl
scope_length d (While e s at p) scope = refl
scope_length d (Try s cs at p) scope = refl
scope_length d (Return o at p) scope = refl
scope_length d (Break at p) scope = refl
scope_length d (Continue at p) scope = refl
scope_length d (Throw c at p) scope = refl
scope_length d (Open l at p) scope = refl
scope_length d (Close l at p) scope = refl
scope_length d (SetLocal x q e at p) scope = local_length d x scope
scope_length d (SetStatic c f e at p) scope = refl
scope_length d (SetField o c f e at p) scope = refl
scope_length d (Eval e at p) scope = refl
scope_length d (When l s o at p) scope = refl

module _ (w : Words) (whole : List Item) (many room : ℕ) where
  pub record IsFramed (f : LabelFrame) : Type 0 where
    pub rest : List Item
    pub at : IsEnd (Label f.label ∷ rest) whole
    pub leads : HasOp rest
    pub few_locals : length f.locals ≤ many
    pub few_operands : length f.stack ≤ room

  abbrev pub AllFramed : List LabelFrame → Type 0
  AllFramed fs = AllByRecursion IsFramed fs

  one_framed : (n : ℕ) (scope os : Types) {rest : List Item} → IsEnd (Label n ∷ rest) whole
      → HasOp rest → length scope ≤ many → length os ≤ room → IsFramed (frame w n scope os)
  one_framed n scope os {rest} e op few le = record {
    rest = rest;
    at = e;
    leads = op;
    few_locals = subst (λ (x : ℕ). x ≤ many) (sym (length-map scope (slot w))) few;
    few_operands = subst (λ (x : ℕ). x ≤ room) (sym (length-map os (slot w))) le;
  }

  framed_if : (b : Bool) (n : ℕ) (scope : Types) (fk : List LabelFrame)
      → (b ≡ true → IsFramed (frame w n scope [])) → AllFramed fk
      → AllFramed (frame_if w b n scope fk)
  framed_if true n scope fk f g = (f refl, g)
  framed_if false n scope fk f g = g

  -- ---- expressions

  test_framed : (o n : ℕ) (k : List Item) (scope os : Types) (fk : List LabelFrame)
      → IsEnd (test_code o n k) whole → HasOp k → length scope ≤ many → length os + 1 ≤ room
      → AllFramed fk → AllFramed (test_frames w n scope os fk)
  test_framed o n k scope os fk h op few le g =
      let a = past (past (past h)) in
      let b = past (past a) in (
        one_framed n scope os a (at_head _ refl (none _)) few (omega arith),
        (
          one_framed (n + 1) scope (os ++ ty.Boolean ∷ []) b op few
              (subst (λ (x : ℕ). x ≤ room) (sym (length-append os (ty.Boolean ∷ []))) le),
          g,
        ),
      )

  shape_framed : (s : Shape) (n : ℕ) (k : List Item) (scope os : Types) (fk : List LabelFrame)
      → IsEnd (shape_code s n k) whole → HasOp k → length scope ≤ many
      → between_top s (length os) ≤ room → AllFramed fk
      → AllFramed (shape_frames w s n scope os fk)
  shape_framed (Calculates o i) n k scope os fk h op few le g = g
  shape_framed (Compares t) n k scope os fk h op few le g =
      test_framed _ n k scope os fk h op few le g
  shape_framed (Sames b) n k scope os fk h op few le g =
      test_framed _ n k scope os fk h op few le g
  shape_framed (Decides o) n k scope os fk h op few le g = (
    one_framed n scope (os ++ ty.Boolean ∷ []) h op few
        (subst (λ (x : ℕ). x ≤ room) (sym (length-append os (ty.Boolean ∷ []))) (omega arith)),
    g,
  )

  mutual
    unfolding expr_code expr_frames expr_top ExpFits

    expr_framed : (e : TExp) (n : ℕ) (k : List Item) (scope os : Types) (fk : List LabelFrame)
        → ExpFits e → IsEnd (expr_code w e n k) whole → HasOp k → length scope ≤ many
        → expr_top e (length os) ≤ room → AllFramed fk
        → AllFramed (expr_frames w e n scope os fk)
    expr_framed (Int v m) n k scope os fk f h op few le g = g
    expr_framed (Boolean b m) n k scope os fk f h op few le g = g
    expr_framed (Null m) n k scope os fk f h op few le g = g
    expr_framed (This m) n k scope os fk f h op few le g = g
    expr_framed (New c m) n k scope os fk f h op few le g = g
    expr_framed (Local x m) n k scope os fk f h op few le g = g
    expr_framed (Static c i m) n k scope os fk f h op few le g = g
    expr_framed (Field e c i m) n k scope os fk f h op few le g =
        expr_framed e n _ scope os fk f.1 h (at_head _ refl (none _)) few le g
    expr_framed (Input c i m) n k scope os fk f h op few le g = g
    expr_framed (Output c i e m) n k scope os fk f h op few le g =
        expr_framed e n _ scope os fk f.1 h (at_head _ refl (none _)) few le g
    expr_framed (Call c i o es m) n k scope os fk f h op few le g =
        let x = may_labels o n in
        let call = at_head _ refl (none _) in
        let same = receivers_are os o in
        may_framed o n _ scope os _ f.0 h (in_more call (args_end w es x _)) few (omega arith)
        (args_framed es x _ scope (with_receiver os o) fk f.1 (chain (may_end w o n _) h) call few
        (subst (λ (y : ℕ). args_top es y ≤ room) (sym same) (omega arith)) g)
    expr_framed (Neg e m) n k scope os fk f h op few le g =
        expr_framed e n _ scope os fk f.1 h (at_head _ refl (none _)) few le g
    expr_framed (Not e m) n k scope os fk f h op few le g =
        let v = value_top e (length os) f.1 f.0 in
        expr_framed e (n + 2) _ scope os _ f.1 h (at_head _ refl (none _)) few le
        (test_framed 153 n k scope os fk (chain (expr_end w e (n + 2) _) h) op few
        (omega (arith, v)) g)
    expr_framed (Binary p a b m) n k scope os fk f h op few le g =
        let s = shape_of p a in
        let i = n + shape_labels s in
        let j = expr_labels a i in
        let x = chain (between_end s n _) (chain (expr_end w a i _) h) in
        let y = chain (expr_end w b j _) x in
        let op_shape = in_more op (shape_end s n k) in
        let same = below_are s os a in
        expr_framed a i _ scope os _ f.0 h
        (in_more (in_more op_shape (expr_end w b j _)) (between_end s n _)) few (omega arith)
        (expr_framed b j _ scope (below s os a) _ f.1 x op_shape few
        (subst (λ (z : ℕ). expr_top b z ≤ room) (sym same) (omega arith))
        (shape_framed s n k scope os fk y op few (omega arith) g))

    may_framed : (o : MayTExp) (n : ℕ) (k : List Item) (scope os : Types) (fk : List LabelFrame)
        → MayFits o → IsEnd (may_code w o n k) whole → HasOp k → length scope ≤ many
        → may_top o (length os) ≤ room → AllFramed fk → AllFramed (may_frames w o n scope os fk)
    may_framed Absent n k scope os fk f h op few le g = g
    may_framed (Present e) n k scope os fk f h op few le g =
        expr_framed e n k scope os fk f h op few le g

    args_framed : (es : TExps) (n : ℕ) (k : List Item) (scope os : Types) (fk : List LabelFrame)
        → ArgsFit es → IsEnd (args_code w es n k) whole → HasOp k → length scope ≤ many
        → args_top es (length os) ≤ room → AllFramed fk
        → AllFramed (args_frames w es n scope os fk)
    args_framed NoExps n k scope os fk f h op few le g = g
    args_framed (More e es) n k scope os fk f h op few le g =
        let x = expr_labels e n in
        let same = operands_more os e in
        expr_framed e n _ scope os _ f.0 h (in_more op (args_end w es x k)) few (omega arith)
        (args_framed es x k scope (with_operand os e) fk f.1 (chain (expr_end w e n _) h) op few
        (subst (λ (y : ℕ). args_top es y ≤ room) (sym same) (omega arith)) g)

  -- ---- statements

  back_op : (b : Bool) (k : List Item) → HasOp ((if b then Op Ireturn else Op Areturn) ∷ k)
  back_op true k = at_head _ refl (none k)
  back_op false k = at_head _ refl (none k)

  loop_framed : (b : Bool) (e : TExp) (n out : ℕ) (k : List Item) (scope : Types)
      (fk : List LabelFrame) → ExpFits e → IsEnd (loop_test w b e n out k) whole
      → length scope ≤ many → (if b then 0 else expr_top e 0) ≤ room → AllFramed fk
      → AllFramed (loop_frames w b e n scope fk)
  loop_framed true e n out k scope fk f h few le g = g
  loop_framed false e n out k scope fk f h few le g =
      expr_framed e n _ scope [] fk f h (at_head _ refl (none _)) few le g

  test_room : (b : Bool) (x y : ℕ) → (if b then y else max x y) ≤ room
      → ((if b then 0 else x) ≤ room) × (y ≤ room)
  test_room true x y le = (omega arith, le)
  test_room false x y le = (omega arith, omega arith)

  module _ (d : Types) where
    mutual
      unfolding
          code frames top completes StaFits may_frames may_top MayFits else_frames all_frames
          catch_frames else_top all_top catch_top ElseFits AllFit CatchesFit

      pub sta_framed : (looped : Bool) (s : TSta) (l : Loop) (n : ℕ) (k : List Item)
          (scope : Types) (fk : List LabelFrame) → StaFits looped s
          → IsEnd (code w s l n k) whole → (completes s ≡ true → HasOp k)
          → length scope ≤ many → top s ≤ room → AllFramed fk
          → AllFramed (frames w d s n scope fk)
      sta_framed y (Block ss at p) l n k scope fk f h next few le g =
          all_framed y true ss l n k scope fk f h next few le g
      sta_framed y (If e s o at p) l n k scope fk f h next few le g =
          let i = expr_labels e (n + 2) in
          let a = past (chain (expr_end w e (n + 2) _) h) in
          let b = ways w whole s o l n i k a in
          let other = λ (c : else_completes o ≡ true). in_more (next (either_right (completes s)
          (else_completes o) c)) (more (Label (n + 1)) (here k)) in
          expr_framed e (n + 2) _ scope [] _ f.0 h (at_head _ refl (none _)) few (omega arith)
          (sta_framed y s l i _ scope _ f.1 a (goes_op (completes s) (n + 1) (none _)) few
          (omega arith) (
            one_framed n scope [] b.label (else_op w o l (labels s i) _ (none _) other) few
                (omega arith),
            else_framed y o l (labels s i) _ scope _ f.2 (past b.label) other few (omega arith)
                (framed_if (completes s) (n + 1) scope fk
                (λ c. one_framed (n + 1) scope [] b.end (next (either_left (completes s)
                (else_completes o) c)) few (omega arith)) g),
          ))
      sta_framed y (While e s at p) l n k scope fk f h next few le g =
          let i = expr_labels e (n + 2) in
          let a = turns w whole e s n k (past h) in
          let le' = test_room (is_true e) (expr_top e 0) (top s) le in
          let body = sta_op w s (record { out = n + 1; again = n }) i _ (none _)
          (goes_op (completes s) n (none _)) in
          framed_if (goes_again s) n scope _
          (λ c. one_framed n scope [] h (in_more body (loop_end w (is_true e) e (n + 2) (n + 1) _))
          few (omega arith))
          (loop_framed (is_true e) e (n + 2) (n + 1) _ scope _ f.0 (past h) few le'.0
          (sta_framed true s (record { out = n + 1; again = n }) i _ scope _ f.1 a.body
          (goes_op (completes s) n (none _)) few le'.1
          (framed_if (completes (While e s at p)) (n + 1) scope fk
          (λ c. one_framed (n + 1) scope [] a.end (next c) few (omega arith)) g)))
      sta_framed y (Try s cs at p) l n k scope fk f h next few le g =
          let a = tries w whole s cs l n k (past h) in
          sta_framed y s l (n + 3) _ scope _ f.0 (past h) (goes_op (completes s) (n + 2) (none _))
          few (omega arith)
          (catch_framed y cs l (n + 2) (labels s (n + 3)) _ scope _ f.1 (past a.to) few
          (omega arith)
          (framed_if (completes (Try s cs at p)) (n + 2) scope fk
          (λ c. one_framed (n + 2) scope [] a.end (next c) few (omega arith)) g))
      sta_framed y (Return Absent at p) l n k scope fk f h next few le g = g
      sta_framed y (Return (Present e) at p) l n k scope fk f h next few le g =
          expr_framed e n _ scope [] fk f h (back_op (is_number (mark e).ty) k) few le g
      sta_framed y (Break at p) l n k scope fk f h next few le g = g
      sta_framed y (Continue at p) l n k scope fk f h next few le g = g
      sta_framed y (Throw c at p) l n k scope fk f h next few le g = g
      sta_framed y (Open i at p) l n k scope fk f h next few le g = g
      sta_framed y (Close i at p) l n k scope fk f h next few le g = g
      sta_framed y (SetLocal x q e at p) l n k scope fk f h next few le g =
          expr_framed e n _ scope [] fk f h (in_more (next refl) (more _ (here _))) few le g
      sta_framed y (SetStatic c i e at p) l n k scope fk f h next few le g =
          expr_framed e n _ scope [] fk f h (at_head _ refl (none _)) few le g
      sta_framed y (SetField o c i e at p) l n k scope fk f h next few le g =
          let put = at_head _ refl (none _) in
          expr_framed o n _ scope [] _ f.0 h (in_more put (expr_end w e (expr_labels o n) _)) few
          (omega arith)
          (expr_framed e (expr_labels o n) _ scope (with_operand [] o) fk f.1
          (chain (expr_end w o n _) h) put few (omega arith) g)
      sta_framed y (Eval e at p) l n k scope fk f h next few le g =
          expr_framed e n _ scope [] fk f h (in_more (next refl)
          (dropped_end (is_void (mark e).ty) _ k)) few le g
      sta_framed y (When i s o at p) l n k scope fk f h next few le g =
          let a = past (past h) in
          let b = ways w whole s o l n (n + 2) k a in
          let other = λ (c : else_completes o ≡ true). in_more (next (either_right (completes s)
          (else_completes o) c)) (more (Label (n + 1)) (here k)) in
          sta_framed y s l (n + 2) _ scope _ f.1 a (goes_op (completes s) (n + 1) (none _)) few
          (omega arith) (
            one_framed n scope [] b.label (else_op w o l (labels s (n + 2)) _ (none _) other) few
                (omega arith),
            else_framed y o l (labels s (n + 2)) _ scope _ f.2 (past b.label) other few
                (omega arith)
                (framed_if (completes s) (n + 1) scope fk
                (λ c. one_framed (n + 1) scope [] b.end (next (either_left (completes s)
                (else_completes o) c)) few (omega arith)) g),
          )

      else_framed : (looped : Bool) (o : MayTSta) (l : Loop) (n : ℕ) (k : List Item)
          (scope : Types) (fk : List LabelFrame) → ElseFits looped o
          → IsEnd (else_code w o l n k) whole → (else_completes o ≡ true → HasOp k)
          → length scope ≤ many → else_top o ≤ room → AllFramed fk
          → AllFramed (else_frames w d o n scope fk)
      else_framed y NoElse l n k scope fk f h next few le g = g
      else_framed y (Otherwise s) l n k scope fk f h next few le g =
          sta_framed y s l n k scope fk f h next few le g

      all_framed : (looped b : Bool) (ss : TStas) (l : Loop) (n : ℕ) (k : List Item)
          (scope : Types) (fk : List LabelFrame) → AllFit looped ss
          → IsEnd (all_code w ss l n k) whole → (last_completes b ss ≡ true → HasOp k)
          → length scope ≤ many → all_top ss ≤ room → AllFramed fk
          → AllFramed (all_frames w d ss n scope fk)
      all_framed y b End l n k scope fk f h next few le g = g
      all_framed y b (Then s ss) l n k scope fk f h next few le g =
          sta_framed y s l n _ scope _ f.0 h
          (λ c. all_op w (completes s) ss l (labels s n) k (none k) next c) few (omega arith)
          (all_framed y (completes s) ss l (labels s n) k (scope_behind d s scope) fk f.1
          (chain (sta_end w s l n _) h) next
          (subst (λ (x : ℕ). x ≤ many) (sym (scope_length d s scope)) few) (omega arith) g)

      catch_framed : (looped : Bool) (cs : TCatches) (l : Loop) (end n : ℕ) (k : List Item)
          (scope : Types) (fk : List LabelFrame) → CatchesFit looped cs
          → IsEnd (catch_code w cs l end n k) whole → length scope ≤ many → catch_top cs ≤ room
          → AllFramed fk → AllFramed (catch_frames w d cs n scope fk)
      catch_framed y NoCatch l end n k scope fk f h few le g = g
      catch_framed y (Catch c s cs) l end n k scope fk f h few le g =
          let a = past (past h) in (
            one_framed n scope (ty.Class c ∷ []) h (at_head _ refl (none _)) few (omega arith),
            sta_framed y s l (n + 1) _ scope _ f.0 a (goes_op (completes s) end (none _)) few
                (omega arith)
                (catch_framed y cs l end (labels s (n + 1)) k scope fk f.1
                (next_catch w whole s l end (n + 1) _ a) few (omega arith) g),
          )
