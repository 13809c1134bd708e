-- Each label that the code of a body needs a frame at has one.
use Rattle.std.proofs.Common.{◌≡◌, ℕ, ◌+◌, ◌<◌, Bool, true, false, not, ◌||◌, List, []}
use Rattle.std.proofs.Common.{◌∷◌, Some, refl, sym, ap, subst, ◌∙◌, arith}
use Rattle.std.specs.Prelude.{nat_le, cond, if◌then◌else◌, ◌==◌, is_some}
use Rattle.std.proofs.lemmas.Bool.{eq-eqb}
use Rattle.std.specs.List.{AllByRecursion}
use Rattle.par_typed.specs.par_lexer.declared.operator.BinOp.{BinOp}
use Rattle.par_typed.specs.par_lexer.declared.operator.BinOp.TheVariants as bin
use Rattle.par_instr.specs.declared.instr.Instr.TheVariants.{Iload, Aload, IloadShort}
use Rattle.par_instr.specs.declared.instr.Instr.TheVariants.{AloadShort, Istore, Astore}
use Rattle.par_instr.specs.declared.instr.Instr.TheVariants.{IstoreShort, AstoreShort}
use Rattle.par_instr.specs.declared.instr.Instr.TheVariants.{Ireturn, Areturn}
use Rattle.par_instr.specs.declared.instr.Instr.TheVariants as instr
use Rattle.par_typed.specs.declared.ty.Ty.{Ty}
use Rattle.par_typed.specs.Plain.{mark, TExp, Int, Boolean, Null, This, New, Local, Static}
use Rattle.par_typed.specs.Plain.{Field, Input, Output, Call, Neg, Not, Binary}
use Rattle.par_typed.specs.Plain.{MayTExp, Absent, Present, TExps, NoExps, More}
use Rattle.par_typed.specs.Plain.{TSta, Block, If, While, Try, Return, Break, Continue, Throw, Open}
use Rattle.par_typed.specs.Plain.{Close, SetLocal, SetStatic, SetField, Eval, When}
use Rattle.par_typed.specs.Plain.{MayTSta, NoElse, Otherwise, TStas, End, Then, TCatches, NoCatch}
use Rattle.par_typed.specs.Plain.{Catch}
use Rattle.par_completes.specs.Typed.{completes, else_completes, last_completes, is_true, breaks}
use Rattle.par_completes.specs.Typed.{some_catch_completes, else_breaks, some_break}
use Rattle.par_completes.specs.Typed.{some_catch_breaks}
use Rattle.par_typed_laws.specs.Control.{StaReached, ElseReached, AllReached, CatchesReached}
use Rattle.par_code_form.specs.declared.item.Item.{Item}
use Rattle.par_code_form.specs.declared.item.Item.TheVariants.{Label, Op, Jump}
use Rattle.par_code_form.specs.declared.labelled.LabelFrame.{LabelFrame}
use Rattle.par_code_form.specs.declared.labelled.Handler.{Handler}
use Rattle.par_code_form.specs.Again.{goes_again, continues, else_continues, some_continue}
use Rattle.par_code_form.specs.Again.{some_catch_continues}
use Rattle.par_code_form.specs.Opcodes.{IF_ICMPEQ, GOTO}
use Rattle.par_code_form.specs.Code.{Words, Shape, Calculates, Compares, Sames, Decides, shape}
use Rattle.par_code_form.specs.Code.{shape_of, shape_labels, shape_code, between, test_code}
use Rattle.par_code_form.specs.Code.{same_opcode, expr_labels, may_labels, labels, expr_code}
use Rattle.par_code_form.specs.Code.{may_code, args_code, Loop, goes_on, loop_test, code, else_code}
use Rattle.par_code_form.specs.Code.{all_code, catch_code, handlers, else_handlers, all_handlers}
use Rattle.par_code_form.specs.Code.{catch_handlers, load, store, give_back, dropped, is_number}
use Rattle.par_code_form.specs.Code.{is_void, no_loop, ending}
use Rattle.par_code_form.specs.Method.{first_scope}
use Rattle.par_framing.specs.par_compile_laws.Framed.{frame_at}
use Rattle.par_code_form.specs.Frames.{Types, scope_behind, with_operand, with_receiver, below}
use Rattle.par_code_form.specs.Frames.{frame_if, test_frames, shape_frames, expr_frames, may_frames}
use Rattle.par_code_form.specs.Frames.{args_frames, loop_frames, frames, else_frames, all_frames}
use Rattle.par_code_form.specs.Frames.{catch_frames}
use Rattle.par_framing.specs.par_kinds.Acts.{Onward}
use Rattle.par_framing.specs.par_frames.Needed.{flow_at}
use Rattle.par_framed_file_laws.specs.Met.{has_frame, lands, MeetsFlow, IsMet, AreMet}
use Rattle.par_framed_file_laws.specs.NeededLaws.{BodiesHaveFrames}
use Rattle.par_framed_file_laws.proofs.Rest.{if_rest, expr_rest, may_rest}
use Rattle.par_framed_file_laws.proofs.Rest.{loop_rest, sta_rest, else_rest, catch_rest}

-- ---- operators

-- an operator goes on straight, and its branches are none that always go
abbrev GoesOn : Shape → Type 0
GoesOn (Calculates o i) = flow_at i ≡ Onward
GoesOn (Compares t) = t < 6
GoesOn (Sames b) = Unit {0}
GoesOn (Decides o) = o < GOTO

goes : (op : BinOp) (numbers : Bool) → GoesOn (shape op numbers)
goes bin.Or b = omega arith
goes bin.And b = omega arith
goes bin.BitOr b = refl
goes bin.BitXor b = refl
goes bin.BitAnd b = refl
goes bin.Eq true = omega arith
goes bin.Eq false = tt
goes bin.Ne true = omega arith
goes bin.Ne false = tt
goes bin.Lt b = omega arith
goes bin.Le b = omega arith
goes bin.Gt b = omega arith
goes bin.Ge b = omega arith
goes bin.Shl b = refl
goes bin.Shr b = refl
goes bin.Ushr b = refl
goes bin.Add b = refl
goes bin.Sub b = refl
goes bin.Mul b = refl
goes bin.Div b = refl
goes bin.Rem b = refl

or_left : (a b : Bool) → a ≡ true → (a || b) ≡ true
or_left true b h = refl
or_left false b h = absurd (cc h)

or_right : (a b : Bool) → b ≡ true → (a || b) ≡ true
or_right true b h = refl
or_right false b h = h

not_false : (a b : Bool) → a ≡ false → (not a || b) ≡ true
not_false true b h = absurd (cc h)
not_false false b h = refl

module _ (has : ℕ → Bool) (w : Words) where
  abbrev Has : ℕ → Type 0
  Has l = has l ≡ true

  abbrev Lands : List Item → Type 0
  Lands xs = lands has xs ≡ true

  abbrev Met : List Item → Type 0
  Met xs = AreMet has xs

  -- frames whose labels have frames
  abbrev All : List LabelFrame → Type 0
  All fs = AllByRecursion (λ f. has f.label ≡ true) fs

  cons : (x : Item) (xs : List Item) → IsMet has xs x → Met xs → Met (x ∷ xs)
  unfolding AreMet
  cons x xs one met = (one, met)

  -- ---- items

  load_met : (t : Ty) (x : ℕ) (k : List Item) → IsMet has k (load t x)
  load_met t x k = both (is_number t) (nat_le x 3) where
    both : (a b : Bool) → IsMet has k
        (cond a (cond b (Op (IloadShort x)) (Op (Iload x))) (cond b (Op (AloadShort x))
        (Op (Aload x))))
    both true true = tt
    both true false = tt
    both false true = tt
    both false false = tt

  store_met : (t : Ty) (x : ℕ) (k : List Item) → IsMet has k (store t x)
  store_met t x k = both (is_number t) (nat_le x 3) where
    both : (a b : Bool) → IsMet has k
        (cond a (cond b (Op (IstoreShort x)) (Op (Istore x))) (cond b (Op (AstoreShort x))
        (Op (Astore x))))
    both true true = tt
    both true false = tt
    both false true = tt
    both false false = tt

  give_met : (t : Ty) (k : List Item) → Lands k → IsMet has k (give_back t)
  give_met t k h = by (is_number t) where
    by : (b : Bool) → IsMet has k (cond b (Op Ireturn) (Op Areturn))
    by true = h
    by false = h

  drop_met : (t : Ty) (k : List Item) → Met k → Met (dropped t k)
  drop_met t k h = by (is_void t) where
    by : (b : Bool) → Met (cond b k (Op instr.Pop ∷ k))
    by true = h
    by false = cons _ _ tt h

  -- a branch that may go on straight
  test_met : (o l : ℕ) (k : List Item) → o < GOTO → Has l → IsMet has k (Jump o l)
  test_met o l k less h = (h, λ same. absurd (omega (arith, same, less)))

  lands_here : (l : ℕ) (k : List Item) → Has l → Lands (Label l ∷ k)
  unfolding lands
  lands_here l k h = or_left (has l) (lands has k) h

  lands_later : (l : ℕ) (k : List Item) → Lands k → Lands (Label l ∷ k)
  unfolding lands
  lands_later l k h = or_right (has l) (lands has k) h

  -- a jump where control comes to it
  goes_met : (b : Bool) (l : ℕ) (k : List Item) → (b ≡ true → Has l) → (b ≡ true → Lands k)
      → Met k → Met (goes_on b l k)
  goes_met true l k h land met = cons _ _ (h refl, λ same. land refl) met
  goes_met false l k h land met = met

  goes_land : (b : Bool) (l : ℕ) (k : List Item) → b ≡ false → Lands k → Lands (goes_on b l k)
  goes_land true l k none h = absurd (cc none)
  goes_land false l k none h = h

  -- a frame that stands where control comes
  if_has : (b : Bool) (n : ℕ) (scope : Types) (fk : List LabelFrame) → b ≡ true
      → All (frame_if w b n scope fk) → Has n
  if_has true n scope fk is h = h.0
  if_has false n scope fk is h = absurd (cc is)

  -- ---- expressions

  choice_met : (o n : ℕ) (k : List Item) (scope os : Types) (fk : List LabelFrame) → o < GOTO
      → All (test_frames w n scope os fk) → Met k → Met (test_code o n k)
  choice_met o n k scope os fk less h met =
      cons _ _ (test_met o n _ less h.0)
      (cons _ _ tt
      (cons _ _ (h.1.0, λ same. lands_here n _ h.0)
      (cons _ _ tt (cons _ _ tt (cons _ _ tt met)))))

  same_less : (b : Bool) → same_opcode b < GOTO
  same_less true = omega arith
  same_less false = omega arith

  shape_met : (s : Shape) (n : ℕ) (k : List Item) (scope os : Types) (fk : List LabelFrame)
      → GoesOn s → All (shape_frames w s n scope os fk) → Met k → Met (shape_code s n k)
  shape_met (Calculates o i) n k scope os fk on h met =
      cons _ _ (subst (MeetsFlow has k) (sym on) tt) met
  shape_met (Compares t) n k scope os fk on h met =
      choice_met (IF_ICMPEQ + t) n k scope os fk (omega (arith, on)) h met
  shape_met (Sames b) n k scope os fk on h met =
      choice_met (same_opcode b) n k scope os fk (same_less b) h met
  shape_met (Decides o) n k scope os fk on h met = cons _ _ tt met

  between_met : (s : Shape) (n : ℕ) (k : List Item) (scope os : Types) (fk : List LabelFrame)
      → GoesOn s → All (shape_frames w s n scope os fk) → Met k → Met (between s n k)
  between_met (Calculates o i) n k scope os fk on h met = met
  between_met (Compares t) n k scope os fk on h met = met
  between_met (Sames b) n k scope os fk on h met = met
  between_met (Decides o) n k scope os fk on h met =
      cons _ _ tt (cons _ _ (test_met o n _ on h.0) (cons _ _ tt met))

  abbrev rest : (e : TExp) (n : ℕ) (scope os : Types) (fk : List LabelFrame)
      → All (expr_frames w e n scope os fk) → All fk
  rest e n scope os fk h = expr_rest w (λ f. has f.label ≡ true) e n scope os fk h

  mutual
    unfolding expr_code expr_frames

    expr_met : (e : TExp) (n : ℕ) (k : List Item) (scope os : Types) (fk : List LabelFrame)
        → All (expr_frames w e n scope os fk) → Met k → Met (expr_code w e n k)
    expr_met (Int v m) n k scope os fk h met = cons _ _ tt met
    expr_met (Boolean true m) n k scope os fk h met = cons _ _ tt met
    expr_met (Boolean false m) n k scope os fk h met = cons _ _ tt met
    expr_met (Null m) n k scope os fk h met = cons _ _ tt met
    expr_met (This m) n k scope os fk h met = cons _ _ tt met
    expr_met (New c m) n k scope os fk h met = cons _ _ tt (cons _ _ tt (cons _ _ tt met))
    expr_met (Local x m) n k scope os fk h met = cons _ _ (load_met m.ty x k) met
    expr_met (Static c f m) n k scope os fk h met = cons _ _ tt met
    expr_met (Field e c f m) n k scope os fk h met = expr_met e n _ scope os fk h (cons _ _ tt met)
    expr_met (Input c i m) n k scope os fk h met = cons _ _ tt met
    expr_met (Output c i e m) n k scope os fk h met = expr_met e n _ scope os fk h (cons _ _ tt met)
    expr_met (Call c i o es m) n k scope os fk h met =
        may_met o n _ scope os _ h
        (args_met es (may_labels o n) _ scope (with_receiver os o) fk
        (may_rest w (λ f. has f.label ≡ true) o n scope os _ h) (cons _ _ tt met))
    expr_met (Neg e m) n k scope os fk h met = expr_met e n _ scope os fk h (cons _ _ tt met)
    expr_met (Not e m) n k scope os fk h met =
        expr_met e (n + 2) _ scope os _ h
        (choice_met 153 n k scope os fk (omega arith) (rest e (n + 2) scope os _ h) met)
    expr_met (Binary op a b m) n k scope os fk h met =
        let s = shape_of op a in
        let l = n + shape_labels s in
        let on = goes op (is_number (mark a).ty) in
        let second = rest a l scope os _ h in
        let last = rest b (expr_labels a l) scope (below s os a) _ second in
        expr_met a l _ scope os _ h
        (between_met s n _ scope os fk on last
        (expr_met b (expr_labels a l) _ scope (below s os a) _ second
        (shape_met s n k scope os fk on last met)))

    may_met : (o : MayTExp) (n : ℕ) (k : List Item) (scope os : Types) (fk : List LabelFrame)
        → All (may_frames w o n scope os fk) → Met k → Met (may_code w o n k)
    may_met Absent n k scope os fk h met = met
    may_met (Present e) n k scope os fk h met = expr_met e n k scope os fk h met

    args_met : (es : TExps) (n : ℕ) (k : List Item) (scope os : Types) (fk : List LabelFrame)
        → All (args_frames w es n scope os fk) → Met k → Met (args_code w es n k)
    args_met NoExps n k scope os fk h met = met
    args_met (More e es) n k scope os fk h met =
        expr_met e n _ scope os _ h
        (args_met es (expr_labels e n) k scope (with_operand os e) fk
        (rest e n scope os _ h) met)

  loop_met : (b : Bool) (e : TExp) (n out : ℕ) (k : List Item) (scope : Types)
      (fk : List LabelFrame) → All (loop_frames w b e n scope fk) → (b ≡ false → Has out) → Met k
      → Met (loop_test w b e n out k)
  loop_met true e n out k scope fk h leaves met = met
  loop_met false e n out k scope fk h leaves met =
      expr_met e n _ scope [] fk h (cons _ _ (test_met 153 out k (omega arith) (leaves refl)) met)

  -- ---- statements

  -- where break and continue go
  record Exits (looped : Bool) (l : Loop) (b c : Bool) : Type 0 where
    out : looped ≡ true → b ≡ true → Has l.out
    again : looped ≡ true → c ≡ true → Has l.again

  part : (looped : Bool) (l : Loop) (b c d e : Bool) → (d ≡ true → b ≡ true)
      → (e ≡ true → c ≡ true) → Exits looped l b c → Exits looped l d e
  part looped l b c d e f g x =
      record { out = λ i t. x.out i (f t); again = λ i t. x.again i (g t) }

  -- behind a statement that control does not leave stands no other of its block
  ended_lands : (ss : TStas) (looped b : Bool) (l : Loop) (n : ℕ) (k : List Item)
      → AllReached looped b ss → (last_completes b ss ≡ false → Lands k) → b ≡ false
      → Lands (all_code w ss l n k)
  unfolding AllReached last_completes code
  ended_lands End looped b l n k r land none = land none
  ended_lands (Then s ss) looped b l n k r land none = absurd (cc (sym none ∙ r.0))

  module _ (declared : Types) where
    abbrev behind : (s : TSta) (n : ℕ) (scope : Types) (fk : List LabelFrame)
        → All (frames w declared s n scope fk) → All fk
    behind s n scope fk h = sta_rest w (λ f. has f.label ≡ true) declared s n scope fk h

    abbrev behind_else : (o : MayTSta) (n : ℕ) (scope : Types) (fk : List LabelFrame)
        → All (else_frames w declared o n scope fk) → All fk
    behind_else o n scope fk h = else_rest w (λ f. has f.label ≡ true) declared o n scope fk h

    abbrev behind_catches : (cs : TCatches) (n : ℕ) (scope : Types) (fk : List LabelFrame)
        → All (catch_frames w declared cs n scope fk) → All fk
    behind_catches cs n scope fk h =
        catch_rest w (λ f. has f.label ≡ true) declared cs n scope fk h

    -- the label of the first handler, or what stands behind them where there is none
    catch_lands : (cs : TCatches) (l : Loop) (end n : ℕ) (k : List Item) (scope : Types)
        (fk : List LabelFrame) → All (catch_frames w declared cs n scope fk) → Lands k
        → Lands (catch_code w cs l end n k)
    unfolding frames code
    catch_lands NoCatch l end n k scope fk h land = land
    catch_lands (Catch c s cs) l end n k scope fk h land = lands_here n _ h.0

    -- the label behind an if, which has a frame where its first part completes
    either : (b : Bool) (end : ℕ) (k : List Item) (scope : Types) (fk : List LabelFrame)
        (c : Bool) → c ≡ false → All (frame_if w b end scope fk)
        → ((b || c) ≡ false → Lands k) → Lands (Label end ∷ k)
    either true end k scope fk c none h land = lands_here end k h.0
    either false end k scope fk c none h land = lands_later end k (land none)

    -- the label behind a loop or a try
    loop_lands : (b : Bool) (end : ℕ) (k : List Item) → (b ≡ true → Has end)
        → (b ≡ false → Lands k) → Lands (Label end ∷ k)
    loop_lands true end k h land = lands_here end k (h refl)
    loop_lands false end k h land = lands_later end k (land refl)

    mutual
      unfolding code frames completes StaReached breaks continues expr_frames expr_code

      sta_met : (s : TSta) (looped : Bool) (l : Loop) (n : ℕ) (k : List Item) (scope : Types)
          (fk : List LabelFrame) → StaReached looped s → Exits looped l (breaks s) (continues s)
          → All (frames w declared s n scope fk) → (completes s ≡ false → Lands k) → Met k
          → Met (code w s l n k)
      sta_met (Block ss at p) y l n k scope fk r x h land met =
          all_met ss y true l n k scope fk r x h land met
      sta_met (If e s o at p) y l n k scope fk r x h land met =
          let i = expr_labels e (n + 2) in
          let one = rest e (n + 2) scope [] _ h in
          let two = behind s i scope _ one in
          let three = behind_else o (labels s i) scope _ two.1 in
          expr_met e (n + 2) _ scope [] _ h
          (cons _ _ (test_met 153 n _ (omega arith) two.0)
          (sta_met s y l i _ scope _ r.0
          (part y l _ _ _ _ (or_left (breaks s) (else_breaks o))
          (or_left (continues s) (else_continues o)) x)
          one (λ none. goes_land (completes s) (n + 1) _ none (lands_here n _ two.0))
          (goes_met (completes s) (n + 1) _
          (λ is. if_has (completes s) (n + 1) scope fk is three)
          (λ is. lands_here n _ two.0)
          (cons _ _ tt (other_met o y l (labels s i) (n + 1) k scope fk (completes s) r.1
          (part y l _ _ _ _ (or_right (breaks s) (else_breaks o))
          (or_right (continues s) (else_continues o)) x)
          two.1 land met)))))
      sta_met (While e s at p) y l n k scope fk r x h land met =
          let i = expr_labels e (n + 2) in
          let whole = not (is_true e) || breaks s in
          let one = if_rest w (λ f. has f.label ≡ true) (goes_again s) n scope _ h in
          let two = loop_rest w (λ f. has f.label ≡ true) (is_true e) e (n + 2) scope _ one in
          let three = behind s i scope _ two in
          let out = λ (is : whole ≡ true). if_has whole (n + 1) scope fk is three in
          let again = λ (is : goes_again s ≡ true). if_has (goes_again s) n scope _ is h in
          let last = loop_lands whole (n + 1) k out land in
          cons _ _ tt
          (loop_met (is_true e) e (n + 2) (n + 1) _ scope _ one
          (λ is. out (not_false (is_true e) (breaks s) is))
          (sta_met s true (record { out = n + 1; again = n }) i _ scope _ r
          (record {
            out = λ looped b. out (or_right (not (is_true e)) (breaks s) b);
            again = λ looped c. again (or_right (completes s) (continues s) c);
          })
          two (λ none. goes_land (completes s) n _ none last)
          (goes_met (completes s) n _
          (λ is. again (or_left (completes s) (continues s) is)) (λ is. last) (cons _ _ tt met))))
      sta_met (Try s cs at p) y l n k scope fk r x h land met =
          let whole = completes s || some_catch_completes cs in
          let one = behind s (n + 3) scope _ h in
          let two = behind_catches cs (labels s (n + 3)) scope _ one in
          let end = λ (is : whole ≡ true). if_has whole (n + 2) scope fk is two in
          let last = loop_lands whole (n + 2) k end land in
          let caught = lands_later (n + 1) _
          (catch_lands cs l (n + 2) (labels s (n + 3)) _ scope _ one last) in
          cons _ _ tt
          (sta_met s y l (n + 3) _ scope _ r.0
          (part y l _ _ _ _ (or_left (breaks s) (some_catch_breaks cs))
          (or_left (continues s) (some_catch_continues cs)) x)
          h (λ none. goes_land (completes s) (n + 2) _ none caught)
          (goes_met (completes s) (n + 2) _
          (λ is. end (or_left (completes s) (some_catch_completes cs) is)) (λ is. caught)
          (cons _ _ tt (catch_met cs y l (n + 2) (labels s (n + 3)) _ scope _ r.1
          (part y l _ _ _ _ (or_right (breaks s) (some_catch_breaks cs))
          (or_right (continues s) (some_catch_continues cs)) x)
          one (λ is. end (or_right (completes s) (some_catch_completes cs) is)) last
          (cons _ _ tt met)))))
      sta_met (Return Absent at p) y l n k scope fk r x h land met = cons _ _ (land refl) met
      sta_met (Return (Present e) at p) y l n k scope fk r x h land met =
          expr_met e n _ scope [] fk h (cons _ _ (give_met (mark e).ty k (land refl)) met)
      sta_met (Break at p) y l n k scope fk r x h land met =
          cons _ _ (x.out r refl, λ same. land refl) met
      sta_met (Continue at p) y l n k scope fk r x h land met =
          cons _ _ (x.again r refl, λ same. land refl) met
      sta_met (Throw c at p) y l n k scope fk r x h land met =
          cons _ _ tt (cons _ _ tt (cons _ _ tt (cons _ _ (land refl) met)))
      sta_met (Open i at p) y l n k scope fk r x h land met = cons _ _ tt (cons _ _ tt met)
      sta_met (Close i at p) y l n k scope fk r x h land met = cons _ _ tt (cons _ _ tt met)
      sta_met (SetLocal i q e at p) y l n k scope fk r x h land met =
          expr_met e n _ scope [] fk h (cons _ _ (store_met (mark e).ty i k) met)
      sta_met (SetStatic c f e at p) y l n k scope fk r x h land met =
          expr_met e n _ scope [] fk h (cons _ _ tt met)
      sta_met (SetField o c f e at p) y l n k scope fk r x h land met =
          expr_met o n _ scope [] _ h
          (expr_met e (expr_labels o n) _ scope (with_operand [] o) fk
          (rest o n scope [] _ h) (cons _ _ tt met))
      sta_met (Eval e at p) y l n k scope fk r x h land met =
          expr_met e n _ scope [] fk h (drop_met (mark e).ty k met)
      sta_met (When i s o at p) y l n k scope fk r x h land met =
          let two = behind s (n + 2) scope _ h in
          let three = behind_else o (labels s (n + 2)) scope _ two.1 in
          cons _ _ tt
          (cons _ _ (test_met 153 n _ (omega arith) two.0)
          (sta_met s y l (n + 2) _ scope _ r.0
          (part y l _ _ _ _ (or_left (breaks s) (else_breaks o))
          (or_left (continues s) (else_continues o)) x)
          h (λ none. goes_land (completes s) (n + 1) _ none (lands_here n _ two.0))
          (goes_met (completes s) (n + 1) _
          (λ is. if_has (completes s) (n + 1) scope fk is three)
          (λ is. lands_here n _ two.0)
          (cons _ _ tt (other_met o y l (labels s (n + 2)) (n + 1) k scope fk (completes s) r.1
          (part y l _ _ _ _ (or_right (breaks s) (else_breaks o))
          (or_right (continues s) (else_continues o)) x)
          two.1 land met)))))

      -- behind a branch
      other_met : (o : MayTSta) (looped : Bool) (l : Loop) (n end : ℕ) (k : List Item)
          (scope : Types) (fk : List LabelFrame) (b : Bool) → ElseReached looped o
          → Exits looped l (else_breaks o) (else_continues o)
          → All (else_frames w declared o n scope (frame_if w b end scope fk))
          → ((b || else_completes o) ≡ false → Lands k) → Met k
          → Met (else_code w o l n (Label end ∷ k))
      other_met NoElse y l n end k scope fk b r x h land met = cons _ _ tt met
      other_met (Otherwise s) y l n end k scope fk b r x h land met =
          sta_met s y l n _ scope _ r x h
          (λ none. either b end k scope fk (completes s) none
          (behind s n scope _ h) land) (cons _ _ tt met)

      all_met : (ss : TStas) (looped b : Bool) (l : Loop) (n : ℕ) (k : List Item)
          (scope : Types) (fk : List LabelFrame) → AllReached looped b ss
          → Exits looped l (some_break ss) (some_continue ss)
          → All (all_frames w declared ss n scope fk) → (last_completes b ss ≡ false → Lands k)
          → Met k → Met (all_code w ss l n k)
      all_met End y b l n k scope fk r x h land met = met
      all_met (Then s ss) y b l n k scope fk r x h land met =
          sta_met s y l n _ scope _ r.1
          (part y l _ _ _ _ (or_left (breaks s) (some_break ss))
          (or_left (continues s) (some_continue ss)) x)
          h (λ none. ended_lands ss y (completes s) l (labels s n) k r.2 land none)
          (all_met ss y (completes s) l (labels s n) k (scope_behind declared s scope) fk r.2
          (part y l _ _ _ _ (or_right (breaks s) (some_break ss))
          (or_right (continues s) (some_continue ss)) x)
          (behind s n scope _ h) land met)

      catch_met : (cs : TCatches) (looped : Bool) (l : Loop) (end n : ℕ) (k : List Item)
          (scope : Types) (fk : List LabelFrame) → CatchesReached looped cs
          → Exits looped l (some_catch_breaks cs) (some_catch_continues cs)
          → All (catch_frames w declared cs n scope fk)
          → (some_catch_completes cs ≡ true → Has end) → Lands k → Met k
          → Met (catch_code w cs l end n k)
      catch_met NoCatch y l end n k scope fk r x h has_end land met = met
      catch_met (Catch c s cs) y l end n k scope fk r x h has_end land met =
          let more = behind s (n + 1) scope _ h.1 in
          let later = catch_lands cs l end (labels s (n + 1)) k scope fk more land in
          cons _ _ tt
          (cons _ _ tt
          (sta_met s y l (n + 1) _ scope _ r.0
          (part y l _ _ _ _ (or_left (breaks s) (some_catch_breaks cs))
          (or_left (continues s) (some_catch_continues cs)) x)
          h.1 (λ none. goes_land (completes s) end _ none later)
          (goes_met (completes s) end _
          (λ is. has_end (or_left (completes s) (some_catch_completes cs) is)) (λ is. later)
          (catch_met cs y l end (labels s (n + 1)) k scope fk r.1
          (part y l _ _ _ _ (or_right (breaks s) (some_catch_breaks cs))
          (or_right (continues s) (some_catch_continues cs)) x)
          more (λ is. has_end (or_right (completes s) (some_catch_completes cs) is)) land met))))

    -- ---- handlers

    abbrev Caught : List Handler → Type 0
    Caught hs = AllByRecursion (λ x. has x.goes ≡ true) hs

    mutual
      unfolding handlers frames

      sta_caught : (s : TSta) (n : ℕ) (k : List Handler) (scope : Types) (fk : List LabelFrame)
          → All (frames w declared s n scope fk) → Caught k → Caught (handlers w s n k)
      sta_caught (Block ss at p) n k scope fk h met = all_caught ss n k scope fk h met
      sta_caught (If e s o at p) n k scope fk h met =
          let i = expr_labels e (n + 2) in
          let one = rest e (n + 2) scope [] _ h in
          sta_caught s i _ scope _ one
          (else_caught o (labels s i) k scope _ (behind s i scope _ one).1 met)
      sta_caught (While e s at p) n k scope fk h met =
          let one = if_rest w (λ f. has f.label ≡ true) (goes_again s) n scope _ h in
          sta_caught s (expr_labels e (n + 2)) k scope _
          (loop_rest w (λ f. has f.label ≡ true) (is_true e) e (n + 2) scope _ one) met
      sta_caught (Try s cs at p) n k scope fk h met =
          sta_caught s (n + 3) _ scope _ h
          (catch_caught cs n (labels s (n + 3)) k scope _ (behind s (n + 3) scope _ h) met)
      sta_caught (Return o at p) n k scope fk h met = met
      sta_caught (Break at p) n k scope fk h met = met
      sta_caught (Continue at p) n k scope fk h met = met
      sta_caught (Throw c at p) n k scope fk h met = met
      sta_caught (Open i at p) n k scope fk h met = met
      sta_caught (Close i at p) n k scope fk h met = met
      sta_caught (SetLocal i q e at p) n k scope fk h met = met
      sta_caught (SetStatic c f e at p) n k scope fk h met = met
      sta_caught (SetField o c f e at p) n k scope fk h met = met
      sta_caught (Eval e at p) n k scope fk h met = met
      sta_caught (When i s o at p) n k scope fk h met =
          sta_caught s (n + 2) _ scope _ h
          (else_caught o (labels s (n + 2)) k scope _ (behind s (n + 2) scope _ h).1 met)

      else_caught : (o : MayTSta) (n : ℕ) (k : List Handler) (scope : Types)
          (fk : List LabelFrame) → All (else_frames w declared o n scope fk) → Caught k
          → Caught (else_handlers w o n k)
      else_caught NoElse n k scope fk h met = met
      else_caught (Otherwise s) n k scope fk h met = sta_caught s n k scope fk h met

      all_caught : (ss : TStas) (n : ℕ) (k : List Handler) (scope : Types)
          (fk : List LabelFrame) → All (all_frames w declared ss n scope fk) → Caught k
          → Caught (all_handlers w ss n k)
      all_caught End n k scope fk h met = met
      all_caught (Then s ss) n k scope fk h met =
          sta_caught s n _ scope _ h
          (all_caught ss (labels s n) k (scope_behind declared s scope) fk (behind s n scope _ h)
          met)

      catch_caught : (cs : TCatches) (from n : ℕ) (k : List Handler) (scope : Types)
          (fk : List LabelFrame) → All (catch_frames w declared cs n scope fk) → Caught k
          → Caught (catch_handlers w cs from n k)
      catch_caught NoCatch from n k scope fk h met = met
      catch_caught (Catch c s cs) from n k scope fk h met = (
        h.0,
        sta_caught s (n + 1) _ scope _ h.1
            (catch_caught cs from (labels s (n + 1)) k scope fk (behind s (n + 1) scope _ h.1)
            met),
      )

-- ---- whole bodies

-- each frame of some has a label with a frame
module _ (whole : List LabelFrame) where
  found : (f : LabelFrame) (fs : List LabelFrame) (l : ℕ) → has_frame fs l ≡ true
      → has_frame (f ∷ fs) l ≡ true
  found f fs l h = by (f.label == l) where
    by : (b : Bool) → is_some (if b then Some f else frame_at fs l) ≡ true
    by true = refl
    by false = h

  all_have : (fs : List LabelFrame) → ((l : ℕ) → has_frame fs l ≡ true → has_frame whole l ≡ true)
      → AllByRecursion (λ f. has_frame whole f.label ≡ true) fs
  all_have [] in_whole = tt
  all_have (f ∷ fs) in_whole = (
    in_whole f.label (ap (λ (b : Bool). is_some (if b then Some f else frame_at fs f.label))
        (eq-eqb f.label f.label refl)),
    all_have fs (λ l h. in_whole l (found f fs l h)),
  )

ending_met : (has : ℕ → Bool) (b : Bool) → AreMet has (ending b)
unfolding lands AreMet
ending_met has true = (refl, tt)
ending_met has false = tt

ending_lands : (has : ℕ → Bool) (b : Bool) → b ≡ false → lands has (ending b) ≡ true
unfolding lands
ending_lands has true none = absurd (cc none)
ending_lands has false none = refl

pub bodies_have_frames : BodiesHaveFrames
bodies_have_frames w m body reached =
    let whole = frames w m.locals body 0 (first_scope m) [] in
    let has = has_frame whole in
    let all = all_have whole whole (λ l h. h) in
    record {
      items =
          sta_met has w m.locals body false no_loop 0 (ending (completes body)) (first_scope m) []
          reached (record { out = λ i. absurd (cc i); again = λ i. absurd (cc i) }) all
          (ending_lands has (completes body)) (ending_met has (completes body));
      handlers = sta_caught has w m.locals body 0 [] (first_scope m) [] all tt;
    }
