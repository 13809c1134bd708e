-- Frames of expressions: the types of the operands below, and then that of the value.
use Rattle.std.proofs.Common.{◌≡◌, ℕ, suc, ◌+◌, ◌≤◌, ◌<◌, Bool, true, false, List, [], ◌∷◌, ◌++◌}
use Rattle.std.proofs.Common.{Option, Some, map, length, reverse, drop, refl, sym, ap, subst}
use Rattle.std.proofs.Common.{◌∙◌, arith, inl, ◌⊎◌}
use Rattle.std.proofs.lemmas.List.{append-nil}
use Rattle.std.specs.Prelude.{pos, if◌then◌else◌, nat_le}
use Rattle.std.specs.List.{AllByRecursion, slice_get}
use Rattle.par_typed.specs.par_lexer.declared.operator.BinOp.{BinOp}
use Rattle.par_instr.specs.declared.instr.Instr.TheVariants.{AconstNull, AloadShort, Pop, Dup, Ineg}
use Rattle.par_typed.specs.declared.ty.Ty.{Ty}
use Rattle.par_typed.specs.declared.ty.Ty.TheVariants as ty
use Rattle.par_typed.specs.Plain.{mark, TExp, Int, Boolean, Null, This, New, Local, Static}
use Rattle.par_typed.specs.Plain.{Field, Input, Output, Call, Neg, Not, Binary}
use Rattle.par_typed.specs.Plain.{MayTExp, Absent, Present, TExps, NoExps, More}
use Rattle.par_values.specs.declared.kind.Kind.{Kind}
use Rattle.par_values.specs.declared.kind.Kind.TheVariants as machine
use Rattle.par_values.specs.Areas.{Name}
use Rattle.par_code_form.specs.declared.item.Item.{Item}
use Rattle.par_code_form.specs.declared.item.Item.TheVariants.{Label, Op, Const, Jump}
use Rattle.par_code_form.specs.declared.item.Item.TheVariants.{ClassOp}
use Rattle.par_code_form.specs.Opcodes.{IFEQ, IF_ICMPEQ, GOTO, NEW}
use Rattle.par_code_form.specs.Operands.{with_result}
use Rattle.par_code_form.specs.Code.{Words, Shape, Calculates, Compares, Sames, Decides, shape}
use Rattle.par_code_form.specs.Code.{shape_of, shape_labels, shape_code, between, test_code, load}
use Rattle.par_code_form.specs.Code.{expr_labels, may_labels, expr_code}
use Rattle.par_code_form.specs.Code.{args_code, made, initializer, same_opcode, is_number}
use Rattle.par_kinds.specs.declared.frame.VKind.{VKind}
use Rattle.par_kinds.specs.declared.frame.VKind.TheVariants.{Int as AnInt}
use Rattle.par_kinds.specs.declared.frame.VKind.TheVariants.{Object as AnObject}
use Rattle.par_kinds.specs.Kinds.{KFrame, Front, accepts, kind_at, top_or}
use Rattle.par_kinds.specs.Acts.{Act, Accepts, Gives, Branches}
use Rattle.par_kinds.specs.Acts as also
use Rattle.par_placed_fit_laws.specs.par_evaluation_laws.Laid.{Layout, IsMade, IsThrown}
use Rattle.par_placed_fit_laws.specs.par_program_laws.Locals.{IsSet}
use Rattle.par_placed_fit_laws.specs.par_evaluation_laws.Laid.{Typed, TypedArgs, OfShape, kind_of}
use Rattle.par_placed_fit_laws.specs.par_evaluation_laws.Laid.{below_second}
use Rattle.par_placed_fit_laws.specs.Walks.{Sign, Guard, Onto, Walks}
use Rattle.par_placed_fit_laws.specs.par_match_laws.Labelled.{is_there}
use Rattle.par_placed_fit_laws.specs.Signs.{Marked, framed, kind, test_signs, shape_signs}
use Rattle.par_placed_fit_laws.specs.Signs.{pushed}
use Rattle.par_placed_fit_laws.specs.Signs.{pushed_receiver, pushed_first, expr_signs, may_signs}
use Rattle.par_placed_fit_laws.specs.Signs.{args_signs}
use Rattle.par_placed_fit_laws.specs.Tells.{acting, giving, results, Tells}
use Rattle.par_verified_file_laws.proofs.Steps.{Within, gives, loads, copies, branches, jumps, lies}
use Rattle.par_verified_file_laws.proofs.Steps.{same_label, far_label}
use Rattle.par_verified_file_laws.proofs.Valued.{same_name, declared_value, number_value, value_by}
use Rattle.par_verified_file_laws.proofs.Valued.{value_results, asked_accepts, any_accepts}
use Rattle.par_verified_file_laws.proofs.Valued.{number_kind}
use Rattle.par_verified_file_laws.proofs.Valued.{given_accepts, asked_of, laid_of, asked_is}

-- ---- the rest of what labels are

module _ (w : Words) (P : Marked → Type 0) where
  test_rest : (n : ℕ) (locals stack : List VKind) (k : List Marked)
      → AllByRecursion P (test_signs w n locals stack k) → AllByRecursion P k
  test_rest n locals stack k h = h.1.1

  pub shape_rest : (s : Shape) (n : ℕ) (locals stack : List VKind) (k : List Marked)
      → AllByRecursion P (shape_signs w s n locals stack k) → AllByRecursion P k
  shape_rest (Calculates o i) n locals stack k h = h
  shape_rest (Compares t) n locals stack k h = h.1.1
  shape_rest (Sames b) n locals stack k h = h.1.1
  shape_rest (Decides o) n locals stack k h = h.1

  mutual
    unfolding expr_signs

    pub expr_rest : (e : TExp) (n : ℕ) (locals stack : List VKind) (k : List Marked)
        → AllByRecursion P (expr_signs w e n locals stack k) → AllByRecursion P k
    expr_rest (Int v m) n locals stack k h = h
    expr_rest (Boolean b m) n locals stack k h = h
    expr_rest (Null m) n locals stack k h = h
    expr_rest (This m) n locals stack k h = h
    expr_rest (New c m) n locals stack k h = h
    expr_rest (Local x m) n locals stack k h = h
    expr_rest (Static c f m) n locals stack k h = h
    expr_rest (Field e c f m) n locals stack k h = expr_rest e n locals stack k h
    expr_rest (Input c i m) n locals stack k h = h
    expr_rest (Output c i e m) n locals stack k h = expr_rest e n locals stack k h
    expr_rest (Call c i o es m) n locals stack k h =
        args_rest es (may_labels o n) locals (pushed_receiver w o stack) k
        (may_rest o n locals stack _ h)
    expr_rest (Neg e m) n locals stack k h = expr_rest e n locals stack k h
    expr_rest (Not e m) n locals stack k h =
        test_rest n locals stack k (expr_rest e (n + 2) locals stack _ h)
    expr_rest (Binary op a b m) n locals stack k h =
        let s = shape_of op a in
        shape_rest s n locals stack k
        (expr_rest b (expr_labels a (n + shape_labels s)) locals (pushed_first w s a stack) _
        (expr_rest a (n + shape_labels s) locals stack _ h))

    pub may_rest : (o : MayTExp) (n : ℕ) (locals stack : List VKind) (k : List Marked)
        → AllByRecursion P (may_signs w o n locals stack k) → AllByRecursion P k
    may_rest Absent n locals stack k h = h
    may_rest (Present e) n locals stack k h = expr_rest e n locals stack k h

    pub args_rest : (es : TExps) (n : ℕ) (locals stack : List VKind) (k : List Marked)
        → AllByRecursion P (args_signs w es n locals stack k) → AllByRecursion P k
    args_rest NoExps n locals stack k h = h
    args_rest (More e es) n locals stack k h =
        args_rest es (expr_labels e n) locals (pushed w e stack) k
        (expr_rest e n locals stack _ h)

-- ---- items that are one of some instructions

pub either : {X : Type 0} (P : X → Type 0) (b : Bool) (x y : X) → P x → P y
    → P (if b then x else y)
either P true x y p q = p
either P false x y p q = q

pub load_begins : (t : Ty) (x : ℕ) (xs : List Item) → is_there (load t x ∷ xs) ≡ true
load_begins t x xs =
    let P : Item → Type 0 = λ i. is_there (i ∷ xs) ≡ true in
    either P (is_number t) _ _ (either P (nat_le x 3) _ _ refl refl)
    (either P (nat_le x 3) _ _ refl refl)

module _ (exc : List Name) (act : Item → Act) (at : ℕ → Sign) (many room : ℕ) (w : Words)
    (lay : Layout) (result : Ty) (tells : Tells exc act w lay result) (tys : ℕ → Ty) where
  abbrev Walk : List Item → List Guard → Option KFrame → Type 0
  Walk = Walks exc act at many room

  -- labels are what is said of them
  abbrev pub Marks : List Marked → Type 0
  Marks k = AllByRecursion (λ m. at m.label ≡ m.sign) k

  -- ---- room

  may_result : (t : Ty) (h : ℕ) → with_result t h ≤ room → (t ≡ ty.Void → ⊥) → h < room
  may_result ty.Int h le v = omega arith
  may_result ty.Boolean h le v = omega arith
  may_result (ty.Class c) h le v = omega arith
  may_result ty.Null h le v = omega arith
  may_result ty.Void h le v = absurd (v refl)

  less_result : (t : Ty) (h : ℕ) → with_result t h ≤ room → h ≤ room
  less_result ty.Int h le = omega arith
  less_result ty.Boolean h le = omega arith
  less_result (ty.Class c) h le = omega arith
  less_result ty.Null h le = omega arith
  less_result ty.Void h le = le

  -- there is room for the value
  pub has_room : (set : List ℕ) (h : ℕ) (e : TExp) → Typed lay tys many room set h e
      → ((mark e).ty ≡ ty.Void → ⊥) → h < room
  unfolding Typed mark
  has_room set h (Int v m) p value = p.1
  has_room set h (Boolean b m) p value = p.1
  has_room set h (Null m) p value = p.1
  has_room set h (This m) p value = p.1
  has_room set h (New c m) p value = omega (arith, p.1)
  has_room set h (Local x m) p value = p.1
  has_room set h (Static c f m) p value = p.1
  has_room set h (Field e c f m) p value = p.4
  has_room set h (Input c k m) p value = p.2
  has_room set h (Output c k e m) p value = p.4
  has_room set h (Call c i Absent es m) p value =
      may_result (p.0).result h p.5 (value_by (p.0).result m.ty (sym p.2) value)
  has_room set h (Call c i (Present e) es m) p value = p.5
  has_room set h (Neg e m) p value = p.3
  has_room set h (Not e m) p value = p.3
  has_room set h (Binary op a b m) p value = omega (arith, p.2)

  module _ (set : List ℕ) where
    args_fit : (us : List Ty) (es : TExps) (stack : List VKind)
        → TypedArgs lay tys many room set (length stack) us es → length stack ≤ room
        → length (laid_of w es stack) ≤ room
    unfolding TypedArgs
    args_fit [] NoExps stack p le = le
    args_fit [] (More e es) stack p le = absurd p
    args_fit (u ∷ us) NoExps stack p le = absurd p
    args_fit (u ∷ us) (More e es) stack p le =
        args_fit us es (kind w (mark e).ty ∷ stack) p.3 (has_room set (length stack) e p.2 p.1)

    args_front : (us : List Ty) (es : TExps) (h : ℕ) (ks : List Kind) (stack : List VKind)
        → TypedArgs lay tys many room set h us es → Front Accepts ks stack
        → Front Accepts (asked_of w us ks) (laid_of w es stack)
    unfolding TypedArgs
    args_front [] NoExps h ks stack p f = f
    args_front [] (More e es) h ks stack p f = absurd p
    args_front (u ∷ us) NoExps h ks stack p f = absurd p
    args_front (u ∷ us) (More e es) h ks stack p f =
        args_front us es (suc h) (kind_of w u ∷ ks) (kind w (mark e).ty ∷ stack) p.3
        (given_accepts w u (mark e).ty p.0, f)

    args_drop : (us : List Ty) (es : TExps) (h : ℕ) (ks : List Kind) (stack : List VKind)
        → TypedArgs lay tys many room set h us es
        → drop (length (asked_of w us ks)) (laid_of w es stack) ≡ drop (length ks) stack
    unfolding TypedArgs
    args_drop [] NoExps h ks stack p = refl
    args_drop [] (More e es) h ks stack p = absurd p
    args_drop (u ∷ us) NoExps h ks stack p = absurd p
    args_drop (u ∷ us) (More e es) h ks stack p =
        args_drop us es (suc h) (kind_of w u ∷ ks) (kind w (mark e).ty ∷ stack) p.3

  module _ (guards : List Guard) (locals : List VKind)
      (i : Within exc act at many room locals guards) where
    -- the results of a type that is another
    results_as : (t u : Ty) → t ≡ u → (xs : List Item) (stack : List VKind)
        → Walk xs guards (Some (framed locals (results w t ++ stack)))
        → Walk xs guards (Some (framed locals (results w u ++ stack)))
    results_as t u same xs stack h =
        subst (λ (z : Ty). Walks exc act at many room xs guards
        (Some (framed locals (results w z ++ stack)))) same h

    -- where there is a value
    pub as_value : (t : Ty) → (t ≡ ty.Void → ⊥) → (xs : List Item) (stack : List VKind)
        → Walk xs guards (Some (framed locals (results w t ++ stack)))
        → Walk xs guards (Some (framed locals (kind w t ∷ stack)))
    as_value t value xs stack h =
        subst (λ (z : List VKind). Walks exc act at many room xs guards
        (Some (framed locals (z ++ stack)))) (value_results w t value) h

    pub of_value : (t : Ty) → (t ≡ ty.Void → ⊥) → (xs : List Item) (stack : List VKind)
        → Walk xs guards (Some (framed locals (kind w t ∷ stack)))
        → Walk xs guards (Some (framed locals (results w t ++ stack)))
    of_value t value xs stack h =
        subst (λ (z : List VKind). Walks exc act at many room xs guards
        (Some (framed locals (z ++ stack)))) (sym (value_results w t value)) h

    kind_as : (k l : VKind) → k ≡ l → (xs : List Item) (stack : List VKind)
        → Walk xs guards (Some (framed locals (k ∷ stack)))
        → Walk xs guards (Some (framed locals (l ∷ stack)))
    kind_as k l same xs stack h =
        subst (λ (z : VKind). Walks exc act at many room xs guards
        (Some (framed locals (z ∷ stack)))) same h

    -- a new object
    pub object : (c : ℕ) → IsMade lay c ⊎ IsThrown lay c → (xs : List Item)
        (stack : List VKind) → suc (length stack) < room
        → Walk xs guards (Some (framed locals (AnObject (w.class c) ∷ stack)))
        → Walk (made (w.class c) xs) guards (Some (framed locals stack))
    unfolding accepts
    object c is xs stack few h =
        gives exc act at many room guards locals i (ClassOp NEW (w.class c)) _ stack [] _
        (tells.made c is) refl (omega arith) tt
        (copies exc act at many room guards locals i (Op Dup) _ _ stack tells.dup refl
        (omega arith)
        (gives exc act at many room guards locals i (initializer (w.class c)) _ _
        (machine.Object (w.class c) ∷ []) [] (tells.init c is) refl (omega arith)
        (same_name (w.class c), tt) h))

    -- a test that is made a value
    test : (o n : ℕ) (ks : List Kind) (xs : List Item) (from stack : List VKind)
        (k : List Marked)
        → act (Jump o n) ≡ acting ks also.Nothing (Gives []) (Branches (pos 0))
        → length from ≤ room → Front Accepts ks from → drop (length ks) from ≡ stack
        → length stack < room → Marks (test_signs w n locals stack k)
        → Walk xs guards (Some (framed locals (AnInt ∷ stack)))
        → Walk (test_code o n xs) guards (Some (framed locals from))
    test o n ks xs from stack k is fit front rest few marks h =
        let yes = framed locals stack in
        let end = framed locals (AnInt ∷ stack) in
        let onto = lies exc act at many room n yes marks.0 in
        branches exc act at many room guards locals i o n _ from ks is fit front
        (subst (λ (z : List VKind). Onto exc act at many room (framed locals z) (at n).frame)
        (sym rest) onto)
        (subst (λ (z : List VKind). Walks exc act at many room
        (Const (pos 0) ∷ Jump GOTO (n + 1) ∷ Label n ∷ Const (pos 1) ∷ Label (n + 1) ∷ xs) guards
        (Some (framed locals z))) (sym rest)
        (gives exc act at many room guards locals i (Const (pos 0)) _ stack [] _
        (tells.const (pos 0)) refl (omega arith) tt
        (jumps exc act at many room guards locals i GOTO (n + 1) _ (AnInt ∷ stack)
        (tells.goes (n + 1)) few (lies exc act at many room (n + 1) end marks.1.0)
        (far_label exc act at many room n _ guards yes marks.0
        (gives exc act at many room guards locals i (Const (pos 1)) _ stack [] _
        (tells.const (pos 1)) refl (omega arith) tt
        (same_label exc act at many room (n + 1) xs guards end marks.1.0 h))))))

    -- ---- operators

    first_value : (s : Shape) (a b : TExp) (r : Ty) (h : ℕ)
        → OfShape s room h (mark a).ty (mark b).ty r → (mark a).ty ≡ ty.Void → ⊥
    first_value (Calculates o j) a b r h p = value_by _ ty.Int p.0 (λ is. cc is)
    first_value (Compares t) a b r h p = number_value _ p.0
    first_value (Sames s) a b r h p = p.3
    first_value (Decides o) a b r h p = value_by _ ty.Boolean p.0 (λ is. cc is)

    second_value : (s : Shape) (a b : TExp) (r : Ty) (h : ℕ)
        → OfShape s room h (mark a).ty (mark b).ty r → (mark b).ty ≡ ty.Void → ⊥
    second_value (Calculates o j) a b r h p = value_by _ ty.Int p.1 (λ is. cc is)
    second_value (Compares t) a b r h p = number_value _ p.1
    second_value (Sames s) a b r h p = p.4
    second_value (Decides o) a b r h p = value_by _ ty.Boolean p.1 (λ is. cc is)

    second_below : (s : Shape) (a : TExp) (stack : List VKind)
        → below_second s (length stack) ≡ length (pushed_first w s a stack)
    second_below (Calculates o j) a stack = refl
    second_below (Compares t) a stack = refl
    second_below (Sames s) a stack = refl
    second_below (Decides o) a stack = refl

    int_accepts : (t : Ty) → t ≡ ty.Int → accepts machine.Number (kind w t) ≡ true
    unfolding accepts
    int_accepts t is = ap (λ (z : Ty). accepts machine.Number (kind w z)) is

    number_accepts : (t : Ty) → is_number t ≡ true → accepts machine.Number (kind w t) ≡ true
    unfolding accepts
    number_accepts t is = ap (accepts machine.Number) (number_kind w t is)

    -- the value of an operator
    shape_walks : (op : BinOp) (numbers : Bool) (s : Shape) → shape op numbers ≡ s
        → (a b : TExp) (r : Ty) (n : ℕ) (xs : List Item) (stack : List VKind) (k : List Marked)
        → OfShape s room (length stack) (mark a).ty (mark b).ty r → suc (length stack) < room
        → Marks (shape_signs w s n locals stack k)
        → Walk xs guards (Some (framed locals (results w r ++ stack)))
        → Walk (shape_code s n xs) guards
        (Some (framed locals (kind w (mark b).ty ∷ pushed_first w s a stack)))
    shape_walks op numbers (Calculates o j) is a b r n xs stack k p few marks h =
        gives exc act at many room guards locals i (Op j) xs _
        (machine.Number ∷ machine.Number ∷ []) (AnInt ∷ []) (tells.calculate op numbers o j is)
        refl few (int_accepts (mark b).ty p.1, (int_accepts (mark a).ty p.0, tt))
        (results_as r ty.Int p.2 xs stack h)
    shape_walks op numbers (Compares t) is a b r n xs stack k p few marks h =
        test (IF_ICMPEQ + t) n (machine.Number ∷ machine.Number ∷ []) xs _ stack k
        (tells.compares t n p.3) few
        (number_accepts (mark b).ty p.1, (number_accepts (mark a).ty p.0, tt)) refl (omega arith)
        marks (results_as r ty.Boolean p.2 xs stack h)
    shape_walks op numbers (Sames z) is a b r n xs stack k p few marks h =
        test (same_opcode z) n (machine.AnyObject ∷ machine.AnyObject ∷ []) xs _ stack k
        (tells.sames z n) few
        (any_accepts w (mark b).ty p.1 p.4, (any_accepts w (mark a).ty p.0 p.3, tt)) refl
        (omega arith) marks (results_as r ty.Boolean p.2 xs stack h)
    shape_walks op numbers (Decides o) is a b r n xs stack k p few marks h =
        kind_as AnInt (kind w (mark b).ty) (sym (ap (kind w) p.1)) (Label n ∷ xs) stack
        (same_label exc act at many room n xs guards (framed locals (AnInt ∷ stack)) marks.0
        (results_as r ty.Boolean p.2 xs stack h))

    -- between the two parts
    between_walks : (op : BinOp) (numbers : Bool) (s : Shape) → shape op numbers ≡ s
        → (a b : TExp) (r : Ty) (n : ℕ) (xs : List Item) (stack : List VKind) (k : List Marked)
        → OfShape s room (length stack) (mark a).ty (mark b).ty r → suc (length stack) < room
        → Marks (shape_signs w s n locals stack k)
        → Walk xs guards (Some (framed locals (pushed_first w s a stack)))
        → Walk (between s n xs) guards (Some (framed locals (results w (mark a).ty ++ stack)))
    unfolding accepts
    between_walks op numbers (Calculates o j) is a b r n xs stack k p few marks h =
        of_value (mark a).ty (first_value (Calculates o j) a b r (length stack) p) xs stack h
    between_walks op numbers (Compares t) is a b r n xs stack k p few marks h =
        of_value (mark a).ty (first_value (Compares t) a b r (length stack) p) xs stack h
    between_walks op numbers (Sames z) is a b r n xs stack k p few marks h =
        of_value (mark a).ty (first_value (Sames z) a b r (length stack) p) xs stack h
    between_walks op numbers (Decides o) is a b r n xs stack k p few marks h =
        results_as ty.Boolean (mark a).ty (sym p.0) (between (Decides o) n xs) stack
        (copies exc act at many room guards locals i (Op Dup) _ AnInt stack tells.dup refl
        (omega arith)
        (branches exc act at many room guards locals i o n _ (AnInt ∷ AnInt ∷ stack)
        (machine.Number ∷ []) (tells.decides op numbers o n is) (omega arith) (refl, tt)
        (lies exc act at many room n (framed locals (AnInt ∷ stack)) marks.0)
        (gives exc act at many room guards locals i (Op Pop) _ (AnInt ∷ stack)
        (machine.Anything ∷ []) [] tells.pop refl (omega arith) (refl, tt) h)))

    -- ---- calls

    call : (x : Item) (xs : List Item) (us : List Ty) (es : TExps) (set : List ℕ)
        (ks : List Kind) (under stack : List VKind) (r t : Ty)
        → act x ≡ giving (reverse (map (kind_of w) us) ++ ks) (results w r)
        → is_there (x ∷ xs) ≡ true → TypedArgs lay tys many room set (length under) us es
        → length under ≤ room → Front Accepts ks under → drop (length ks) under ≡ stack
        → t ≡ r → Walk xs guards (Some (framed locals (results w t ++ stack)))
        → Walk (x ∷ xs) guards (Some (framed locals (laid_of w es under)))
    call x xs us es set ks under stack r t is b p few front rest same h =
        let dropped = args_drop set us es (length under) ks under p ∙ rest in
        gives exc act at many room guards locals i x xs (laid_of w es under) (asked_of w us ks)
        (results w r) (is ∙ ap (λ (z : List Kind). giving z (results w r)) (asked_is w us ks)) b
        (args_fit set us es under p few) (args_front set us es (length under) ks under p front)
        (subst (λ (z : List VKind). Walks exc act at many room xs guards
        (Some (framed locals (results w r ++ z)))) (sym dropped)
        (results_as t r same xs stack h))

    number_is : accepts machine.Number AnInt ≡ true
    unfolding accepts
    number_is = refl

    object_accepts : (c : ℕ)
        → accepts (machine.Object (w.class c)) (kind w (ty.Class c)) ≡ true
    unfolding accepts
    object_accepts c = same_name (w.class c)

    -- ---- all expressions

    module _ (set : List ℕ)
        (sets : (x : ℕ) → IsSet set x → slice_get locals x ≡ Some (kind w (tys x))) where
      local_kind : (x : ℕ) → IsSet set x → kind_at locals x ≡ kind w (tys x)
      local_kind x is = ap top_or (sets x is)

      mutual
        unfolding expr_code expr_signs Typed mark expr_labels TypedArgs

        pub expr_walks : (e : TExp) (n : ℕ) (xs : List Item) (stack : List VKind)
            (k : List Marked) → Typed lay tys many room set (length stack) e
            → Marks (expr_signs w e n locals stack k)
            → Walk xs guards (Some (framed locals (results w (mark e).ty ++ stack)))
            → Walk (expr_code w e n xs) guards (Some (framed locals stack))
        expr_walks (Int v m) n xs stack k p marks h =
            gives exc act at many room guards locals i (Const v) xs stack [] _ (tells.const v)
            refl (omega (arith, p.1)) tt (results_as m.ty ty.Int p.0 xs stack h)
        expr_walks (Boolean true m) n xs stack k p marks h =
            gives exc act at many room guards locals i (Const (pos 1)) xs stack [] _
            (tells.const (pos 1)) refl (omega (arith, p.1)) tt
            (results_as m.ty ty.Boolean p.0 xs stack h)
        expr_walks (Boolean false m) n xs stack k p marks h =
            gives exc act at many room guards locals i (Const (pos 0)) xs stack [] _
            (tells.const (pos 0)) refl (omega (arith, p.1)) tt
            (results_as m.ty ty.Boolean p.0 xs stack h)
        expr_walks (Null m) n xs stack k p marks h =
            gives exc act at many room guards locals i (Op AconstNull) xs stack [] _ tells.null
            refl (omega (arith, p.1)) tt (results_as m.ty ty.Null p.0 xs stack h)
        expr_walks (This m) n xs stack k p marks h =
            loads exc act at many room guards locals i (Op (AloadShort 0)) xs stack 0 _
            (kind w (tys 0)) tells.this refl (omega (arith, p.1)) (local_kind 0 p.2)
            (any_accepts w (tys 0) p.3 p.4)
            (as_value (tys 0) p.4 xs stack (results_as m.ty (tys 0) p.0 xs stack h))
        expr_walks (New c m) n xs stack k p marks h =
            object c (inl p.2) xs stack p.1 (results_as m.ty (ty.Class c) p.0 xs stack h)
        expr_walks (Local x m) n xs stack k p marks h =
            let value = value_by m.ty (tys x) p.0 p.3 in
            loads exc act at many room guards locals i (load m.ty x) xs stack x _ (kind w m.ty)
            (tells.load_ m.ty x) (load_begins m.ty x xs) (omega (arith, p.1))
            (local_kind x p.2 ∙ ap (kind w) (sym p.0)) (asked_accepts w m.ty value)
            (as_value m.ty value xs stack h)
        expr_walks (Static c f m) n xs stack k p marks h =
            gives exc act at many room guards locals i _ xs stack [] _
            (tells.static_read c f m.ty p.0) refl (omega (arith, p.1)) tt
            (as_value m.ty (declared_value m.ty (tells.static_declared c f m.ty p.0)) xs stack h)
        expr_walks (Field e c f m) n xs stack k p marks h =
            expr_walks e n _ stack k p.3 marks
            (results_as (ty.Class c) (mark e).ty (sym p.1) _ stack
            (gives exc act at many room guards locals i _ xs (AnObject (w.class c) ∷ stack)
            (machine.Object (w.class c) ∷ []) _ (tells.own_read c f m.ty p.0) refl p.4
            (object_accepts c, tt)
            (as_value m.ty (declared_value m.ty (tells.own_declared c f m.ty p.0)) xs stack h)))
        expr_walks (Input c j m) n xs stack k p marks h =
            gives exc act at many room guards locals i _ xs stack [] _ (tells.input c j p.0)
            refl (omega (arith, p.2)) tt (results_as m.ty ty.Int p.1 xs stack h)
        expr_walks (Output c j e m) n xs stack k p marks h =
            expr_walks e n _ stack k p.3 marks
            (results_as ty.Int (mark e).ty (sym p.1) _ stack
            (gives exc act at many room guards locals i _ xs (AnInt ∷ stack)
            (machine.Number ∷ []) _ (tells.output c j p.0) refl p.4 (number_is, tt)
            (results_as m.ty ty.Void p.2 xs stack h)))
        expr_walks (Call c j Absent es m) n xs stack k p marks h =
            let me = p.0 in
            args_walks me.takes es n _ stack k p.4 marks
            (call _ xs me.takes es set [] stack stack me.result m.ty
            (tells.static_call c j me p.1 p.3
            ∙ ap (λ (z : List Kind). giving z (results w me.result))
            (sym (append-nil (reverse (map (kind_of w) me.takes)))))
            refl p.4 (less_result me.result (length stack) p.5) tt refl p.2 h)
        expr_walks (Call c j (Present e) es m) n xs stack k p marks h =
            let me = p.0 in
            let value = value_by (mark e).ty (ty.Class c) p.6 (λ is. cc is) in
            expr_walks e n _ stack _ p.8 marks
            (of_value (mark e).ty value _ stack
            (args_walks me.takes es (expr_labels e n) _ (kind w (mark e).ty ∷ stack) k p.4
            (expr_rest w (λ m. at m.label ≡ m.sign) e n locals stack _ marks)
            (call _ xs me.takes es set (machine.Object (w.class c) ∷ [])
            (kind w (mark e).ty ∷ stack) stack me.result m.ty
            (tells.own_call c j me p.1 p.3) refl p.4 p.5 (
              subst (λ (z : Ty). accepts (machine.Object (w.class c)) (kind w z) ≡ true)
                  (sym p.6) (object_accepts c),
              tt,
            ) refl p.2 h)))
        expr_walks (Neg e m) n xs stack k p marks h =
            expr_walks e n _ stack k p.2 marks
            (results_as ty.Int (mark e).ty (sym p.1) _ stack
            (gives exc act at many room guards locals i (Op Ineg) xs (AnInt ∷ stack)
            (machine.Number ∷ []) _ tells.neg refl p.3 (number_is, tt)
            (results_as m.ty ty.Int p.0 xs stack h)))
        expr_walks (Not e m) n xs stack k p marks h =
            expr_walks e (n + 2) _ stack _ p.2 marks
            (results_as ty.Boolean (mark e).ty (sym p.1) _ stack
            (test IFEQ n (machine.Number ∷ []) xs (AnInt ∷ stack) stack k (tells.ifeq n) p.3
            (number_is, tt) refl p.3
            (expr_rest w (λ m. at m.label ≡ m.sign) e (n + 2) locals stack _ marks)
            (results_as m.ty ty.Boolean p.0 xs stack h)))
        expr_walks (Binary op a b m) n xs stack k p marks h =
            let s = shape_of op a in
            let l = n + shape_labels s in
            let numbers = is_number (mark a).ty in
            let later = expr_rest w (λ m. at m.label ≡ m.sign) a l locals stack _ marks in
            let last = expr_rest w (λ m. at m.label ≡ m.sign) b (expr_labels a l) locals
            (pushed_first w s a stack) _ later in
            expr_walks a l _ stack _ p.0 marks
            (between_walks op numbers s refl a b m.ty n _ stack k p.3 p.2 last
            (expr_walks b (expr_labels a l) _ (pushed_first w s a stack) _
            (subst (λ (z : ℕ). Typed lay tys many room set z b) (second_below s a stack) p.1)
            later
            (of_value (mark b).ty (second_value s a b m.ty (length stack) p.3) _
            (pushed_first w s a stack)
            (shape_walks op numbers s refl a b m.ty n xs stack k p.3 p.2 last h))))

        args_walks : (us : List Ty) (es : TExps) (n : ℕ) (xs : List Item) (stack : List VKind)
            (k : List Marked) → TypedArgs lay tys many room set (length stack) us es
            → Marks (args_signs w es n locals stack k)
            → Walk xs guards (Some (framed locals (laid_of w es stack)))
            → Walk (args_code w es n xs) guards (Some (framed locals stack))
        args_walks [] NoExps n xs stack k p marks h = h
        args_walks [] (More e es) n xs stack k p marks h = absurd p
        args_walks (u ∷ us) NoExps n xs stack k p marks h = absurd p
        args_walks (u ∷ us) (More e es) n xs stack k p marks h =
            expr_walks e n _ stack _ p.2 marks
            (of_value (mark e).ty p.1 _ stack
            (args_walks us es (expr_labels e n) xs (kind w (mark e).ty ∷ stack) k p.3
            (expr_rest w (λ m. at m.label ≡ m.sign) e n locals stack _ marks) h))
