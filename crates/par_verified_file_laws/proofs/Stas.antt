-- Frames of statements: the locals in scope, and nay operand.
use Rattle.std.proofs.Common.{◌≡◌, ℕ, ◌+◌, ◌≤◌, ◌<◌, Bool, true, false, List, [], ◌∷◌, ◌++◌}
use Rattle.std.proofs.Common.{Option, Some, None, length, set, refl, sym, ap, subst}
use Rattle.std.proofs.Common.{◌∙◌, arith, inr, not, ◌||◌}
use Rattle.std.specs.Prelude.{pos, if◌then◌else◌, nat_le}
use Rattle.std.specs.List.{AllByRecursion, slice_get}
use Rattle.par_instr.specs.declared.instr.Instr.TheVariants.{Pop, Athrow}
use Rattle.par_instr.specs.declared.instr.Instr.TheVariants as instr
use Rattle.par_typed.specs.declared.ty.Ty.{Ty}
use Rattle.par_typed.specs.declared.ty.Ty.TheVariants as ty
use Rattle.par_typed.specs.Plain.{mark, TExp, Absent, Present}
use Rattle.par_typed.specs.Plain.{TSta, Block, If, While, Try, Return, Break, Continue, Throw, Open}
use Rattle.par_typed.specs.Plain.{Close, SetLocal, SetStatic, SetField, Eval, When}
use Rattle.par_typed.specs.Plain.{MayTSta, NoElse, Otherwise, TStas, End, Then, TCatches, NoCatch}
use Rattle.par_typed.specs.Plain.{Catch}
use Rattle.par_completes.specs.Typed.{completes, else_completes, last_completes, is_true, breaks}
use Rattle.par_completes.specs.Typed.{some_catch_completes, else_breaks, some_break}
use Rattle.par_completes.specs.Typed.{some_catch_breaks}
use Rattle.par_values.specs.declared.kind.Kind.TheVariants as machine
use Rattle.par_values.specs.Areas.{Name}
use Rattle.par_code_form.specs.declared.item.Item.{Item}
use Rattle.par_code_form.specs.declared.item.Item.TheVariants.{Label, Op, Const, Jump}
use Rattle.par_code_form.specs.declared.item.Item.TheVariants.{LockOp}
use Rattle.par_code_form.specs.Again.{goes_again, continues, else_continues, some_continue}
use Rattle.par_code_form.specs.Again.{some_catch_continues}
use Rattle.par_code_form.specs.Opcodes.{IFEQ, GOTO, GETSTATIC, PUTSTATIC}
use Rattle.par_code_form.specs.Code.{Words, Loop, goes_on, loop_test, labels, code, else_code}
use Rattle.par_code_form.specs.Code.{all_code, catch_code, expr_code, expr_labels, store, give_back}
use Rattle.par_code_form.specs.Code.{is_number, is_void}
use Rattle.par_code_form.specs.Frames.{Types, with_local, scope_behind}
use Rattle.par_kinds.specs.declared.frame.VKind.{VKind}
use Rattle.par_kinds.specs.declared.frame.VKind.TheVariants.{Int as AnInt}
use Rattle.par_kinds.specs.declared.frame.VKind.TheVariants.{Object as AnObject}
use Rattle.par_kinds.specs.Kinds.{KFrame, Into, Both, accepts, throwable}
use Rattle.par_kinds.specs.Acts.{Act, Throwable, Result}
use Rattle.par_kinds.specs.Acts as also
use Rattle.par_kinds.proofs.Merging.{into-same}
use Rattle.par_placed_fit_laws.specs.par_evaluation_laws.Laid.{Layout, Typed, TypedS, TypedElse}
use Rattle.par_placed_fit_laws.specs.par_evaluation_laws.Laid.{TypedAll}
use Rattle.par_placed_fit_laws.specs.par_evaluation_laws.Laid.{TypedCatches, behind, kind_of}
use Rattle.par_placed_fit_laws.specs.Walks.{Sign, Plain, Opens, Closes, Catches, Guard}
use Rattle.par_placed_fit_laws.specs.par_match_laws.Labelled.{is_there}
use Rattle.par_placed_fit_laws.specs.Walks.{Onto}
use Rattle.par_placed_fit_laws.specs.Walks.{Walks}
use Rattle.par_placed_fit_laws.specs.Signs.{Marked, framed, frame_if, kind, kinds}
use Rattle.par_placed_fit_laws.specs.Signs.{expr_signs, loop_signs, signs, else_signs}
use Rattle.par_placed_fit_laws.specs.Signs.{all_signs, catch_signs}
use Rattle.par_placed_fit_laws.specs.Tells.{Tells, asked}
use Rattle.par_kinds.proofs.Lower.{below-same, below-then, frame-then}
use Rattle.par_verified_file_laws.proofs.Steps.{locals_into, walks_less, walks_less_if, Within}
use Rattle.par_verified_file_laws.proofs.Steps.{within_less}
use Rattle.par_verified_file_laws.proofs.Steps.{gives, stores, branches, jumps, ends, label, lies}
use Rattle.par_verified_file_laws.proofs.Steps.{same_label, far_label}
use Rattle.par_verified_file_laws.proofs.Valued.{value_by, asked_accepts, given_accepts}
use Rattle.par_verified_file_laws.proofs.Valued.{given_into, number_given, same_name}
use Rattle.par_verified_file_laws.specs.BodyLaws.{InScope}
use Rattle.par_verified_file_laws.proofs.Scopes.{kinds_are, store_into, behind_into}
use Rattle.par_verified_file_laws.proofs.Scopes.{behind_size, behind_scope}
use Rattle.par_verified_file_laws.proofs.Rest.{loop_rest, sta_rest, else_rest, catches_rest}
use Rattle.par_verified_file_laws.proofs.Exprs.{either, has_room, of_value, object}
use Rattle.par_verified_file_laws.proofs.Exprs.{expr_walks, expr_rest}
use Rattle.par_verified_file_laws.specs.Reached.{Reached, ElseReached, AllReached, CatchesReached}

store_begins : (t : Ty) (x : ℕ) (xs : List Item) → is_there (store t x ∷ xs) ≡ true
store_begins t x xs =
    let P : Item → Type 0 = λ i. is_there (i ∷ xs) ≡ true in
    either P (is_number t) _ _ (either P (nat_le x 3) _ _ refl refl)
    (either P (nat_le x 3) _ _ refl refl)

give_begins : (t : Ty) (xs : List Item) → is_there (give_back t ∷ xs) ≡ true
give_begins t xs = either (λ i. is_there (i ∷ xs) ≡ true) (is_number t) _ _ refl refl

or_true : (a : Bool) → (a || true) ≡ true
or_true true = refl
or_true false = refl

or_left : (a b : Bool) → a ≡ true → (a || b) ≡ true
or_left true b h = refl
or_left false b h = absurd (cc h)

or_right : (a b : Bool) → b ≡ true → (a || b) ≡ true
or_right true b h = refl
or_right false b h = h

not_false : (a b : Bool) → a ≡ false → (not a || b) ≡ true
not_false true b h = absurd (cc h)
not_false false b h = refl

module _ (exc : List Name) (act : Item → Act) (at : ℕ → Sign) (many room : ℕ) (w : Words)
    (lay : Layout) (result : Ty) (tells : Tells exc act w lay result) (tys : ℕ → Ty) where
  abbrev Walk : List Item → List Guard → Option KFrame → Type 0
  Walk = Walks exc act at many room

  abbrev Lies : ℕ → List VKind → Type 0
  Lies l locals = Onto exc act at many room (framed locals []) (at l).frame

  abbrev All : List Marked → Type 0
  All k = AllByRecursion (λ m. at m.label ≡ m.sign) k

  -- ---- labels where control may come

  lies_if : (l : ℕ) (b : Bool) (ks ls : List VKind)
      → at l ≡ record { frame = frame_if b ls; role = Plain } → b ≡ true
      → Both (Into exc) ks ls → Lies l ks
  lies_if l true ks ls is t h =
      subst (λ (z : Sign). Onto exc act at many room (framed ks []) z.frame) (sym is)
      (locals_into exc ks ls h)
  lies_if l false ks ls is t h = absurd (cc t)

  -- control comes by branches alone
  arrive : (l : ℕ) (xs : List Item) (guards : List Guard) (b : Bool) (ls : List VKind)
      → at l ≡ record { frame = frame_if b ls; role = Plain } → Walk xs guards (frame_if b ls)
      → Walk (Label l ∷ xs) guards None
  arrive l xs guards true ls is h =
      label exc act at many room l xs guards None
      (record { frame = frame_if true ls; role = Plain }) is tt tt h
  arrive l xs guards false ls is h =
      label exc act at many room l xs guards None
      (record { frame = frame_if false ls; role = Plain }) is tt tt h

  -- control comes by branches, or from before
  join : (l : ℕ) (xs : List Item) (guards : List Guard) (b c : Bool) (ls : List VKind)
      → at l ≡ record { frame = frame_if b ls; role = Plain }
      → Walk xs guards (frame_if (b || c) ls) → Walk (Label l ∷ xs) guards (frame_if c ls)
  join l xs guards true true ls is h =
      same_label exc act at many room l xs guards (framed ls []) is h
  join l xs guards true false ls is h =
      far_label exc act at many room l xs guards (framed ls []) is h
  join l xs guards false true ls is h =
      label exc act at many room l xs guards (frame_if true ls)
      (record { frame = frame_if false ls; role = Plain }) is tt tt h
  join l xs guards false false ls is h =
      label exc act at many room l xs guards None
      (record { frame = frame_if false ls; role = Plain }) is tt tt h

  -- a jump to what lies behind, where control comes to it
  turns : (b : Bool) (l : ℕ) (xs : List Item) (guards : List Guard) (ks : List VKind)
      → Within exc act at many room ks guards → (b ≡ true → Lies l ks) → Walk xs guards None
      → Walk (goes_on b l xs) guards (frame_if b ks)
  turns true l xs guards ks i lies h =
      jumps exc act at many room guards ks i GOTO l xs [] (tells.goes l) (omega arith) (lies refl) h
  turns false l xs guards ks i lies h = h

  -- the value of a statement is dropped
  dropped_walks : (b : Bool) (v : VKind) (xs : List Item) (guards : List Guard)
      (ks : List VKind) → Within exc act at many room ks guards → (b ≡ false → 1 ≤ room)
      → Walk xs guards (Some (framed ks []))
      → Walk (if b then xs else Op Pop ∷ xs) guards
      (Some (framed ks ((if b then [] else v ∷ []) ++ [])))
  unfolding accepts
  dropped_walks true v xs guards ks i few h = h
  dropped_walks false v xs guards ks i few h =
      gives exc act at many room guards ks i (Op Pop) xs (v ∷ []) (machine.Anything ∷ []) []
      tells.pop refl (few refl) (refl, tt) h

  void_value : (t : Ty) → is_void t ≡ false → t ≡ ty.Void → ⊥
  void_value t b is = absurd (cc (sym b ∙ ap is_void is))

  -- ---- forms, over the code of their parts

  module _ (guards : List Guard) (ks ms : List VKind)
      (i : Within exc act at many room ks guards) (more : Within exc act at many room ms guards)
      (into_ : Both (Into exc) ms ks) where
    -- two ways behind a number
    ways : (n : ℕ) (b c : Bool) (first other : List Item → List Item) (xs : List Item)
        → ((ys : List Item) → Walk ys guards (frame_if b ms)
        → Walk (first ys) guards (Some (framed ks [])))
        → ((ys : List Item) → Walk ys guards (frame_if c ks)
        → Walk (other ys) guards (Some (framed ks [])))
        → at n ≡ record { frame = Some (framed ks []); role = Plain }
        → at (n + 1) ≡ record { frame = frame_if b ks; role = Plain } → 1 ≤ room
        → Walk xs guards (frame_if (b || c) ks)
        → Walk (Jump IFEQ n
        ∷ first (goes_on b (n + 1) (Label n ∷ other (Label (n + 1) ∷ xs)))) guards
        (Some (framed ks (AnInt ∷ [])))
    unfolding accepts
    ways n b c first other xs one two nay end few h =
        branches exc act at many room guards ks i IFEQ n _ (AnInt ∷ []) (machine.Number ∷ [])
        (tells.ifeq n) few (refl, tt) (lies exc act at many room n (framed ks []) nay)
        (one _ (turns b (n + 1) _ guards ms more (λ t. lies_if (n + 1) b ms ks end t into_)
        (far_label exc act at many room n _ guards (framed ks []) nay
        (two _ (join (n + 1) xs guards b c ks end h)))))

    -- a loop behind its head, whose test is some code or none
    rounds : (n : ℕ) (b again out : Bool) (test body : List Item → List Item) (xs : List Item)
        → ((ys : List Item) → Walk ys guards (Some (framed ks []))
        → Walk (test ys) guards (Some (framed ks [])))
        → ((ys : List Item) → Walk ys guards (frame_if b ms)
        → Walk (body ys) guards (Some (framed ks [])))
        → at n ≡ record { frame = frame_if again ks; role = Plain }
        → at (n + 1) ≡ record { frame = frame_if out ks; role = Plain }
        → (b ≡ true → again ≡ true) → Walk xs guards (frame_if out ks)
        → Walk (Label n ∷ test (body (goes_on b n (Label (n + 1) ∷ xs)))) guards
        (Some (framed ks []))
    rounds n b again out test body xs one two head end goes h =
        join n _ guards again true ks head
        (subst (λ (z : Bool). Walks exc act at many room
        (test (body (goes_on b n (Label (n + 1) ∷ xs)))) guards (frame_if z ks))
        (sym (or_true again))
        (one _ (two _ (turns b n _ guards ms more
        (λ t. lies_if n again ms ks head (goes t) into_) (arrive (n + 1) xs guards out ks end h)))))

  -- the test of a loop
  loop_walks : (b : Bool) (e : TExp) (n out : ℕ) (guards : List Guard) (ks : List VKind)
      → Within exc act at many room ks guards
      → (b ≡ false → (ys : List Item) → Walk ys guards (Some (framed ks (AnInt ∷ [])))
      → Walk (expr_code w e n ys) guards (Some (framed ks [])))
      → (b ≡ false → 1 ≤ room) → (b ≡ false → Lies out ks) → (ys : List Item)
      → Walk ys guards (Some (framed ks []))
      → Walk (loop_test w b e n out ys) guards (Some (framed ks []))
  unfolding accepts
  loop_walks true e n out guards ks i test few lies ys h = h
  loop_walks false e n out guards ks i test few lies ys h =
      test refl _
      (branches exc act at many room guards ks i IFEQ out ys (AnInt ∷ []) (machine.Number ∷ [])
      (tells.ifeq out) (few refl) (refl, tt) (lies refl) h)

  loop_marks : (b : Bool) (e : TExp) (n : ℕ) (ks : List VKind) (k : List Marked) → b ≡ false
      → All (loop_signs w b e n ks k) → All (expr_signs w e n ks [] k)
  loop_marks true e n ks k is h = absurd (cc is)
  loop_marks false e n ks k is h = h

  -- a handler
  caught : (n : ℕ) (c : Name) (b : Bool) (end : ℕ) (guards : List Guard) (ks ms : List VKind)
      (body : List Item → List Item) (xs : List Item)
      → Within exc act at many room ks guards → Within exc act at many room ms guards
      → at n ≡ record { frame = Some (framed ks (AnObject c ∷ [])); role = Catches } → 1 ≤ room
      → (b ≡ true → Lies end ms)
      → ((ys : List Item) → Walk ys guards (frame_if b ms)
      → Walk (body ys) guards (Some (framed ks [])))
      → Walk xs guards None → Walk (Label n ∷ Op Pop ∷ body (goes_on b end xs)) guards None
  unfolding accepts
  caught n c b end guards ks ms body xs i more is few lies one h =
      label exc act at many room n _ guards None
      (record { frame = Some (framed ks (AnObject c ∷ [])); role = Catches }) is tt refl
      (gives exc act at many room guards ks i (Op Pop) _ (AnObject c ∷ [])
      (machine.Anything ∷ []) [] tells.pop refl few (refl, tt)
      (one _ (turns b end xs guards ms more lies h)))

  -- a range that handlers cover, and the handlers
  guarded : (n : ℕ) (b out : Bool) (guards : List Guard) (ks ms : List VKind)
      (body others : List Item → List Item) (xs : List Item)
      → Within exc act at many room ms (record { to = n + 1; locals = ks } ∷ guards)
      → at n ≡ record { frame = None; role = Opens (n + 1) ks }
      → at (n + 1) ≡ record { frame = None; role = Closes }
      → at (n + 2) ≡ record { frame = frame_if out ks; role = Plain }
      → (b ≡ true → out ≡ true) → Both (Into exc) ms ks
      → ((ys : List Item)
      → Walk ys (record { to = n + 1; locals = ks } ∷ guards) (frame_if b ms)
      → Walk (body ys) (record { to = n + 1; locals = ks } ∷ guards) (Some (framed ks [])))
      → ((ys : List Item) → Walk ys guards None → Walk (others ys) guards None)
      → Walk xs guards (frame_if out ks)
      → Walk (Label n ∷ body (goes_on b (n + 2) (Label (n + 1) ∷ others (Label (n + 2) ∷ xs))))
      guards (Some (framed ks []))
  guarded n b out guards ks ms body others xs more opens closes end goes into_ one two h =
      let g : Guard = record { to = n + 1; locals = ks } in
      label exc act at many room n _ guards (Some (framed ks []))
      (record { frame = None; role = Opens (n + 1) ks }) opens tt tt
      (one _ (turns b (n + 2) _ (g ∷ guards) ms more
      (λ t. lies_if (n + 2) out ms ks end (goes t) into_)
      (label exc act at many room (n + 1) _ (g ∷ guards) None
      (record { frame = None; role = Closes }) closes tt refl
      (two _ (arrive (n + 2) xs guards out ks end h)))))

  module _ (declared : Types)
      (are : (x : ℕ) → x < many → slice_get declared x ≡ Some (tys x)) where
    abbrev Scope : List ℕ → Types → Type 0
    Scope = InScope tys many

    abbrev Rest : Types → TSta → List VKind
    Rest scope s = kinds w (scope_behind declared s scope)

    -- where break and continue go
    pub record Exits (inside : Bool) (l : Loop) (b c : Bool) (scope : Types) : Type 0 where
      pub out : inside ≡ true → b ≡ true → Lies l.out (kinds w scope)
      pub again : inside ≡ true → c ≡ true → Lies l.again (kinds w scope)

    onto_less : (f : Option KFrame) (ks ls : List VKind) → Both (Into exc) ks ls
        → Onto exc act at many room (framed ls []) f → Onto exc act at many room (framed ks []) f
    onto_less None ks ls h o = absurd o
    onto_less (Some f) ks ls h o =
        frame-then exc (framed ks []) (framed ls []) f (locals_into exc ks ls h) o

    exits : (inside : Bool) (l : Loop) (b c d e : Bool) (scope more : Types)
        → (d ≡ true → b ≡ true) → (e ≡ true → c ≡ true)
        → Both (Into exc) (kinds w more) (kinds w scope) → Exits inside l b c scope
        → Exits inside l d e more
    exits inside l b c d e scope more f g h x = record {
      out = λ i t. onto_less (at l.out).frame (kinds w more) (kinds w scope) h (x.out i (f t));
      again =
          λ i t. onto_less (at l.again).frame (kinds w more) (kinds w scope) h (x.again i (g t));
    }

    part : (inside : Bool) (l : Loop) (b c d e : Bool) (scope : Types)
        → (d ≡ true → b ≡ true) → (e ≡ true → c ≡ true) → Exits inside l b c scope
        → Exits inside l d e scope
    part inside l b c d e scope f g x =
        exits inside l b c d e scope scope f g (below-same exc (kinds w scope)) x

    behind_within : (s : TSta) (set : List ℕ) (scope : Types) (guards : List Guard)
        → Scope set scope → Within exc act at many room (kinds w scope) guards
        → Within exc act at many room (Rest scope s) guards
    behind_within s set scope guards i in_ =
        within_less exc act at many room (Rest scope s) (kinds w scope) guards
        (behind_into w tys many exc declared are s set scope i)
        (behind_size w tys many exc declared are s set scope i) in_

    -- a block behind its first statement
    continued : (b : Bool) (ss : TStas) (l : Loop) (n : ℕ) (xs : List Item)
        (guards : List Guard) (ks ls : List VKind) → AllReached b ss
        → (b ≡ true → Walk (all_code w ss l n xs) guards (Some (framed ks [])))
        → Walk xs guards (frame_if (last_completes b ss) ls)
        → Walk (all_code w ss l n xs) guards (frame_if b ks)
    unfolding AllReached code last_completes
    continued true ss l n xs guards ks ls r f h = f refl
    continued false End l n xs guards ks ls r f h = h
    continued false (Then s ss) l n xs guards ks ls r f h = absurd (cc r.0)

    -- an expression of a statement
    module _ (guards : List Guard) (set : List ℕ) (scope : Types) (i : Scope set scope)
        (in_ : Within exc act at many room (kinds w scope) guards) where
      value_of : (e : TExp) (n : ℕ) (xs : List Item) (stack : List VKind) (k : List Marked)
          → Typed lay tys many room set (length stack) e → ((mark e).ty ≡ ty.Void → ⊥)
          → All (expr_signs w e n (kinds w scope) stack k)
          → Walk xs guards (Some (framed (kinds w scope) (kind w (mark e).ty ∷ stack)))
          → Walk (expr_code w e n xs) guards (Some (framed (kinds w scope) stack))
      value_of e n xs stack k t value marks h =
          expr_walks exc act at many room w lay result tells tys guards (kinds w scope) in_ set
          (kinds_are w tys many set scope i) e n xs stack k t marks
          (of_value exc act at many room w lay result tells tys guards (kinds w scope) in_
          (mark e).ty value xs stack h)

      -- a boolean
      truth_of : (e : TExp) (n : ℕ) (xs : List Item) (k : List Marked)
          → (mark e).ty ≡ ty.Boolean → Typed lay tys many room set 0 e
          → All (expr_signs w e n (kinds w scope) [] k)
          → Walk xs guards (Some (framed (kinds w scope) (AnInt ∷ [])))
          → Walk (expr_code w e n xs) guards (Some (framed (kinds w scope) []))
      truth_of e n xs k is t marks h =
          value_of e n xs [] k t (value_by (mark e).ty ty.Boolean is (λ nay. cc nay)) marks
          (subst (λ (z : Ty). Walks exc act at many room xs guards
          (Some (framed (kinds w scope) (kind w z ∷ [])))) (sym is) h)

      truth_room : (e : TExp) → (mark e).ty ≡ ty.Boolean → Typed lay tys many room set 0 e
          → 1 ≤ room
      truth_room e is t =
          has_room exc act at many room w lay result tells tys set 0 e t
          (value_by (mark e).ty ty.Boolean is (λ nay. cc nay))

    object_given : (c : ℕ) (t : Ty) → t ≡ ty.Class c
        → accepts (machine.Object (w.class c)) (kind w t) ≡ true
    unfolding accepts
    object_given c t is =
        subst (λ (z : Ty). accepts (machine.Object (w.class c)) (kind w z) ≡ true) (sym is)
        (same_name (w.class c))

    mutual
      unfolding code signs expr_signs TypedS completes breaks continues Reached mark labels
          accepts throwable

      pub sta_walks : (s : TSta) (inside : Bool) (set : List ℕ) (scope : Types) (l : Loop)
          (n : ℕ) (xs : List Item) (k : List Marked) (guards : List Guard) → Scope set scope
          → Within exc act at many room (kinds w scope) guards
          → Exits inside l (breaks s) (continues s) scope
          → TypedS lay tys many room result inside set s → Reached s
          → All (signs w declared s n scope k)
          → Walk xs guards (frame_if (completes s) (Rest scope s))
          → Walk (code w s l n xs) guards (Some (framed (kinds w scope) []))
      sta_walks (Block ss at' p) inside set scope l n xs k guards i in_ x t r marks h =
          all_walks ss inside set scope (kinds w scope) l n xs k guards i in_ x
          (below-same exc (kinds w scope)) t r marks h
      sta_walks (If e s o at' p) inside set scope l n xs k guards i in_ x t r marks h =
          let ks = kinds w scope in
          let j = expr_labels e (n + 2) in
          let one = expr_rest w (λ m. at m.label ≡ m.sign) e (n + 2) ks [] _ marks in
          let two = sta_rest w declared (λ m. at m.label ≡ m.sign) s j scope _ one in
          let three =
          else_rest w declared (λ m. at m.label ≡ m.sign) o (labels s j) scope _ two.1 in
          truth_of guards set scope i in_ e (n + 2) _ _ t.0 t.1 marks
          (ways guards ks (Rest scope s) in_ (behind_within s set scope guards i in_)
          (behind_into w tys many exc declared are s set scope i) n (completes s)
          (else_completes o) (code w s l j) (else_code w o l (labels s j)) xs
          (λ ys f. sta_walks s inside set scope l j ys _ guards i in_
          (part inside l _ _ _ _ scope (or_left (breaks s) (else_breaks o))
          (or_left (continues s) (else_continues o)) x) t.2 r.0 one f)
          (λ ys f. else_walks o inside set scope l (labels s j) ys _ guards i in_
          (part inside l _ _ _ _ scope (or_right (breaks s) (else_breaks o))
          (or_right (continues s) (else_continues o)) x) t.3 r.1 two.1 f)
          two.0 three.0 (truth_room guards set scope i in_ e t.0 t.1) h)
      sta_walks (While e s at' p) inside set scope l n xs k guards i in_ x t r marks h =
          let ks = kinds w scope in
          let same = below-same exc ks in
          let z : Loop = record { out = n + 1; again = n } in
          let whole = not (is_true e) || breaks s in
          let j = expr_labels e (n + 2) in
          let one =
          loop_rest w declared (λ m. at m.label ≡ m.sign) (is_true e) e (n + 2) ks _ marks.1 in
          let two = sta_rest w declared (λ m. at m.label ≡ m.sign) s j scope _ one in
          rounds guards ks (Rest scope s) in_ (behind_within s set scope guards i in_)
          (behind_into w tys many exc declared are s set scope i) n (completes s)
          (goes_again s) whole (loop_test w (is_true e) e (n + 2) (n + 1)) (code w s z j) xs
          (loop_walks (is_true e) e (n + 2) (n + 1) guards ks in_
          (λ nay ys f. truth_of guards set scope i in_ e (n + 2) ys _ t.0 (t.1 nay)
          (loop_marks (is_true e) e (n + 2) ks _ nay marks.1) f)
          (λ nay. truth_room guards set scope i in_ e t.0 (t.1 nay))
          (λ nay. lies_if (n + 1) whole ks ks two.0 (not_false (is_true e) (breaks s) nay) same))
          (λ ys f. sta_walks s true set scope z j ys _ guards i in_
          (record {
            out =
                λ y b. lies_if (n + 1) whole ks ks two.0 (or_right (not (is_true e)) (breaks s) b)
                same;
            again =
                λ y c. lies_if n (goes_again s) ks ks marks.0
                (or_right (completes s) (continues s) c) same;
          })
          t.2 r one f)
          marks.0 two.0 (or_left (completes s) (continues s)) h
      sta_walks (Try s cs at' p) inside set scope l n xs k guards i in_ x t r marks h =
          let ks = kinds w scope in
          let g : Guard = record { to = n + 1; locals = ks } in
          let inner : Within exc act at many room ks (g ∷ guards) =
          record { size = in_.size; kept = (below-same exc ks, in_.kept) } in
          let whole = completes s || some_catch_completes cs in
          let one = sta_rest w declared (λ m. at m.label ≡ m.sign) s (n + 3) scope _ marks.1 in
          let two =
          catches_rest w declared (λ m. at m.label ≡ m.sign) cs (labels s (n + 3)) scope _ one.1 in
          guarded n (completes s) whole guards ks (Rest scope s) (code w s l (n + 3))
          (catch_code w cs l (n + 2) (labels s (n + 3))) xs
          (behind_within s set scope (g ∷ guards) i inner) marks.0 one.0 two.0
          (or_left (completes s) (some_catch_completes cs))
          (behind_into w tys many exc declared are s set scope i)
          (λ ys f. sta_walks s inside set scope l (n + 3) ys _ (g ∷ guards) i inner
          (part inside l _ _ _ _ scope (or_left (breaks s) (some_catch_breaks cs))
          (or_left (continues s) (some_catch_continues cs)) x) t.0 r.0 marks.1 f)
          (λ ys f. catches_walk cs inside set scope l (n + 2) (labels s (n + 3)) ys _ guards i in_
          (part inside l _ _ _ _ scope (or_right (breaks s) (some_catch_breaks cs))
          (or_right (continues s) (some_catch_continues cs)) x)
          (λ c. lies_if (n + 2) whole ks ks two.0
          (or_right (completes s) (some_catch_completes cs) c) (below-same exc ks)) t.1 r.1 one.1 f)
          h
      sta_walks (Return Absent at' p) inside set scope l n xs k guards i in_ x t r marks h =
          ends exc act at many room guards (kinds w scope) in_ (Op instr.Return) xs [] []
          also.Nothing (tells.leave t) refl (omega arith) tt tt h
      sta_walks (Return (Present e) at' p) inside set scope l n xs k guards i in_ x t r marks h =
          let u = (mark e).ty in
          value_of guards set scope i in_ e n _ [] _ t.1 t.3 marks
          (ends exc act at many room guards (kinds w scope) in_ (give_back u) xs (kind w u ∷ [])
          (asked u ∷ []) (Result (kind_of w result))
          (tells.leave_with u t.2 (number_given w result u t.0)) (give_begins u xs)
          (has_room exc act at many room w lay result tells tys set 0 e t.1 t.3)
          (asked_accepts w u t.3, tt) (given_accepts w result u t.0) h)
      sta_walks (Break at' p) inside set scope l n xs k guards i in_ x t r marks h =
          jumps exc act at many room guards (kinds w scope) in_ GOTO l.out xs []
          (tells.goes l.out) (omega arith) (x.out t refl) h
      sta_walks (Continue at' p) inside set scope l n xs k guards i in_ x t r marks h =
          jumps exc act at many room guards (kinds w scope) in_ GOTO l.again xs []
          (tells.goes l.again) (omega arith) (x.again t refl) h
      sta_walks (Throw c at' p) inside set scope l n xs k guards i in_ x t r marks h =
          object exc act at many room w lay result tells tys guards (kinds w scope) in_ c
          (inr t.0) _ [] t.1
          (ends exc act at many room guards (kinds w scope) in_ (Op Athrow) xs
          (AnObject (w.class c) ∷ []) (machine.AnyObject ∷ []) Throwable tells.throws refl
          (omega (arith, t.1)) (refl, tt) (tells.thrown c t.0) h)
      sta_walks (Open lock at' p) inside set scope l n xs k guards i in_ x t r marks h =
          gives exc act at many room guards (kinds w scope) in_ (Const (pos 1)) _ [] [] _
          (tells.const (pos 1)) refl (omega arith) tt
          (gives exc act at many room guards (kinds w scope) in_ (LockOp PUTSTATIC lock) xs
          (AnInt ∷ []) (machine.Number ∷ []) [] (tells.lock_written lock t.0) refl t.1 (refl, tt)
          h)
      sta_walks (Close lock at' p) inside set scope l n xs k guards i in_ x t r marks h =
          gives exc act at many room guards (kinds w scope) in_ (Const (pos 0)) _ [] [] _
          (tells.const (pos 0)) refl (omega arith) tt
          (gives exc act at many room guards (kinds w scope) in_ (LockOp PUTSTATIC lock) xs
          (AnInt ∷ []) (machine.Number ∷ []) [] (tells.lock_written lock t.0) refl t.1 (refl, tt)
          h)
      sta_walks (SetLocal y q e at' p) inside set scope l n xs k guards i in_ x t r marks h =
          let u = (mark e).ty in
          let ks = kinds w scope in
          value_of guards set scope i in_ e n _ [] k t.2 t.3 marks
          (stores exc act at many room guards ks in_ (store u y) xs (kind w u) y (asked u)
          (tells.store_ u y) (store_begins u y xs)
          (has_room exc act at many room w lay result tells tys set 0 e t.2 t.3)
          (asked_accepts w u t.3) (subst (λ (z : ℕ). y < z) (sym in_.size) t.0)
          (walks_less exc act at many room xs guards _ (framed (kinds w
          (with_local declared y scope)) [])
          (locals_into exc _ _ (store_into w tys many exc declared are scope y (kind w u) t.0
          (given_into w exc (into-same exc) (tys y) u t.1))) h))
      sta_walks (SetStatic c f e at' p) inside set scope l n xs k guards i in_ x t r marks h =
          let u = (mark e).ty in
          value_of guards set scope i in_ e n _ [] k t.3 t.4 marks
          (gives exc act at many room guards (kinds w scope) in_ _ xs (kind w u ∷ [])
          (kind_of w t.0 ∷ []) [] (tells.static_written c f t.0 t.1) refl
          (has_room exc act at many room w lay result tells tys set 0 e t.3 t.4)
          (given_accepts w t.0 u t.2, tt) h)
      sta_walks (SetField o c f e at' p) inside set scope l n xs k guards i in_ x t r marks h =
          let ks = kinds w scope in
          let u = (mark e).ty in
          let v = (mark o).ty in
          value_of guards set scope i in_ o n _ [] _ t.4
          (value_by v (ty.Class c) t.2 (λ nay. cc nay)) marks
          (value_of guards set scope i in_ e (expr_labels o n) _ (kind w v ∷ []) k t.6 t.7
          (expr_rest w (λ m. at m.label ≡ m.sign) o n ks [] _ marks)
          (gives exc act at many room guards ks in_ _ xs (kind w u ∷ kind w v ∷ [])
          (kind_of w t.0 ∷ machine.Object (w.class c) ∷ []) [] (tells.own_written c f t.0 t.1)
          refl t.8 (given_accepts w t.0 u t.5, (object_given c v t.2, tt)) h))
      sta_walks (Eval e at' p) inside set scope l n xs k guards i in_ x t r marks h =
          let u = (mark e).ty in
          expr_walks exc act at many room w lay result tells tys guards (kinds w scope) in_ set
          (kinds_are w tys many set scope i) e n _ [] k t marks
          (dropped_walks (is_void u) (kind w u) xs guards (kinds w scope) in_
          (λ nay. has_room exc act at many room w lay result tells tys set 0 e t (void_value u nay))
          h)
      sta_walks (When lock s o at' p) inside set scope l n xs k guards i in_ x t r marks h =
          let ks = kinds w scope in
          let two = sta_rest w declared (λ m. at m.label ≡ m.sign) s (n + 2) scope _ marks in
          let three =
          else_rest w declared (λ m. at m.label ≡ m.sign) o (labels s (n + 2)) scope _ two.1 in
          gives exc act at many room guards ks in_ (LockOp GETSTATIC lock) _ [] [] _
          (tells.lock_read lock t.0) refl (omega arith) tt
          (ways guards ks (Rest scope s) in_ (behind_within s set scope guards i in_)
          (behind_into w tys many exc declared are s set scope i) n (completes s)
          (else_completes o) (code w s l (n + 2)) (else_code w o l (labels s (n + 2))) xs
          (λ ys f. sta_walks s inside set scope l (n + 2) ys _ guards i in_
          (part inside l _ _ _ _ scope (or_left (breaks s) (else_breaks o))
          (or_left (continues s) (else_continues o)) x) t.2 r.0 marks f)
          (λ ys f. else_walks o inside set scope l (labels s (n + 2)) ys _ guards i in_
          (part inside l _ _ _ _ scope (or_right (breaks s) (else_breaks o))
          (or_right (continues s) (else_continues o)) x) t.3 r.1 two.1 f)
          two.0 three.0 t.1 h)

      else_walks : (o : MayTSta) (inside : Bool) (set : List ℕ) (scope : Types) (l : Loop)
          (n : ℕ) (xs : List Item) (k : List Marked) (guards : List Guard) → Scope set scope
          → Within exc act at many room (kinds w scope) guards
          → Exits inside l (else_breaks o) (else_continues o) scope
          → TypedElse lay tys many room result inside set o → ElseReached o
          → All (else_signs w declared o n scope k)
          → Walk xs guards (frame_if (else_completes o) (kinds w scope))
          → Walk (else_code w o l n xs) guards (Some (framed (kinds w scope) []))
      else_walks NoElse inside set scope l n xs k guards i in_ x t r marks h = h
      else_walks (Otherwise s) inside set scope l n xs k guards i in_ x t r marks h =
          sta_walks s inside set scope l n xs k guards i in_ x t r marks
          (walks_less_if exc act at many room (completes s) xs guards (Rest scope s)
          (kinds w scope) (behind_into w tys many exc declared are s set scope i) h)

      all_walks : (ss : TStas) (inside : Bool) (set : List ℕ) (scope : Types)
          (ls : List VKind) (l : Loop) (n : ℕ) (xs : List Item) (k : List Marked)
          (guards : List Guard) → Scope set scope
          → Within exc act at many room (kinds w scope) guards
          → Exits inside l (some_break ss) (some_continue ss) scope
          → Both (Into exc) (kinds w scope) ls
          → TypedAll lay tys many room result inside set ss → AllReached true ss
          → All (all_signs w declared ss n scope k)
          → Walk xs guards (frame_if (last_completes true ss) ls)
          → Walk (all_code w ss l n xs) guards (Some (framed (kinds w scope) []))
      all_walks End inside set scope ls l n xs k guards i in_ x into_ t r marks h =
          walks_less exc act at many room xs guards (framed (kinds w scope) []) (framed ls [])
          (locals_into exc (kinds w scope) ls into_) h
      all_walks (Then s ss) inside set scope ls l n xs k guards i in_ x into_ t r marks h =
          let within_ = behind_into w tys many exc declared are s set scope i in
          sta_walks s inside set scope l n _ _ guards i in_
          (part inside l _ _ _ _ scope (or_left (breaks s) (some_break ss))
          (or_left (continues s) (some_continue ss)) x) t.0 r.1 marks
          (continued (completes s) ss l (labels s n) xs guards (Rest scope s) ls r.2
          (λ c. all_walks ss inside (behind set s) (scope_behind declared s scope) ls l
          (labels s n) xs k guards
          (behind_scope w tys many exc declared are lay room result inside s set scope t.0 i)
          (behind_within s set scope guards i in_)
          (exits inside l _ _ _ _ scope (scope_behind declared s scope)
          (or_right (breaks s) (some_break ss)) (or_right (continues s) (some_continue ss))
          within_ x)
          (below-then exc (Rest scope s) (kinds w scope) ls within_ into_) t.1
          (subst (λ (z : Bool). AllReached z ss) c r.2)
          (sta_rest w declared (λ m. at m.label ≡ m.sign) s n scope _ marks)
          (subst (λ (z : Bool). Walks exc act at many room xs guards
          (frame_if (last_completes z ss) ls)) c h))
          h)

      catches_walk : (cs : TCatches) (inside : Bool) (set : List ℕ) (scope : Types) (l : Loop)
          (end n : ℕ) (xs : List Item) (k : List Marked) (guards : List Guard)
          → Scope set scope → Within exc act at many room (kinds w scope) guards
          → Exits inside l (some_catch_breaks cs) (some_catch_continues cs) scope
          → (some_catch_completes cs ≡ true → Lies end (kinds w scope))
          → TypedCatches lay tys many room result inside set cs → CatchesReached cs
          → All (catch_signs w declared cs n scope k) → Walk xs guards None
          → Walk (catch_code w cs l end n xs) guards None
      catches_walk NoCatch inside set scope l end n xs k guards i in_ x lies_ t r marks h = h
      catches_walk (Catch c s cs) inside set scope l end n xs k guards i in_ x lies_ t r marks h =
          let ks = kinds w scope in
          caught n (w.class c) (completes s) end guards ks (Rest scope s) (code w s l (n + 1))
          (catch_code w cs l end (labels s (n + 1)) xs) in_
          (behind_within s set scope guards i in_) marks.0 t.1
          (λ b. onto_less (at end).frame (Rest scope s) ks
          (behind_into w tys many exc declared are s set scope i)
          (lies_ (or_left (completes s) (some_catch_completes cs) b)))
          (λ ys f. sta_walks s inside set scope l (n + 1) ys _ guards i in_
          (part inside l _ _ _ _ scope (or_left (breaks s) (some_catch_breaks cs))
          (or_left (continues s) (some_catch_continues cs)) x) t.2 r.0 marks.1 f)
          (catches_walk cs inside set scope l end (labels s (n + 1)) xs k guards i in_
          (part inside l _ _ _ _ scope (or_right (breaks s) (some_catch_breaks cs))
          (or_right (continues s) (some_catch_continues cs)) x)
          (λ c'. lies_ (or_right (completes s) (some_catch_completes cs) c')) t.3 r.1
          (sta_rest w declared (λ m. at m.label ≡ m.sign) s (n + 1) scope _ marks.1) h)
