-- The frames that a body is said to have are those at their labels.
use Rattle.std.proofs.Common.{◌≡◌, ℕ, ◌+◌, Bool, true, false, List, [], ◌∷◌, ◌++◌, Some, map}
use Rattle.std.proofs.Common.{reverse, refl, sym, ap, ◌∙◌}
use Rattle.std.specs.List.{AllByRecursion}
use mathlib.Core.List.{reverse-cons}
use Rattle.std.proofs.lemmas.List.{map-append}
use Rattle.par_typed.specs.declared.ty.Ty.{Ty}
use Rattle.par_typed.specs.declared.ty.Ty.TheVariants as ty
use Rattle.par_typed.specs.Plain.{mark, TExp, Int, Boolean, Null, This, New, Local, Static}
use Rattle.par_typed.specs.Plain.{Field, Input, Output, Call, Neg, Not, Binary}
use Rattle.par_typed.specs.Plain.{MayTExp, Absent, Present, TExps, NoExps, More}
use Rattle.par_typed.specs.Plain.{TSta, Block, If, While, Try, Return, Break, Continue, Throw, Open}
use Rattle.par_typed.specs.Plain.{Close, SetLocal, SetStatic, SetField, Eval, When}
use Rattle.par_typed.specs.Plain.{MayTSta, NoElse, Otherwise, TStas, End, Then, TCatches, NoCatch}
use Rattle.par_typed.specs.Plain.{Catch}
use Rattle.par_completes.specs.Typed.{completes, is_true}
use Rattle.par_code_form.specs.declared.labelled.LabelFrame.{LabelFrame}
use Rattle.par_code_form.specs.Again.{goes_again}
use Rattle.par_code_form.specs.Code.{Words, Shape, Calculates, Compares, Sames, Decides, shape_of}
use Rattle.par_code_form.specs.Code.{shape_labels, expr_labels, may_labels, labels}
use Rattle.par_code_form.specs.Frames.{Types, slot, frame, scope_behind, with_operand}
use Rattle.par_code_form.specs.Frames.{with_receiver, below, test_frames, shape_frames, expr_frames}
use Rattle.par_code_form.specs.Frames.{may_frames, args_frames, loop_frames, frames, else_frames}
use Rattle.par_code_form.specs.Frames.{all_frames, catch_frames}
use Rattle.par_code_form.specs.Frames as form
use Rattle.par_kinds.specs.declared.frame.VKind.{VKind}
use Rattle.par_kinds.specs.declared.frame.VKind.TheVariants.{Int as AnInt}
use Rattle.par_kinds.specs.declared.frame.VKind.TheVariants.{Object as AnObject}
use Rattle.par_placed_fit_laws.specs.Walks.{Sign, Role, Plain}
use Rattle.par_placed_fit_laws.specs.Signs.{Marked, framed, frame_if, kind, kinds, test_signs}
use Rattle.par_placed_fit_laws.specs.Signs.{shape_signs, pushed, pushed_receiver, pushed_first}
use Rattle.par_placed_fit_laws.specs.Signs.{expr_signs, may_signs, args_signs, loop_signs, signs}
use Rattle.par_placed_fit_laws.specs.Signs.{else_signs, all_signs, catch_signs}
use Rattle.par_placed_fit_laws.specs.par_compile_laws.Framed.{kind_of, kinds_of}
use Rattle.par_placed_fit_laws.specs.Fits.{kinds_at}
use Rattle.par_verified_file_laws.proofs.Exprs.{expr_rest, may_rest}
use Rattle.par_verified_file_laws.proofs.Rest.{loop_rest, sta_rest, else_rest, catches_rest}

-- the last of a list comes first
reverse_last : {A : Type 0} (xs : List A) (y : A) → reverse (xs ++ y ∷ []) ≡ y ∷ reverse xs
reverse_last [] y = refl
reverse_last (x ∷ xs) y =
    reverse-cons x (xs ++ y ∷ []) ∙ ap (λ zs. zs ++ x ∷ []) (reverse_last xs y)
    ∙ ap (λ zs. y ∷ zs) (sym (reverse-cons x xs))

module _ (w : Words) where
  kind_is : (t : Ty) → kind_of (slot w t) ≡ kind w t
  kind_is ty.Int = refl
  kind_is ty.Boolean = refl
  kind_is (ty.Class c) = refl
  kind_is ty.Null = refl
  kind_is ty.Void = refl

  kinds_is : (ts : Types) → kinds_of (map (slot w) ts) ≡ kinds w ts
  kinds_is [] = refl
  kinds_is (t ∷ ts) =
      ap (λ k. k ∷ kinds_of (map (slot w) ts)) (kind_is t)
      ∙ ap (λ ks. kind w t ∷ ks) (kinds_is ts)

  -- one operand more
  more_operands : (os : Types) (t : Ty) (stack : List VKind) → reverse (kinds w os) ≡ stack
      → reverse (kinds w (os ++ t ∷ [])) ≡ kind w t ∷ stack
  more_operands os t stack is =
      ap reverse (map-append (kind w) os (t ∷ [])) ∙ reverse_last (kinds w os) (kind w t)
      ∙ ap (λ ks. kind w t ∷ ks) is

  receivers : (o : MayTExp) (os : Types) (stack : List VKind) → reverse (kinds w os) ≡ stack
      → reverse (kinds w (with_receiver os o)) ≡ pushed_receiver w o stack
  receivers Absent os stack is = is
  receivers (Present e) os stack is = more_operands os (mark e).ty stack is

  firsts : (s : Shape) (a : TExp) (os : Types) (stack : List VKind)
      → reverse (kinds w os) ≡ stack → reverse (kinds w (below s os a)) ≡ pushed_first w s a stack
  firsts (Calculates o i) a os stack is = more_operands os (mark a).ty stack is
  firsts (Compares t) a os stack is = more_operands os (mark a).ty stack is
  firsts (Sames b) a os stack is = more_operands os (mark a).ty stack is
  firsts (Decides o) a os stack is = is

  module _ (at : ℕ → Sign) where
    abbrev Marks : List Marked → Type 0
    Marks k = AllByRecursion (λ m. at m.label ≡ m.sign) k

    abbrev IsThere : LabelFrame → Type 0
    IsThere f = (at f.label).frame ≡ Some (kinds_at f)

    abbrev AreThere : List LabelFrame → Type 0
    AreThere fs = AllByRecursion IsThere fs

    one : (n : ℕ) (role : Role) (scope os : Types) (stack : List VKind)
        → at n ≡ record { frame = Some (framed (kinds w scope) stack); role = role }
        → reverse (kinds w os) ≡ stack → IsThere (frame w n scope os)
    one n role scope os stack is same =
        ap (λ (s : Sign). s.frame) is
        ∙ ap (λ (ks : List VKind). Some (framed (kinds w scope) ks)) (sym same)
        ∙ ap (λ (ks : List VKind). Some (framed ks (reverse (kinds w os)))) (sym (kinds_is scope))
        ∙ ap (λ (ks : List VKind). Some (framed (kinds_of (map (slot w) scope)) (reverse ks)))
        (sym (kinds_is os))

    one_if : (b : Bool) (n : ℕ) (scope : Types) (fs : List LabelFrame)
        → at n ≡ record { frame = frame_if b (kinds w scope); role = Plain } → AreThere fs
        → AreThere (form.frame_if w b n scope fs)
    one_if true n scope fs is h = (one n Plain scope [] [] is refl, h)
    one_if false n scope fs is h = h

    tests : (n : ℕ) (scope os : Types) (stack : List VKind) (k : List Marked)
        (fs : List LabelFrame) → reverse (kinds w os) ≡ stack
        → Marks (test_signs w n (kinds w scope) stack k) → AreThere fs
        → AreThere (test_frames w n scope os fs)
    tests n scope os stack k fs is marks h = (
      one n Plain scope os stack marks.0 is,
      (
        one (n + 1) Plain scope (os ++ ty.Boolean ∷ []) (AnInt ∷ stack) marks.1.0
            (more_operands os ty.Boolean stack is),
        h,
      ),
    )

    shapes : (s : Shape) (n : ℕ) (scope os : Types) (stack : List VKind) (k : List Marked)
        (fs : List LabelFrame) → reverse (kinds w os) ≡ stack
        → Marks (shape_signs w s n (kinds w scope) stack k) → AreThere fs
        → AreThere (shape_frames w s n scope os fs)
    shapes (Calculates o i) n scope os stack k fs is marks h = h
    shapes (Compares t) n scope os stack k fs is marks h = tests n scope os stack k fs is marks h
    shapes (Sames b) n scope os stack k fs is marks h = tests n scope os stack k fs is marks h
    shapes (Decides o) n scope os stack k fs is marks h = (
      one n Plain scope (os ++ ty.Boolean ∷ []) (AnInt ∷ stack) marks.0
          (more_operands os ty.Boolean stack is),
      h,
    )

    mutual
      unfolding expr_signs expr_frames

      exprs : (e : TExp) (n : ℕ) (scope os : Types) (stack : List VKind) (k : List Marked)
          (fs : List LabelFrame) → reverse (kinds w os) ≡ stack
          → Marks (expr_signs w e n (kinds w scope) stack k) → AreThere fs
          → AreThere (expr_frames w e n scope os fs)
      exprs (Int v m) n scope os stack k fs is marks h = h
      exprs (Boolean b m) n scope os stack k fs is marks h = h
      exprs (Null m) n scope os stack k fs is marks h = h
      exprs (This m) n scope os stack k fs is marks h = h
      exprs (New c m) n scope os stack k fs is marks h = h
      exprs (Local x m) n scope os stack k fs is marks h = h
      exprs (Static c f m) n scope os stack k fs is marks h = h
      exprs (Field e c f m) n scope os stack k fs is marks h =
          exprs e n scope os stack k fs is marks h
      exprs (Input c i m) n scope os stack k fs is marks h = h
      exprs (Output c i e m) n scope os stack k fs is marks h =
          exprs e n scope os stack k fs is marks h
      exprs (Call c i o es m) n scope os stack k fs is marks h =
          mays o n scope os stack _ _ is marks
          (args es (may_labels o n) scope (with_receiver os o) (pushed_receiver w o stack) k fs
          (receivers o os stack is)
          (may_rest w (λ m. at m.label ≡ m.sign) o n (kinds w scope) stack _ marks) h)
      exprs (Neg e m) n scope os stack k fs is marks h = exprs e n scope os stack k fs is marks h
      exprs (Not e m) n scope os stack k fs is marks h =
          exprs e (n + 2) scope os stack _ _ is marks
          (tests n scope os stack k fs is
          (expr_rest w (λ m. at m.label ≡ m.sign) e (n + 2) (kinds w scope) stack _ marks) h)
      exprs (Binary op a b m) n scope os stack k fs is marks h =
          let s = shape_of op a in
          let l = n + shape_labels s in
          let first = firsts s a os stack is in
          let later =
          expr_rest w (λ m. at m.label ≡ m.sign) a l (kinds w scope) stack _ marks in
          exprs a l scope os stack _ _ is marks
          (exprs b (expr_labels a l) scope (below s os a) (pushed_first w s a stack) _ _ first later
          (shapes s n scope os stack k fs is
          (expr_rest w (λ m. at m.label ≡ m.sign) b (expr_labels a l) (kinds w scope)
          (pushed_first w s a stack) _ later) h))

      mays : (o : MayTExp) (n : ℕ) (scope os : Types) (stack : List VKind) (k : List Marked)
          (fs : List LabelFrame) → reverse (kinds w os) ≡ stack
          → Marks (may_signs w o n (kinds w scope) stack k) → AreThere fs
          → AreThere (may_frames w o n scope os fs)
      mays Absent n scope os stack k fs is marks h = h
      mays (Present e) n scope os stack k fs is marks h = exprs e n scope os stack k fs is marks h

      args : (es : TExps) (n : ℕ) (scope os : Types) (stack : List VKind) (k : List Marked)
          (fs : List LabelFrame) → reverse (kinds w os) ≡ stack
          → Marks (args_signs w es n (kinds w scope) stack k) → AreThere fs
          → AreThere (args_frames w es n scope os fs)
      args NoExps n scope os stack k fs is marks h = h
      args (More e es) n scope os stack k fs is marks h =
          exprs e n scope os stack _ _ is marks
          (args es (expr_labels e n) scope (with_operand os e) (pushed w e stack) k fs
          (more_operands os (mark e).ty stack is)
          (expr_rest w (λ m. at m.label ≡ m.sign) e n (kinds w scope) stack _ marks) h)

    loops : (b : Bool) (e : TExp) (n : ℕ) (scope : Types) (k : List Marked)
        (fs : List LabelFrame) → Marks (loop_signs w b e n (kinds w scope) k) → AreThere fs
        → AreThere (loop_frames w b e n scope fs)
    loops true e n scope k fs marks h = h
    loops false e n scope k fs marks h = exprs e n scope [] [] k fs refl marks h

    module _ (declared : Types) where
      mutual
        unfolding signs frames

        pub stas : (s : TSta) (n : ℕ) (scope : Types) (k : List Marked) (fs : List LabelFrame)
            → Marks (signs w declared s n scope k) → AreThere fs
            → AreThere (frames w declared s n scope fs)
        stas (Block ss at' p) n scope k fs marks h = blocks ss n scope k fs marks h
        stas (If e s o at' p) n scope k fs marks h =
            let j = expr_labels e (n + 2) in
            let x =
            expr_rest w (λ m. at m.label ≡ m.sign) e (n + 2) (kinds w scope) [] _ marks in
            let y = sta_rest w declared (λ m. at m.label ≡ m.sign) s j scope _ x in
            let z = else_rest w declared (λ m. at m.label ≡ m.sign) o (labels s j) scope _ y.1 in
            exprs e (n + 2) scope [] [] _ _ refl marks
            (stas s j scope _ _ x (
              one n Plain scope [] [] y.0 refl,
              elses o (labels s j) scope _ _ y.1 (one_if (completes s) (n + 1) scope fs z.0 h),
            ))
        stas (While e s at' p) n scope k fs marks h =
            let j = expr_labels e (n + 2) in
            let x =
            loop_rest w declared (λ m. at m.label ≡ m.sign) (is_true e) e (n + 2) (kinds w scope) _
            marks.1 in
            let y = sta_rest w declared (λ m. at m.label ≡ m.sign) s j scope _ x in
            one_if (goes_again s) n scope _ marks.0
            (loops (is_true e) e (n + 2) scope _ _ marks.1
            (stas s j scope _ _ x
            (one_if (completes (While e s at' p)) (n + 1) scope fs y.0 h)))
        stas (Try s cs at' p) n scope k fs marks h =
            let x = sta_rest w declared (λ m. at m.label ≡ m.sign) s (n + 3) scope _ marks.1 in
            let y =
            catches_rest w declared (λ m. at m.label ≡ m.sign) cs (labels s (n + 3)) scope _ x.1 in
            stas s (n + 3) scope _ _ marks.1
            (catches cs (labels s (n + 3)) scope _ _ x.1
            (one_if (completes (Try s cs at' p)) (n + 2) scope fs y.0 h))
        stas (Return o at' p) n scope k fs marks h = mays o n scope [] [] k fs refl marks h
        stas (Break at' p) n scope k fs marks h = h
        stas (Continue at' p) n scope k fs marks h = h
        stas (Throw c at' p) n scope k fs marks h = h
        stas (Open l at' p) n scope k fs marks h = h
        stas (Close l at' p) n scope k fs marks h = h
        stas (SetLocal x q e at' p) n scope k fs marks h =
            exprs e n scope [] [] k fs refl marks h
        stas (SetStatic c f e at' p) n scope k fs marks h =
            exprs e n scope [] [] k fs refl marks h
        stas (SetField o c f e at' p) n scope k fs marks h =
            exprs o n scope [] [] _ _ refl marks
            (exprs e (expr_labels o n) scope (with_operand [] o) (pushed w o []) k fs
            (more_operands [] (mark o).ty [] refl)
            (expr_rest w (λ m. at m.label ≡ m.sign) o n (kinds w scope) [] _ marks) h)
        stas (Eval e at' p) n scope k fs marks h = exprs e n scope [] [] k fs refl marks h
        stas (When l s o at' p) n scope k fs marks h =
            let y = sta_rest w declared (λ m. at m.label ≡ m.sign) s (n + 2) scope _ marks in
            let z =
            else_rest w declared (λ m. at m.label ≡ m.sign) o (labels s (n + 2)) scope _ y.1 in
            stas s (n + 2) scope _ _ marks (
              one n Plain scope [] [] y.0 refl,
              elses o (labels s (n + 2)) scope _ _ y.1
                  (one_if (completes s) (n + 1) scope fs z.0 h),
            )

        elses : (o : MayTSta) (n : ℕ) (scope : Types) (k : List Marked) (fs : List LabelFrame)
            → Marks (else_signs w declared o n scope k) → AreThere fs
            → AreThere (else_frames w declared o n scope fs)
        elses NoElse n scope k fs marks h = h
        elses (Otherwise s) n scope k fs marks h = stas s n scope k fs marks h

        blocks : (ss : TStas) (n : ℕ) (scope : Types) (k : List Marked) (fs : List LabelFrame)
            → Marks (all_signs w declared ss n scope k) → AreThere fs
            → AreThere (all_frames w declared ss n scope fs)
        blocks End n scope k fs marks h = h
        blocks (Then s ss) n scope k fs marks h =
            stas s n scope _ _ marks
            (blocks ss (labels s n) (scope_behind declared s scope) k fs
            (sta_rest w declared (λ m. at m.label ≡ m.sign) s n scope _ marks) h)

        catches : (cs : TCatches) (n : ℕ) (scope : Types) (k : List Marked)
            (fs : List LabelFrame) → Marks (catch_signs w declared cs n scope k) → AreThere fs
            → AreThere (catch_frames w declared cs n scope fs)
        catches NoCatch n scope k fs marks h = h
        catches (Catch c s cs) n scope k fs marks h = (
          one n _ scope (ty.Class c ∷ []) (AnObject (w.class c) ∷ []) marks.0 refl,
          stas s (n + 1) scope _ _ marks.1
              (catches cs (labels s (n + 1)) scope k fs
              (sta_rest w declared (λ m. at m.label ≡ m.sign) s (n + 1) scope _ marks.1) h),
        )
