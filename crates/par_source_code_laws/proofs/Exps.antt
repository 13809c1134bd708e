-- Proper expressions are typed as code asks for it.
use Rattle.std.proofs.Common.{◌≡◌, ℕ, suc, ◌≤◌, ◌<◌, Bool, true, false, List, [], ◌∷◌, map}
use Rattle.std.proofs.Common.{Some, length, refl, sym, ap, ◌∙◌, subst, arith, add-one}
use Rattle.std.specs.Prelude.{slice_get}
use Rattle.par_typed.specs.declared.ty.Ty.{Ty}
use Rattle.par_typed.specs.declared.ty.Ty.TheVariants as ty
use Rattle.par_typed.specs.declared.table.ParamInfo.{ParamInfo}
use Rattle.par_typed.specs.declared.table.Table.{Table}
use Rattle.par_typed.specs.Plain.{mark, TExp, Int, Boolean, Null, This, New, Local, Static}
use Rattle.par_typed.specs.Plain.{Field, Input, Output, Call, Neg, Not, Binary}
use Rattle.par_typed.specs.Plain.{Absent, Present, TExps, NoExps, More}
use Rattle.par_typed.specs.par_lexer.declared.operator.BinOp.{BinOp}
use Rattle.par_typed_laws.specs.par_program_laws.Types.{Is, Accepts, Operates}
use Rattle.par_typed_laws.specs.par_program_laws.Forms.{Setting, IsReceiver, AreArguments}
use Rattle.par_typed_laws.specs.par_program_laws.Proper.{ExpIsProper, ExpsAreProper}
use Rattle.par_erase.specs.Erased.{erased_exp, erased_args}
use Rattle.par_evaluation_laws.specs.par_code_form.Code.{is_number, shape_of}
use Rattle.par_evaluation_laws.specs.par_code_form.Operands.{expr_top, args_top, with_result}
use Rattle.par_evaluation_laws.specs.par_code_form.Operands.{below_second}
use Rattle.par_evaluation_laws.specs.Laid.{Layout, Meth, HasMethod, Typed}
use Rattle.par_evaluation_laws.specs.Laid.{TypedArgs}
use Rattle.par_evaluation_laws.specs.Laid as laid
use Rattle.par_source_code_laws.specs.Named.{Named, EachInExp, EachInExps}
use Rattle.par_source_code_laws.proofs.Laying.{Lays, IsMethod}
use Rattle.par_source_code_laws.proofs.Marks.{type_of, none_sure}
use Rattle.par_source_code_laws.proofs.Operators.{accepts, given_value, local_value, second_value}
use Rattle.par_source_code_laws.proofs.Operators.{of_shape}
use Rattle.par_source_code_laws.proofs.Tops.{left_le, right_le, between_rises, two_fit, same_below}
use Rattle.par_source_code_laws.proofs.Tops.{result_rises}
use Rattle.par_source_code_laws.proofs.Sets.{Within}

-- ---- calls

absent_static : (c : ℕ) (is_static : Bool) → IsReceiver c is_static Absent → is_static ≡ true
absent_static c true h = refl
absent_static c false h = absurd h

present_own : (c : ℕ) (is_static : Bool) (e : TExp) → IsReceiver c is_static (Present e)
    → is_static ≡ false
present_own c true e h = absurd h
present_own c false e h = refl

present_is : (c : ℕ) (is_static : Bool) (e : TExp) → IsReceiver c is_static (Present e)
    → Is (ty.Class c) e
present_is c true e h = absurd h
present_is c false e h = h

-- what has the type of a value is not nothing
other : (u v : Ty) → (u ≡ ty.Void → ⊥) → v ≡ u → v ≡ ty.Void → ⊥
other u v value is nothing = value (sym is ∙ nothing)

module _ (t : Table) where
  -- an erased expression has the type of its source
  pub erased_is : (u : Ty) (e : TExp) → Is u e → (mark (erased_exp t e)).ty ≡ u
  erased_is u e is = type_of t e ∙ is

  pub erased_accepts : (u : Ty) (e : TExp) → Accepts u (mark e).ty
      → laid.Accepts u (mark (erased_exp t e)).ty
  erased_accepts u e h = subst (laid.Accepts u) (sym (type_of t e)) (accepts u (mark e).ty h)

  pub erased_operates : (o : BinOp) (a b : TExp) (r : Ty) → Operates o (mark a).ty (mark b).ty r
      → Operates o (mark (erased_exp t a)).ty (mark (erased_exp t b)).ty r
  erased_operates o a b r h =
      subst (λ u. Operates o u (mark (erased_exp t b)).ty r) (sym (type_of t a))
      (subst (λ u. Operates o (mark a).ty u r) (sym (type_of t b)) h)

  pub erased_value : (e : TExp) → ((mark e).ty ≡ ty.Void → ⊥)
      → (mark (erased_exp t e)).ty ≡ ty.Void → ⊥
  erased_value e value is = value (sym (type_of t e) ∙ is)

module _ (s : Setting) where
  -- an expression with a value leaves one operand more
  pub rises : (set : List ℕ) (e : TExp) (h : ℕ) → ExpIsProper s set e
      → ((mark e).ty ≡ ty.Void → ⊥) → h < expr_top (erased_exp s.table e) h
  unfolding ExpIsProper erased_exp expr_top mark
  rises set (Int n m) h p value = omega arith
  rises set (Boolean b m) h p value = omega arith
  rises set (Null m) h p value = omega arith
  rises set (This m) h p value = omega arith
  rises set (New c m) h p value = omega arith
  rises set (Local x m) h p value = omega arith
  rises set (Static c f m) h p value = omega arith
  rises set (Field e c f m) h p value =
      rises set e h p.2 (other (ty.Class c) (mark e).ty (λ is. cc) p.0)
  rises set (Input c k m) h p value = omega arith
  rises set (Output c k e m) h p value =
      rises set e h p.3 (other ty.Int (mark e).ty (λ is. cc) p.2)
  rises set (Call c i o es m) h p value = omega (arith, result_rises m.ty h value)
  rises set (Neg e m) h p value = rises set e h p.2 (other ty.Int (mark e).ty (λ is. cc) p.1)
  rises set (Not e m) h p value = rises set e h p.2 (other ty.Boolean (mark e).ty (λ is. cc) p.1)
  rises set (Binary op a b m) h p value =
      omega (arith, between_rises (shape_of op (erased_exp s.table a)) h)

  module _ (lay : Layout) (P : Named → Type 0) (lays : Lays s.table lay P) (tys : ℕ → Ty)
      (locals : (x : ℕ) (u : Ty) → slice_get s.method.locals x ≡ Some u → tys x ≡ u)
      (room : ℕ) where
    abbrev many : ℕ
    many = length s.method.locals

    mutual
      unfolding ExpIsProper EachInExp erased_exp expr_top Typed

      pub typed_exp : (set more : List ℕ) (within : Within set more) (e : TExp) (h : ℕ)
          → ExpIsProper s set e → EachInExp P (erased_exp s.table e)
          → expr_top (erased_exp s.table e) h ≤ room
          → Typed lay tys many room more h (erased_exp s.table e)
      typed_exp set more within (Int n m) h p each le = (p.0, omega arith)
      typed_exp set more within (Boolean b m) h p each le = (p.0, omega arith)
      typed_exp set more within (Null m) h p each le = (p.0, omega arith)
      typed_exp set more within (This m) h p each le =
          let is : tys 0 ≡ ty.Class s.class = locals 0 (ty.Class s.class) p.local in (
            p.marked.0 ∙ sym is,
            omega arith,
            within 0 p.is_set,
            ap is_number is,
            other (ty.Class s.class) (tys 0) (λ is. cc) is,
          )
      typed_exp set more within (New c m) h p each le =
          (p.marked.0, omega arith, lays.made c p.info p.there p.ordinary each)
      typed_exp set more within (Local x m) h p each le =
          let is : tys x ≡ m.ty = locals x m.ty p.local in (
            sym is,
            omega arith,
            within x p.is_set,
            other m.ty (tys x) (local_value m.ty p.value) is,
          )
      typed_exp set more within (Static c f m) h p each le =
          (lays.static c f p.info p.there p.kind each ∙ ap Some (sym p.marked.0), omega arith)
      typed_exp set more within (Field e c f m) h p each le =
          let up : h < expr_top (erased_exp s.table e) h =
          rises set e h p.2 (other (ty.Class c) (mark e).ty (λ is. cc) p.0) in (
            lays.own c f p.1.info p.1.there p.1.kind each.0 ∙ ap Some (sym p.1.marked.0),
            erased_is s.table (ty.Class c) e p.0,
            none_sure s.table e,
            typed_exp set more within e h p.2 each.1 le,
            omega arith,
          )
      typed_exp set more within (Input c k m) h p each le =
          (lays.input c k p.0.info p.0.there p.0.kind each, p.1.0, omega arith)
      typed_exp set more within (Output c k e m) h p each le =
          let up : h < expr_top (erased_exp s.table e) h =
          rises set e h p.3 (other ty.Int (mark e).ty (λ is. cc) p.2) in (
            lays.output c k p.0.info p.0.there p.0.kind each.0,
            erased_is s.table ty.Int e p.2,
            p.1.0,
            typed_exp set more within e h p.3 each.1 le,
            omega arith,
          )
      typed_exp set more within (Call c i Absent es m) h p each le =
          let f = p.0.info in
          let found : (me : Meth) × HasMethod lay c i me × IsMethod me f =
          lays.method c i f p.0.there each.0 in
          let me = found.0 in
          let given : m.ty ≡ me.result = p.0.marked.0 ∙ sym found.2.result in
          let rest = right_le _ _ room le in (
            me,
            found.1,
            given,
            found.2.static ∙ absent_static c f.is_static p.0.receiver,
            subst (λ us. TypedArgs lay tys many room more h us (erased_args s.table es))
                (sym found.2.takes)
                (typed_args set more within f.params es h p.0.arguments p.2 each.2
                (left_le _ _ room rest)),
            subst (λ u. with_result u h ≤ room) given (right_le _ _ room rest),
          )
      typed_exp set more within (Call c i (Present e) es m) h p each le =
          let f = p.0.info in
          let found : (me : Meth) × HasMethod lay c i me × IsMethod me f =
          lays.method c i f p.0.there each.0 in
          let me = found.0 in
          let is = present_is c f.is_static e p.0.receiver in
          let up : h < expr_top (erased_exp s.table e) h =
          rises set e h p.1 (other (ty.Class c) (mark e).ty (λ is. cc) is) in
          let first = left_le _ _ room le in
          let args = left_le _ _ room (right_le _ _ room le) in (
            me,
            found.1,
            p.0.marked.0 ∙ sym found.2.result,
            found.2.static ∙ present_own c f.is_static e p.0.receiver,
            subst (λ us. TypedArgs lay tys many room more (suc h) us (erased_args s.table es))
                (sym found.2.takes)
                (typed_args set more within f.params es (suc h) p.0.arguments p.2 each.2
                (subst (λ k. args_top (erased_args s.table es) k ≤ room) (add-one h) args)),
            omega arith,
            erased_is s.table (ty.Class c) e is,
            none_sure s.table e,
            typed_exp set more within e h p.1 each.1 first,
          )
      typed_exp set more within (Neg e m) h p each le =
          let up : h < expr_top (erased_exp s.table e) h =
          rises set e h p.2 (other ty.Int (mark e).ty (λ is. cc) p.1) in (
            p.0.0,
            erased_is s.table ty.Int e p.1,
            typed_exp set more within e h p.2 each le,
            omega arith,
          )
      typed_exp set more within (Not e m) h p each le =
          let up : h < expr_top (erased_exp s.table e) h =
          rises set e h p.2 (other ty.Boolean (mark e).ty (λ is. cc) p.1) in (
            p.0.0,
            erased_is s.table ty.Boolean e p.1,
            typed_exp set more within e h p.2 each le,
            omega arith,
          )
      typed_exp set more within (Binary op a b m) h p each le =
          let a' = erased_exp s.table a in
          let b' = erased_exp s.table b in
          let z = shape_of op a' in
          let k = below_second z h in
          let rest = right_le _ _ room le in
          let between = left_le _ _ room rest in
          let second = right_le _ _ room rest in (
            typed_exp set more within a h p.2 each.0 (left_le _ _ room le),
            subst (λ j. Typed lay tys many room more j b') (same_below z h)
                (typed_exp set more within b k p.3 each.1 second),
            two_fit z h (expr_top b' k) room between
                (rises set b k p.3 (second_value op (mark a).ty (mark b).ty m.ty p.0)) second,
            of_shape h room op (mark a').ty (mark b').ty m.ty
                (erased_operates s.table op a b m.ty p.0) between,
          )

      typed_args : (set more : List ℕ) (within : Within set more) (ps : List ParamInfo)
          (es : TExps) (h : ℕ) → AreArguments ps es → ExpsAreProper s set es
          → EachInExps P (erased_args s.table es) → args_top (erased_args s.table es) h ≤ room
          → TypedArgs lay tys many room more h (map (λ p. p.ty) ps) (erased_args s.table es)
      typed_args set more within [] NoExps h g p each le = tt
      typed_args set more within [] (More e es) h g p each le = absurd g
      typed_args set more within (u ∷ us) NoExps h g p each le = absurd g
      typed_args set more within (u ∷ us) (More e es) h g p each le = (
        erased_accepts s.table u.ty e g.0.accepted,
        erased_value s.table e (given_value u.ty (mark e).ty g.0.accepted),
        typed_exp set more within e h p.0 each.0 (left_le _ _ room le),
        typed_args set more within us es (suc h) g.1 p.1 each.1
            (subst (λ k. args_top (erased_args s.table es) k ≤ room) (add-one h)
            (right_le _ _ room le)),
      )
