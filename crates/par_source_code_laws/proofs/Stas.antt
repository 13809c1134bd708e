-- Proper statements are typed as code asks for it.
use Rattle.std.proofs.Common.{◌≡◌, ℕ, ◌≤◌, Bool, true, false, List}
use Rattle.std.proofs.Common.{Some, length, sym, subst, arith}
use Rattle.std.specs.Prelude.{slice_get}
use Rattle.par_typed.specs.declared.ty.Ty.{Ty}
use Rattle.par_typed.specs.declared.ty.Ty.TheVariants as ty
use Rattle.par_typed.specs.Plain.{mark, Absent, Present}
use Rattle.par_typed.specs.Plain.{TSta, Block, If, While, Try, Return, Break, Continue, Throw, Open}
use Rattle.par_typed.specs.Plain.{Close, SetLocal, SetStatic, SetField, Eval, When, MayTSta, NoElse}
use Rattle.par_typed.specs.Plain.{Otherwise, TStas, End, Then, TCatches, NoCatch, Catch}
use Rattle.par_typed_laws.specs.par_completes.Typed.{completes, is_true}
use Rattle.par_typed_laws.specs.par_program_laws.Locals.{behind}
use Rattle.par_typed_laws.specs.par_program_laws.Forms.{Setting}
use Rattle.par_typed_laws.specs.par_program_laws.Proper.{StaIsProper, ElseIsProper, AllAreProper}
use Rattle.par_typed_laws.specs.par_program_laws.Proper.{CatchesAreProper}
use Rattle.par_typed_laws.specs.par_program_laws.Proper.{ExpIsProper}
use Rattle.par_erase.specs.Asked.{Locks}
use Rattle.par_erase.specs.Erased.{erased_exp, erased_sta, erased_else, erased_all, erased_catches}
use Rattle.par_erase.specs.Erased.{erased_may, set_if}
use Rattle.par_evaluation_laws.specs.par_code_form.Operands.{expr_top, may_top, top, else_top}
use Rattle.par_evaluation_laws.specs.par_code_form.Operands.{all_top}
use Rattle.par_evaluation_laws.specs.par_code_form.Operands.{catch_top}
use Rattle.par_evaluation_laws.specs.Laid.{Layout, Typed, TypedS, TypedElse}
use Rattle.par_evaluation_laws.specs.Laid.{TypedAll}
use Rattle.par_evaluation_laws.specs.Laid.{TypedCatches}
use Rattle.par_evaluation_laws.specs.Laid as laid
use Rattle.par_source_code_laws.specs.Named.{Named, EachInSta, EachInElse, EachInStas}
use Rattle.par_source_code_laws.specs.Named.{EachInCatches}
use Rattle.par_source_code_laws.specs.Named.{EachInMay}
use Rattle.par_source_code_laws.proofs.Laying.{Lays}
use Rattle.par_source_code_laws.proofs.Marks.{none_sure}
use Rattle.par_source_code_laws.proofs.Operators.{declared_value, given_value}
use Rattle.par_source_code_laws.proofs.Tops.{left_le, right_le, test_le, body_le}
use Rattle.par_source_code_laws.proofs.Sets.{Within, behind_within}
use Rattle.par_source_code_laws.proofs.Exps.{erased_is, erased_accepts, erased_value, rises}
use Rattle.par_source_code_laws.proofs.Exps.{typed_exp}

module _ (s : Setting) (asked : Locks) (lay : Layout) (P : Named → Type 0)
    (lays : Lays s.table lay P) (tys : ℕ → Ty)
    (locals : (x : ℕ) (u : Ty) → slice_get s.method.locals x ≡ Some u → tys x ≡ u)
    (room : ℕ) where
  abbrev many : ℕ
  many = length s.method.locals

  abbrev result : Ty
  result = s.method.result

  -- a lock that is opened or closed, where some `when` asks for it
  typed_lock : (looped : Bool) (more : List ℕ) (b : Bool) (lock : ℕ) (opens : Bool)
      → EachInSta P (set_if b lock opens) → top (set_if b lock opens) ≤ room
      → TypedS lay tys many room result looped more (set_if b lock opens)
  unfolding EachInSta top TypedS
  typed_lock looped more true lock true each le = (lays.lock lock each, omega arith)
  typed_lock looped more true lock false each le = (lays.lock lock each, omega arith)
  typed_lock looped more false lock opens each le = tt

  mutual
    unfolding StaIsProper EachInSta erased_sta top TypedS ExpIsProper EachInMay erased_may may_top

    pub typed_sta : (looped : Bool) (set more : List ℕ) (within : Within set more) (b : TSta)
        → StaIsProper s looped set b → EachInSta P (erased_sta s.table asked b)
        → top (erased_sta s.table asked b) ≤ room
        → TypedS lay tys many room result looped more (erased_sta s.table asked b)
    typed_sta looped set more within (Block bs at p) h each le =
        typed_all looped true set more within bs h each le
    typed_sta looped set more within (If e b o at p) h each le =
        let rest = right_le _ _ room le in (
          erased_is s.table ty.Boolean e h.0,
          typed_exp s lay P lays tys locals room set more within e 0 h.1 each.0
              (left_le _ _ room le),
          typed_sta looped set more within b h.2 each.1 (left_le _ _ room rest),
          typed_else looped set more within o h.3 each.2 (right_le _ _ room rest),
        )
    typed_sta looped set more within (While e b at p) h each le =
        let e' = erased_exp s.table e in
        let test = expr_top e' 0 in
        let body = top (erased_sta s.table asked b) in (
          erased_is s.table ty.Boolean e h.0,
          λ tests. typed_exp s lay P lays tys locals room set more within e 0 h.1 each.0
              (test_le (is_true e') test body room le tests),
          typed_sta true set more within b h.2 each.1 (body_le (is_true e') test body room le),
        )
    typed_sta looped set more within (Try b cs at p) h each le = (
      typed_sta looped set more within b h.0 each.0 (left_le _ _ room le),
      typed_catches looped set more within cs h.1 each.1 (right_le _ _ room le),
    )
    typed_sta looped set more within (Return Absent at p) h each le = h.0
    typed_sta looped set more within (Return (Present e) at p) h each le = (
      erased_accepts s.table result e h.0,
      typed_exp s lay P lays tys locals room set more within e 0 h.1 each le,
      declared_value result (mark e).ty h.0,
      erased_value s.table e (given_value result (mark e).ty h.0),
    )
    typed_sta looped set more within (Break at p) h each le = h
    typed_sta looped set more within (Continue at p) h each le = h
    typed_sta looped set more within (Throw class at p) h each le =
        (lays.raised class h.info h.there h.exception each, omega arith)
    typed_sta looped set more within (Open lock at p) h each le =
        typed_lock looped more (asked lock) lock true each le
    typed_sta looped set more within (Close lock at p) h each le =
        typed_lock looped more (asked lock) lock false each le
    typed_sta looped set more within (SetLocal x policy e at p) h each le =
        let g = h.0 in (
          g.in_range,
          subst (λ u. laid.Accepts u (mark (erased_exp s.table e)).ty)
              (sym (locals x g.takes g.local)) (erased_accepts s.table g.takes e g.given.accepted),
          typed_exp s lay P lays tys locals room set more within e 0 h.1 each le,
          erased_value s.table e (given_value g.takes (mark e).ty g.given.accepted),
        )
    typed_sta looped set more within (SetStatic c f e at p) h each le =
        let g = h.0 in (
          g.info.ty,
          lays.static c f g.info g.there g.kind each.0,
          erased_accepts s.table g.info.ty e g.given.accepted,
          typed_exp s lay P lays tys locals room set more within e 0 h.1 each.1 le,
          erased_value s.table e (given_value g.info.ty (mark e).ty g.given.accepted),
        )
    typed_sta looped set more within (SetField o c f e at p) h each le =
        let g = h.1 in
        let value = given_value g.info.ty (mark e).ty g.given.accepted in
        let up = rises s set e 1 h.3 value in
        let second = right_le _ _ room le in (
          g.info.ty,
          lays.own c f g.info g.there g.kind each.0,
          erased_is s.table (ty.Class c) o h.0,
          none_sure s.table o,
          typed_exp s lay P lays tys locals room set more within o 0 h.2 each.1
              (left_le _ _ room le),
          erased_accepts s.table g.info.ty e g.given.accepted,
          typed_exp s lay P lays tys locals room set more within e 1 h.3 each.2 second,
          erased_value s.table e value,
          omega (arith, up, second),
        )
    typed_sta looped set more within (Eval e at p) h each le =
        typed_exp s lay P lays tys locals room set more within e 0 h each le
    typed_sta looped set more within (When lock b o at p) h each le =
        let rest = right_le _ _ room le in (
          lays.lock lock each.0,
          omega arith,
          typed_sta looped set more within b h.1 each.1 (left_le _ _ room rest),
          typed_else looped set more within o h.2 each.2 (right_le _ _ room rest),
        )

    typed_else : (looped : Bool) (set more : List ℕ) (within : Within set more) (o : MayTSta)
        → ElseIsProper s looped set o → EachInElse P (erased_else s.table asked o)
        → else_top (erased_else s.table asked o) ≤ room
        → TypedElse lay tys many room result looped more (erased_else s.table asked o)
    typed_else looped set more within NoElse h each le = tt
    typed_else looped set more within (Otherwise b) h each le =
        typed_sta looped set more within b h each le

    typed_all : (looped reached : Bool) (set more : List ℕ) (within : Within set more) (bs : TStas)
        → AllAreProper s looped reached set bs → EachInStas P (erased_all s.table asked bs)
        → all_top (erased_all s.table asked bs) ≤ room
        → TypedAll lay tys many room result looped more (erased_all s.table asked bs)
    typed_all looped reached set more within End h each le = tt
    typed_all looped reached set more within (Then b bs) h each le = (
      typed_sta looped set more within b h.1 each.0 (left_le _ _ room le),
      typed_all looped (completes b) (behind set b)
          (laid.behind more (erased_sta s.table asked b))
          (behind_within s.table asked set more within b) bs h.2 each.1 (right_le _ _ room le),
    )

    typed_catches : (looped : Bool) (set more : List ℕ) (within : Within set more) (cs : TCatches)
        → CatchesAreProper s looped set cs → EachInCatches P (erased_catches s.table asked cs)
        → catch_top (erased_catches s.table asked cs) ≤ room
        → TypedCatches lay tys many room result looped more (erased_catches s.table asked cs)
    typed_catches looped set more within NoCatch h each le = tt
    typed_catches looped set more within (Catch class b cs) h each le =
        let rest = right_le _ _ room le in (
          lays.raised class h.0.info h.0.there h.0.exception each.0,
          omega arith,
          typed_sta looped set more within b h.1 each.1 (left_le _ _ room rest),
          typed_catches looped set more within cs h.2 each.2 (right_le _ _ room rest),
        )
