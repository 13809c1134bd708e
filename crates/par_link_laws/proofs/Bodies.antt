-- What a proper body names is there without policies too.
use Rattle.std.proofs.Common.{◌≡◌, ℕ, ◌<◌, Bool, true, false, List, length}
use Rattle.std.proofs.Common.{Option, Some, None, slice_get, refl, sym, subst, arith}
use Rattle.std.proofs.lemmas.List.{length-map}
use Rattle.std.proofs.lemmas.Option.{slice_get_within}
use Rattle.std.specs.List.{AllByRecursion}
use Rattle.par_typed.specs.par_lexer.declared.operator.BinOp.{BinOp}
use Rattle.par_typed.specs.par_lexer.declared.operator.BinOp.TheVariants as op
use Rattle.par_typed.specs.declared.ty.Ty.{Ty}
use Rattle.par_typed.specs.declared.ty.Ty.TheVariants as ty
use Rattle.par_typed.specs.declared.table.ClassInfo.{ClassInfo}
use Rattle.par_typed.specs.declared.table.FieldInfo.{FieldInfo}
use Rattle.par_typed.specs.declared.table.GroundLock.{GroundLock}
use Rattle.par_typed.specs.declared.table.MethodInfo.{MethodInfo}
use Rattle.par_typed.specs.declared.table.Table.{Table}
use Rattle.par_typed.specs.Plain.{mark, TExp, Int, Boolean, Null, This, New, Local, Static, Field}
use Rattle.par_typed.specs.Plain.{Input, Output, Call, Neg, Not, Binary}
use Rattle.par_typed.specs.Plain.{MayTExp, Absent, Present, TExps, NoExps, More}
use Rattle.par_typed.specs.Plain.{TSta, Block, If, While, Try, Return, Break, Continue, Throw, Open}
use Rattle.par_typed.specs.Plain.{Close, SetLocal, SetStatic, SetField, Eval, When}
use Rattle.par_typed.specs.Plain.{MayTSta, NoElse, Otherwise, TStas, End, Then, TCatches, NoCatch}
use Rattle.par_typed.specs.Plain.{Catch}
use Rattle.par_completes.specs.Typed.{completes}
use Rattle.par_typed.specs.Members.{IsClass, fields_in, methods_in, field_at, method_at}
use Rattle.par_program_laws.specs.Locals.{behind}
use Rattle.par_program_laws.specs.Types.{Operates}
use Rattle.par_program_laws.specs.Forms.{Setting}
use Rattle.par_program_laws.specs.Proper.{ExpIsProper, MayExpIsProper, ExpsAreProper, StaIsProper}
use Rattle.par_program_laws.specs.Proper.{ElseIsProper, AllAreProper, CatchesAreProper}
use Rattle.par_source_code_laws.specs.par_typed_laws.Tables.{IsType, IsInRange, ClassInRange}
use Rattle.par_source_code_laws.specs.par_typed_laws.Tables.{FieldInRange}
use Rattle.par_source_code_laws.specs.par_typed_laws.Tables.{MethodInRange}
use Rattle.par_erase.specs.Asked.{Locks}
use Rattle.par_erase.specs.Shown.{channel_info}
use Rattle.par_erase.specs.Erased.{erased_table, erased_class, erased_field, erased_method}
use Rattle.par_erase.specs.Erased.{erased_exp, erased_may, erased_args, erased_sta, erased_else}
use Rattle.par_erase.specs.Erased.{erased_all, erased_catches, set_if}
use Rattle.par_source_code_laws.proofs.Members.{field_erased, method_erased, input_erased}
use Rattle.par_source_code_laws.proofs.Members.{output_erased}
use Rattle.par_link_laws.specs.Bodies.{IsTypeIn, ExpLinks, MayExpLinks, ExpsLink, StaLinks}
use Rattle.par_link_laws.specs.Bodies.{ElseLinks, StasLink, CatchesLink}
use Rattle.par_link_laws.proofs.Lists.{each-of}

module _ (t : Table) (asked : Locks) (r : IsInRange t) where
  abbrev plain : Table
  plain = erased_table t

  -- ---- the table

  pub class-in : (n : ℕ) → n < length t.classes → IsClass plain n
  class-in n within = omega (arith, within, length-map t.classes erased_class)

  pub type-in : (u : Ty) → IsType t u → IsTypeIn plain u
  type-in ty.Int h = tt
  type-in ty.Boolean h = tt
  type-in (ty.Class n) h = class-in n h
  type-in ty.Null h = tt
  type-in ty.Void h = tt

  -- a type that is such a type
  is-in : (u v : Ty) → u ≡ v → IsTypeIn plain v → IsTypeIn plain u
  is-in u v e h = subst (IsTypeIn plain) (sym e) h

  class-range : (c : ℕ) (k : ClassInfo) → slice_get t.classes c ≡ Some k → ClassInRange t k
  class-range c k at = each-of (ClassInRange t) t.classes c k r.classes at

  field-type : (c f : ℕ) (info : FieldInfo) → field_at t c f ≡ Some info → IsTypeIn plain info.ty
  field-type c f info at = in_class (slice_get t.classes c) refl at where
    in_class : (o : Option ClassInfo) → slice_get t.classes c ≡ o
        → slice_get (fields_in o) f ≡ Some info → IsTypeIn plain info.ty
    in_class None is at = absurd (cc at)
    in_class (Some k) is at =
        type-in info.ty
        (each-of (FieldInRange t) k.fields f info (class-range c k is).fields at).0

  pub method-range : (c i : ℕ) (info : MethodInfo) → method_at t c i ≡ Some info
      → MethodInRange t info
  method-range c i info at = in_class (slice_get t.classes c) refl at where
    in_class : (o : Option ClassInfo) → slice_get t.classes c ≡ o
        → slice_get (methods_in o) i ≡ Some info → MethodInRange t info
    in_class None is at = absurd (cc at)
    in_class (Some k) is at =
        each-of (MethodInRange t) k.methods i info (class-range c k is).methods at

  -- the class of a method
  pub class-there : (c i : ℕ) (info : MethodInfo) → method_at t c i ≡ Some info
      → c < length t.classes
  class-there c i info at = in_class (slice_get t.classes c) refl at where
    in_class : (o : Option ClassInfo) → slice_get t.classes c ≡ o
        → slice_get (methods_in o) i ≡ Some info → c < length t.classes
    in_class None is at = absurd (cc at)
    in_class (Some k) is at = slice_get_within t.classes c k is

  lock-in : (lock : ℕ) (info : GroundLock) → slice_get t.locks lock ≡ Some info → lock < 256
  lock-in lock info at = omega (arith, slice_get_within t.locks lock info at, r.few_locks)

  -- what an operator gives is an int or a boolean
  gives-in : (o : BinOp) (u v given : Ty) → Operates o u v given → IsTypeIn plain given
  gives-in op.Or u v given h = is-in given ty.Boolean h.2 tt
  gives-in op.And u v given h = is-in given ty.Boolean h.2 tt
  gives-in op.BitOr u v given h = is-in given ty.Int h.2 tt
  gives-in op.BitXor u v given h = is-in given ty.Int h.2 tt
  gives-in op.BitAnd u v given h = is-in given ty.Int h.2 tt
  gives-in op.Eq u v given h = is-in given ty.Boolean h.1 tt
  gives-in op.Ne u v given h = is-in given ty.Boolean h.1 tt
  gives-in op.Lt u v given h = is-in given ty.Boolean h.2 tt
  gives-in op.Le u v given h = is-in given ty.Boolean h.2 tt
  gives-in op.Gt u v given h = is-in given ty.Boolean h.2 tt
  gives-in op.Ge u v given h = is-in given ty.Boolean h.2 tt
  gives-in op.Shl u v given h = is-in given ty.Int h.2 tt
  gives-in op.Shr u v given h = is-in given ty.Int h.2 tt
  gives-in op.Ushr u v given h = is-in given ty.Int h.2 tt
  gives-in op.Add u v given h = is-in given ty.Int h.2 tt
  gives-in op.Sub u v given h = is-in given ty.Int h.2 tt
  gives-in op.Mul u v given h = is-in given ty.Int h.2 tt
  gives-in op.Div u v given h = is-in given ty.Int h.2 tt
  gives-in op.Rem u v given h = is-in given ty.Int h.2 tt

  set-links : (b : Bool) (lock : ℕ) (opens : Bool) → lock < 256
      → StaLinks plain (set_if b lock opens)
  unfolding StaLinks
  set-links true lock true within = within
  set-links true lock false within = within
  set-links false lock opens within = tt

  -- ---- bodies of a method

  module _ (c : ℕ) (m : MethodInfo) (sures : List Bool) (own : c < length t.classes)
      (locals : AllByRecursion (IsType t) m.locals) where
    abbrev s : Setting
    s = record { table = t; class = c; method = m; sures = sures }

    mutual
      unfolding ExpIsProper erased_exp ExpLinks

      exp-links : (set : List ℕ) (e : TExp) → ExpIsProper s set e
          → ExpLinks plain (erased_exp t e)
      exp-links set (Int n k) h = is-in k.ty ty.Int h.0 tt
      exp-links set (Boolean b k) h = is-in k.ty ty.Boolean h.0 tt
      exp-links set (Null k) h = is-in k.ty ty.Null h.0 tt
      exp-links set (This k) h = is-in k.ty (ty.Class c) h.marked.0 (class-in c own)
      exp-links set (New class k) h =
          let there : IsClass plain class =
          class-in class (slice_get_within t.classes class h.info h.there) in
          (is-in k.ty (ty.Class class) h.marked.0 there, there)
      exp-links set (Local x k) h = type-in k.ty (each-of (IsType t) m.locals x k.ty locals h.local)
      exp-links set (Static d f k) h = (
        is-in k.ty h.info.ty h.marked.0 (field-type d f h.info h.there),
        (erased_field h.info, field_erased t d f h.info h.there),
      )
      exp-links set (Field e d f k) h = (
        is-in k.ty h.1.info.ty h.1.marked.0 (field-type d f h.1.info h.1.there),
        (erased_field h.1.info, field_erased t d f h.1.info h.1.there),
        exp-links set e h.2,
      )
      exp-links set (Input d i k) h = (
        is-in k.ty ty.Int h.1.0 tt,
        (channel_info true h.0.info.name, input_erased t d i h.0.info h.0.there h.0.kind, refl),
      )
      exp-links set (Output d i e k) h = (
        is-in k.ty ty.Void h.1.0 tt,
        (channel_info false h.0.info.name, output_erased t d i h.0.info h.0.there h.0.kind, refl),
        exp-links set e h.3,
      )
      exp-links set (Call d i o es k) h = (
        is-in k.ty h.0.info.result h.0.marked.0
            (type-in h.0.info.result (method-range d i h.0.info h.0.there).result),
        (erased_method h.0.info, method_erased t d i h.0.info h.0.there),
        may-links set o h.1,
        exps-link set es h.2,
      )
      exp-links set (Neg e k) h = (is-in k.ty ty.Int h.0.0 tt, exp-links set e h.2)
      exp-links set (Not e k) h = (is-in k.ty ty.Boolean h.0.0 tt, exp-links set e h.2)
      exp-links set (Binary o a b k) h = (
        gives-in o (mark a).ty (mark b).ty k.ty h.0,
        exp-links set a h.2,
        exp-links set b h.3,
      )

      may-links : (set : List ℕ) (o : MayTExp) → MayExpIsProper s set o
          → MayExpLinks plain (erased_may t o)
      may-links set Absent h = tt
      may-links set (Present e) h = exp-links set e h

      exps-link : (set : List ℕ) (es : TExps) → ExpsAreProper s set es
          → ExpsLink plain (erased_args t es)
      exps-link set NoExps h = tt
      exps-link set (More e es) h = (exp-links set e h.0, exps-link set es h.1)

    mutual
      unfolding StaIsProper erased_sta StaLinks

      pub sta-links : (looped : Bool) (set : List ℕ) (b : TSta) → StaIsProper s looped set b
          → StaLinks plain (erased_sta t asked b)
      sta-links looped set (Block bs at p) h = stas-link looped true set bs h
      sta-links looped set (If e b o at p) h =
          (exp-links set e h.1, sta-links looped set b h.2, else-links looped set o h.3)
      sta-links looped set (While e b at p) h = (exp-links set e h.1, sta-links true set b h.2)
      sta-links looped set (Try b cs at p) h =
          (sta-links looped set b h.0, catches-link looped set cs h.1)
      sta-links looped set (Return o at p) h = may-links set o h.1
      sta-links looped set (Break at p) h = tt
      sta-links looped set (Continue at p) h = tt
      sta-links looped set (Throw class at p) h =
          class-in class (slice_get_within t.classes class h.info h.there)
      sta-links looped set (Open lock at p) h =
          set-links (asked lock) lock true (lock-in lock h.info h.there)
      sta-links looped set (Close lock at p) h =
          set-links (asked lock) lock false (lock-in lock h.info h.there)
      sta-links looped set (SetLocal x q e at p) h = exp-links set e h.1
      sta-links looped set (SetStatic d f e at p) h =
          ((erased_field h.0.info, field_erased t d f h.0.info h.0.there), exp-links set e h.1)
      sta-links looped set (SetField o d f e at p) h = (
        (erased_field h.1.info, field_erased t d f h.1.info h.1.there),
        exp-links set o h.2,
        exp-links set e h.3,
      )
      sta-links looped set (Eval e at p) h = exp-links set e h
      sta-links looped set (When lock b o at p) h = (
        lock-in lock h.0.info h.0.there,
        sta-links looped set b h.1,
        else-links looped set o h.2,
      )

      else-links : (looped : Bool) (set : List ℕ) (o : MayTSta) → ElseIsProper s looped set o
          → ElseLinks plain (erased_else t asked o)
      else-links looped set NoElse h = tt
      else-links looped set (Otherwise b) h = sta-links looped set b h

      stas-link : (looped reached : Bool) (set : List ℕ) (bs : TStas)
          → AllAreProper s looped reached set bs → StasLink plain (erased_all t asked bs)
      stas-link looped reached set End h = tt
      stas-link looped reached set (Then b bs) h =
          (sta-links looped set b h.1, stas-link looped (completes b) (behind set b) bs h.2)

      catches-link : (looped : Bool) (set : List ℕ) (cs : TCatches)
          → CatchesAreProper s looped set cs → CatchesLink plain (erased_catches t asked cs)
      catches-link looped set NoCatch h = tt
      catches-link looped set (Catch class b cs) h = (
        class-in class (slice_get_within t.classes class h.0.info h.0.there),
        sta-links looped set b h.1,
        catches-link looped set cs h.2,
      )
