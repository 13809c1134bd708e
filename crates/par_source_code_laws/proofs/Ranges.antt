-- The types in a proper body are of classes of its table.
use Rattle.std.proofs.Common.{◌≡◌, ℕ, Bool, true, false, List, [], ◌∷◌, length, Option, Some}
use Rattle.std.proofs.Common.{None, refl, sym, subst}
use Rattle.std.specs.Prelude.{slice_get}
use Rattle.std.specs.List.{AllByRecursion}
use Rattle.std.proofs.lemmas.List.Elements.{All-from_recursion}
use Rattle.std.proofs.lemmas.Option.{slice_get_within, get_or_from_slice_get}
use Rattle.par_typed.specs.par_lexer.declared.operator.BinOp.{BinOp}
use Rattle.par_typed.specs.par_lexer.declared.operator.BinOp.TheVariants as bin
use Rattle.par_typed.specs.declared.ty.Ty.{Ty}
use Rattle.par_typed.specs.declared.ty.Ty.TheVariants as ty
use Rattle.par_typed.specs.declared.table.FieldInfo.{FieldInfo}
use Rattle.par_typed.specs.declared.table.MethodInfo.{MethodInfo}
use Rattle.par_typed.specs.declared.table.ClassInfo.{ClassInfo}
use Rattle.par_typed.specs.declared.table.Table.{Table}
use Rattle.par_typed.specs.Plain.{mark, TExp, Int, Boolean, Null, This, New, Local, Static}
use Rattle.par_typed.specs.Plain.{Field, Input, Output, Call, Neg, Not, Binary}
use Rattle.par_typed.specs.Plain.{MayTExp, Absent, Present, TExps, NoExps, More}
use Rattle.par_typed.specs.Plain.{TSta, Block, If, While, Try, Return, Break, Continue, Throw, Open}
use Rattle.par_typed.specs.Plain.{Close, SetLocal, SetStatic, SetField, Eval, When}
use Rattle.par_typed.specs.Plain.{MayTSta, NoElse, Otherwise, TStas, End, Then, TCatches, NoCatch}
use Rattle.par_typed.specs.Plain.{Catch}
use Rattle.par_typed_laws.specs.par_completes.Typed.{completes}
use Rattle.par_typed.specs.Members.{fields_in, methods_in}
use Rattle.par_typed_laws.specs.par_program_laws.Types.{Operates}
use Rattle.par_typed_laws.specs.par_program_laws.Forms.{Setting}
use Rattle.par_typed_laws.specs.par_program_laws.Locals.{behind}
use Rattle.par_typed_laws.specs.par_program_laws.Proper.{ExpIsProper, MayExpIsProper, ExpsAreProper}
use Rattle.par_typed_laws.specs.par_program_laws.Proper.{StaIsProper, ElseIsProper, AllAreProper}
use Rattle.par_typed_laws.specs.par_program_laws.Proper.{CatchesAreProper}
use Rattle.par_erase.specs.Asked.{Locks}
use Rattle.par_erase.specs.Erased.{erased_exp, erased_may, erased_args}
use Rattle.par_erase.specs.Erased.{erased_sta, erased_else, erased_all, erased_catches, set_if}
use Rattle.par_typed_laws.specs.Tables.{IsType, FieldInRange, MethodInRange, ClassInRange}
use Rattle.par_typed_laws.specs.Tables.{IsInRange}
use Rattle.par_source_code_laws.proofs.KeptBodies.{type_of}
use Rattle.par_source_code_laws.proofs.Slots.{IsBelow, Below, HasBelow, ExpIsBelow, MayIsBelow}
use Rattle.par_source_code_laws.proofs.Slots.{ArgsAreBelow, StaIsBelow, ElseIsBelow, AllAreBelow}
use Rattle.par_source_code_laws.proofs.Slots.{CatchesAreBelow}

-- what stands at a place
at : {X : Type 0} (P : X → Type 0) (xs : List X) (i : ℕ) (x : X) → AllByRecursion P xs
    → slice_get xs i ≡ Some x → P x
at P xs i x h e =
    subst P (get_or_from_slice_get xs i x x e)
    (All-from_recursion P xs h i x (slice_get_within xs i x e))

module _ (t : Table) (range : IsInRange t) where
  abbrev n : ℕ
  n = length t.classes

  is_below : (u : Ty) → IsType t u → IsBelow n u
  is_below ty.Int h = tt
  is_below ty.Boolean h = tt
  is_below (ty.Class c) h = h
  is_below ty.Null h = tt
  is_below ty.Void h = tt

  pub types_below : (us : List Ty) → AllByRecursion (IsType t) us → Below n us
  types_below [] h = tt
  types_below (u ∷ us) h = (is_below u h.0, types_below us h.1)

  field_in : (c f : ℕ) (o : Option ClassInfo) (info : FieldInfo) → slice_get t.classes c ≡ o
      → slice_get (fields_in o) f ≡ Some info → IsBelow n info.ty
  field_in c f None info e h = absurd (cc h)
  field_in c f (Some k) info e h =
      is_below info.ty (at (FieldInRange t) k.fields f info
      (at (ClassInRange t) t.classes c k range.classes e).fields h).0

  pub method_in : (c i : ℕ) (o : Option ClassInfo) (info : MethodInfo) → slice_get t.classes c ≡ o
      → slice_get (methods_in o) i ≡ Some info → MethodInRange t info
  method_in c i None info e h = absurd (cc h)
  method_in c i (Some k) info e h =
      at (MethodInRange t) k.methods i info
      (at (ClassInRange t) t.classes c k range.classes e).methods h

  operates : (op : BinOp) (l r g : Ty) → Operates op l r g → IsBelow n g
  operates bin.Or l r g h = subst (IsBelow n) (sym h.2) tt
  operates bin.And l r g h = subst (IsBelow n) (sym h.2) tt
  operates bin.BitOr l r g h = subst (IsBelow n) (sym h.2) tt
  operates bin.BitXor l r g h = subst (IsBelow n) (sym h.2) tt
  operates bin.BitAnd l r g h = subst (IsBelow n) (sym h.2) tt
  operates bin.Eq l r g h = subst (IsBelow n) (sym h.1) tt
  operates bin.Ne l r g h = subst (IsBelow n) (sym h.1) tt
  operates bin.Lt l r g h = subst (IsBelow n) (sym h.2) tt
  operates bin.Le l r g h = subst (IsBelow n) (sym h.2) tt
  operates bin.Gt l r g h = subst (IsBelow n) (sym h.2) tt
  operates bin.Ge l r g h = subst (IsBelow n) (sym h.2) tt
  operates bin.Shl l r g h = subst (IsBelow n) (sym h.2) tt
  operates bin.Shr l r g h = subst (IsBelow n) (sym h.2) tt
  operates bin.Ushr l r g h = subst (IsBelow n) (sym h.2) tt
  operates bin.Add l r g h = subst (IsBelow n) (sym h.2) tt
  operates bin.Sub l r g h = subst (IsBelow n) (sym h.2) tt
  operates bin.Mul l r g h = subst (IsBelow n) (sym h.2) tt
  operates bin.Div l r g h = subst (IsBelow n) (sym h.2) tt
  operates bin.Rem l r g h = subst (IsBelow n) (sym h.2) tt

module _ (s : Setting) (range : IsInRange s.table)
    (locals : Below (length s.table.classes) s.method.locals) where
  abbrev m : ℕ
  m = length s.table.classes

  own : (set : List ℕ) (e : TExp) → ExpIsProper s set e → HasBelow m e
  unfolding ExpIsProper mark
  own set (Int v k) p = subst (IsBelow m) (sym p.0) tt
  own set (Boolean b k) p = subst (IsBelow m) (sym p.0) tt
  own set (Null k) p = subst (IsBelow m) (sym p.0) tt
  own set (This k) p =
      subst (IsBelow m) (sym p.marked.0)
      (at (IsBelow m) s.method.locals 0 (ty.Class s.class) locals p.local)
  own set (New c k) p =
      subst (IsBelow m) (sym p.marked.0) (slice_get_within s.table.classes c p.info p.there)
  own set (Local x k) p = at (IsBelow m) s.method.locals x k.ty locals p.local
  own set (Static c f k) p =
      subst (IsBelow m) (sym p.marked.0)
      (field_in s.table range c f (slice_get s.table.classes c) p.info refl p.there)
  own set (Field e c f k) p =
      subst (IsBelow m) (sym p.1.marked.0)
      (field_in s.table range c f (slice_get s.table.classes c) p.1.info refl p.1.there)
  own set (Input c i k) p = subst (IsBelow m) (sym p.1.0) tt
  own set (Output c i e k) p = subst (IsBelow m) (sym p.1.0) tt
  own set (Call c i o es k) p =
      let info =
      method_in s.table range c i (slice_get s.table.classes c) p.0.info refl p.0.there in
      subst (IsBelow m) (sym p.0.marked.0) (is_below s.table range p.0.info.result info.result)
  own set (Neg e k) p = subst (IsBelow m) (sym p.0.0) tt
  own set (Not e k) p = subst (IsBelow m) (sym p.0.0) tt
  own set (Binary op a b k) p = operates s.table range op (mark a).ty (mark b).ty k.ty p.0

  erased_own : (set : List ℕ) (e : TExp) → ExpIsProper s set e
      → HasBelow m (erased_exp s.table e)
  erased_own set e p = subst (IsBelow m) (sym (type_of s.table e)) (own set e p)

  mutual
    unfolding ExpIsProper erased_exp ExpIsBelow

    exps : (set : List ℕ) (e : TExp) → ExpIsProper s set e → ExpIsBelow m (erased_exp s.table e)
    exps set (Int v k) p = tt
    exps set (Boolean b k) p = tt
    exps set (Null k) p = tt
    exps set (This k) p = tt
    exps set (New c k) p = tt
    exps set (Local x k) p = tt
    exps set (Static c f k) p = tt
    exps set (Field e c f k) p = exps set e p.2
    exps set (Input c i k) p = tt
    exps set (Output c i e k) p = exps set e p.3
    exps set (Call c i o es k) p = (mays set o p.1, args set es p.2)
    exps set (Neg e k) p = exps set e p.2
    exps set (Not e k) p = exps set e p.2
    exps set (Binary op a b k) p = (erased_own set a p.2, exps set a p.2, exps set b p.3)

    mays : (set : List ℕ) (o : MayTExp) → MayExpIsProper s set o
        → MayIsBelow m (erased_may s.table o)
    mays set Absent p = tt
    mays set (Present e) p = (erased_own set e p, exps set e p)

    args : (set : List ℕ) (es : TExps) → ExpsAreProper s set es
        → ArgsAreBelow m (erased_args s.table es)
    args set NoExps p = tt
    args set (More e es) p = (erased_own set e p.0, exps set e p.0, args set es p.1)

  module _ (asked : Locks) where
    sets : (b opens : Bool) (l : ℕ) → StaIsBelow m (set_if b l opens)
    unfolding StaIsBelow
    sets true true l = tt
    sets true false l = tt
    sets false opens l = tt

    mutual
      unfolding StaIsProper erased_sta StaIsBelow

      pub body_below : (looped : Bool) (set : List ℕ) (b : TSta) → StaIsProper s looped set b
          → StaIsBelow m (erased_sta s.table asked b)
      body_below looped set (Block bs at q) p = alls looped true set bs p
      body_below looped set (If e b o at q) p =
          (exps set e p.1, body_below looped set b p.2, elses looped set o p.3)
      body_below looped set (While e b at q) p = (exps set e p.1, body_below true set b p.2)
      body_below looped set (Try b cs at q) p =
          (body_below looped set b p.0, catches looped set cs p.1)
      body_below looped set (Return o at q) p = mays set o p.1
      body_below looped set (Break at q) p = tt
      body_below looped set (Continue at q) p = tt
      body_below looped set (Throw c at q) p = tt
      body_below looped set (Open l at q) p = sets (asked l) true l
      body_below looped set (Close l at q) p = sets (asked l) false l
      body_below looped set (SetLocal x y e at q) p = exps set e p.1
      body_below looped set (SetStatic c f e at q) p = exps set e p.1
      body_below looped set (SetField o c f e at q) p =
          (erased_own set o p.2, exps set o p.2, exps set e p.3)
      body_below looped set (Eval e at q) p = exps set e p
      body_below looped set (When l b o at q) p =
          (body_below looped set b p.1, elses looped set o p.2)

      elses : (looped : Bool) (set : List ℕ) (o : MayTSta) → ElseIsProper s looped set o
          → ElseIsBelow m (erased_else s.table asked o)
      elses looped set NoElse p = tt
      elses looped set (Otherwise b) p = body_below looped set b p

      alls : (looped reached : Bool) (set : List ℕ) (bs : TStas)
          → AllAreProper s looped reached set bs → AllAreBelow m (erased_all s.table asked bs)
      alls looped reached set End p = tt
      alls looped reached set (Then b bs) p =
          (body_below looped set b p.1, alls looped (completes b) (behind set b) bs p.2)

      catches : (looped : Bool) (set : List ℕ) (cs : TCatches)
          → CatchesAreProper s looped set cs
          → CatchesAreBelow m (erased_catches s.table asked cs)
      catches looped set NoCatch p = tt
      catches looped set (Catch c b cs) p = (
        slice_get_within s.table.classes c p.0.info p.0.there,
        body_below looped set b p.1,
        catches looped set cs p.2,
      )
