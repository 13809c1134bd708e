-- What is known of bodies one by one makes them proper.
use Rattle.std.proofs.Common.{◌≡◌, ℕ, zero, suc, ◌<◌, Bool, true, false, not, cond, List, [], ◌∷◌}
use Rattle.std.proofs.Common.{◌++◌, length, map, Option, Some, None, inl, inr, refl, sym, ap}
use Rattle.std.proofs.Common.{subst, ◌∙◌, arith}
use Rattle.std.specs.Prelude.{slice_get}
use Rattle.std.specs.List.{AllByRecursion, range_with_len}
use Rattle.par_program_laws.specs.par_lexer.declared.operator.BinOp.{BinOp}
use Rattle.par_program_laws.specs.par_lexer.declared.operator.BinOp.TheVariants as op
use Rattle.par_program_laws.specs.par_typed.declared.ty.Ty.{Ty}
use Rattle.par_program_laws.specs.par_typed.declared.ty.Ty.TheVariants as ty
use Rattle.par_program_laws.specs.par_typed.declared.table.FieldInfo.{FieldInfo}
use Rattle.par_program_laws.specs.par_typed.declared.table.ChannelInfo.{ChannelInfo}
use Rattle.par_program_laws.specs.par_typed.declared.table.ParamInfo.{ParamInfo}
use Rattle.par_program_laws.specs.par_typed.declared.table.MethodInfo.{MethodInfo}
use Rattle.par_program_laws.specs.par_typed.declared.table.ClassInfo.{ClassInfo}
use Rattle.par_program_laws.specs.par_typed.declared.table.Table.{Table}
use Rattle.par_program_laws.specs.par_typed.Plain.{Mark, mark}
use Rattle.par_program_laws.specs.par_typed.Plain.{TExp, Int, Boolean, Null, This, New, Local}
use Rattle.par_program_laws.specs.par_typed.Plain.{Static}
use Rattle.par_program_laws.specs.par_typed.Plain.{Field, Input}
use Rattle.par_program_laws.specs.par_typed.Plain.{Output, Call, Neg, Not, Binary, MayTExp, Absent}
use Rattle.par_program_laws.specs.par_typed.Plain.{Present}
use Rattle.par_program_laws.specs.par_typed.Plain.{TExps, NoExps, More}
use Rattle.par_program_laws.specs.par_typed.Plain.{TSta, Block, If, While, Try, Return, Break}
use Rattle.par_program_laws.specs.par_typed.Plain.{Continue}
use Rattle.par_program_laws.specs.par_typed.Plain.{Throw, Open}
use Rattle.par_program_laws.specs.par_typed.Plain.{Close, SetLocal, SetStatic, SetField, Eval, When}
use Rattle.par_program_laws.specs.par_typed.Plain.{MayTSta, NoElse}
use Rattle.par_program_laws.specs.par_typed.Plain.{Otherwise, TStas, End, Then, TCatches, NoCatch}
use Rattle.par_program_laws.specs.par_typed.Plain.{Catch}
use Rattle.par_program_laws.specs.par_typed.Plain.{Body}
use Rattle.par_type_rules.specs.par_scope.Meaning.{op_type}
use Rattle.par_type_rules.specs.Fits.{operand}
use Rattle.par_program_laws.specs.par_completes.Typed.{completes}
use Rattle.par_program_laws.specs.par_typed.Members.{fields_in, methods_in}
use Rattle.par_program_laws.specs.par_typed.Members.{field_at, channel_at, method_at}
use Rattle.par_program_laws.specs.Locals.{arriving, arriving_sure, BeginsWith, set_by_call, IsSet}
use Rattle.par_program_laws.specs.Locals.{behind}
use Rattle.par_program_laws.specs.Types.{IsMarked, IsValue, IsResult, Accepts, IsGiven, AreCompared}
use Rattle.par_program_laws.specs.Types.{IsEnded, Operates}
use Rattle.par_program_laws.specs.Uses.{StaUses, ElseUses, StasUse, CatchesUse}
use Rattle.par_program_laws.specs.Forms.{Setting, IsReceiver, AreArguments, IsGivenBack, IsNew}
use Rattle.par_program_laws.specs.Forms.{ReadsField}
use Rattle.par_program_laws.specs.Forms.{UsesChannel, CallsMethod, SetsLocal, SetsField, IsThrown}
use Rattle.par_program_laws.specs.Forms.{UsesLock, AsksLock}
use Rattle.par_program_laws.specs.Proper.{ExpIsProper, MayExpIsProper, ExpsAreProper, StaIsProper}
use Rattle.par_program_laws.specs.Proper.{ElseIsProper, AllAreProper, CatchesAreProper, IsProper}
use Rattle.par_typed_laws.specs.Tables.{IsLock, MayBePolicy, LockInRange, IsInRange}
use Rattle.par_typed_laws.specs.Numbers.{ExpReads, MayExpRead, ExpsRead, StaInRange, ElseInRange}
use Rattle.par_typed_laws.specs.Numbers.{StasInRange, CatchesInRange}
use Rattle.par_typed_laws.specs.SetFirst.{SetsFirst, ElseSetsFirst, AllSetFirst, CatchesSetFirst}
use Rattle.par_typed_laws.specs.Orderly.{HasMethod}
use Rattle.par_program_laws.specs.BodyNames.{IsField, IsChannel, IsException, is_present, IsCalled}
use Rattle.par_program_laws.specs.BodyNames.{MayBeObject, ExpNames, MayExpNames, ExpsName, StaNames}
use Rattle.par_program_laws.specs.BodyNames.{ElseNames, StasName, CatchesName}
use Rattle.par_program_laws.specs.Makes.{IsOrdinary, ExpMakes, MayExpMakes, ExpsMake, StaMakes}
use Rattle.par_program_laws.specs.Makes.{ElseMakes, StasMake, CatchesMake, MakesObjects}
use Rattle.par_typed_laws.specs.Fits.{Fits, IsSure, Takes, LocalTakes, IsReadOf, FieldTakes}
use Rattle.par_typed_laws.specs.Fits.{ParamsTake, IsCallOf, AreOperands, IsReturned, ExpFits}
use Rattle.par_typed_laws.specs.Fits.{MayExpFits, ExpsFit, StaFits, ElseFits, StasFit, CatchesFit}
use Rattle.par_typed_laws.specs.Fits.{ValuesFit}
use Rattle.par_typed_laws.specs.Control.{StaReached, ElseReached, AllReached, CatchesReached}
use Rattle.par_typed_laws.specs.Control.{IsControlled}
use Rattle.par_typed_laws.specs.Signatures.{IsValueType, IsResultType, FieldHasType, ParamHasType}
use Rattle.par_typed_laws.specs.Signatures.{HasSignature, HasSignatures, AreSigned}
use Rattle.par_typed_laws.specs.WellTyped.{NamesMembers}
use Rattle.par_typed_laws.proofs.Lists.{each_is}
use Rattle.par_typed_laws.proofs.Ranges.{MayBe, at_place}
use Rattle.par_typed_laws.proofs.SetFirst.{one_more}
use Rattle.par_typed_laws.proofs.Asked.{IsAskable}
use Rattle.par_typed_laws.proofs.Keeps.{Past, StaKeeps, KeepsThis}

-- ---- types

accepts : (t u : Ty) → IsValue t → Fits t u → Accepts t u
accepts ty.Int u v h = h
accepts ty.Boolean u v h = h
accepts (ty.Class c) ty.Int v h = absurd h
accepts (ty.Class c) ty.Boolean v h = absurd h
accepts (ty.Class c) (ty.Class d) v h = inl (ap ty.Class (sym h))
accepts (ty.Class c) ty.Null v h = inr refl
accepts (ty.Class c) ty.Void v h = absurd h
accepts ty.Null u v h = absurd v
accepts ty.Void u v h = absurd v

compared : (t u : Ty) → Fits t u → AreCompared t u
compared ty.Int u h = h
compared ty.Boolean u h = h
compared (ty.Class c) u h = accepts (ty.Class c) u tt h
compared ty.Null ty.Int h = absurd h
compared ty.Null ty.Boolean h = absurd h
compared ty.Null (ty.Class d) h = inr (d, refl)
compared ty.Null ty.Null h = inl refl
compared ty.Null ty.Void h = absurd h
compared ty.Void u h = absurd h

operates : (o : BinOp) (l r t : Ty) → AreOperands (operand o).ty l r → t ≡ op_type o
    → Operates o l r t
operates op.Or l r t h is = (h.0, h.1, is)
operates op.And l r t h is = (h.0, h.1, is)
operates op.BitOr l r t h is = (h.0, h.1, is)
operates op.BitXor l r t h is = (h.0, h.1, is)
operates op.BitAnd l r t h is = (h.0, h.1, is)
operates op.Eq l r t h is = (compared l r h, is)
operates op.Ne l r t h is = (compared l r h, is)
operates op.Lt l r t h is = (h.0, h.1, is)
operates op.Le l r t h is = (h.0, h.1, is)
operates op.Gt l r t h is = (h.0, h.1, is)
operates op.Ge l r t h is = (h.0, h.1, is)
operates op.Shl l r t h is = (h.0, h.1, is)
operates op.Shr l r t h is = (h.0, h.1, is)
operates op.Ushr l r t h is = (h.0, h.1, is)
operates op.Add l r t h is = (h.0, h.1, is)
operates op.Sub l r t h is = (h.0, h.1, is)
operates op.Mul l r t h is = (h.0, h.1, is)
operates op.Div l r t h is = (h.0, h.1, is)
operates op.Rem l r t h is = (h.0, h.1, is)

sure_of : (b : Bool) (e : TExp) → IsSure b e → b ≡ true → (mark e).sure ≡ true
sure_of true e h is = h
sure_of false e h is = absurd (cc is)

given : (t : Ty) (notnull : Bool) (e : TExp) → IsValue t → Takes t notnull e → IsGiven t notnull e
given t notnull e v h = record {
  accepted = accepts t (mark e).ty v h.0;
  sure = sure_of notnull e h.1;
}

receiver : (class : ℕ) (b : Bool) (o : MayTExp) → is_present o ≡ not b → MayBeObject class o
    → IsReceiver class b o
receiver class true Absent is h = tt
receiver class true (Present e) is h = absurd (cc is)
receiver class false Absent is h = absurd (cc is)
receiver class false (Present e) is h = h

-- ---- what stands in lists

there : {A : Type 0} (xs : List A) (k : ℕ) → k < length xs
    → (x : A) × (slice_get xs k ≡ Some x)
there [] k h = absurd (omega arith)
there (x ∷ xs) zero h = (x, refl)
there (x ∷ xs) (suc k) h = there xs k (omega arith)

policy_within : (table : Table) (o : Option ℕ) (n : ℕ) → MayBePolicy table o → o ≡ Some n
    → n < length table.policies
policy_within table o n h is = subst (MayBePolicy table) is h

-- ---- what a table with signatures declares

module _ (table : Table) where
  value_type : (t : Ty) → IsValueType table t → IsValue t
  value_type ty.Int h = tt
  value_type ty.Boolean h = tt
  value_type (ty.Class c) h = tt
  value_type ty.Null h = absurd h
  value_type ty.Void h = absurd h

  result_type : (t : Ty) → IsResultType table t → IsResult t
  result_type ty.Int h = inl tt
  result_type ty.Boolean h = inl tt
  result_type (ty.Class c) h = inl tt
  result_type ty.Null h = absurd h
  result_type ty.Void h = inr refl

  given_back : (t : Ty) (o : MayTExp) → IsResult t → IsReturned t o → IsGivenBack t o
  given_back t Absent h k = k
  given_back t (Present e) (inl v) k = accepts t (mark e).ty v k
  given_back t (Present e) (inr is) k = absurd (subst (λ u. Fits u (mark e).ty) is k)

  field_value : (o : Option ClassInfo) (k : ℕ) (f : FieldInfo) → MayBe (HasSignatures table) o
      → slice_get (fields_in o) k ≡ Some f → IsValue f.ty
  field_value None k f h is = absurd (cc is)
  field_value (Some c) k f h is =
      value_type f.ty (subst (MayBe (FieldHasType table)) is
      (at_place (FieldHasType table) c.fields k h.fields))

  method_signed : (o : Option ClassInfo) (k : ℕ) (m : MethodInfo) → MayBe (HasSignatures table) o
      → slice_get (methods_in o) k ≡ Some m → HasSignature table m
  method_signed None k m h is = absurd (cc is)
  method_signed (Some c) k m h is =
      subst (MayBe (HasSignature table)) is (at_place (HasSignature table) c.methods k h.methods)

  arguments : (ps : List ParamInfo) (es : TExps) → AllByRecursion (ParamHasType table) ps
      → ParamsTake ps es → AreArguments ps es
  arguments [] NoExps h k = tt
  arguments [] (More e es) h k = absurd k
  arguments (p ∷ ps) NoExps h k = absurd k
  arguments (p ∷ ps) (More e es) h k =
      (given p.ty p.notnull e (value_type p.ty h.0) k.0, arguments ps es h.1 k.1)

-- ---- one form, without its parts

-- local 0 of an instance method is an object of its class
abbrev OwnsThis : Setting → Type 0
OwnsThis s =
    s.method.is_static ≡ false
    → (slice_get s.method.locals 0 ≡ Some (ty.Class s.class)) × (slice_get s.sures 0 ≡ Some true)

module _ (s : Setting) (ok : IsInRange s.table) (signed : AreSigned s.table)
    (values : AllByRecursion IsValue s.method.locals) (own : OwnsThis s)
    (result : IsResult s.method.result) where
  abbrev class_at : (class : ℕ) → MayBe (HasSignatures s.table) (slice_get s.table.classes class)
  class_at class = at_place (HasSignatures s.table) s.table.classes class signed

  new : (class : ℕ) (m : Mark) (o : Option ClassInfo) → slice_get s.table.classes class ≡ o
      → IsOrdinary o → IsMarked (ty.Class class) true m → IsNew s class m
  new class m None is h k = absurd h
  new class m (Some c) is h k = record { info = c; there = is; ordinary = h; marked = k }

  reads_field : (b : Bool) (c f : ℕ) (m : Mark) (o : Option FieldInfo) → field_at s.table c f ≡ o
      → IsField b o → IsReadOf o m → ReadsField s b c f m
  reads_field b c f m None is h k = absurd h
  reads_field b c f m (Some i) is h k = record {
    info = i;
    there = is;
    kind = h;
    value = field_value s.table (slice_get s.table.classes c) f i (class_at c) is;
    marked = k;
  }

  sets_field : (b : Bool) (c f : ℕ) (e : TExp) (o : Option FieldInfo) → field_at s.table c f ≡ o
      → IsField b o → FieldTakes o e → SetsField s b c f e
  sets_field b c f e None is h k = absurd h
  sets_field b c f e (Some i) is h k = record {
    info = i;
    there = is;
    kind = h;
    given =
        given i.ty false e
        (field_value s.table (slice_get s.table.classes c) f i (class_at c) is) k;
  }

  uses_channel : (b : Bool) (c k : ℕ) (o : Option ChannelInfo) → channel_at s.table c k ≡ o
      → IsChannel b o → UsesChannel s b c k
  uses_channel b c k None is h = absurd h
  uses_channel b c k (Some i) is h = record { info = i; there = is; kind = h }

  calls : (c k : ℕ) (o : MayTExp) (es : TExps) (m : Mark) (f : Option MethodInfo)
      → method_at s.table c k ≡ f → IsCalled f o es → MayBeObject c o → IsCallOf f es m
      → CallsMethod s c k o es m
  calls c k o es m None is h on a = absurd h
  calls c k o es m (Some i) is h on a =
      let of = method_signed s.table (slice_get s.table.classes c) k i (class_at c) is in
      record {
        info = i;
        there = is;
        receiver = receiver c i.is_static o h.0 on;
        arguments = arguments s.table i.params es of.params a.1;
        result = result_type s.table i.result of.result;
        marked = a.0;
      }

  local_value : (x : ℕ) (t : Ty) → slice_get s.method.locals x ≡ Some t → IsValue t
  local_value x t is = subst (MayBe IsValue) is (at_place IsValue s.method.locals x values)

  sets_local : (x : ℕ) (policy : Option ℕ) (e : TExp) (o : Option Ty) (b : Option Bool)
      → slice_get s.method.locals x ≡ o → slice_get s.sures x ≡ b → LocalTakes o b e
      → x < length s.method.locals → MayBePolicy s.table policy → Past s.method.is_static x
      → SetsLocal s x policy e
  sets_local x policy e None b is sure h in_range may past = absurd h
  sets_local x policy e (Some t) None is sure h in_range may past = absurd h
  sets_local x policy e (Some t) (Some b) is sure h in_range may past = record {
    takes = t;
    sure = b;
    in_range = in_range;
    local = is;
    local_sure = sure;
    given = given t b e (local_value x t is) h;
    leaves_this =
        λ instance zero_is. let low = past instance in absurd (omega (arith, low, zero_is));
    policy_in_range = λ n is_n. policy_within s.table policy n may is_n;
  }

  is_thrown : (class : ℕ) (o : Option ClassInfo) → slice_get s.table.classes class ≡ o
      → IsException o → IsThrown s class
  is_thrown class None is h = absurd h
  is_thrown class (Some c) is h = record { info = c; there = is; exception = h }

  uses_lock : (lock : ℕ) → IsLock s.table lock → UsesLock s lock
  uses_lock lock h =
      let found = there s.table.locks lock h in record { info = found.0; there = found.1 }

  asks_lock : (lock : ℕ) → IsLock s.table lock → IsAskable s.table lock → AsksLock s lock
  asks_lock lock h ask =
      let found = there s.table.locks lock h in
      let said = ask found.0 found.1 in
      let in_range : LockInRange s.table found.0 =
      subst (MayBe (LockInRange s.table)) found.1
      (at_place (LockInRange s.table) s.table.locks lock ok.locks) in
      record {
        info = found.0;
        there = found.1;
        policy = said.0;
        said = said.1;
        in_range = policy_within s.table found.0.policy said.0 in_range.1 said.1;
      }

  -- ---- all forms

  abbrev HasThis : List ℕ → Type 0
  HasThis set = s.method.is_static ≡ false → IsSet set 0

  abbrev Reads : TExp → Type 0
  Reads e = ExpReads (λ x. x < length s.method.locals) e

  stays_set : (set : List ℕ) (b : TSta) → HasThis set → HasThis (behind set b)
  unfolding behind
  stays_set set (Block ss at p) h = h
  stays_set set (If e b o at p) h = h
  stays_set set (While e b at p) h = h
  stays_set set (Try b cs at p) h = h
  stays_set set (Return e at p) h = h
  stays_set set (Break at p) h = h
  stays_set set (Continue at p) h = h
  stays_set set (Throw class at p) h = h
  stays_set set (Open lock at p) h = h
  stays_set set (Close lock at p) h = h
  stays_set set (SetLocal x policy e at p) h = λ instance. one_more x 0 set (h instance)
  stays_set set (SetStatic c f e at p) h = h
  stays_set set (SetField o c f e at p) h = h
  stays_set set (Eval e at p) h = h
  stays_set set (When lock b o at p) h = h

  mutual
    unfolding ExpIsProper ExpNames ExpMakes ExpFits ExpReads

    exp : (set : List ℕ) (e : TExp) → HasThis set → ExpNames s.table e
        → ExpMakes s.table s.method.is_static e
        → ExpFits s.table s.class s.method.locals s.sures e
        → ExpReads (IsSet set) e → ExpReads (λ x. x < length s.method.locals) e
        → ExpIsProper s set e
    exp set (Int n m) this names makes fits first reads = fits
    exp set (Boolean b m) this names makes fits first reads = fits
    exp set (Null m) this names makes fits first reads = fits
    exp set (This m) this names makes fits first reads = record {
      instance = makes;
      is_set = this makes;
      local = (own makes).0;
      local_sure = (own makes).1;
      marked = fits;
    }
    exp set (New c m) this names makes fits first reads = new c m _ refl makes fits
    exp set (Local x m) this names makes fits first reads = record {
      is_set = first;
      in_range = reads;
      local = fits.0;
      local_sure = fits.1;
      value = local_value x m.ty fits.0;
    }
    exp set (Static c f m) this names makes fits first reads =
        reads_field true c f m _ refl names fits
    exp set (Field e c f m) this names makes fits first reads = (
      names.0,
      reads_field false c f m _ refl names.1 fits.0,
      exp set e this names.2 makes fits.1 first reads,
    )
    exp set (Input c k m) this names makes fits first reads =
        (uses_channel true c k _ refl names, fits)
    exp set (Output c k e m) this names makes fits first reads = (
      uses_channel false c k _ refl names.0,
      fits.0,
      fits.1,
      exp set e this names.1 makes fits.2 first reads,
    )
    exp set (Call c k o es m) this names makes fits first reads = (
      calls c k o es m _ refl names.0 names.1 fits.0,
      may_exp set o this names.2 makes.0 fits.1 first.0 reads.0,
      exps set es this names.3 makes.1 fits.2 first.1 reads.1,
    )
    exp set (Neg e m) this names makes fits first reads =
        (fits.0, fits.1, exp set e this names makes fits.2 first reads)
    exp set (Not e m) this names makes fits first reads =
        (fits.0, fits.1, exp set e this names makes fits.2 first reads)
    exp set (Binary o a b m) this names makes fits first reads = (
      operates o (mark a).ty (mark b).ty m.ty fits.1 fits.0.0,
      fits.0.1,
      exp set a this names.0 makes.0 fits.2 first.0 reads.0,
      exp set b this names.1 makes.1 fits.3 first.1 reads.1,
    )

    may_exp : (set : List ℕ) (o : MayTExp) → HasThis set → MayExpNames s.table o
        → MayExpMakes s.table s.method.is_static o
        → MayExpFits s.table s.class s.method.locals s.sures o
        → MayExpRead (IsSet set) o → MayExpRead (λ x. x < length s.method.locals) o
        → MayExpIsProper s set o
    may_exp set Absent this names makes fits first reads = tt
    may_exp set (Present e) this names makes fits first reads =
        exp set e this names makes fits first reads

    exps : (set : List ℕ) (es : TExps) → HasThis set → ExpsName s.table es
        → ExpsMake s.table s.method.is_static es
        → ExpsFit s.table s.class s.method.locals s.sures es
        → ExpsRead (IsSet set) es → ExpsRead (λ x. x < length s.method.locals) es
        → ExpsAreProper s set es
    exps set NoExps this names makes fits first reads = tt
    exps set (More e es) this names makes fits first reads = (
      exp set e this names.0 makes.0 fits.0 first.0 reads.0,
      exps set es this names.1 makes.1 fits.1 first.1 reads.1,
    )

  mutual
    unfolding StaIsProper StaNames StaMakes StaFits SetsFirst StaInRange StaReached StaUses

    sta : (looped : Bool) (set : List ℕ) (b : TSta) → HasThis set → StaNames s.table b
        → StaMakes s.table s.method.is_static b
        → StaFits s.table s.class s.method.locals s.sures s.method.result b → SetsFirst set b
        → StaInRange s.table (length s.method.locals) b → StaReached looped b
        → StaKeeps s.table s.method.is_static b → StaIsProper s looped set b
    sta looped set (Block bs at p) this names makes fits first ranges reached keeps =
        all looped true set bs this names makes fits first ranges reached keeps
    sta looped set (If e b o at p) this names makes fits first ranges reached keeps = (
      fits.0,
      exp set e this names.0 makes.0 fits.1 first.0 ranges.0,
      sta looped set b this names.1 makes.1 fits.2 first.1 ranges.1 reached.0 keeps.0,
      other looped set o this names.2 makes.2 fits.3 first.2 ranges.2 reached.1 keeps.1,
    )
    sta looped set (While e b at p) this names makes fits first ranges reached keeps = (
      fits.0,
      exp set e this names.0 makes.0 fits.1 first.0 ranges.0,
      sta true set b this names.1 makes.1 fits.2 first.1 ranges.1 reached keeps,
    )
    sta looped set (Try b cs at p) this names makes fits first ranges reached keeps = (
      sta looped set b this names.0 makes.0 fits.0 first.0 ranges.0 reached.0 keeps.0,
      catches looped set cs this names.1 makes.1 fits.1 first.1 ranges.1 reached.1 keeps.1,
    )
    sta looped set (Return o at p) this names makes fits first ranges reached keeps = (
      given_back s.table s.method.result o result fits.0,
      may_exp set o this names makes fits.1 first ranges,
    )
    sta looped set (Break at p) this names makes fits first ranges reached keeps = reached
    sta looped set (Continue at p) this names makes fits first ranges reached keeps = reached
    sta looped set (Throw c at p) this names makes fits first ranges reached keeps =
        is_thrown c _ refl names
    sta looped set (Open lock at p) this names makes fits first ranges reached keeps =
        uses_lock lock ranges
    sta looped set (Close lock at p) this names makes fits first ranges reached keeps =
        uses_lock lock ranges
    sta looped set (SetLocal x policy e at p) this names makes fits first ranges reached keeps = (
      sets_local x policy e _ _ refl refl fits.0 ranges.0 ranges.1 keeps,
      exp set e this names makes fits.1 first ranges.2,
    )
    sta looped set (SetStatic c f e at p) this names makes fits first ranges reached keeps = (
      sets_field true c f e _ refl names.0 fits.0,
      exp set e this names.1 makes fits.1 first ranges,
    )
    sta looped set (SetField o c f e at p) this names makes fits first ranges reached keeps = (
      names.0,
      sets_field false c f e _ refl names.1 fits.0,
      exp set o this names.2 makes.0 fits.1 first.0 ranges.0,
      exp set e this names.3 makes.1 fits.2 first.1 ranges.1,
    )
    sta looped set (Eval e at p) this names makes fits first ranges reached keeps =
        exp set e this names makes fits first ranges
    sta looped set (When lock b o at p) this names makes fits first ranges reached keeps = (
      asks_lock lock ranges.0 keeps.0,
      sta looped set b this names.0 makes.0 fits.0 first.0 ranges.1 reached.0 keeps.1,
      other looped set o this names.1 makes.1 fits.1 first.1 ranges.2 reached.1 keeps.2,
    )

    other : (looped : Bool) (set : List ℕ) (o : MayTSta) → HasThis set → ElseNames s.table o
        → ElseMakes s.table s.method.is_static o
        → ElseFits s.table s.class s.method.locals s.sures s.method.result o
        → ElseSetsFirst set o → ElseInRange s.table (length s.method.locals) o
        → ElseReached looped o → ElseUses (Past s.method.is_static) (IsAskable s.table) o
        → ElseIsProper s looped set o
    other looped set NoElse this names makes fits first ranges reached keeps = tt
    other looped set (Otherwise b) this names makes fits first ranges reached keeps =
        sta looped set b this names makes fits first ranges reached keeps

    all : (looped comes : Bool) (set : List ℕ) (bs : TStas) → HasThis set → StasName s.table bs
        → StasMake s.table s.method.is_static bs
        → StasFit s.table s.class s.method.locals s.sures s.method.result bs
        → AllSetFirst set bs → StasInRange s.table (length s.method.locals) bs
        → AllReached looped comes bs → StasUse (Past s.method.is_static) (IsAskable s.table) bs
        → AllAreProper s looped comes set bs
    all looped comes set End this names makes fits first ranges reached keeps = tt
    all looped comes set (Then b bs) this names makes fits first ranges reached keeps = (
      reached.0,
      sta looped set b this names.0 makes.0 fits.0 first.0 ranges.0 reached.1 keeps.0,
      all looped (completes b) (behind set b) bs (stays_set set b this) names.1 makes.1 fits.1
          first.1 ranges.1 reached.2 keeps.1,
    )

    catches : (looped : Bool) (set : List ℕ) (cs : TCatches) → HasThis set
        → CatchesName s.table cs → CatchesMake s.table s.method.is_static cs
        → CatchesFit s.table s.class s.method.locals s.sures s.method.result cs
        → CatchesSetFirst set cs → CatchesInRange s.table (length s.method.locals) cs
        → CatchesReached looped cs → CatchesUse (Past s.method.is_static) (IsAskable s.table) cs
        → CatchesAreProper s looped set cs
    catches looped set NoCatch this names makes fits first ranges reached keeps = tt
    catches looped set (Catch c b cs) this names makes fits first ranges reached keeps = (
      is_thrown c _ refl names.0,
      sta looped set b this names.1 makes.0 fits.0 first.0 ranges.0 reached.0 keeps.0,
      catches looped set cs this names.2 makes.1 fits.1 first.1 ranges.1 reached.1 keeps.1,
    )

-- ---- bodies

first_type : (class : ℕ) (m : MethodInfo) (ts : List Ty) → BeginsWith (arriving class m) ts
    → m.is_static ≡ false → slice_get ts 0 ≡ Some (ty.Class class)
first_type class m ts (rest, is) instance =
    ap (λ xs. slice_get xs 0) is
    ∙ ap (λ b. slice_get (cond b [] (ty.Class class ∷ []) ++ map (λ p. p.ty) m.params ++ rest) 0)
    instance

first_sure : (m : MethodInfo) (bs : List Bool) → BeginsWith (arriving_sure m) bs
    → m.is_static ≡ false → slice_get bs 0 ≡ Some true
first_sure m bs (rest, is) instance =
    ap (λ xs. slice_get xs 0) is
    ∙ ap (λ b. slice_get (cond b [] (true ∷ []) ++ map (λ p. p.notnull) m.params ++ rest) 0)
    instance

call_sets_this : (m : MethodInfo) → m.is_static ≡ false → IsSet (set_by_call m) 0
call_sets_this m instance =
    let n = length m.params in
    subst (λ b. IsSet (range_with_len 0 (cond b n (suc n))) 0) (sym instance) refl

same_method : (o : Option MethodInfo) (m n : MethodInfo) → o ≡ Some m → o ≡ Some n → n ≡ m
same_method o m n is also = let one : Some n ≡ Some m = sym also ∙ is in cc one

module _ (table : Table) (ok : IsInRange table) (signed : AreSigned table) where
  pub is_proper : (b : Body) → HasMethod table b → NamesMembers table b → MakesObjects table b
      → ValuesFit table b → IsControlled table b → KeepsThis table b → IsProper table b
  is_proper b (m1, h) names (m2, makes) (m, sures, fits) (m4, reached) (m5, keeps) =
      let at = method_at table b.class b.method in
      let one = same_method at m m1 fits.method h.method in
      let two = same_method at m m2 fits.method makes.method in
      let four = same_method at m m4 fits.method reached.method in
      let five = same_method at m m5 fits.method keeps.method in
      let of : HasSignature table m =
      method_signed table (slice_get table.classes b.class) b.method m
      (at_place (HasSignatures table) table.classes b.class signed) fits.method in
      let s : Setting = record { table = table; class = b.class; method = m; sures = sures } in
      let values : AllByRecursion IsValue m.locals =
      each_is (IsValueType table) IsValue m.locals (value_type table) of.locals in
      let given : IsResult m.result = result_type table m.result of.result in (
        m,
        sures,
        record {
          method = fits.method;
          arrive = fits.arrive;
          arrive_sure = fits.arrive_sure;
          locals = values;
          result = given;
          code =
              sta s ok signed values
              (λ instance. (
                first_type b.class m m.locals fits.arrive instance,
                first_sure m sures fits.arrive_sure instance,
              )) given false (set_by_call m) b.body (call_sets_this m) names
              (subst (λ k. StaMakes table k.is_static b.body) two makes.makes) fits.fits
              (subst (λ k. SetsFirst (set_by_call k) b.body) one h.set_first)
              (subst (λ k. StaInRange table (length k.locals) b.body) one h.numbers)
              reached.reached
              (subst (λ k. StaKeeps table k.is_static b.body) five keeps.keeps);
          ended = subst (λ k. IsEnded k.result (completes b.body)) four reached.ended;
        },
      )

  pub all_proper : (bs : List Body) → AllByRecursion (HasMethod table) bs
      → AllByRecursion (NamesMembers table) bs → AllByRecursion (MakesObjects table) bs
      → AllByRecursion (ValuesFit table) bs → AllByRecursion (IsControlled table) bs
      → AllByRecursion (KeepsThis table) bs → AllByRecursion (IsProper table) bs
  all_proper [] h names makes fits reached keeps = tt
  all_proper (b ∷ bs) h names makes fits reached keeps = (
    is_proper b h.0 names.0 makes.0 fits.0 reached.0 keeps.0,
    all_proper bs h.1 names.1 makes.1 fits.1 reached.1 keeps.1,
  )
