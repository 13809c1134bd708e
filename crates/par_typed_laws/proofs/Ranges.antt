-- Where the numbers of a table and of a body are in range, so are those of the body's rules.
use Rattle.std.proofs.Common.{◌≡◌, ℕ, zero, suc, ◌<◌, Bool, true, false, List, [], ◌∷◌, Option}
use Rattle.std.proofs.Common.{Some, None, IsTrue, refl, sym, subst, arith, ◌||◌, cond}
use Rattle.std.specs.Prelude.{slice_get, nat_eq}
use Rattle.std.specs.List.{AllByRecursion, All}
use Rattle.std.proofs.lemmas.Bool.Decides.{nat_tests}
use Rattle.std.proofs.lemmas.List.Elements.{All-nil, All-cons}
use Rattle.par_program_laws.specs.par_lexer.declared.operator.BinOp.{BinOp}
use Rattle.par_program_laws.specs.par_lexer.declared.operator.BinOp.TheVariants as op
use Rattle.par_program_laws.specs.par_policy.Numbers.{has}
use Rattle.par_bits.specs.Sets.{adding, none}
use Rattle.par_program_laws.specs.par_typed.declared.table.GroundLock.{GroundLock}
use Rattle.par_program_laws.specs.par_typed.declared.table.FieldInfo.{FieldInfo}
use Rattle.par_program_laws.specs.par_typed.declared.table.ChannelInfo.{ChannelInfo}
use Rattle.par_program_laws.specs.par_typed.declared.table.ParamInfo.{ParamInfo}
use Rattle.par_program_laws.specs.par_typed.declared.table.ThrowInfo.{ThrowInfo}
use Rattle.par_program_laws.specs.par_typed.declared.table.MethodInfo.{MethodInfo}
use Rattle.par_program_laws.specs.par_typed.declared.table.ClassInfo.{ClassInfo}
use Rattle.par_program_laws.specs.par_typed.declared.table.Table.{Table}
use Rattle.par_program_laws.specs.par_typed.Plain as plain
use Rattle.par_program_laws.specs.par_typed.Plain.{TExp, TExps, TSta, TStas, TCatches, mark}
use Rattle.par_program_laws.specs.Kinds as kind
use Rattle.par_program_laws.specs.Kinds.{Kind}
use Rattle.par_program_laws.specs.Declares.{Declares, Method, Thrown, NO_METHOD, declares}
use Rattle.par_program_laws.specs.Declares.{method_of}
use Rattle.par_program_laws.specs.Declares.{methods_of, params_of, throws_of, field_of, fields_of}
use Rattle.par_program_laws.specs.Declares.{channel_of, channels_of, birth_of, lock_of, lock_policy}
use Rattle.par_program_laws.specs.Rules.{From, Entry, After, Node, Rules, Leaves, can}
use Rattle.par_program_laws.specs.Body.{exp, args, sta, stas, catches, if_not, divides, second}
use Rattle.par_program_laws.specs.Body.{skips}
use Rattle.par_program_laws.specs.Body.{is_forever, thrown, called, past, tested, args_past}
use Rattle.par_program_laws.specs.Body.{args_tested}
use Rattle.par_program_laws.specs.Ranges as rules
use Rattle.par_program_laws.specs.Ranges.{MOST, IsFromInRange, IsInRange, AreInRange}
use Rattle.par_typed_laws.specs.Tables as tables
use Rattle.par_typed_laws.specs.Tables.{IsPolicy, IsLock, MayBePolicy, ClassInRange, MethodInRange}
use Rattle.par_typed_laws.specs.Tables.{LockInRange, FieldInRange, ChannelInRange, ParamInRange}
use Rattle.par_typed_laws.specs.Tables.{ThrowInRange}
use Rattle.par_typed_laws.specs.Numbers.{ExpReads, ExpsRead, StaInRange, StasInRange}
use Rattle.par_typed_laws.specs.Numbers.{CatchesInRange}

-- ---- what is at a place of a list

abbrev pub MayBe : {A : Type 0} → (A → Type 0) → Option A → Type 0
MayBe P None = Unit {0}
MayBe P (Some x) = P x

pub at_place : {A : Type 0} (P : A → Type 0) (xs : List A) (k : ℕ) → AllByRecursion P xs
    → MayBe P (slice_get xs k)
at_place P [] k h = tt
at_place P (x ∷ xs) zero h = h.0
at_place P (x ∷ xs) (suc k) h = at_place P xs k h.1

-- ---- what a table declares

-- the policies and locks of a method
pub record MethodWithin (m : Method) : Type 0 where
  pub params : All (λ p. p < MOST) m.params
  pub result : m.result < MOST
  pub expects : rules.AreLocks m.expects
  pub opens : rules.AreLocks m.opens
  pub closes : rules.AreLocks m.closes
  pub throws : AllByRecursion (λ t. t.policy < MOST) m.throws

pub record AreWithin (d : Declares) : Type 0 where
  pub field : (c f : ℕ) → d.field c f < MOST
  pub channel : (c k : ℕ) → d.channel c k < MOST
  pub birth : (c : ℕ) → d.birth c < MOST
  pub lock : (l : ℕ) → d.lock l < MOST
  pub method : (c m : ℕ) → MethodWithin (d.method c m)

-- a number of a set is one of the list
in_list : (P : ℕ → Type 0) (xs : List ℕ) (n : ℕ) → AllByRecursion P xs → IsTrue (has xs n) → P n
in_list P [] n h is = absurd (cc is)
in_list P (x ∷ xs) n h is = in_case (in_list P xs n h.1) (nat_eq x n) refl where
  in_case : (IsTrue (has xs n) → P n) → (b : Bool) → nat_eq x n ≡ b → P n
  in_case later true e = let same : x ≡ n = grind (arith, nat_tests) in subst P same h.0
  in_case later false e = later (subst (λ b. IsTrue (b || has xs n)) e is)

module _ (table : Table) (ok : tables.IsInRange table) where
  policy : (n : ℕ) → IsPolicy table n → n < MOST
  policy n h = let most = ok.few_policies in omega arith

  pub lock : (n : ℕ) → IsLock table n → n < MOST
  lock n h = let most = ok.few_locks in omega arith

  locks : (xs : List ℕ) → tables.AreLocks table xs → rules.AreLocks (has xs)
  locks xs h n is = lock n (in_list (IsLock table) xs n h is)

  params_within : (ps : List ParamInfo) → AllByRecursion (ParamInRange table) ps
      → All (λ p. p < MOST) (params_of ps)
  params_within [] h = All-nil (λ p. p < MOST)
  params_within (p ∷ ps) h =
      All-cons (λ q. q < MOST) p.policy (params_of ps) (policy p.policy h.0.1)
      (params_within ps h.1)

  throws_within : (ts : List ThrowInfo) → AllByRecursion (ThrowInRange table) ts
      → AllByRecursion (λ t. t.policy < MOST) (throws_of ts)
  throws_within [] h = tt
  throws_within (t ∷ ts) h = (policy t.policy h.0.1, throws_within ts h.1)

  no_method : MethodWithin NO_METHOD
  no_method = record {
    params = All-nil (λ p. p < MOST);
    result = omega arith;
    expects = λ n is. absurd (cc is);
    opens = λ n is. absurd (cc is);
    closes = λ n is. absurd (cc is);
    throws = tt;
  }

  method_within : (o : Option MethodInfo) → MayBe (MethodInRange table) o
      → MethodWithin (method_of o)
  method_within None h = no_method
  method_within (Some m) h = record {
    params = params_within m.params h.params;
    result = policy m.policy h.policy;
    expects = locks m.expects h.expects;
    opens = locks m.opens h.opens;
    closes = locks m.closes h.closes;
    throws = throws_within m.throws h.throws;
  }

  field_within : (o : Option FieldInfo) → MayBe (FieldInRange table) o → field_of o < MOST
  field_within None h = omega arith
  field_within (Some f) h = policy f.policy h.1

  channel_within : (o : Option ChannelInfo) → MayBe (ChannelInRange table) o → channel_of o < MOST
  channel_within None h = omega arith
  channel_within (Some c) h = policy c.policy h

  lock_within : (o : Option GroundLock) → MayBe (LockInRange table) o → lock_of o < MOST
  lock_within None h = omega arith
  lock_within (Some l) h = may_be l.policy h.1 where
    may_be : (o : Option ℕ) → MayBePolicy table o → lock_policy o < MOST
    may_be None k = omega arith
    may_be (Some n) k = policy n k

  fields_within : (o : Option ClassInfo) → MayBe (ClassInRange table) o → (f : ℕ)
      → fields_of o f < MOST
  fields_within None h f = omega arith
  fields_within (Some c) h f =
      field_within (slice_get c.fields f) (at_place (FieldInRange table) c.fields f h.fields)

  channels_within : (o : Option ClassInfo) → MayBe (ClassInRange table) o → (k : ℕ)
      → channels_of o k < MOST
  channels_within None h k = omega arith
  channels_within (Some c) h k =
      channel_within (slice_get c.channels k) (at_place (ChannelInRange table) c.channels k
      h.channels)

  births_within : (o : Option ClassInfo) → MayBe (ClassInRange table) o → birth_of o < MOST
  births_within None h = omega arith
  births_within (Some c) h = policy c.birth h.birth

  methods_within : (o : Option ClassInfo) → MayBe (ClassInRange table) o → (m : ℕ)
      → MethodWithin (methods_of o m)
  methods_within None h m = no_method
  methods_within (Some c) h m =
      method_within (slice_get c.methods m) (at_place (MethodInRange table) c.methods m h.methods)

  class_at : (c : ℕ) → MayBe (ClassInRange table) (slice_get table.classes c)
  class_at c = at_place (ClassInRange table) table.classes c ok.classes

  pub declared_within : AreWithin (declares table)
  unfolding declares
  declared_within = record {
    field = λ c f. fields_within (slice_get table.classes c) (class_at c) f;
    channel = λ c k. channels_within (slice_get table.classes c) (class_at c) k;
    birth = λ c. births_within (slice_get table.classes c) (class_at c);
    lock =
        λ l. lock_within (slice_get table.locks l) (at_place (LockInRange table) table.locks l
        ok.locks);
    method = λ c m. methods_within (slice_get table.classes c) (class_at c) m;
  }

-- ---- the rules of a body

module _ (locals : ℕ) where
  unless : (b : Bool) (from : From) (kind : Kind) (more : Rules) → IsFromInRange locals from
      → AreInRange locals more
      → AreInRange locals (if_not b (Leaves from kind) more)
  unfolding IsInRange IsFromInRange
  unless true from kind more h rest = rest
  unless false from kind more h rest = (h, rest)

  tested_within : IsFromInRange locals tested
  unfolding IsFromInRange
  tested_within = tt

  divides_within : (o : BinOp) (e : TExp) (more : Rules) → AreInRange locals more
      → AreInRange locals (divides o e more)
  divides_within op.Div e more h = unless _ tested _ more tested_within h
  divides_within op.Rem e more h = unless _ tested _ more tested_within h
  divides_within op.Or e more h = h
  divides_within op.And e more h = h
  divides_within op.BitOr e more h = h
  divides_within op.BitXor e more h = h
  divides_within op.BitAnd e more h = h
  divides_within op.Eq e more h = h
  divides_within op.Ne e more h = h
  divides_within op.Lt e more h = h
  divides_within op.Le e more h = h
  divides_within op.Gt e more h = h
  divides_within op.Ge e more h = h
  divides_within op.Shl e more h = h
  divides_within op.Shr e more h = h
  divides_within op.Ushr e more h = h
  divides_within op.Add e more h = h
  divides_within op.Sub e more h = h
  divides_within op.Mul e more h = h

  skips_within : (o : BinOp) (more : Rules) → AreInRange locals more
      → AreInRange locals (skips o more)
  unfolding IsInRange IsFromInRange
  skips_within op.And more h = (tt, h)
  skips_within op.Or more h = (tt, h)
  skips_within op.Div more h = h
  skips_within op.Rem more h = h
  skips_within op.BitOr more h = h
  skips_within op.BitXor more h = h
  skips_within op.BitAnd more h = h
  skips_within op.Eq more h = h
  skips_within op.Ne more h = h
  skips_within op.Lt more h = h
  skips_within op.Le more h = h
  skips_within op.Gt more h = h
  skips_within op.Ge more h = h
  skips_within op.Shl more h = h
  skips_within op.Shr more h = h
  skips_within op.Ushr more h = h
  skips_within op.Add more h = h
  skips_within op.Sub more h = h
  skips_within op.Mul more h = h

  second_within : (o : BinOp) → IsFromInRange locals (second o)
  unfolding IsFromInRange
  second_within op.And = tt
  second_within op.Or = tt
  second_within op.Div = tt
  second_within op.Rem = tt
  second_within op.BitOr = tt
  second_within op.BitXor = tt
  second_within op.BitAnd = tt
  second_within op.Eq = tt
  second_within op.Ne = tt
  second_within op.Lt = tt
  second_within op.Le = tt
  second_within op.Gt = tt
  second_within op.Ge = tt
  second_within op.Shl = tt
  second_within op.Shr = tt
  second_within op.Ushr = tt
  second_within op.Add = tt
  second_within op.Sub = tt
  second_within op.Mul = tt

  past_within : (es : TExps) → IsFromInRange locals (args_past Entry es)
  unfolding IsFromInRange
  past_within plain.NoExps = tt
  past_within (plain.More e es) = tt

  tests_within : (es : TExps) → IsFromInRange locals (args_tested es)
  unfolding IsFromInRange
  tests_within es = tt

  caught_within : (b : Bool) (class before : ℕ)
      → IsFromInRange locals (cond b (After before (kind.Throw class)) Entry)
  unfolding IsFromInRange
  caught_within true class before = tt
  caught_within false class before = tt

  module _ (d : Declares) (ok : AreWithin d) where
    thrown_within : (m : Method) → MethodWithin m → (from : From) (ts : List Thrown) (more : Rules)
        → AllByRecursion (λ t. t.policy < MOST) ts → IsFromInRange locals from
        → AreInRange locals more → AreInRange locals (thrown d m from ts more)
    unfolding IsInRange IsFromInRange
    thrown_within m h from [] more ps from_in rest = rest
    thrown_within m h from (t ∷ ts) more ps from_in rest =
        ((h.closes, (ps.0, from_in)), thrown_within m h from ts more ps.1 from_in rest)

    called_within : (m : Method) → MethodWithin m → (from : From) → IsFromInRange locals from
        → AreInRange locals (called d m from)
    unfolding IsInRange IsFromInRange
    called_within m h from from_in =
        thrown_within m h from m.throws _ h.throws from_in (
          (h.opens, (h.closes, from_in)),
          (h.result, tt),
        )

    mutual
      unfolding ExpReads exp IsInRange IsFromInRange

      exp_within : (e : TExp) → ExpReads (λ x. x < locals) e → IsInRange locals (exp d e)
      exp_within (plain.Int n m) h = (tt, tt)
      exp_within (plain.Boolean b m) h = (tt, tt)
      exp_within (plain.Null m) h = (tt, tt)
      exp_within (plain.This m) h = (tt, tt)
      exp_within (plain.New class m) h = (tt, (ok.birth class, tt))
      exp_within (plain.Local x m) h = (tt, (h, tt))
      exp_within (plain.Static c f m) h = (tt, (ok.field c f, tt))
      exp_within (plain.Field e c f m) h = (
        tt,
        exp_within e h,
        unless (mark e).sure tested _ _ tested_within
            (tt, (tt, (ok.field c f, tt))),
      )
      exp_within (plain.Input c k m) h = (tt, (ok.channel c k, tt))
      exp_within (plain.Output c k e m) h = (tt, exp_within e h, (tt, tt))
      exp_within (plain.Call c k plain.Absent es m) h =
          args_within Entry es _ tt h.1 (called_within (d.method c k) (ok.method c k)
          (args_past Entry es) (past_within es))
      exp_within (plain.Call c k (plain.Present e) es m) h = (
        tt,
        exp_within e h.0,
        args_within past es _ tt h.1
            (unless (mark e).sure (args_tested es) _ _ (tests_within es)
            (tt, called_within (d.method c k) (ok.method c k) (args_tested es) (tests_within es))),
      )
      exp_within (plain.Neg e m) h = (tt, exp_within e h, (tt, (tt, tt)))
      exp_within (plain.Not e m) h = (tt, exp_within e h, (tt, (tt, tt)))
      exp_within (plain.Binary o a b m) h = (
        tt,
        exp_within a h.0,
        (
          second_within o,
          exp_within b h.1,
          divides_within o b _
              (skips_within o _ (tt, (tt, (tt, tt)))),
        ),
      )

      args_within : (from : From) (es : TExps) (more : Rules) → IsFromInRange locals from
          → ExpsRead (λ x. x < locals) es
          → AreInRange locals more → AreInRange locals (args d from es more)
      args_within from plain.NoExps more from_in h rest = rest
      args_within from (plain.More e es) more from_in h rest =
          (from_in, exp_within e h.0, args_within past es more tt h.1 rest)

module _ (table : Table) (ok : tables.IsInRange table) (locals : ℕ) where
  abbrev d : Declares
  d = declares table

  abbrev within : AreWithin d
  within = declared_within table ok

  one_lock : (l : ℕ) → IsLock table l → rules.AreLocks (adding none l)
  one_lock l h n is = let same : n ≡ l = grind (arith, nat_tests) in subst (λ k. k < MOST)
      (sym same) (lock table ok l h)

  mutual
    unfolding StaInRange sta IsInRange IsFromInRange ExpReads

    pub sta_within : (s : TSta) → StaInRange table locals s → IsInRange locals (sta d s)
    sta_within (plain.Block ss at p) h = stas_within Entry ss tt h
    sta_within (plain.If e s plain.NoElse at p) h =
        (tt, exp_within locals d within e h.0, (tt, (tt, sta_within s h.1, (tt, tt))))
    sta_within (plain.If e s (plain.Otherwise t) at p) h = (
      tt,
      exp_within locals d within e h.0,
      (tt, sta_within s h.1, (tt, (tt, sta_within t h.2, (tt, tt)))),
    )
    sta_within (plain.While e s at p) h = (
      exp_within locals d within e h.0,
      (
        tt,
        unless locals (is_forever e) past kind.Normal _ tt
            (tt, sta_within s h.1, (tt, (tt, (tt, tt)))),
      ),
    )
    sta_within (plain.Try s cs at p) h =
        (tt, sta_within s h.0, (tt, catches_within (sta d s) cs zero h.1))
    sta_within (plain.Return plain.Absent at p) h = (tt, tt)
    sta_within (plain.Return (plain.Present e) at p) h =
        (tt, exp_within locals d within e h, (tt, tt))
    sta_within (plain.Break at p) h = (tt, tt)
    sta_within (plain.Continue at p) h = (tt, tt)
    sta_within (plain.Throw class at p) h = (tt, tt)
    sta_within (plain.Open l at p) h = ((one_lock l h, tt), tt)
    sta_within (plain.Close l at p) h = ((one_lock l h, tt), tt)
    sta_within (plain.SetLocal x policy e at p) h =
        (tt, exp_within locals d within e h.2, ((h.0, tt), tt))
    sta_within (plain.SetStatic c f e at p) h = (tt, exp_within locals d within e h, (tt, tt))
    sta_within (plain.SetField o c f e at p) h = (
      tt,
      exp_within locals d within o h.0,
      (
        tt,
        exp_within locals d within e h.1,
        unless locals
            (mark o).sure _ _ _ tt (tt, tt),
      ),
    )
    sta_within (plain.Eval e at p) h = (tt, exp_within locals d within e h, (tt, tt))
    sta_within (plain.When l s plain.NoElse at p) h =
        (tt, ((one_lock l h.0, (within.lock l, tt)), sta_within s h.1, (tt, tt)))
    sta_within (plain.When l s (plain.Otherwise t) at p) h = (
      (one_lock l h.0, (within.lock l, tt)),
      sta_within s h.1,
      (tt, ((within.lock l, tt), sta_within t h.2, (tt, tt))),
    )

    stas_within : (from : From) (ss : TStas) → IsFromInRange locals from
        → StasInRange table locals ss → AreInRange locals (stas d from ss)
    stas_within from plain.End from_in h = (from_in, tt)
    stas_within from (plain.Then s ss) from_in h =
        (from_in, sta_within s h.0, stas_within past ss tt h.1)

    catches_within : (block : Node) (cs : TCatches) (before : ℕ) → CatchesInRange table locals cs
        → AreInRange locals (catches d block cs before)
    catches_within block plain.NoCatch before h = tt
    catches_within block (plain.Catch class s cs) before h = (
      caught_within locals (can block (kind.Throw class)) class before,
      sta_within s h.0,
      (tt, catches_within block cs (suc before) h.1),
    )
