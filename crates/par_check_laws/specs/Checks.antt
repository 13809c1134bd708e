-- The rules of each expression, each statement and each method.
use Rattle.std.specs.Prelude.{ℕ, Bool, not, cond, nat_eq, Option, Some, None, List, [], ◌∷◌, ◌++◌}
use Rattle.std.specs.Prelude.{length, slice_get}
use Rattle.std.specs.List.{list_any, filter, range_with_len}
use Rattle.par_bits.specs.Sets.{none, adding}
use Rattle.par_pass_laws.specs.par_typed.declared.table.GroundLock.{GroundLock}
use Rattle.par_pass_laws.specs.par_typed.declared.table.ClassInfo.{ClassInfo}
use Rattle.par_pass_laws.specs.par_typed.declared.table.MethodInfo.{MethodInfo}
use Rattle.par_pass_laws.specs.par_typed.declared.table.Table.{Table}
use Rattle.par_pass_laws.specs.par_typed.Plain as typed
use Rattle.par_pass_laws.specs.par_typed.Plain.{TExp, MayTExp, TExps, TSta, MayTSta, TStas}
use Rattle.par_pass_laws.specs.par_typed.Plain.{TCatches}
use Rattle.par_pass_laws.specs.par_typed.Plain.{Body, mark}
use Rattle.par_pass_laws.specs.par_typed.Plain.{point}
use Rattle.par_pass_laws.specs.par_program_laws.Kinds as kind
use Rattle.par_pass_laws.specs.par_program_laws.Declares.{Method, Thrown, declares}
use Rattle.par_pass_laws.specs.par_program_laws.Rules.{From, Entry, After, Tested}
use Rattle.par_pass_laws.specs.par_program_laws.Body.{past, args_past, args_tested}
use Rattle.par_check_laws.specs.Asked.{Condition, Open, Released, Worth, Joined, Context, Effect}
use Rattle.par_check_laws.specs.Asked.{Among}
use Rattle.par_check_laws.specs.Asked.{Never, Spot, Check}

abbrev pub ask : ℕ → ℕ → Spot → Condition → Check
ask rule at spot condition = record { rule = rule; at = at; spot = spot; condition = condition }

-- where the node is entered
abbrev pub entry_of : ℕ → Spot
entry_of p = record { point = p; parts = []; from = Entry }

-- behind the only part of the node
abbrev pub behind : ℕ → TExp → Spot
behind p e = record { point = p; parts = (mark e).point ∷ []; from = past }

abbrev pub lock_written : Option GroundLock → Option ℕ
lock_written None = None
lock_written (Some lock) = lock.policy

-- where an object of the class of this number is written, behind the null test
abbrev pub written_past : TExp → From
written_past o = cond (mark o).sure past (Tested 1 past)

-- the points of arguments behind those of others, the latest first
abbrev pub points_past : List ℕ → TExps → List ℕ
points_past ps typed.NoExps = ps
points_past ps (typed.More e es) = points_past ((mark e).point ∷ ps) es

module _ (table : Table) (own : Method) where
  -- what learns of a write, of an output and of an input
  abbrev pub learns : ℕ → Spot → ℕ → List Check
  learns at spot policy =
      ask 404 at spot (Context policy) ∷ ask 404 at spot (Effect own.effect policy) ∷ []

  -- each argument against its parameter
  abbrev pub arguments : List ℕ → TExps → List Check
  arguments [] es = []
  arguments (p ∷ ps) typed.NoExps = []
  arguments (p ∷ ps) (typed.More e es) =
      ask 405 (mark e).at (entry_of (mark e).point) (Worth (mark e).point p) ∷ arguments ps es

  abbrev pub called : ℕ → Spot → Method → List Check
  called at spot m =
      ask 301 at spot (Open m.expects)
      ∷ ask 302 at spot (Among m.closes own.closes)
      ∷ ask 407 at spot (Context m.effect)
      ∷ ask 407 at spot (Effect own.effect m.effect) ∷ []

  unfoldable mutual
    pub exp_checks : TExp → List Check
    exp_checks (typed.Int n m) = []
    exp_checks (typed.Boolean b m) = []
    exp_checks (typed.Null m) = []
    exp_checks (typed.This m) = []
    exp_checks (typed.New class m) =
        let birth : ℕ = (declares table).birth class in
        ask 409 m.at (entry_of m.point) (Context birth)
        ∷ ask 409 m.at (entry_of m.point) (Effect own.effect birth) ∷ []
    exp_checks (typed.Local x m) = []
    exp_checks (typed.Static c f m) = []
    exp_checks (typed.Field e c f m) = exp_checks e
    exp_checks (typed.Input c k m) =
        learns m.at (entry_of m.point) ((declares table).channel c k)
    exp_checks (typed.Output c k e m) =
        exp_checks e
        ++ ask 403 m.at (behind m.point e) (Released (mark e).point ((declares table).channel c k))
        ∷ learns m.at (behind m.point e) ((declares table).channel c k)
    exp_checks (typed.Call c k typed.Absent es m) =
        args_checks es
        ++ arguments ((declares table).method c k).params es
        ++ called m.at
        (record { point = m.point; parts = points_past [] es; from = args_past Entry es })
        ((declares table).method c k)
    exp_checks (typed.Call c k (typed.Present e) es m) =
        exp_checks e
        ++ args_checks es
        ++ arguments ((declares table).method c k).params es
        ++ called m.at
        (record {
          point = m.point;
          parts = points_past ((mark e).point ∷ []) es;
          from = args_tested es;
        })
        ((declares table).method c k)
    exp_checks (typed.Neg e m) = exp_checks e
    exp_checks (typed.Not e m) = exp_checks e
    exp_checks (typed.Binary op a b m) = exp_checks a ++ exp_checks b

    pub args_checks : TExps → List Check
    args_checks typed.NoExps = []
    args_checks (typed.More e es) = exp_checks e ++ args_checks es

  abbrev pub may_checks : MayTExp → List Check
  may_checks typed.Absent = []
  may_checks (typed.Present e) = exp_checks e

  -- a result against the policy of results
  abbrev pub returned : MayTExp → ℕ → ℕ → List Check
  returned typed.Absent at p = []
  returned (typed.Present e) at p =
      ask 406 at (behind p e) (Joined (mark e).point own.result) ∷ []

  -- what is set against the policy that the local's declaration writes
  abbrev pub set : Option ℕ → TExp → ℕ → ℕ → List Check
  set None e at p = []
  set (Some policy) e at p = ask 410 at (behind p e) (Joined (mark e).point policy) ∷ []

  -- who learns of a lock that is opened or closed; of one without a policy nobody does
  abbrev pub locked : Option ℕ → ℕ → ℕ → List Check
  locked None at p = []
  locked (Some policy) at p =
      ask 411 at (entry_of p) (Context policy)
      ∷ ask 411 at (entry_of p) (Effect own.effect policy) ∷ []

  unfoldable mutual
    pub sta_checks : TSta → List Check
    sta_checks (typed.Block ss at p) = stas_checks ss
    sta_checks (typed.If e s o at p) = exp_checks e ++ sta_checks s ++ other_checks o
    sta_checks (typed.While e s at p) = exp_checks e ++ sta_checks s
    sta_checks (typed.Try s cs at p) = sta_checks s ++ catches_checks cs
    sta_checks (typed.Return e at p) = may_checks e ++ returned e at p
    sta_checks (typed.Break at p) = []
    sta_checks (typed.Continue at p) = []
    sta_checks (typed.Throw class at p) = []
    sta_checks (typed.Open lock at p) = locked (lock_written (slice_get table.locks lock)) at p
    sta_checks (typed.Close lock at p) =
        ask 302 at (entry_of p) (Among (adding none lock) own.closes)
        ∷ locked (lock_written (slice_get table.locks lock)) at p
    sta_checks (typed.SetLocal x policy e at p) = exp_checks e ++ set policy e at p
    sta_checks (typed.SetStatic c f e at p) =
        exp_checks e
        ++ ask 401 at (behind p e) (Released (mark e).point ((declares table).field c f))
        ∷ learns at (behind p e) ((declares table).field c f)
    sta_checks (typed.SetField o c f e at p) =
        let policy : ℕ = (declares table).field c f in
        let spot : Spot = record {
          point = p;
          parts = (mark e).point ∷ (mark o).point ∷ [];
          from = written_past o;
        } in
        exp_checks o
        ++ exp_checks e
        ++ ask 402 at spot (Released (mark e).point policy)
        ∷ ask 408 at spot (Worth (mark o).point policy)
        ∷ learns at spot policy
    sta_checks (typed.Eval e at p) = exp_checks e
    sta_checks (typed.When lock s o at p) = sta_checks s ++ other_checks o

    pub other_checks : MayTSta → List Check
    other_checks typed.NoElse = []
    other_checks (typed.Otherwise s) = sta_checks s

    pub stas_checks : TStas → List Check
    stas_checks typed.End = []
    stas_checks (typed.Then s ss) = sta_checks s ++ stas_checks ss

    pub catches_checks : TCatches → List Check
    catches_checks typed.NoCatch = []
    catches_checks (typed.Catch class s cs) = sta_checks s ++ catches_checks cs

-- the body of the point is left in that way
abbrev pub leaving : ℕ → kind.Kind → Spot
leaving p k = record { point = p; parts = p ∷ []; from = After 0 k }

-- what is thrown against its declared policies
abbrev pub throws_checks : ℕ → ℕ → List Thrown → List Check
throws_checks at p [] = []
throws_checks at p (t ∷ ts) =
    ask 502 at (leaving p (kind.Throw t.class)) (Context t.policy) ∷ throws_checks at p ts

abbrev pub is_thrown : List Thrown → ℕ → Bool
is_thrown ts class = list_any (λ t. nat_eq t.class class) ts

-- the classes that are not declared to be thrown, of so many
abbrev pub others : List Thrown → ℕ → List ℕ
others ts classes = filter (λ class. not (is_thrown ts class)) (range_with_len 0 classes)

abbrev pub undeclared_checks : ℕ → ℕ → List ℕ → List Check
undeclared_checks at p [] = []
undeclared_checks at p (class ∷ classes) =
    ask 501 at (leaving p (kind.Throw class)) Never ∷ undeclared_checks at p classes

-- the ways in which a method is left, at its name
abbrev pub method_checks : Table → Method → ℕ → ℕ → List Check
method_checks table m at p =
    ask 303 at (leaving p kind.Normal) (Open m.opens)
    ∷ ask 303 at (leaving p kind.Return) (Open m.opens)
    ∷ throws_checks at p m.throws
    ++ undeclared_checks at p (others m.throws (length table.classes))

abbrev pub method_at : Option MethodInfo → ℕ
method_at None = 0
method_at (Some m) = m.at

abbrev pub name_at : Option ClassInfo → ℕ → ℕ
name_at None m = 0
name_at (Some class) m = method_at (slice_get class.methods m)

-- all that is asked of the facts of a body
abbrev pub checks : Table → Body → List Check
checks table b =
    let own : Method = (declares table).method b.class b.method in
    sta_checks table own b.body
    ++ method_checks table own (name_at (slice_get table.classes b.class) b.method) (point b.body)
