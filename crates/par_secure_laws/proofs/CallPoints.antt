-- Facts at calls.
use Rattle.std.proofs.Common.{◌≡◌, ℕ, zero, suc, Bool, true, false, not, Option, Some, None, List}
use Rattle.std.proofs.Common.{[], ◌∷◌, refl, ap, sym, ◌∙◌, subst, arith, length, ◌+◌}
use Rattle.std.specs.Prelude.{IsTrue, slice_get}
use Rattle.par_bits.specs.Sets.{IsWithin}
use Rattle.par_program_laws.specs.Kinds as kind
use Rattle.par_program_laws.specs.Kinds.{Kind}
use Rattle.par_program_laws.specs.Ways as ways
use Rattle.par_program_laws.specs.Ways.{Flows, Lands, MayFlow, MayLand, MayRaise}
use Rattle.par_program_laws.specs.Facts.{Fact, Facts}
use Rattle.par_program_laws.specs.Declares.{Thrown as DThrown, method_of, methods_of, params_of}
use Rattle.par_typed.specs.declared.table.ParamInfo.{ParamInfo}
use Rattle.par_program_laws.specs.Closed as closed
use Rattle.par_values.specs.Areas.{value_or_null}
use Rattle.par_typed.specs.Members.{method_at, methods_in}
use Rattle.par_program_laws.specs.BodyNames.{is_present, IsCalled}
use Rattle.par_alike.specs.Watched.{IsThere}
use Rattle.par_program_laws.specs.BodyNames.{how_many}
use Rattle.par_typed.specs.declared.table.MethodInfo.{MethodInfo}
use Rattle.par_program_laws.specs.Declares.{Method, declares}
use Rattle.par_program_laws.specs.Rules as rules
use Rattle.par_program_laws.specs.Rules.{From, Entry, After, Tested, node, Rules, Node}
use Rattle.par_program_laws.specs.Kinds.{Next, Loop, Catches, Absorber}
use Rattle.par_program_laws.specs.Rules.{can}
use Rattle.par_program_laws.specs.Body.{exp, if_not, args, sta, past}
use Rattle.par_program_laws.specs.Body as body
use Rattle.par_typed.specs.Plain as plain
use Rattle.par_typed.specs.Plain.{TExp, TExps, MayTExp, TSta, TStas, TCatches, Mark, mark, point}
use Rattle.par_alike.specs.par_check_laws.Asked.{Spot}
use Rattle.par_alike.specs.par_check_laws.Checks as checks
use Rattle.std.specs.Prelude.{map}
use Rattle.par_typed.specs.Plain.{Body}
use Rattle.par_run_laws.specs.Meaning.{Calls, calls}
use Rattle.par_values.specs.declared.value.MVal.{MVal}
use Rattle.par_typed.specs.declared.table.ClassInfo.{ClassInfo}
use Rattle.par_run_laws.specs.Tasks.{Thrown, tested, NULL_POINTER}
use Rattle.par_alike.proofs.States.{Watch, FlowsTo, Frame, IsMade, Restores, Sees, Values}
use Rattle.par_alike.proofs.States.{Way}
use Rattle.par_alike.proofs.States.{declared, exits, flows_is, flows_raised, lands_is}
use Rattle.par_alike.proofs.States.{lattice}
use Rattle.par_alike.proofs.States.{raised}
use Rattle.par_secure_laws.proofs.Points.{AllKept, Has, holds_is, open_if_not, open_leaves}
use Rattle.par_secure_laws.proofs.Points.{open_worths, throws_there}
use Rattle.par_alike.proofs.Leaves.{Sound, Throws, first_of, later_of}
use Rattle.par_alike.proofs.Calls.{AreMade, Calling, InStep, Silent, tail_enter}
use Rattle.par_alike.proofs.OneRun.{Tail, tail_higher, tail_paid}
use Rattle.par_alike.proofs.Arguments.{AllMade, AreGiven, all_made, given_env}
use Rattle.par_alike.proofs.Parts.{tail_tested}
use Rattle.par_alike.proofs.TwoRuns.{Step, step_paid}
use Rattle.par_alike.proofs.CallsInStep.{step_enter}

module _ (on : Watch) where
  -- a method as the table declares it
  pub method_is : (c j : ℕ) → (declared on).method c j ≡ method_of (method_at on.table c j)
  unfolding declares
  method_is c j = go (slice_get on.table.classes c)
    where
      go : (x : Option ClassInfo) → methods_of x j ≡ method_of (slice_get (methods_in x) j)
      go None = refl
      go (Some x) = refl

  module _ (a : Facts (lattice on)) where
    -- ---- calls
    -- what a called method throws
    open_thrown : {p : ℕ} (fs : List (Fact (lattice on))) (from : From) (more : Rules)
        (m : Method) (ts : List DThrown)
        → Has on a p None fs (body.thrown (declared on) m from ts more)
        → ((c q : ℕ) → Throws ts c q → MayFlow (lattice on)
        (rules.way (lattice on) (a p).entry fs (rules.Shut m.closes (rules.Raised q from)))
        ((a p).exit (kind.Throw c))) × Has on a p None fs more
    open_thrown fs from more m [] h = ((λ c q t. no_throws c q t), h)
      where
        no_throws : {C : Type 0} (c q : ℕ) → Throws [] c q → C
        no_throws c q t = elim t [ ]
    open_thrown {p} fs from more m (t ∷ ts) h =
        let i = open_leaves on a h in
        let j = open_thrown fs from more m ts i.1 in
        ((λ c q x. pick_throw i.0 j.0 c q x), j.1)
      where
        pick_throw : MayFlow (lattice on)
            (rules.way (lattice on) (a p).entry fs
            (rules.Shut m.closes (rules.Raised t.policy from))) ((a p).exit (kind.Throw t.class))
            → ((c q : ℕ) → Throws ts c q → MayFlow (lattice on)
            (rules.way (lattice on) (a p).entry fs (rules.Shut m.closes (rules.Raised q from)))
            ((a p).exit (kind.Throw c))) → (c q : ℕ) → Throws (t ∷ ts) c q
            → MayFlow (lattice on)
            (rules.way (lattice on) (a p).entry fs (rules.Shut m.closes (rules.Raised q from)))
            ((a p).exit (kind.Throw c))
        pick_throw u v _ _ (first_of _ _) = u
        pick_throw u v c q (later_of _ _ _ _ x) = v c q x

    abbrev pub call_spot : ℕ → List ℕ → From → Spot
    call_spot p ps from = record { point = p; parts = ps; from = from }

    -- a call keeps its checks
    pub calling_of : (sound : Sound on) {p : ℕ} (g : Frame) (ps : List ℕ) (from : From) (c j : ℕ)
        (k : Way on) (at : ℕ) → rules.way (lattice on) (a p).entry (map a ps) from ≡ Some k
        → Has on a p None (map a ps) (body.called (declared on) ((declared on).method c j) from)
        → AllKept on a
        (checks.called on.table g.own at (record { point = p; parts = ps; from = from })
        ((declared on).method c j))
        → Calling on g k (exits on a p) (a p).value ((declared on).method c j)
    unfolding rules.way rules.worth
    calling_of sound {p} g ps from c j k at e h ks =
        let m = (declared on).method c j in
        let t = open_thrown (map a ps) from
        (rules.goes_on (rules.Opened m.opens (rules.Shut m.closes from))
        (rules.Worths (rules.Given m.result) rules.Done)) m m.throws h in
        let l = open_leaves on a t.1 in
        let v = open_worths on a l.1 in
        record {
          expects = holds_is on a _ k (λ w. IsWithin m.expects w.locks) e ks.0;
          closes = holds_is on a _ k (λ w. IsWithin m.closes g.own.closes) e ks.1.0;
          effect = holds_is on a _ k (λ w. Sees on m.effect → IsTrue w.context) e ks.1.1.0;
          around = holds_is on a _ k (λ w. Sees on m.effect → Sees on g.own.effect) e ks.1.1.1.0;
          result = v.0;
          normal =
              lands_is on _ _ _
              (ap (λ z. ways.moved (lattice on) (ways.opened (lattice on) m.opens)
              (ways.moved (lattice on) (ways.shut (lattice on) m.closes) z)) e) l.0;
          throws =
              λ x q y. throws_there on a x _ _ (sound.throws c j x q y)
              (flows_is on _ _ _
              (ap (λ z. ways.moved (lattice on) (ways.shut (lattice on) m.closes)
              (ways.moved (lattice on) (ways.raised (lattice on) ((lattice on).given q)) z)) e)
              (t.0 x q y));
        }

    pub args_past_past : (es : TExps) → body.args_past past es ≡ past
    args_past_past plain.NoExps = refl
    args_past_past (plain.More e es) = refl

    unfoldable pub counted : TExps → ℕ → ℕ
    counted plain.NoExps n = n
    counted (plain.More e es) n = counted es (suc n)

    counted_is : (es : TExps) (n : ℕ) → counted es n ≡ body.args_count es + n
    unfolding counted
    counted_is plain.NoExps n = omega arith
    counted_is (plain.More e es) n = let h = counted_is es (suc n) in omega (arith, h)

    counted_at : (es : TExps) (ps : List ℕ) (n : ℕ)
        → rules.part_at (lattice on) (map a (checks.points_past ps es)) (counted es n)
        ≡ rules.part_at (lattice on) (map a ps) n
    unfolding counted
    counted_at plain.NoExps ps n = refl
    counted_at (plain.More e es) ps n = counted_at es ((mark e).point ∷ ps) (suc n)

    -- the receiver, behind the arguments
    receiver_at : (es : TExps) (q : ℕ) → rules.part_at (lattice on)
        (map a (checks.points_past (q ∷ []) es)) (body.args_count es) ≡ a q
    receiver_at es q =
        let h = counted_is es 0 in
        let i : counted es 0 ≡ body.args_count es = omega (arith, h) in
        subst (λ n. rules.part_at (lattice on) (map a (checks.points_past (q ∷ []) es)) n ≡ a q) i
        (counted_at es (q ∷ []) 0)

    tested_way : (es : TExps) (p q : ℕ) (k : Way on)
        → rules.way (lattice on) (a p).entry (map a (checks.points_past (q ∷ []) es)) past ≡ Some
        k → rules.way (lattice on) (a p).entry (map a (checks.points_past (q ∷ []) es))
        (body.args_tested es) ≡ Some (raised on k (a q).value)
    unfolding rules.way
    tested_way es p q k e =
        subst (λ f. ways.moved (lattice on) (ways.raised (lattice on) f.value)
        (rules.way (lattice on) (a p).entry (map a (checks.points_past (q ∷ []) es)) past)
        ≡ Some (raised on k (a q).value)) (sym (receiver_at es q))
        (ap (ways.moved (lattice on) (ways.raised (lattice on) (a q).value)) e)

    -- a call of a method that is there
    pub enter_tail : (sound : Sound on) (run : Calls) → Silent on run
        → {p : ℕ} (g : Frame) (k : Way on) (c j : ℕ) → IsThere (method_at on.table c j)
        → Calling on g k (exits on a p) (a p).value ((declared on).method c j) → (vs : List MVal)
        → AreMade on vs → Tail on g k (exits on a p) (calls run c j vs)
    enter_tail sound run silent {p} g k c j is q vs mv =
        tail_paid on _
        (tail_enter on g k (exits on a p) (a p).value ((declared on).method c j) q (run c j) vs mv
        (λ u. silent c j is _ _ u))

    pub called_there : (x : Option MethodInfo) (o : MayTExp) (es : TExps) → IsCalled x o es
        → IsThere x
    called_there None o es h = absurd h
    called_there (Some i) o es h = tt

    -- the null test of a receiver, and the call
    pub record Received (p : ℕ) (e : TExp) (es : TExps) (g : Frame) (y : Way on) (c j : ℕ) : Type
        0 where
      pub throw : (mark e).sure ≡ false
          → FlowsTo on (raised on y (a (mark e).point).value) (exits on a p (Thrown NULL_POINTER))
      pub worth : IsTrue (a p).value → IsTrue (a (mark e).point).value
      pub calling : Calling on g (raised on y (a (mark e).point).value) (exits on a p) (a p).value
          ((declared on).method c j)

    -- the null test of a receiver keeps its rules
    pub received : (sound : Sound on) (g : Frame) (y : Way on) (c j : ℕ) (e : TExp) (es : TExps)
        (p at : ℕ) → rules.way (lattice on) (a p).entry
        (map a (checks.points_past ((mark e).point ∷ []) es)) past ≡ Some y
        → Has on a p None (map a (checks.points_past ((mark e).point ∷ []) es))
        (body.null_test e (body.args_tested es)
        (rules.Worths (rules.Value (body.args_count es))
        (body.called (declared on) ((declared on).method c j) (body.args_tested es))))
        → AllKept on a
        (checks.called on.table g.own at
        (record {
          point = p;
          parts = checks.points_past ((mark e).point ∷ []) es;
          from = body.args_tested es;
        }) ((declared on).method c j)) → Received p e es g y c j
    unfolding rules.worth
    received sound g y c j e es p at i h k =
        let t = open_if_not on a (body.args_tested es) (kind.Throw NULL_POINTER) (mark e).sure
        h in
        let v = open_worths on a t.1 in
        let w = tested_way es p (mark e).point y i in
        record {
          throw =
              λ z. throws_there on a NULL_POINTER _ _ sound.null_pointer
              (flows_is on _ _ _ w (t.0 z));
          worth = λ x. subst (λ f. IsTrue f.value) (receiver_at es (mark e).point) (v.0 x);
          calling =
              calling_of sound g (checks.points_past ((mark e).point ∷ []) es)
              (body.args_tested es) c j _ at w v.1 k;
        }

    -- a call on a receiver in one run
    pub receiver_tail : (sound : Sound on) (run : Calls) (silent : Silent on run) (g : Frame)
        (y : Way on) (c j : ℕ) (e : TExp) (es : TExps) (p at : ℕ) (r : MVal) (vs : List MVal)
        → IsThere (method_at on.table c j) → IsMade on r → AllMade on vs
        → rules.way (lattice on) (a p).entry (map a (checks.points_past ((mark e).point ∷ []) es))
        past ≡ Some y → Has on a p None (map a (checks.points_past ((mark e).point ∷ []) es))
        (body.null_test e (body.args_tested es)
        (rules.Worths (rules.Value (body.args_count es))
        (body.called (declared on) ((declared on).method c j) (body.args_tested es))))
        → AllKept on a
        (checks.called on.table g.own at
        (record {
          point = p;
          parts = checks.points_past ((mark e).point ∷ []) es;
          from = body.args_tested es;
        }) ((declared on).method c j))
        → Tail on g y (exits on a p) (tested (mark e).sure r (calls run c j (r ∷ vs)))
    receiver_tail sound run silent g y c j e es p at r vs is ir mv i h k =
        let x = received sound g y c j e es p at i h k in
        tail_higher on (flows_raised on (a (mark e).point).value)
        (tail_tested on (mark e).sure r x.throw
        (enter_tail sound run silent g _ c j is x.calling (r ∷ vs) (all_made on (r ∷ vs) (ir, mv))))

    -- a call in two runs
    pub enter_step : (run run' : Calls) → InStep on run run'
        → {p : ℕ} (g : Frame) (k r : Way on) (c j : ℕ) → IsThere (method_at on.table c j)
        → Calling on g k (exits on a p) (a p).value ((declared on).method c j)
        → (vs vs' : List MVal) → Restores on r (exits on a p) → AreMade on vs → AreMade on vs'
        → ((i : ℕ) → IsTrue ((closed.first (lattice on) ((declared on).method c j)).env i)
        → value_or_null (slice_get vs i) ≡ value_or_null (slice_get vs' i))
        → (((declared on).method c j).is_static ≡ false
        → value_or_null (slice_get vs 0) ≡ value_or_null (slice_get vs' 0))
        → Step on g k (exits on a p) (Values (a p).value) (calls run c j vs) (calls run' c j vs')
    enter_step run run' paired {p} g k r c j is q vs vs' rr mv mv' env th =
        step_paid on _ _
        (step_enter on g k (exits on a p) (a p).value ((declared on).method c j) q (run c j)
        (run' c j) vs vs' r rr mv mv' env th (paired c j is _ _))

    same_length : (ps : List ParamInfo) → length (params_of ps) ≡ length ps
    same_length [] = refl
    same_length (p ∷ ps) = ap suc (same_length ps)

    -- an argument a parameter
    unfoldable pub Aligned : List ℕ → TExps → Type 0
    Aligned [] plain.NoExps = Unit {0}
    Aligned [] (plain.More e es) = ⊥
    Aligned (p ∷ ps) plain.NoExps = ⊥
    Aligned (p ∷ ps) (plain.More e es) = Aligned ps es

    aligned_of : (ps : List ℕ) (es : TExps) → how_many es ≡ length ps → Aligned ps es
    unfolding Aligned
    aligned_of [] plain.NoExps h = tt
    aligned_of [] (plain.More e es) h = absurd cc
    aligned_of (p ∷ ps) plain.NoExps h = absurd cc
    aligned_of (p ∷ ps) (plain.More e es) h =
        aligned_of ps es (let i : how_many es ≡ length ps = cc in i)

    pub called_static : (x : Option MethodInfo) (o : MayTExp) (es : TExps) → IsCalled x o es
        → (is_present o ≡ not (method_of x).is_static) × Aligned (method_of x).params es
    called_static None o es h = absurd h
    called_static (Some m) o es h =
        (h.0, aligned_of (params_of m.params) es (h.1 ∙ sym (same_length m.params)))

    pub static_of : (b : Bool) → false ≡ not b → b ≡ true
    static_of true e = refl
    static_of false e = absurd cc

    pub instance_of : (b : Bool) → true ≡ not b → b ≡ false
    instance_of true e = absurd cc
    instance_of false e = refl

    -- the values of `this` and of the parameters
    pub static_env : (m : Method) → m.is_static ≡ true → (us vs : List MVal)
        → AreGiven on m.params us vs → (i : ℕ) → IsTrue ((closed.first (lattice on) m).env i)
        → value_or_null (slice_get us i) ≡ value_or_null (slice_get vs i)
    static_env m e us vs h i p =
        given_env on m.params us vs h i
        (subst (λ b. IsTrue (closed.locals (lattice on) b m.params i)) e p)

    pub instance_env : (m : Method) → m.is_static ≡ false → (r r' : MVal) → r ≡ r'
        → (us vs : List MVal) → AreGiven on m.params us vs → (i : ℕ)
        → IsTrue ((closed.first (lattice on) m).env i)
        → value_or_null (slice_get (r ∷ us) i) ≡ value_or_null (slice_get (r' ∷ vs) i)
    instance_env m e r r' q us vs h zero p = q
    instance_env m e r r' q us vs h (suc i) p =
        given_env on m.params us vs h i
        (subst (λ b. IsTrue (closed.locals (lattice on) b m.params (suc i))) e p)
