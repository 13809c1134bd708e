-- Facts at statements.
use Rattle.std.proofs.Common.{◌≡◌, ℕ, zero, suc, Bool, true, false, cond, ◌&&◌, Option, Some}
use Rattle.std.proofs.Common.{None, List, [], ◌∷◌, refl, ap, sym, ◌∙◌, subst, arith, length}
use Rattle.std.specs.Prelude.{IsTrue, nat_lt, slice_get}
use Rattle.std.proofs.lemmas.Bool.{lt-ltb}
use Rattle.std.proofs.lemmas.Bool.Decides.{nat_tests}
use Rattle.std.proofs.Common.{◌<◌}
use Rattle.par_program_laws.specs.Kinds as kind
use Rattle.par_program_laws.specs.Kinds.{Kind}
use Rattle.par_program_laws.specs.Ways as ways
use Rattle.par_program_laws.specs.Ways.{Flows, Lands, MayFlow, MayLand, MayRaise}
use Rattle.par_program_laws.specs.Facts.{Fact, Facts}
use Rattle.par_program_laws.specs.Rules as rules
use Rattle.par_program_laws.specs.Rules.{From, Entry, After, Tested, node, Rules, Node}
use Rattle.par_program_laws.specs.Kinds.{Next, Loop, Catches, Absorber}
use Rattle.par_program_laws.specs.Rules.{can}
use Rattle.par_program_laws.specs.Body.{exp, if_not, args, sta, past}
use Rattle.par_program_laws.specs.Body as body
use Rattle.par_typed.specs.Plain as plain
use Rattle.par_typed.specs.Plain.{TExp, TExps, MayTExp, TSta, TStas, TCatches, Mark, mark, point}
use Rattle.par_alike.specs.par_check_laws.Asked as ask
use Rattle.par_pass_laws.specs.Possible.{HasPossibleExits}
use Rattle.par_program_laws.specs.Rules.{node, Node}
use Rattle.par_alike.specs.par_check_laws.Asked.{Condition, Check, Spot}
use Rattle.par_alike.specs.par_check_laws.Checks as checks
use Rattle.std.specs.Prelude.{map}
use Rattle.par_typed.specs.Plain.{Body}
use Rattle.par_program_laws.specs.BodyNames.{StaNames, IsException}
use Rattle.par_secure_laws.proofs.Needs.{StaReady}
use Rattle.par_program_laws.specs.Makes.{StaMakes}
use Rattle.par_typed.specs.declared.table.ClassInfo.{ClassInfo}
use Rattle.par_run_laws.specs.Tasks.{Exit, Thrown}
use Rattle.par_alike.specs.par_check_laws.Checks.{lock_written}
use Rattle.std.proofs.lemmas.Bool.{and_from}
use Rattle.par_alike.proofs.States.{Watch, FlowsTo, Frame, Leaves, Merges, Sees, Way, Writes}
use Rattle.par_alike.proofs.States.{declared, exits, flows_is, kind_of, lands_is, lattice}
use Rattle.par_alike.proofs.States.{raised}
use Rattle.par_secure_laws.proofs.Points.{AllKept, Has, Obey, holds_is, leaves_next, other_kind}
use Rattle.par_secure_laws.proofs.Points.{passes, reached_is, spot_exp, unranged, writes_at}
use Rattle.par_alike.proofs.Locks.{Learns}

module _ (on : Watch) where
  module _ (a : Facts (lattice on)) where
    -- ---- statements
    -- a node stands at the point of its statement
    spot_sta : (s : TSta) → rules.spot (sta (declared on) s) ≡ point s
    unfolding sta point
    spot_sta (plain.Block ss at p) = refl
    spot_sta (plain.If e s plain.NoElse at p) = refl
    spot_sta (plain.If e s (plain.Otherwise t) at p) = refl
    spot_sta (plain.While e s at p) = refl
    spot_sta (plain.Try s cs at p) = refl
    spot_sta (plain.Return plain.Absent at p) = refl
    spot_sta (plain.Return (plain.Present e) at p) = refl
    spot_sta (plain.Break at p) = refl
    spot_sta (plain.Continue at p) = refl
    spot_sta (plain.Throw c at p) = refl
    spot_sta (plain.Open l at p) = refl
    spot_sta (plain.Close l at p) = refl
    spot_sta (plain.SetLocal x q e at p) = refl
    spot_sta (plain.SetStatic c f e at p) = refl
    spot_sta (plain.SetField e c f y at p) = refl
    spot_sta (plain.Eval e at p) = refl
    spot_sta (plain.When l s plain.NoElse at p) = refl
    spot_sta (plain.When l s (plain.Otherwise t) at p) = refl

    -- a part that is a statement
    pub record Stretch (p : ℕ) (s : TSta) (absorber : Absorber) (from : Option (Way on)) : Type 0
      where
        pub enters : MayFlow (lattice on) from (a (point s)).entry
        pub obeys : (y : Way on) → (a (point s)).entry ≡ Some y → Obey on a (sta (declared on) s)
        pub leaves : (k : Exit) (v : Way on) → kind.absorbed absorber (kind_of k) ≡ false
            → exits on a (point s) k ≡ Some v → FlowsTo on v (exits on a p k)

    -- the rules of a part
    pub part_sta : {p : ℕ} {head : Option ℕ} {fs : List (Fact (lattice on))} {from : From}
        {absorber : Absorber} {more : Rules} (s : TSta)
        → Has on a p head fs (rules.Part from absorber (sta (declared on) s) more)
        → Stretch p s absorber (rules.way (lattice on) (a p).entry fs from) × Has on a p head
        (a (point s) ∷ fs) more
    unfolding rules.ObeysAll HasPossibleExits
    part_sta {p} {head} {fs} {from} {absorber} {more} s h =
        let k = subst
        (λ q. MayFlow (lattice on) (rules.way (lattice on) (a p).entry fs from) (a q).entry
        × rules.WhereReached (lattice on) (a q).entry
        (rules.Obeys (lattice on) a (sta (declared on) s))
        × rules.Passes (lattice on) a (kind.absorbed absorber) q p
        × rules.ObeysAll (lattice on) a p head (a q ∷ fs) more) (spot_sta s) h.all in
        let r = subst
        (λ q. rules.WhereReached (lattice on) (a q).entry
        (HasPossibleExits (lattice on) a (sta (declared on) s))) (spot_sta s) h.possible.0 in (
          record {
            enters = k.0;
            obeys =
                λ y i. record {
                  it = reached_is on a _ y _ i k.1;
                  possible = reached_is on a _ y _ i r;
                };
            leaves = λ n v e i. passes on a (kind.absorbed absorber) _ p k.2 n v e i;
          },
          record { all = k.3; possible = h.possible.1 },
        )

    -- possible exits of a node
    at_spot : (n : Node) → HasPossibleExits (lattice on) a n → (k : Kind) → can n k ≡ false
        → (a (rules.spot n)).exit k ≡ None
    unfolding HasPossibleExits
    at_spot (node p rs) h = h.0

    -- a statement has no exit for a completion that is not possible
    pub only_possible : (s : TSta) → Obey on a (sta (declared on) s) → (k : Kind)
        → can (sta (declared on) s) k ≡ false → (a (point s)).exit k ≡ None
    only_possible s ob k e =
        subst (λ p. (a p).exit k ≡ None) (spot_sta s)
        (at_spot (sta (declared on) s) ob.possible k e)

    -- what a part hands on
    pub next_leaves : {p : ℕ} {s : TSta} {from : Option (Way on)} → Stretch p s Next from
        → Leaves on (exits on a (point s)) (exits on a p)
    next_leaves h k v j i = h.leaves k v (other_kind on a k j) i

    -- and where the part is the last
    pub merges_of : {p : ℕ} {s : TSta} {from : Option (Way on)} → Stretch p s Next from
        → MayLand (lattice on) ((a (point s)).exit kind.Normal) ((a p).exit kind.Normal)
        → Merges on (exits on a (point s)) (exits on a p)
    merges_of h l = record { normal = λ v e. lands_is on v _ _ e l; leaves = next_leaves h }

    -- the test of a loop
    pub open_test : {p : ℕ} {head : Option ℕ} {fs : List (Fact (lattice on))} {more : Rules}
        (e : TExp) → Has on a p head fs (rules.Test (exp (declared on) e) more)
        → ((y : Way on) → (a (mark e).point).entry ≡ Some y → Obey on a (exp (declared on) e))
        × Leaves on (exits on a (mark e).point) (exits on a p) × Has on a p (Some (mark e).point)
        (a (mark e).point ∷ fs) more
    unfolding rules.ObeysAll HasPossibleExits
    open_test {p} {head} {fs} {more} e h =
        let k = subst
        (λ q. rules.WhereReached (lattice on) (a q).entry
        (rules.Obeys (lattice on) a (exp (declared on) e))
        × rules.Passes (lattice on) a kind.normal q p
        × rules.ObeysAll (lattice on) a p (Some q) (a q ∷ fs) more) (spot_exp on a e) h.all in
        let r = subst
        (λ q. rules.WhereReached (lattice on) (a q).entry
        (HasPossibleExits (lattice on) a (exp (declared on) e))) (spot_exp on a e) h.possible.0 in (
          (λ y i. record {
            it = reached_is on a _ y _ i k.0;
            possible = reached_is on a _ y _ i r;
          }),
          leaves_next on a _ p k.1,
          record { all = k.2; possible = h.possible.1 },
        )

    -- the way back to the head of a loop
    pub open_heads : {p : ℕ} {q : ℕ} {fs : List (Fact (lattice on))} {from : From} {more : Rules}
        → Has on a p (Some q) fs (rules.Heads from more)
        → MayFlow (lattice on) (rules.way (lattice on) (a p).entry fs from) (a q).entry × Has on a
        p (Some q) fs more
    unfolding rules.ObeysAll HasPossibleExits
    open_heads h = let i = h.all in (i.0, record { all = i.1; possible = h.possible })

    -- a statement: its checks, its names, and what else is needed
    abbrev pub GoodSta : Frame → TSta → Type 0
    GoodSta g s =
        AllKept on a (checks.sta_checks on.table g.own s) × StaNames on.table s
        × StaMakes on.table g.own.is_static s × StaReady on.table g.own.is_static s

    -- who learns of a lock that is opened or closed
    pub learns_of : (g : Frame) (w : Way on) (l p at : ℕ) (x : Option ℕ)
        → x ≡ lock_written (slice_get on.table.locks l) → (a p).entry ≡ Some w
        → AllKept on a (checks.locked on.table g.own x at p) → Learns on g w l
    unfolding rules.way
    learns_of g w l p at None e i h q is = absurd cc
    learns_of g w l p at (Some n) e i h q is =
        let same : n ≡ q = cc in
        subst (λ q. Writes on g w q) same (writes_at on a g p n w 411 411 at i h)

    -- a class that is thrown is one of the table
    pub throw_ranged : (c : ℕ) → IsException (slice_get on.table.classes c)
        → nat_lt c (length on.table.classes) ≡ true
    throw_ranged c h = in_list on.table.classes c h
      where
        in_list : (cs : List ClassInfo) (c : ℕ) → IsException (slice_get cs c)
            → nat_lt c (length cs) ≡ true
        in_list [] c h = absurd h
        in_list (x ∷ cs) zero h = lt-ltb 0 (length (x ∷ cs)) (omega arith)
        in_list (x ∷ cs) (suc c) h =
            lt-ltb (suc c) (length (x ∷ cs))
            (
            let i = in_list cs c h in
            let j : c < length cs = grind (arith, nat_tests) in
            omega (arith, j))

    abbrev catches_from : TSta → ℕ → ℕ → From
    catches_from s c before = body.caught_from (declared on) (sta (declared on) s) c before

    -- a throw reaches the catch of its class
    pub handler_flows : {p : ℕ} {t : TSta} (fs : List (Fact (lattice on))) (s : TSta) (c c' : ℕ)
        (v : Way on) (before : ℕ) → rules.part_at (lattice on) fs before ≡ a (point s)
        → exits on a (point s) (Thrown c) ≡ Some v
        → (can (sta (declared on) s) (kind.Throw c) ≡ false
        → (a (point s)).exit (kind.Throw c) ≡ None) → c' ≡ c
        → Stretch p t Next (rules.way (lattice on) (a p).entry fs (catches_from s c' before))
        → FlowsTo on v (a (point t)).entry
    unfolding rules.way
    handler_flows {p} {t} fs s c c' v before at e sharp same u =
        let there : (a (point s)).exit (kind.Throw c) ≡ Some v = unranged on a (Thrown c) _ v e in
        let may : can (sta (declared on) s) (kind.Throw c) ≡ true = is_so
        (can (sta (declared on) s) (kind.Throw c))
        (λ z. let gone = sharp z in let bad : None ≡ Some v = sym gone ∙ there in cc) in
        let enters = subst
        (λ c'. MayFlow (lattice on)
        (rules.way (lattice on) (a p).entry fs (catches_from s c' before)) (a (point t)).entry)
        same u.enters in
        let enters' = subst
        (λ b. MayFlow (lattice on)
        (rules.way (lattice on) (a p).entry fs (cond b (After before (kind.Throw c)) Entry))
        (a (point t)).entry) may enters in
        flows_is on v _ _ (ap (λ f. f.exit (kind.Throw c)) at ∙ there) enters'
      where
        is_so : (b : Bool) → (b ≡ false → ⊥) → b ≡ true
        is_so true h = refl
        is_so false h = absurd (h refl)

    abbrev field_spot : ℕ → TExp → TExp → Spot
    field_spot p y e = record {
      point = p;
      parts = (mark e).point ∷ (mark y).point ∷ [];
      from = checks.written_past y;
    }

    abbrev pub field_asks : Frame → ℕ → TExp → TExp → ℕ → ℕ → ℕ → List Check
    field_asks g p y e c f at =
        checks.ask 402 at (field_spot p y e)
        (ask.Released (mark e).point ((declared on).field c f))
        ∷ checks.ask 408 at (field_spot p y e)
        (ask.Worth (mark y).point ((declared on).field c f))
        ∷ checks.learns on.table g.own at (field_spot p y e) ((declared on).field c f)

    -- the way at a write to a field of an object, behind its null test
    pub record Written (p : ℕ) (y e : TExp) (j : Way on) : Type 0 where
      pub way : Way on
      pub is : rules.way (lattice on) (a p).entry (map a ((mark e).point ∷ (mark y).point ∷ []))
          (checks.written_past y) ≡ Some way
      pub locks : way.locks ≡ j.locks
      pub context : IsTrue way.context → IsTrue (a (mark y).point).value
          → IsTrue (j.context && (a (mark y).point).value)

    -- the way at a write to a field of an object
    pub written_way : (p : ℕ) (y e : TExp) (j : Way on)
        → (a (mark e).point).exit kind.Normal ≡ Some j → Written p y e j
    unfolding rules.way
    written_way p y e j i = go (mark y).sure refl
      where
        V : Bool
        V = (a (mark y).point).value

        go : (b : Bool) → (mark y).sure ≡ b → Written p y e j
        go true q = record {
          way = j;
          is =
              subst (λ b. rules.way (lattice on) (a p).entry
              (map a ((mark e).point ∷ (mark y).point ∷ [])) (cond b past (Tested 1 past))
              ≡ Some j) (sym q) i;
          locks = refl;
          context = λ u v. and_from j.context (a (mark y).point).value u v;
        }
        go false q = record {
          way = raised on j (a (mark y).point).value;
          is =
              subst (λ b. rules.way (lattice on) (a p).entry
              (map a ((mark e).point ∷ (mark y).point ∷ [])) (cond b past (Tested 1 past))
              ≡ Some (raised on j (a (mark y).point).value)) (sym q)
              (ap (ways.moved (lattice on) (ways.raised (lattice on) (a (mark y).point).value)) i);
          locks = refl;
          context = λ u v. u;
        }

    -- what learns of that write
    pub field_writes : (g : Frame) (p : ℕ) (y e : TExp) (c f at : ℕ) (j : Way on)
        → (a (mark e).point).exit kind.Normal ≡ Some j → AllKept on a (field_asks g p y e c f at)
        → Writes on g (raised on j (a (mark y).point).value) ((declared on).field c f)
    field_writes g p y e c f at j i k =
        let w = written_way p y e j i in
        record {
          context =
              λ v. w.context
              (holds_is on a _ w.way (λ w. Sees on ((declared on).field c f) → IsTrue w.context)
              w.is k.1.1.0 v)
              (holds_is on a _ w.way
              (λ w. Sees on ((declared on).field c f) → IsTrue (a (mark y).point).value) w.is
              k.1.0 v);
          effect =
              holds_is on a _ w.way
              (λ w. Sees on ((declared on).field c f) → Sees on g.own.effect) w.is k.1.1.1.0;
        }
