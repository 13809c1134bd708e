-- Facts at points that are closed, and checks that they keep.
use Rattle.std.proofs.Common.{◌≡◌, ℕ, Bool, true, false, ◌&&◌, Option, Some, None, List, [], ◌∷◌}
use Rattle.std.proofs.Common.{◌++◌, refl, ap, sym, subst, length, if◌then◌else◌}
use Rattle.std.specs.Prelude.{IsTrue, nat_lt}
use Rattle.par_bits.specs.Sets.{IsWithin}
use Rattle.par_program_laws.specs.Kinds as kind
use Rattle.par_program_laws.specs.Kinds.{Kind}
use Rattle.par_program_laws.specs.Ways as ways
use Rattle.par_program_laws.specs.Ways.{Flows, Lands, MayFlow, MayLand, MayRaise}
use Rattle.par_program_laws.specs.Facts.{Fact, Facts}
use Rattle.par_program_laws.specs.Rules as rules
use Rattle.par_program_laws.specs.Rules.{From, Entry, After, Tested, node, Rules, Node}
use Rattle.par_program_laws.specs.Kinds.{Next, Loop, Catches, Absorber}
use Rattle.par_program_laws.specs.Rules.{can}
use Rattle.par_program_laws.specs.Body.{exp, if_not}
use Rattle.par_typed.specs.Plain as plain
use Rattle.par_typed.specs.Plain.{TExp, TExps, MayTExp, TSta, TStas, TCatches, Mark, mark, point}
use Rattle.par_alike.specs.par_check_laws.Asked as ask
use Rattle.par_secure_laws.specs.Release.{IsRelease}
use Rattle.par_pass_laws.specs.Possible.{HasPossibleExits, HavePossibleExits}
use Rattle.par_alike.specs.par_check_laws.Asked.{Condition, Check, Spot}
use Rattle.par_alike.specs.par_check_laws.Checks as checks
use Rattle.std.specs.Prelude.{map}
use Rattle.par_typed.specs.Plain.{Body}
use Rattle.par_program_laws.specs.BodyNames.{ExpNames}
use Rattle.par_program_laws.specs.Makes.{ExpMakes}
use Rattle.par_run_laws.specs.Tasks.{Exit, Normal, Broken, Continued, Returned, Thrown}
use Rattle.par_alike.proofs.States.{Watch, FlowsTo, Frame, Leaves, Other, Restores, Sees}
use Rattle.par_alike.proofs.States.{Way}
use Rattle.par_alike.proofs.States.{Writes, broken, continued, declared, exits, flows_is}
use Rattle.par_alike.proofs.States.{kind_of, lattice, raised, ranged, returned, thrown}

module _ (on : Watch) where
  module _ (a : Facts (lattice on)) where
    -- ---- facts at points
    -- an exit by a class of the table is one
    pub unranged : (k : Exit) (x : Option (Way on)) (v : Way on) → ranged on k x ≡ Some v
        → x ≡ Some v
    unranged Normal x v e = e
    unranged Broken x v e = e
    unranged Continued x v e = e
    unranged Returned x v e = e
    unranged (Thrown c) x v e = go (nat_lt c (length on.table.classes)) e
      where
        go : (b : Bool) → (if b then x else None) ≡ Some v → x ≡ Some v
        go true e = e
        go false e = absurd cc

    -- the class is the same
    range_same : (k : Exit) (x y : Option (Way on)) (v w : Way on) → ranged on k x ≡ Some v
        → y ≡ Some w → ranged on k y ≡ Some w
    range_same Normal x y v w e h = h
    range_same Broken x y v w e h = h
    range_same Continued x y v w e h = h
    range_same Returned x y v w e h = h
    range_same (Thrown c) x y v w e h = go (nat_lt c (length on.table.classes)) e
      where
        go : (b : Bool) → (if b then x else None) ≡ Some v → (if b then y else None) ≡ Some w
        go true e = h
        go false e = absurd cc

    -- a completion that is not normal
    pub other_kind : (k : Exit) → Other k → kind.normal (kind_of k) ≡ false
    other_kind _ broken = refl
    other_kind _ continued = refl
    other_kind _ returned = refl
    other_kind _ (thrown c) = refl

    -- a form goes back to a context that is no more visible than those of its other exits
    pub restores_of : (p : ℕ) (w : Way on) → (a p).entry ≡ Some w
        → rules.Restores (lattice on) a p → Restores on w (exits on a p)
    restores_of p w e h = record {
      entry =
          λ z n.
          let held = subst
          (λ x. rules.Holds (lattice on) x
          (λ w. MayRaise (lattice on) (a p).entry w.context
          × ((k : Kind) → kind.normal k ≡ false → MayRaise (lattice on) ((a p).exit k) w.context)))
          n h in
          subst (λ x. MayRaise (lattice on) x z.context) e held.0;
      others =
          λ k z v j n i.
          let held = subst
          (λ x. rules.Holds (lattice on) x
          (λ w. MayRaise (lattice on) (a p).entry w.context
          × ((k : Kind) → kind.normal k ≡ false → MayRaise (lattice on) ((a p).exit k) w.context)))
          n h in
          subst (λ x. MayRaise (lattice on) x z.context) (unranged k _ v i)
          (held.1 (kind_of k) (other_kind k j));
    }

    in_range : (k : Exit) (x y : Option (Way on)) (v : Way on) → ranged on k x ≡ Some v
        → FlowsTo on v y → FlowsTo on v (ranged on k y)
    in_range k x y v e f = record {
      way = f.way;
      there = range_same k x y v f.way e f.there;
      higher = f.higher;
    }

    -- what a part hands on is among the exits of the form
    pub passes : (absorbs : Kind → Bool) (q p : ℕ) → rules.Passes (lattice on) a absorbs q p
        → (k : Exit) (v : Way on) → absorbs (kind_of k) ≡ false → exits on a q k ≡ Some v
        → FlowsTo on v (exits on a p k)
    passes absorbs q p h k v e i =
        in_range k _ _ v i (flows_is on v _ _ (unranged k _ v i) (h (kind_of k) e))

    pub leaves_next : (q p : ℕ) → rules.Passes (lattice on) a kind.normal q p
        → Leaves on (exits on a q) (exits on a p)
    leaves_next q p h k v j i = passes kind.normal q p h k v (other_kind k j) i

    -- a node stands at the point of its expression
    pub spot_exp : (e : TExp) → rules.spot (exp (declared on) e) ≡ (mark e).point
    unfolding exp mark
    spot_exp (plain.Int n m) = refl
    spot_exp (plain.Boolean b m) = refl
    spot_exp (plain.Null m) = refl
    spot_exp (plain.This m) = refl
    spot_exp (plain.New c m) = refl
    spot_exp (plain.Local x m) = refl
    spot_exp (plain.Static c f m) = refl
    spot_exp (plain.Field e c f m) = refl
    spot_exp (plain.Input c k m) = refl
    spot_exp (plain.Output c k e m) = refl
    spot_exp (plain.Call c k plain.Absent es m) = refl
    spot_exp (plain.Call c k (plain.Present e) es m) = refl
    spot_exp (plain.Neg e m) = refl
    spot_exp (plain.Not e m) = refl
    spot_exp (plain.Binary op x y m) = refl

    -- facts that obey the rules of a node, with possible exits alone
    pub record Obey (n : Node) : Type 0 where
      pub it : rules.Obeys (lattice on) a n
      pub possible : HasPossibleExits (lattice on) a n

    -- facts that obey these rules of it
    pub record Has (p : ℕ) (head : Option ℕ) (fs : List (Fact (lattice on))) (rs : Rules) : Type 0
      where
        pub all : rules.ObeysAll (lattice on) a p head fs rs
        pub possible : HavePossibleExits (lattice on) a rs

    -- the rules of a node
    pub open_node : {p : ℕ} {rs : Rules} → Obey (node p rs)
        → rules.Restores (lattice on) a p × Has p None [] rs
    unfolding rules.Obeys HasPossibleExits
    open_node h = let i = h.it in let j = h.possible in (i.0, record { all = i.1; possible = j.1 })

    -- a rule on an exit
    pub open_leaves : {p : ℕ} {head : Option ℕ} {fs : List (Fact (lattice on))} {from : From}
        {k : Kind} {more : Rules} → Has p head fs (rules.Leaves from k more)
        → rules.MayLeave (lattice on) k (rules.way (lattice on) (a p).entry fs from)
        ((a p).exit k) × Has p head fs more
    unfolding rules.ObeysAll HasPossibleExits
    open_leaves h = let i = h.all in (i.0, record { all = i.1; possible = h.possible })

    -- a rule on the value
    pub open_worths : {p : ℕ} {head : Option ℕ} {fs : List (Fact (lattice on))} {v : rules.Worth}
        {more : Rules} → Has p head fs (rules.Worths v more)
        → (IsTrue (a p).value → IsTrue (rules.worth (lattice on) (a p).entry fs v)) × Has p head
        fs more
    unfolding rules.ObeysAll HasPossibleExits
    open_worths h = let i = h.all in (i.0, record { all = i.1; possible = h.possible })

    -- a rule that may not be there
    pub open_if_not : {p : ℕ} {head : Option ℕ} {fs : List (Fact (lattice on))} {more : Rules}
        (from : From) (k : Kind) (b : Bool) → Has p head fs (if_not b (rules.Leaves from k) more)
        → (b ≡ false → rules.MayLeave (lattice on) k (rules.way (lattice on) (a p).entry fs from)
        ((a p).exit k)) × Has p head fs more
    open_if_not from k true h = ((λ e. absurd cc), h)
    open_if_not from k false h = let i = open_leaves h in ((λ e. i.0), i.1)

    pub reached_is : (x : Option (Way on)) (y : Way on) (C : Type 0) → x ≡ Some y
        → rules.WhereReached (lattice on) x C → C
    reached_is None y C e h = absurd cc
    reached_is (Some z) y C e h = h

    -- a part that is an expression
    pub record Piece (p : ℕ) (e : TExp) (from : Option (Way on)) : Type 0 where
      pub enters : MayFlow (lattice on) from (a (mark e).point).entry
      pub obeys : (y : Way on) → (a (mark e).point).entry ≡ Some y → Obey (exp (declared on) e)
      pub leaves : Leaves on (exits on a (mark e).point) (exits on a p)

    pub part_exp : {p : ℕ} {head : Option ℕ} {fs : List (Fact (lattice on))} {from : From}
        {more : Rules} (e : TExp)
        → Has p head fs (rules.Part from Next (exp (declared on) e) more)
        → Piece p e (rules.way (lattice on) (a p).entry fs from) × Has p head
        (a (mark e).point ∷ fs) more
    unfolding rules.ObeysAll HasPossibleExits
    part_exp {p} {head} {fs} {from} {more} e h =
        let k = subst
        (λ q. MayFlow (lattice on) (rules.way (lattice on) (a p).entry fs from) (a q).entry
        × rules.WhereReached (lattice on) (a q).entry
        (rules.Obeys (lattice on) a (exp (declared on) e))
        × rules.Passes (lattice on) a kind.normal q p
        × rules.ObeysAll (lattice on) a p head (a q ∷ fs) more) (spot_exp e) h.all in
        let r = subst
        (λ q. rules.WhereReached (lattice on) (a q).entry
        (HasPossibleExits (lattice on) a (exp (declared on) e))) (spot_exp e) h.possible.0 in (
          record {
            enters = k.0;
            obeys =
                λ y i. record { it = reached_is _ y _ i k.1; possible = reached_is _ y _ i r };
            leaves = leaves_next _ p k.2;
          },
          record { all = k.3; possible = h.possible.1 },
        )

    -- ---- checks
    -- what a condition of this rule says to the observer
    abbrev pub Demand : ℕ → Way on → Condition → Type 0
    Demand rule w (ask.Open locks) = IsWithin locks w.locks
    Demand rule w (ask.Released v p) = IsRelease rule → on.Release p (a v).value w.locks
    Demand rule w (ask.Worth v p) = Sees on p → IsTrue (a v).value
    Demand rule w (ask.Joined v p) = Sees on p → IsTrue ((a v).value && w.context)
    Demand rule w (ask.Context p) = Sees on p → IsTrue w.context
    Demand rule w (ask.Effect e p) = Sees on p → Sees on e
    Demand rule w (ask.Among locks those) = IsWithin locks those
    Demand rule w ask.Never = ⊥

    -- a check that the facts keep for the observer
    abbrev pub Kept : Check → Type 0
    Kept c =
        rules.Holds (lattice on)
        (rules.way (lattice on) (a c.spot.point).entry (map a c.spot.parts) c.spot.from)
        (λ w. Demand c.rule w c.condition)

    abbrev pub AllKept : List Check → Type 0
    AllKept [] = Unit {0}
    AllKept (c ∷ cs) = Kept c × AllKept cs

    -- checks of two lists
    pub kept_app : (cs ds : List Check) → AllKept (cs ++ ds) → AllKept cs × AllKept ds
    kept_app [] ds h = (tt, h)
    kept_app (c ∷ cs) ds h = let r = kept_app cs ds h.1 in ((h.0, r.0), r.1)

    -- a check at a spot that is reached
    pub holds_is : (x : Option (Way on)) (w : Way on) (C : Way on → Type 0) → x ≡ Some w
        → rules.Holds (lattice on) x C → C w
    holds_is x w C e h = subst (λ x. rules.Holds (lattice on) x C) e h

    -- an expression: its names and its checks
    abbrev pub Good : Frame → TExp → Type 0
    Good g e =
        AllKept (checks.exp_checks on.table g.own e) × ExpNames on.table e
        × ExpMakes on.table g.own.is_static e

    -- what learns of a write, where the form is entered
    pub writes_at : (g : Frame) (p to : ℕ) (w : Way on) (rule rule' at : ℕ) → (a p).entry ≡ Some w
        → AllKept
        (checks.ask rule at (checks.entry_of p) (ask.Context to)
        ∷ checks.ask rule' at (checks.entry_of p) (ask.Effect g.own.effect to) ∷ [])
        → Writes on g w to
    unfolding rules.way
    writes_at g p to w rule rule' at e h = record {
      context = holds_is (a p).entry w (λ w. Sees on to → IsTrue w.context) e h.0;
      effect = holds_is (a p).entry w (λ w. Sees on to → Sees on g.own.effect) e h.1.0;
    }

    -- a way with the value of a part in its context
    pub raised_is : (q : ℕ) (n : Way on) → (a q).exit kind.Normal ≡ Some n
        → ways.moved (lattice on) (ways.raised (lattice on) (a q).value) ((a q).exit kind.Normal)
        ≡ Some (raised on n (a q).value)
    raised_is q n e = ap (ways.moved (lattice on) (ways.raised (lattice on) (a q).value)) e

    -- an exception whose class is one of the table
    pub throws_there : (c : ℕ) (v : Way on) (y : Option (Way on))
        → nat_lt c (length on.table.classes) ≡ true → FlowsTo on v y
        → FlowsTo on v (if nat_lt c (length on.table.classes) then y else None)
    throws_there c v y e f = subst (λ b. FlowsTo on v (if b then y else None)) (sym e) f
