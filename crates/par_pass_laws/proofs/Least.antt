-- What a pass finds is below all closed facts that are above its heads.
use Rattle.std.proofs.Common.{◌≡◌, ℕ, Bool, false, Option, Some, None, List, [], ◌∷◌, ◌++◌}
use Rattle.par_except.specs.par_program_laws.Lattice.{Lattice, numbers}
use Rattle.par_except.specs.par_program_laws.Kinds as kind
use Rattle.par_except.specs.par_program_laws.Kinds.{Kind, normal, absorbed}
use Rattle.par_except.specs.par_program_laws.Ways as rules
use Rattle.par_except.specs.par_program_laws.Facts.{Fact, Facts}
use Rattle.par_except.specs.par_program_laws.Rules.{Node, node, Rules, Done, Part, Test, Heads}
use Rattle.par_except.specs.par_program_laws.Rules.{Leaves}
use Rattle.par_except.specs.par_program_laws.Rules.{Worths}
use Rattle.par_except.specs.par_program_laws.Rules.{spot, way, worth, WhereReached, MayLeave}
use Rattle.par_except.specs.par_program_laws.Rules.{MayHead}
use Rattle.par_except.specs.par_program_laws.Rules.{Restores}
use Rattle.par_except.specs.par_program_laws.Rules.{Obeys, ObeysAll}
use Rattle.par_pass_laws.specs.Exits.{Way, all, leaving, restored, leave}
use Rattle.par_pass_laws.specs.Pass.{HeadWays, Event, Found, nothing, fact, visited, ended, into}
use Rattle.par_pass_laws.specs.Pass.{pass}
use Rattle.par_pass_laws.specs.Pass.{pass_all}
use Rattle.par_pass_laws.specs.Low.{Stands, MayFlow, IsLow, AreLow, AreHeadsLow}
use Rattle.par_pass_laws.proofs.Under.{may_land, land_up, flow_up, blank_low, AreAllLow, way_low}
use Rattle.par_pass_laws.proofs.Under.{worth_low}
use Rattle.par_pass_laws.proofs.Lies.{AllLie, Below, lie_all, lie_landed, lie_left, lie_leaving}
use Rattle.par_pass_laws.proofs.Lies.{restored_below, at_below}

module _ (Q : Lattice) (S : Stands Q) (a : Facts Q) where
  low_both : (xs ys : List Event) → AreLow Q S a xs → AreLow Q S a ys → AreLow Q S a (xs ++ ys)
  low_both [] ys h k = k
  low_both (x ∷ xs) ys h k = (h.0, low_both xs ys h.1 k)

  -- what is found of the node at the point
  pub record LowFound (p : ℕ) (r : Found) : Type 0 where
    pub value : S.IsUnder r.value (a p).value
    pub exits : Below Q S (a p).exit r.exits
    pub events : AreLow Q S a r.events

  -- the same before its end
  pub record LowSoFar (p : ℕ) (r : Found) : Type 0 where
    pub value : S.IsUnder r.value (a p).value
    pub exits : AllLie Q S (a p).exit r.exits
    pub events : AreLow Q S a r.events

  fact_low : (q : ℕ) (o : Option Way) (r : Found) → MayFlow Q S o (a q).entry → LowFound q r
      → IsLow Q S (fact o r) (a q)
  fact_low q o r m f =
      record { entry = m; value = f.value; exit = at_below Q S (a q).exit r.exits f.exits }

  there : (C : Type 0) (w : Way) (o : Option (rules.Way Q)) → MayFlow Q S (Some w) o
      → WhereReached Q o C → C
  there C w None h c = absurd h
  there C w (Some x) h c = c

  visited_low : (q : ℕ) (C : Type 0) (o : Option Way) (f : Way → Found) → MayFlow Q S o (a q).entry
      → WhereReached Q (a q).entry C
      → ((w : Way) → MayFlow Q S (Some w) (a q).entry → C → LowFound q (f w))
      → LowFound q (visited o q f)
  visited_low q C None f m c ih =
      record { value = S.least (a q).value; exits = tt; events = (blank_low Q S (a q), tt) }
  visited_low q C (Some w) f m c ih = ih w m (there C w (a q).entry m c)

  ended_low : (p : ℕ) (w : Way) (r : Found) → MayFlow Q S (Some w) (a p).entry → Restores Q a p
      → LowSoFar p r → LowFound p (ended p w r)
  ended_low p w r m c l =
      let b : Below Q S (a p).exit (restored w r.exits) =
      restored_below Q S (a p).exit w (a p).entry r.exits m c l.exits in
      record {
        value = l.value;
        exits = b;
        events =
            low_both r.events _ l.events (
              record {
                entry = m;
                value = l.value;
                exit = at_below Q S (a p).exit (restored w r.exits) b;
              },
              tt,
            );
      }

  part_so_far : (p q : ℕ) (absorbs : Kind → Bool) (r s : Found) → LowSoFar p r → LowFound q s
      → ((k : Kind) → absorbs k ≡ false → rules.MayFlow Q ((a q).exit k) ((a p).exit k))
      → LowSoFar p (record {
        value = r.value;
        exits = all (leaving absorbs s.exits) r.exits;
        events = r.events ++ s.events;
      })
  part_so_far p q absorbs r s l f e = record {
    value = l.value;
    exits =
        lie_all Q S (a p).exit (leaving absorbs s.exits) r.exits
        (lie_leaving Q S (a p).exit (a q).exit absorbs s.exits f.exits e) l.exits;
    events = low_both r.events s.events l.events f.events;
  }

  lie_leave : (f : Kind → Option (rules.Way Q)) (kind : Kind) (o : Option Way)
      (p : Option (rules.Way Q)) → MayFlow Q S o p → MayLeave Q kind p (f kind)
      → AllLie Q S f (leave o kind)
  lie_leave f kind.Normal o p m c =
      lie_landed Q S f o (land_up Q S o p (f kind.Normal) (may_land Q S o p m) c)
  lie_leave f kind.Return o p m c =
      lie_left Q S f o kind.Return (flow_up Q S o p (f kind.Return) m c)
  lie_leave f kind.Break o p m c = lie_left Q S f o kind.Break (flow_up Q S o p (f kind.Break) m c)
  lie_leave f kind.Continue o p m c =
      lie_left Q S f o kind.Continue (flow_up Q S o p (f kind.Continue) m c)
  lie_leave f (kind.Throw e) o p m c =
      lie_left Q S f o (kind.Throw e) (flow_up Q S o p (f (kind.Throw e)) m c)

  head_low : (head : Option ℕ) (o : Option Way) (p : Option (rules.Way Q)) → MayFlow Q S o p
      → MayHead Q a head p → AreLow Q S a (into head o)
  head_low None o p m c = tt
  head_low (Some t) o p m c = (flow_up Q S o p (a t).entry m c, tt)

  module _ (h : HeadWays) (under : AreHeadsLow Q S h a) where
    mutual
      unfolding pass pass_all Obeys ObeysAll

      pub pass_low : (n : Node) (w : Way) → MayFlow Q S (Some w) (a (spot n)).entry → Obeys Q a n
          → LowFound (spot n) (pass h n w)
      pass_low (node p rules) w m c =
          ended_low p w (pass_all h rules w None [] nothing) m c.0
          (all_low p rules w None [] [] nothing m tt c.1
          (record { value = S.least (a p).value; exits = tt; events = tt }))

      all_low : (p : ℕ) (rules : Rules) (w : Way) (head : Option ℕ) (fs : List (Fact numbers))
          (gs : List (Fact Q)) (r : Found) → MayFlow Q S (Some w) (a p).entry
          → AreAllLow Q S fs gs → ObeysAll Q a p head gs rules → LowSoFar p r
          → LowSoFar p (pass_all h rules w head fs r)
      all_low p Done w head fs gs r m l c s = s
      all_low p (Part from absorber part more) w head fs gs r m l c s =
          let o = way numbers (Some w) fs from in let q = visited o (spot part) (pass h part) in
          let e : MayFlow Q S o (a (spot part)).entry =
          flow_up Q S o (way Q (a p).entry gs from) (a (spot part)).entry
          (way_low Q S (Some w) (a p).entry fs gs m l from) c.0 in
          let f = visited_low (spot part) (Obeys Q a part) o (pass h part) e c.1 (pass_low part) in
          all_low p more w head (fact o q ∷ fs) (a (spot part) ∷ gs) _ m
          (fact_low (spot part) o q e f, l) c.3
          (part_so_far p (spot part) (absorbed absorber) r q s f c.2)
      all_low p (Test part more) w head fs gs r m l c s =
          let o = h (spot part) in let q = visited o (spot part) (pass h part) in
          let f =
          visited_low (spot part) (Obeys Q a part) o (pass h part) (under (spot part)) c.0
          (pass_low part) in
          all_low p more w (Some (spot part)) (fact o q ∷ fs) (a (spot part) ∷ gs) _ m
          (fact_low (spot part) o q (under (spot part)) f, l) c.2
          (part_so_far p (spot part) normal r q s f c.1)
      all_low p (Heads from more) w head fs gs r m l c s =
          all_low p more w head fs gs _ m l c.1
          (record {
            value = s.value;
            exits = s.exits;
            events =
                low_both r.events _ s.events
                (head_low head (way numbers (Some w) fs from) (way Q (a p).entry gs from)
                (way_low Q S (Some w) (a p).entry fs gs m l from) c.0);
          })
      all_low p (Leaves from kind more) w head fs gs r m l c s =
          let o = way numbers (Some w) fs from in
          all_low p more w head fs gs _ m l c.1
          (record {
            value = s.value;
            exits = lie_all Q S (a p).exit (leave o kind) r.exits
                (lie_leave (a p).exit kind o (way Q (a p).entry gs from)
                (way_low Q S (Some w) (a p).entry fs gs m l from) c.0) s.exits;
            events = s.events;
          })
      all_low p (Worths v more) w head fs gs r m l c s =
          all_low p more w head fs gs _ m l c.1
          (record {
            value =
                S.both r.value (worth numbers (Some w) fs v) (a p).value s.value
                (S.up _ _ _ (worth_low Q S w (a p).entry fs gs m l v) c.0);
            exits = s.exits;
            events = s.events;
          })
