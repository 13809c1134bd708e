-- Ways over sets of numbers, below ways over a lattice.
use Rattle.std.proofs.Common.{ℕ, zero, suc, Bool, true, false, cond, Option, Some, None, List, []}
use Rattle.std.proofs.Common.{◌∷◌}
use Rattle.std.specs.Prelude.{nat_eq}
use Rattle.par_bits.specs.Sets.{Set}
use Rattle.par_except.specs.par_program_laws.Lattice.{Lattice, numbers}
use Rattle.par_except.specs.par_program_laws.Ways as rules
use Rattle.par_except.specs.par_program_laws.Ways.{raised, assigned, opened, shut, moved}
use Rattle.par_except.specs.par_program_laws.Facts.{Fact, blank}
use Rattle.par_except.specs.par_program_laws.Rules.{From, Entry, After, Tested, Raised, Opened}
use Rattle.par_except.specs.par_program_laws.Rules.{Shut}
use Rattle.par_except.specs.par_program_laws.Rules.{Assigned}
use Rattle.par_except.specs.par_program_laws.Rules.{Worth, Given, Held, Value, way, worth, held}
use Rattle.par_except.specs.par_program_laws.Rules.{part_at}
use Rattle.par_except.specs.Joins.{join}
use Rattle.par_pass_laws.specs.Exits.{Way}
use Rattle.par_pass_laws.specs.Low.{Stands, LandsUnder, FlowsUnder, MayLand, MayFlow, IsLow}
use Rattle.par_pass_laws.proofs.Order.{sub_trans, union_mono, minus_mono, meet_most}

module _ (Q : Lattice) (S : Stands Q) where
  pub may_land : (o : Option Way) (p : Option (rules.Way Q)) → MayFlow Q S o p → MayLand Q S o p
  may_land None p h = tt
  may_land (Some w) None h = absurd h
  may_land (Some w) (Some x) h = h.lands

  lands_up : (w : Way) (x y : rules.Way Q) → LandsUnder Q S w x → rules.Lands Q x y
      → LandsUnder Q S w y
  lands_up w x y f g =
      record { env = λ i. S.up _ _ _ (f.env i) (g.env i); locks = sub_trans _ _ _ g.locks f.locks }

  pub land_up : (o : Option Way) (p q : Option (rules.Way Q)) → MayLand Q S o p
      → rules.MayLand Q p q → MayLand Q S o q
  land_up None p q h k = tt
  land_up (Some w) None q h k = absurd h
  land_up (Some w) (Some x) None h k = absurd k
  land_up (Some w) (Some x) (Some y) h k = lands_up w x y h k

  pub flow_up : (o : Option Way) (p q : Option (rules.Way Q)) → MayFlow Q S o p
      → rules.MayFlow Q p q → MayFlow Q S o q
  flow_up None p q h k = tt
  flow_up (Some w) None q h k = absurd h
  flow_up (Some w) (Some x) None h k = absurd k
  flow_up (Some w) (Some x) (Some y) h k =
      record { context = S.up _ _ _ h.context k.context; lands = lands_up w x y h.lands k.lands }

  join_lands : (w x : Way) (y : rules.Way Q) → LandsUnder Q S w y → LandsUnder Q S x y
      → LandsUnder Q S (join w x) y
  join_lands w x y p q =
      record {
        env = λ i. S.both _ _ _ (p.env i) (q.env i);
        locks = meet_most _ _ _ p.locks q.locks;
      }

  pub may_join_land : (w x : Way) (o : Option (rules.Way Q)) → MayLand Q S (Some w) o
      → MayLand Q S (Some x) o → MayLand Q S (Some (join w x)) o
  may_join_land w x None h k = absurd h
  may_join_land w x (Some y) h k = join_lands w x y h k

  pub may_join : (w x : Way) (o : Option (rules.Way Q)) → MayFlow Q S (Some w) o
      → MayFlow Q S (Some x) o → MayFlow Q S (Some (join w x)) o
  may_join w x None h k = absurd h
  may_join w x (Some y) h k =
      record {
        context = S.both _ _ _ h.context k.context;
        lands = join_lands w x y h.lands k.lands;
      }

  move : (f : Way → Way) (g : rules.Way Q → rules.Way Q)
      → ((w : Way) (x : rules.Way Q) → FlowsUnder Q S w x → FlowsUnder Q S (f w) (g x))
      → (o : Option Way) (p : Option (rules.Way Q)) → MayFlow Q S o p
      → MayFlow Q S (moved numbers f o) (moved Q g p)
  move f g m None p h = tt
  move f g m (Some w) None h = absurd h
  move f g m (Some w) (Some x) h = m w x h

  raise : (u : Set) (v : Q.Policy) → S.IsUnder u v → (w : Way) (x : rules.Way Q)
      → FlowsUnder Q S w x → FlowsUnder Q S (raised numbers u w) (raised Q v x)
  raise u v s w x h =
      record {
        context = S.joined _ _ _ _ h.context s;
        lands = record { env = h.lands.env; locks = h.lands.locks };
      }

  put_low : (b : Bool) (u s : Set) (v p : Q.Policy) → S.IsUnder u v → S.IsUnder s p
      → S.IsUnder (cond b u s) (cond b v p)
  put_low true u s v p h k = h
  put_low false u s v p h k = k

  assign : (i : ℕ) (u : Set) (v : Q.Policy) → S.IsUnder u v → (w : Way) (x : rules.Way Q)
      → FlowsUnder Q S w x → FlowsUnder Q S (assigned numbers i u w) (assigned Q i v x)
  assign i u v s w x h = record {
    context = h.context;
    lands =
        record {
          env =
              λ j. put_low (nat_eq j i) _ (w.env j) _ (x.env j) (S.joined _ _ _ _ s h.context)
              (h.lands.env j);
          locks = h.lands.locks;
        };
  }

  open_low : (l : Set) (w : Way) (x : rules.Way Q) → FlowsUnder Q S w x
      → FlowsUnder Q S (opened numbers l w) (opened Q l x)
  open_low l w x h =
      record {
        context = h.context;
        lands = record { env = h.lands.env; locks = union_mono _ _ _ h.lands.locks };
      }

  shut_low : (l : Set) (w : Way) (x : rules.Way Q) → FlowsUnder Q S w x
      → FlowsUnder Q S (shut numbers l w) (shut Q l x)
  shut_low l w x h =
      record {
        context = h.context;
        lands = record { env = h.lands.env; locks = minus_mono _ _ _ h.lands.locks };
      }

  pub blank_low : (g : Fact Q) → IsLow Q S (blank numbers) g
  blank_low g = record { entry = tt; value = S.least g.value; exit = λ k. tt }

  abbrev pub AreAllLow : List (Fact numbers) → List (Fact Q) → Type 0
  AreAllLow [] [] = Unit {0}
  AreAllLow [] (g ∷ gs) = ⊥
  AreAllLow (f ∷ fs) [] = ⊥
  AreAllLow (f ∷ fs) (g ∷ gs) = IsLow Q S f g × AreAllLow fs gs

  part_low : (fs : List (Fact numbers)) (gs : List (Fact Q)) → AreAllLow fs gs → (n : ℕ)
      → IsLow Q S (part_at numbers fs n) (part_at Q gs n)
  part_low [] [] h n = blank_low (blank Q)
  part_low [] (g ∷ gs) h n = absurd h
  part_low (f ∷ fs) [] h n = absurd h
  part_low (f ∷ fs) (g ∷ gs) h zero = h.0
  part_low (f ∷ fs) (g ∷ gs) h (suc n) = part_low fs gs h.1 n

  pub way_low : (o : Option Way) (p : Option (rules.Way Q)) (fs : List (Fact numbers))
      (gs : List (Fact Q)) → MayFlow Q S o p → AreAllLow fs gs → (from : From)
      → MayFlow Q S (way numbers o fs from) (way Q p gs from)
  unfolding way
  way_low o p fs gs h l Entry = h
  way_low o p fs gs h l (After part k) = (part_low fs gs l part).exit k
  way_low o p fs gs h l (Tested part from) =
      move (raised numbers (part_at numbers fs part).value) (raised Q (part_at Q gs part).value)
      (raise _ _ (part_low fs gs l part).value) (way numbers o fs from) (way Q p gs from)
      (way_low o p fs gs h l from)
  way_low o p fs gs h l (Raised policy from) =
      move (raised numbers (numbers.given policy)) (raised Q (Q.given policy))
      (raise _ _ (S.given policy)) (way numbers o fs from) (way Q p gs from)
      (way_low o p fs gs h l from)
  way_low o p fs gs h l (Opened locks from) =
      move (opened numbers locks) (opened Q locks) (open_low locks) (way numbers o fs from)
      (way Q p gs from) (way_low o p fs gs h l from)
  way_low o p fs gs h l (Shut locks from) =
      move (shut numbers locks) (shut Q locks) (shut_low locks) (way numbers o fs from)
      (way Q p gs from) (way_low o p fs gs h l from)
  way_low o p fs gs h l (Assigned x part from) =
      move (assigned numbers x (part_at numbers fs part).value)
      (assigned Q x (part_at Q gs part).value) (assign x _ _ (part_low fs gs l part).value)
      (way numbers o fs from) (way Q p gs from) (way_low o p fs gs h l from)

  held_low : (w : Way) (p : Option (rules.Way Q)) (x : ℕ) → MayFlow Q S (Some w) p
      → S.IsUnder (w.env x) (held Q p x)
  held_low w None x h = absurd h
  held_low w (Some y) x h = h.lands.env x

  pub worth_low : (w : Way) (p : Option (rules.Way Q)) (fs : List (Fact numbers))
      (gs : List (Fact Q)) → MayFlow Q S (Some w) p → AreAllLow fs gs → (v : Worth)
      → S.IsUnder (worth numbers (Some w) fs v) (worth Q p gs v)
  unfolding worth
  worth_low w p fs gs h l (Given policy) = S.given policy
  worth_low w p fs gs h l (Held x) = held_low w p x h
  worth_low w p fs gs h l (Value part) = (part_low fs gs l part).value
