-- The facts that rounds leave of a body are closed and least.
use Rattle.std.proofs.Common.{◌≡◌, ℕ, zero, suc, ◌<◌, ◌≤◌, Bool, true, false, Some, List, [], ◌∷◌}
use Rattle.std.proofs.Common.{sym, subst, arith}
use Rattle.std.specs.Prelude.{All}
use Rattle.std.proofs.lemmas.Bool.{eqb-true}
use Rattle.std.proofs.lemmas.List.Elements.{All-head, All-tail}
use Rattle.par_bits.specs.Sets.{none, adding}
use Rattle.par_typed.specs.declared.table.Table.{Table}
use Rattle.par_typed.specs.Plain.{Body}
use Rattle.par_program_laws.specs.Lattice.{Lattice, numbers, policies, unseen}
use Rattle.par_program_laws.specs.Facts.{Facts}
use Rattle.par_program_laws.specs.Declares.{Declares, Method, declares}
use Rattle.par_program_laws.specs.Rules.{Node, node, Rules, Done, Part, Test, Heads, Leaves, Worths}
use Rattle.par_program_laws.specs.Rules.{spot}
use Rattle.par_program_laws.specs.Body.{sta}
use Rattle.par_program_laws.specs.Closed.{IsClosed, first, arriving, locals as entering}
use Rattle.par_program_laws.specs.Numbered.{next, next_by, IsNumbered, AreNumbered}
use Rattle.par_program_laws.specs.Ranges.{MOST, IsInRange, AreInRange}
use Rattle.par_pass_laws.specs.par_except.Weight.{IsSmall}
use Rattle.par_pass_laws.specs.Exits.{Way}
use Rattle.par_pass_laws.specs.Pass.{pass}
use Rattle.par_pass_laws.specs.Low.{Stands, AreHeadsLow}
use Rattle.par_pass_laws.specs.Written.{table}
use Rattle.par_pass_laws.specs.Result as result
use Rattle.par_pass_laws.specs.Result.{AreLeast}
use Rattle.par_pass_laws.specs.Seens.{seen_as}
use Rattle.par_pass_laws.specs.Possible.{HasPossibleExits}
use Rattle.par_pass_laws.proofs.Instances.{among, seen, stands, alone}
use Rattle.par_pass_laws.proofs.Points.{next_above}
use Rattle.par_pass_laws.proofs.Tables.{round_low, table_low, table_closed, table_possible, exact}
use Rattle.par_ways.specs.declared.fact.Fact.{Fact}
use Rattle.par_ways.specs.Seen.{seen_facts}
use Rattle.par_rounds.specs.Took.{MayBeSmall}
use Rattle.par_rounds.specs.Passes.{IsPassable, ArePassable}
use Rattle.par_rounds.specs.Rounds.{heads_after, IsSettled}
use Rattle.par_rounds.specs.Bodies.{AreLeastClosed}
use Rattle.par_rounds.proofs.Lows.{raised_low}

-- nodes in range, whose points are below the bound, can be passed
next_least : (rules : Rules) (lo : ℕ) → AreNumbered lo rules → lo ≤ next_by lo rules
unfolding next_by AreNumbered
next_least Done lo x = omega arith
next_least (Part from absorber part more) lo x =
    let g = next_above part lo x.0 in let j = next_least more (next part) x.1 in omega (arith, g, j)
next_least (Test part more) lo x =
    let g = next_above part lo x.0 in let j = next_least more (next part) x.1 in omega (arith, g, j)
next_least (Heads from more) lo x = next_least more lo x
next_least (Leaves from kind more) lo x = next_least more lo x
next_least (Worths v more) lo x = next_least more lo x

spot_is : (n : Node) (lo : ℕ) → IsNumbered lo n → spot n ≡ lo
unfolding IsNumbered
spot_is (node p rules) lo x = x.0

module _ (k points : ℕ) where
  mutual
    unfolding next next_by IsNumbered AreNumbered IsInRange AreInRange IsPassable ArePassable

    pub passable : (n : Node) (lo : ℕ) → IsNumbered lo n → next n ≤ points → IsInRange k n
        → IsPassable k points n
    passable (node p rules) lo x b r = all_passable rules (suc p) x.1 b r

    all_passable : (rules : Rules) (lo : ℕ) → AreNumbered lo rules → next_by lo rules ≤ points
        → AreInRange k rules → ArePassable k points rules
    all_passable Done lo x b r = tt
    all_passable (Part from absorber part more) lo x b r =
        let g = next_least more (next part) x.1 in (
          r.0,
          passable part lo x.0 (omega (arith, g, b)) r.1,
          all_passable more (next part) x.1 b r.2,
        )
    all_passable (Test part more) lo x b r =
        let g = next_least more (next part) x.1 in let j = next_above part lo x.0 in
        let s = spot_is part lo x.0 in (
          omega (arith, g, b, j, s),
          passable part lo x.0 (omega (arith, g, b)) r.0,
          all_passable more (next part) x.1 b r.1,
        )
    all_passable (Heads from more) lo x b r = (r.0, all_passable more lo x b r.1)
    all_passable (Leaves from kind more) lo x b r = (r.0, all_passable more lo x b r.1)
    all_passable (Worths v more) lo x b r = (r.0, all_passable more lo x b r.1)

-- the first way has policies of the table alone
given_small : (p : ℕ) → p < 256 → IsSmall (adding none p)
given_small p h n e = subst (λ k. k < 256) (sym (eqb-true n p e)) h

arriving_small : (ps : List ℕ) (i : ℕ) → All (λ p. p < MOST) ps → IsSmall (arriving numbers ps i)
arriving_small [] i h = λ n e. cc
arriving_small (p ∷ ps) zero h = given_small p (All-head (λ q. q < MOST) p ps h)
arriving_small (p ∷ ps) (suc i) h = arriving_small ps i (All-tail (λ q. q < MOST) p ps h)

entering_small : (static : Bool) (ps : List ℕ) (i : ℕ) → All (λ p. p < MOST) ps
    → IsSmall (entering numbers static ps i)
entering_small true ps i h = arriving_small ps i h
entering_small false ps zero h = λ n e. cc
entering_small false ps (suc i) h = arriving_small ps i h

pub first_small : (m : Method) → All (λ p. p < MOST) m.params → MayBeSmall (Some (first numbers m))
first_small m h = (λ n e. cc, λ i. entering_small m.is_static m.params i h)

module _ (d : Declares) (b : Body) where
  abbrev root : Node
  root = sta d b.body

  abbrev start : Way
  start = first numbers (d.method b.class b.method)

  body_heads_low : (Q : Lattice) (S : Stands Q) (a : Facts Q) → IsClosed Q d b a → (k : ℕ)
      → AreHeadsLow Q S (heads_after root start k) a
  unfolding heads_after
  body_heads_low Q S a c zero = λ i. tt
  body_heads_low Q S a c (suc k) =
      let u = body_heads_low Q S a c k in
      raised_low Q S a (heads_after root start k)
      (pass (heads_after root start k) root start).events u
      (round_low Q S a d b (heads_after root start k) u c)

  module _ (points : ℕ) (rows : List Fact) (s : IsSettled root start points rows) where
    as_settled : result.IsSettled d b (heads_after root start s.rounds) points (seen_facts rows)
    as_settled = record { fits = s.fits; facts = s.rows }

    least_over : (Q : Lattice) (S : Stands Q) → AreLeast Q S d b (table (seen_facts rows))
    least_over Q S =
        λ a c p. table_low Q S a d b (heads_after root start s.rounds) points (seen_facts rows)
        (body_heads_low Q S a c s.rounds) as_settled c p

    closed_rows : IsNumbered 0 root → next root ≤ points
        → IsClosed numbers d b (table (seen_facts rows))
    closed_rows n g =
        table_closed d b (heads_after root start s.rounds) points (seen_facts rows) as_settled n g

    possible_rows : IsNumbered 0 root → next root ≤ points
        → HasPossibleExits numbers (table (seen_facts rows)) root
    possible_rows n g =
        table_possible d b (heads_after root start s.rounds) points (seen_facts rows) as_settled n g

pub rows_least : (t : Table) (b : Body) (points : ℕ) (rows : List Fact)
    → IsSettled (sta (declares t) b.body)
    (first numbers ((declares t).method b.class b.method)) points rows
    → IsNumbered 0 (sta (declares t) b.body) → next (sta (declares t) b.body) ≤ points
    → AreLeastClosed t b (table (seen_facts rows))
rows_least t b points rows s n g =
    let c = closed_rows (declares t) b points rows s n g in
    let l = least_over (declares t) b points rows s numbers among in
    record {
      closed = c;
      sets = l;
      policies = least_over (declares t) b points rows s (policies t.policies) (seen t.policies);
      whichever =
          λ ps. least_over (declares t) b points rows s (seen_as ps) (stands ps);
      locks = least_over (declares t) b points rows s unseen alone;
      exact = exact (declares t) b (table (seen_facts rows)) c l;
      possible = possible_rows (declares t) b points rows s n g;
    }
