-- Facts that say as little as there is: nobody sees anything, and no lock is open. They are closed
-- for each body.
use Rattle.std.proofs.Common.{ℕ, List, [], ◌∷◌, Option, Some, None, false}
use Rattle.par_bits.specs.Sets.{none}
use Rattle.par_policy.specs.declared.clauses.Clause.{Clause}
use Rattle.par_typed.specs.Plain.{Body}
use Rattle.par_program_laws.specs.Lattice.{Lattice, Seen, IsSeenBelow, policies}
use Rattle.par_program_laws.specs.Kinds as kind
use Rattle.par_program_laws.specs.Kinds.{Kind}
use Rattle.par_program_laws.specs.Ways.{Way, Lands, MayFlow, MayLand}
use Rattle.par_program_laws.specs.Facts.{Fact, Facts}
use Rattle.par_program_laws.specs.Declares.{Declares}
use Rattle.par_program_laws.specs.Rules.{Node, node, Rules, Done, Part, Test, Heads, Leaves, Worths}
use Rattle.par_program_laws.specs.Rules.{spot}
use Rattle.par_program_laws.specs.Rules.{Restores, MayLeave, Obeys, ObeysAll, MayHead, way}
use Rattle.par_program_laws.specs.Body.{sta}
use Rattle.par_program_laws.specs.Closed.{IsClosed, first}

module _ (P : Lattice) (top : P.Policy) (below : (p : P.Policy) → P.IsBelow p top) where
  abbrev highest : Way P
  highest = record { context = top; env = λ i. top; locks = none }

  abbrev pub heights : Facts P
  heights p = record { entry = Some highest; value = top; exit = λ k. Some highest }

  lands : (w : Way P) → Lands P w highest
  lands w = record { env = λ i. below (w.env i); locks = λ n h. cc }

  flows : (o : Option (Way P)) → MayFlow P o (Some highest)
  flows None = tt
  flows (Some w) = record { context = below w.context; lands = lands w }

  may_land : (o : Option (Way P)) → MayLand P o (Some highest)
  may_land None = tt
  may_land (Some w) = lands w

  leaves : (k : Kind) (o : Option (Way P)) → MayLeave P k o (Some highest)
  leaves kind.Normal o = may_land o
  leaves kind.Return o = flows o
  leaves kind.Break o = flows o
  leaves kind.Continue o = flows o
  leaves (kind.Throw c) o = flows o

  heads : (o : Option ℕ) (w : Option (Way P)) → MayHead P heights o w
  heads None w = tt
  heads (Some test) w = flows w

  restores : (p : ℕ) → Restores P heights p
  restores p = (below top, λ k h. below top)

  mutual
    unfolding Obeys

    obeys : (n : Node) → Obeys P heights n
    obeys (node p rules) = (restores p, obeys_all p None [] rules)

    obeys_all : (p : ℕ) (head : Option ℕ) (fs : List (Fact P)) (rules : Rules)
        → ObeysAll P heights p head fs rules
    obeys_all p head fs Done = tt
    obeys_all p head fs (Part from absorber part more) = (
      flows (way P (Some highest) fs from),
      obeys part,
      λ k h. flows (Some highest),
      obeys_all p head (heights (spot part) ∷ fs) more,
    )
    obeys_all p head fs (Test part more) = (
      obeys part,
      λ k h. flows (Some highest),
      obeys_all p (Some (spot part)) (heights (spot part) ∷ fs) more,
    )
    obeys_all p head fs (Heads from more) =
        (heads head (way P (Some highest) fs from), obeys_all p head fs more)
    obeys_all p head fs (Leaves from k more) =
        (leaves k (way P (Some highest) fs from), obeys_all p head fs more)
    obeys_all p head fs (Worths v more) = (below _, obeys_all p head fs more)

  pub heights_are_closed : (declared : Declares) (b : Body) → IsClosed P declared b heights
  heights_are_closed declared b = record {
    entered = flows (Some (first P (declared.method b.class b.method)));
    obeyed = obeys (sta declared b.body);
  }

-- such facts over the policies of a table
abbrev pub nobody : Seen
nobody actor locks = false

pub below_nobody : (p : Seen) → IsSeenBelow p nobody
below_nobody p actor locks h = cc

abbrev pub lowest_told : (table : List (List Clause)) → Facts (policies table)
lowest_told table = heights (policies table) nobody below_nobody

pub told_are_closed : (table : List (List Clause)) (declared : Declares) (b : Body)
    → IsClosed (policies table) declared b (lowest_told table)
told_are_closed table declared b =
    heights_are_closed (policies table) nobody below_nobody declared b
