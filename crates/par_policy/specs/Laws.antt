-- The laws of the order of policies.
use Rattle.std.specs.Prelude.{◌≡◌, ◌↔◌, ℕ, List}
use Rattle.par_policy.specs.declared.clauses.Clause.{Clause}
use Rattle.par_policy.specs.Order.{IsBelow, IsBelowAt}
use Rattle.par_policy.specs.Lattice.{IsJoin, IsMeet, IsSpecialised}
use Rattle.par_policy.specs.Normal.{IsNormal}

abbrev pub OrderIsReflexive : Type 0
OrderIsReflexive = (p : List Clause) → IsBelow p p

abbrev pub OrderIsTransitive : Type 0
OrderIsTransitive = (p q r : List Clause) → IsBelow p q → IsBelow q r → IsBelow p r

-- normal forms that the same observers see are equal lists
abbrev pub OrderIsAntisymmetric : Type 0
OrderIsAntisymmetric =
    (p q : List Clause) → IsNormal p → IsNormal q → IsBelow p q → IsBelow q p → p ≡ q

-- the join is above both, and below all that is above both
abbrev pub JoinIsLeastUpperBound : Type 0
JoinIsLeastUpperBound =
    (join p q : List Clause) → IsJoin join p q
    → IsBelow p join × IsBelow q join
    × ((r : List Clause) → IsBelow p r → IsBelow q r → IsBelow join r)

-- the meet is below both, and above all that is below both
abbrev pub MeetIsGreatestLowerBound : Type 0
MeetIsGreatestLowerBound =
    (meet p q : List Clause) → IsMeet meet p q
    → IsBelow meet p × IsBelow meet q
    × ((r : List Clause) → IsBelow r p → IsBelow r q → IsBelow r meet)

-- open locks let more observers see
abbrev pub OpenLocksLower : Type 0
OpenLocksLower = (p : List Clause) (opened : List ℕ) → IsBelowAt p opened p

-- to be below at open locks is what the specialised policy is
abbrev pub SpecialisedIsBelow : Type 0
SpecialisedIsBelow =
    (special p : List Clause) (opened : List ℕ) → IsSpecialised special p opened
    → IsBelow special p × ((q : List Clause) → IsBelow special q ↔ IsBelowAt p opened q)
