-- Policies, by what the rules of flow ask of them.
use Rattle.std.specs.Prelude.{ℕ, suc, Bool, true, ◌&&◌, ◌||◌, not, Option, Some, None, List, []}
use Rattle.std.specs.Prelude.{◌∷◌, IsTrue, slice_get}
use Rattle.par_typed.specs.par_policy.declared.clauses.Clause.{Clause}
use Rattle.par_typed.specs.par_policy.Sees.{sees}
use Rattle.par_typed.specs.par_bits.Sets.{Set, none, adding, union, IsWithin}

-- an order with joins, and the policies of a table by their numbers
pub record Lattice : Type 1 where
  pub Policy : Type 0
  pub IsBelow : Policy → Policy → Type 0
  pub join : Policy → Policy → Policy
  -- below all others
  pub bottom : Policy
  pub given : ℕ → Policy

-- a policy by who sees it: an actor with a set of locks
abbrev pub Seen : Type 0
Seen = ℕ → List ℕ → Bool

-- who sees the second sees the first
abbrev pub IsSeenBelow : Seen → Seen → Type 0
IsSeenBelow p q = (actor : ℕ) (locks : List ℕ) → IsTrue (q actor locks) → IsTrue (p actor locks)

-- what a number stands for where it is that of no policy of the table: nothing, and all see it
abbrev pub seen_by : Option (List Clause) → Seen
seen_by None actor locks = true
seen_by (Some p) actor locks = sees p actor locks

-- the policies of a table, by who sees them
abbrev pub policies : List (List Clause) → Lattice
policies table = record {
  Policy = Seen;
  IsBelow = IsSeenBelow;
  join = λ p q actor locks. p actor locks && q actor locks;
  bottom = λ actor locks. true;
  given = λ n. seen_by (slice_get table n);
}

-- sets of policy numbers, each of which stands for the join of its policies
abbrev pub numbers : Lattice
numbers = record {
  Policy = Set;
  IsBelow = IsWithin;
  join = union;
  bottom = none;
  given = adding none;
}

-- the join of the policies with these numbers
unfoldable pub joined : List (List Clause) → Set → Seen
joined [] s actor locks = true
joined (p ∷ ps) s actor locks =
    (not (s 0) || sees p actor locks) && joined ps (λ n. s (suc n)) actor locks

-- one policy, where locks alone are asked for
abbrev pub unseen : Lattice
unseen = record {
  Policy = Unit {0};
  IsBelow = λ p q. Unit {0};
  join = λ p q. tt;
  bottom = tt;
  given = λ n. tt;
}
