-- Policies by who sees them, in a list by their numbers.
use Rattle.std.specs.Prelude.{ℕ, zero, suc, true, ◌&&◌, ◌||◌, not, List, [], ◌∷◌}
use Rattle.par_except.specs.par_policy.declared.clauses.Clause.{Clause}
use Rattle.par_except.specs.par_policy.Sees.{sees}
use Rattle.par_bits.specs.Sets.{Set}
use Rattle.par_except.specs.par_program_laws.Lattice.{Lattice, Seen, IsSeenBelow}

-- the policy of a number; what is no policy of the list all see
abbrev pub given_of : List Seen → ℕ → Seen
given_of [] n actor locks = true
given_of (p ∷ ps) zero actor locks = p actor locks
given_of (p ∷ ps) (suc n) actor locks = given_of ps n actor locks

-- the join of the policies with these numbers
abbrev pub join_of : List Seen → Set → Seen
join_of [] s actor locks = true
join_of (p ∷ ps) s actor locks =
    (not (s 0) || p actor locks) && join_of ps (λ n. s (suc n)) actor locks

-- the policies of a list, whichever they are
abbrev pub seen_as : List Seen → Lattice
seen_as ps = record {
  Policy = Seen;
  IsBelow = IsSeenBelow;
  join = λ p q actor locks. p actor locks && q actor locks;
  bottom = λ actor locks. true;
  given = given_of ps;
}

-- those of a table
abbrev pub plain : List (List Clause) → List Seen
plain [] = []
plain (p ∷ ps) = sees p ∷ plain ps
