-- Policies by who sees them, with others in place of some.
use Rattle.std.specs.Prelude.{ℕ, suc, cond, List, [], ◌∷◌, IsTrue}
use Rattle.par_policy.specs.declared.clauses.Clause.{Clause}
use Rattle.par_policy.specs.Numbers.{within}
use Rattle.par_policy.specs.Sees.{sees}
use Rattle.par_bits.specs.Sets.{Set}
use Rattle.par_program_laws.specs.Lattice.{Seen}

-- who sees it with some locks sees it with more
abbrev pub IsPolicy : Seen → Type 0
IsPolicy p =
    (actor : ℕ) (few more : List ℕ) → IsTrue (within few more)
    → IsTrue (p actor few) → IsTrue (p actor more)

-- the policies of a table, with others at these numbers
abbrev pub filled : Set → (ℕ → Seen) → List (List Clause) → List Seen
filled is φ [] = []
filled is φ (p ∷ ps) =
    cond (is 0) (φ 0) (sees p) ∷ filled (λ n. is (suc n)) (λ n. φ (suc n)) ps
