-- The facts of points, as they are kept.
use Rattle.std.proofs.Common.{◌≡◌, ℕ, zero, suc, ◌<◌, ◌≤◌, List, [], ◌∷◌, length, get_or}
use Rattle.std.proofs.Common.{refl, arith}
use Rattle.par_program_laws.specs.Lattice.{numbers}
use Rattle.par_program_laws.specs.Facts.{blank}
use Rattle.par_pass_laws.specs.Written.{table}
use Rattle.par_ways.specs.declared.fact.Fact as code_fact
use Rattle.par_ways.specs.Seen.{seen_fact, seen_facts}

-- a point has the row of its place, and behind the last there is none
pub row_at : (rows : List code_fact.Fact) (p : ℕ) (d : code_fact.Fact) → p < length rows
    → table (seen_facts rows) p ≡ seen_fact (get_or rows p d)
row_at [] p d h = absurd (omega (arith, h))
row_at (f ∷ rows) zero d h = refl
row_at (f ∷ rows) (suc p) d h = row_at rows p d (omega (arith, h))

pub row_past : (rows : List code_fact.Fact) (p : ℕ) → length rows ≤ p
    → table (seen_facts rows) p ≡ blank numbers
row_past [] p h = refl
row_past (f ∷ rows) zero h = absurd (omega (arith, h))
row_past (f ∷ rows) (suc p) h = row_past rows p (omega (arith, h))
