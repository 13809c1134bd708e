-- Locks by points.
use Rattle.std.proofs.Common.{◌≡◌, ℕ, zero, suc, Option, None, List, [], ◌∷◌, get_or, refl}
use Rattle.std.specs.Prelude.{map}
use Rattle.par_bits.specs.Sets.{Set}
use Rattle.par_program_laws.specs.Lattice.{numbers}
use Rattle.par_program_laws.specs.Facts.{blank}
use Rattle.par_rounds.specs.par_except.Seen.{may_see}
use Rattle.par_rounds.specs.par_ways.declared.fact.Fact.{Fact}
use Rattle.par_rounds.specs.par_ways.Seen.{seen_facts}
use Rattle.par_locks.specs.Open.{entering}
use Rattle.par_rounds.specs.par_ways.Changes.{may_have}

abbrev pub entered : Fact → Option Set
entered f = entering (may_see f.entry)

-- what is kept of all rows, row by row
pub rows_entered : (ls : List (Option ℕ)) (rows : List Fact)
    → map may_have ls ≡ map entered rows → (p : ℕ)
    → may_have (get_or ls p None) ≡ entering (get_or (seen_facts rows) p (blank numbers)).entry
rows_entered [] [] e p = refl
rows_entered [] (f ∷ fs) e p = absurd (let g : [] ≡ entered f ∷ map entered fs = e in cc)
rows_entered (l ∷ ls) [] e p = absurd (let g : may_have l ∷ map may_have ls ≡ [] = e in cc)
rows_entered (l ∷ ls) (f ∷ fs) e zero =
    let g : may_have l ∷ map may_have ls ≡ entered f ∷ map entered fs = e in cc
rows_entered (l ∷ ls) (f ∷ fs) e (suc p) =
    rows_entered ls fs (let g : may_have l ∷ map may_have ls ≡ entered f ∷ map entered fs = e in cc)
    p
