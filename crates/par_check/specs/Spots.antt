-- What is known at a spot.
use Rattle.std.specs.Prelude.{ℕ, Option, Some, None, List, [], ◌∷◌, map}
use Rattle.par_asked.specs.par_program_laws.Lattice.{numbers}
use Rattle.par_asked.specs.par_program_laws.Kinds.{Normal}
use Rattle.par_asked.specs.par_program_laws.Facts.{Facts}
use Rattle.par_asked.specs.par_program_laws.Rules.{way}
use Rattle.par_asked.specs.declared.check.Way.{Way}
use Rattle.par_asked.specs.Seen.{seen_spot}
use Rattle.par_flow.specs.Standing.{Standing, standing}

unfoldable pub at_spot : Facts numbers → ℕ → Way → Option Standing
at_spot f p w =
    standing
    (way numbers (f (seen_spot p w).point).entry (map f (seen_spot p w).parts) (seen_spot p w).from)

-- behind the part at the point, or where the node is entered
abbrev pub behind : Facts numbers → ℕ → Option ℕ → Option Standing
behind f p None = standing (f p).entry
behind f p (Some part) = standing ((f part).exit Normal)

abbrev pub listed : Option ℕ → List ℕ
listed None = []
listed (Some p) = p ∷ []
