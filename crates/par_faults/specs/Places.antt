-- Where rules on names and limits are broken.
use Rattle.std.specs.Prelude.{ℕ}
use Rattle.par_tree.specs.Plain.{Source}
use Rattle.par_faults.specs.par_span_laws.Broken.{AreBrokenWithin}
use Rattle.par_faults.specs.par_span_laws.Within.{IsWithin}
use Rattle.par_faults.specs.Faults.{all_faults}

-- none is broken behind the last place of the tree
abbrev pub FaultsLieWithin : Type 0
FaultsLieWithin =
    (m : ℕ) (source : Source) → IsWithin m source → AreBrokenWithin m (all_faults source)
