-- Where rules on names are broken.
use Rattle.std.specs.Prelude.{ℕ}
use Rattle.par_tree.specs.Plain.{Source}
use Rattle.par_span_laws.specs.Broken.{AreBrokenWithin}
use Rattle.par_span_laws.specs.Within.{IsWithin}
use Rattle.par_names.specs.Program.{name_faults}

-- no rule on names is broken behind the last place of the tree
abbrev pub NamesAreBrokenWithin : Type 0
NamesAreBrokenWithin =
    (m : ℕ) (source : Source) → IsWithin m source → AreBrokenWithin m (name_faults source)
