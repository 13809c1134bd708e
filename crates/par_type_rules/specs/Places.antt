-- Where rules on types are broken.
use Rattle.std.specs.Prelude.{ℕ}
use Rattle.par_tree.specs.Plain.{Source}
use Rattle.par_completes.specs.par_typed.declared.table.Table.{Table}
use Rattle.par_span_laws.specs.Within.{IsWithin}
use Rattle.par_span_laws.specs.Broken.{AreBrokenWithin}
use Rattle.par_type_rules.specs.Program.{type_faults}

-- no rule on types is broken behind the last place of the tree
abbrev pub TypesAreBrokenWithin : Type 0
TypesAreBrokenWithin =
    (m : ℕ) (table : Table) (source : Source)
    → IsWithin m source → AreBrokenWithin m (type_faults table source)
