-- The passes over the tree of a source.
use Rattle.std.specs.Prelude.{List}
use Rattle.par_tree.specs.Plain.{Source}
use Rattle.par_refusals.specs.declared.refusal.Refusal.{Refusal}
use Rattle.par_refusals.specs.First.{in_passes}
use Rattle.par_resolved.specs.Resolved.{table_of}
use Rattle.par_table.specs.par_faults.Faults.{all_faults}
use Rattle.par_type_rules.specs.Program.{type_faults}
use Rattle.par_type_rules.specs.Inferred.{all_inferred}

-- rules on names, limits, and where these are kept, rules on types
abbrev pub typing_faults : Source → List Refusal
typing_faults source = in_passes (all_faults source) (type_faults (table_of source) source)

-- rules on types, and where they are kept, fields whose policy is left to be inferred
abbrev pub typed_faults : Source → List Refusal
typed_faults source = in_passes (type_faults (table_of source) source) (all_inferred source)

-- the rules on names and the limits come first
abbrev pub tree_faults : Source → List Refusal
tree_faults source = in_passes (all_faults source) (typed_faults source)
