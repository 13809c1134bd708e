use Rattle.std.proofs.Common.{◌≡◌, ◌++◌, drop}
use Rattle.par_resolved.specs.Seen.{known_seen}
use Rattle.par_table.specs.Parts.{inferred_policies}
use Rattle.par_table.proofs.policies.push_bottoms.Given as goal

-- those made so far, and those of what is left
abbrev pub invariant-loop-field : goal.invariant-loop-field
invariant-loop-field l =
    l.found.items ++ inferred_policies (known_seen l.known) (drop l.field-index l.fields)
    ≡ l.fn.found.items ++ inferred_policies (known_seen l.known) l.fields
