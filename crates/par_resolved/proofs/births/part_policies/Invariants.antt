use Rattle.std.proofs.Common.{◌≡◌, ◌++◌, drop}
use Rattle.par_resolved.specs.Births.{part_policies}
use Rattle.par_resolved.specs.Seen.{known_seen}
use Rattle.par_resolved.proofs.births.part_policies.Given as goal

-- those found so far, and those of what is left
abbrev pub invariant-loop-field : goal.invariant-loop-field
invariant-loop-field l =
    l.found.items ++ part_policies (known_seen l.known) (drop l.field-index l.fields)
    ≡ part_policies (known_seen l.known) l.fields
