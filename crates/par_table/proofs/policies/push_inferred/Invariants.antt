use Rattle.std.proofs.Common.{◌≡◌, ◌++◌, drop}
use Rattle.std.specs.List.{flat_map}
use Rattle.par_resolved.specs.Seen.{known_seen}
use Rattle.par_parts.specs.Gathered.{classes_of}
use Rattle.par_table.specs.Parts.{inferred_policies}
use Rattle.par_table.proofs.policies.push_inferred.Given as goal

-- those made so far, and those of what is left
abbrev pub invariant-loop-class : goal.invariant-loop-class
invariant-loop-class l =
    l.found.items ++ flat_map (λ c. inferred_policies (known_seen l.known) c.fields)
    (classes_of (drop l.class-index l.classes))
    ≡ l.fn.found.items ++ flat_map (λ c. inferred_policies (known_seen l.known) c.fields)
    (classes_of l.classes)
