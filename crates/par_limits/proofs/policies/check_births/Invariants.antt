use Rattle.std.proofs.Common.{◌≡◌, drop}
use Rattle.std.specs.List.{flat_map}
use Rattle.par_refusals.specs.First.{first_of}
use Rattle.par_resolved.specs.Births.{birth_faults}
use Rattle.par_resolved.specs.Seen.{known_seen}
use Rattle.par_parts.specs.Gathered.{classes_of}
use Rattle.par_limits.proofs.policies.check_births.Given as goal

-- the first found so far, with those of what is left
abbrev pub invariant-loop-class : goal.invariant-loop-class
invariant-loop-class l =
    first_of l.findings (flat_map (λ c. birth_faults (known_seen l.known) c c.birth)
    (classes_of (drop l.class-index l.classes)))
    ≡ first_of l.fn.findings
    (flat_map (λ c. birth_faults (known_seen l.known) c c.birth) (classes_of l.classes))
