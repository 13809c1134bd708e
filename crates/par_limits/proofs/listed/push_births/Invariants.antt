use Rattle.std.proofs.Common.{◌≡◌, ◌++◌, drop, map}
use Rattle.par_resolved.specs.Seen.{known_seen}
use Rattle.par_parts.specs.Gathered.{classes_of}
use Rattle.par_resolved.specs.Numbered.{birth_entry}
use Rattle.par_limits.proofs.listed.push_births.Given as goal

-- those found so far, and those of what is left
abbrev pub invariant-loop-class : goal.invariant-loop-class
invariant-loop-class l =
    l.found.items ++ map (birth_entry (known_seen l.known))
    (classes_of (drop l.class-index l.classes))
    ≡ l.fn.found.items ++ map (birth_entry (known_seen l.known)) (classes_of l.classes)
