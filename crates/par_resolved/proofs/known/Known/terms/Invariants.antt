use Rattle.std.proofs.Common.{◌≡◌, Some, map, take}
use Rattle.par_resolved.specs.Policies.{term_value}
use Rattle.par_resolved.specs.Seen.{known_seen}
use Rattle.par_resolved.proofs.known.Known.terms.Given as goal

abbrev pub invariant-loop-term : goal.invariant-loop-term
invariant-loop-term l =
    map (term_value (known_seen l.self)) (take l.term-index l.terms) ≡ map Some l.found.items
