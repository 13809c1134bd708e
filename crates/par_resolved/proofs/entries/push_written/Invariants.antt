use Rattle.std.proofs.Common.{◌≡◌, ◌++◌, drop, map}
use Rattle.par_parts.specs.Gathered.{all_of}
use Rattle.par_resolved.specs.Numbered.{written_entry}
use Rattle.par_resolved.specs.Seen.{known_seen}
use Rattle.par_resolved.proofs.entries.push_written.Given as goal

-- those found so far, and those of what is left
abbrev pub invariant-loop-e : goal.invariant-loop-e
invariant-loop-e l =
    l.found.items ++ map (written_entry (known_seen l.known)) (all_of (drop l.e-index l.exprs))
    ≡ l.fn.found.items ++ map (written_entry (known_seen l.known)) (all_of l.exprs)
