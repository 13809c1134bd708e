use Rattle.std.proofs.Common.{◌≡◌, ◌++◌, drop, map}
use Rattle.par_parts.specs.Gathered.{all_of}
use Rattle.par_limits.proofs.many.push_entries.Given as goal

-- those found so far, and those of what is left
abbrev pub invariant-loop-entry : goal.invariant-loop-entry
invariant-loop-entry l =
    l.places.items ++ map (λ e. e.at) (all_of (drop l.entry-index l.entries))
    ≡ l.fn.places.items ++ map (λ e. e.at) (all_of l.entries)
