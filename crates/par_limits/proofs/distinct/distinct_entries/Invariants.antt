use Rattle.std.proofs.Common.{◌≡◌, ◌+◌, take}
use Rattle.par_resolved.specs.declared.limits.TheConstants.{MOST_POLICIES}
use Rattle.par_resolved.specs.Numbered.{distinct}
use Rattle.par_parts.specs.Gathered.{all_of}
use Rattle.par_limits.proofs.distinct.distinct_entries.Given as goal

abbrev pub invariant-loop-entry : goal.invariant-loop-entry
invariant-loop-entry l =
    all_of l.found.items ≡ take (MOST_POLICIES + 1) (distinct (take l.entry-index l.entries))
