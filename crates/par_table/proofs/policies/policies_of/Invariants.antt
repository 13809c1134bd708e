use Rattle.std.proofs.Common.{◌≡◌, ◌++◌, drop, map}
use Rattle.par_parts.specs.Gathered.{all_of}
use Rattle.par_table.proofs.policies.policies_of.Given as goal

-- those made so far, and those of what is left
abbrev pub invariant-loop-entry : goal.invariant-loop-entry
invariant-loop-entry l =
    l.found.items ++ map (λ e. e.policy) (all_of (drop l.entry-index l.entries))
    ≡ map (λ e. e.policy) (all_of l.entries)
