use Rattle.std.proofs.Common.{◌≡◌, drop}
use Rattle.std.specs.List.{list_any}
use Rattle.par_resolved.specs.Numbered.{same_policy}
use Rattle.par_parts.specs.Gathered.{all_of}
use Rattle.par_limits.proofs.same.is_there.Given as goal

-- what is left is searched
abbrev pub invariant-loop-entry : goal.invariant-loop-entry
invariant-loop-entry l =
    list_any (λ f. same_policy l.policy f.policy) (all_of (drop l.entry-index l.found))
    ≡ list_any (λ f. same_policy l.policy f.policy) (all_of l.found)
