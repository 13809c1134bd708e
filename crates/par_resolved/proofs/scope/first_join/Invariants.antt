use Rattle.std.proofs.Common.{◌≡◌, None, drop}
use Rattle.std.specs.List.{flat_map}
use Rattle.par_refusals.specs.First.{first_of}
use Rattle.par_resolved.specs.Sizes.{expression_faults}
use Rattle.par_resolved.specs.Seen.{known_seen}
use Rattle.par_parts.specs.Gathered.{all_of}
use Rattle.par_resolved.proofs.scope.first_join.Given as goal

-- the first found so far, with those of what is left
abbrev pub invariant-loop-e : goal.invariant-loop-e
invariant-loop-e l =
    first_of l.findings (flat_map (expression_faults (known_seen l.known))
    (all_of (drop l.e-index l.exprs)))
    ≡ first_of None (flat_map (expression_faults (known_seen l.known)) (all_of l.exprs))
