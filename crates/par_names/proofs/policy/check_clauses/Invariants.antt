use Rattle.std.proofs.Common.{◌≡◌, take}
use Rattle.std.specs.List.{flat_map}
use Rattle.par_refusals.specs.First.{first_of}
use Rattle.par_names.specs.Policies.{clause_faults}
use Rattle.par_names.specs.Seen.{seen}
use Rattle.par_names.proofs.policy.check_clauses.Given as goal

-- those that were gone over are noted
abbrev pub invariant-loop-clause : goal.invariant-loop-clause
invariant-loop-clause l =
    l.findings ≡ first_of l.fn.findings
    (flat_map (clause_faults (seen l.view)) (take l.clause-index l.clauses))
