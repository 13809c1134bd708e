use Rattle.std.proofs.Common.{◌≡◌, take}
use Rattle.std.specs.List.{flat_map}
use Rattle.par_refusals.specs.First.{first_of}
use Rattle.par_names.specs.Policies.{term_faults}
use Rattle.par_names.specs.Seen.{seen}
use Rattle.par_names.proofs.policy.check_policy.Given as goal

-- those that were gone over are noted
abbrev pub invariant-loop-term : goal.invariant-loop-term
invariant-loop-term l =
    l.findings ≡ first_of l.fn.findings
    (flat_map (term_faults (seen l.view)) (take l.term-index l.policy.terms))
