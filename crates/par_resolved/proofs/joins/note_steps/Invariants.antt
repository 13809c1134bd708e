use Rattle.std.proofs.Common.{◌≡◌, drop}
use Rattle.par_resolved.specs.Sizes.{steps_faults}
use Rattle.par_resolved.proofs.joins.note_steps.Given as goal

-- what is left to join exceeds what the whole does
abbrev pub invariant-loop-other : goal.invariant-loop-other
invariant-loop-other l = record {
  found : steps_faults l.at l.policy (drop l.other-index l.others)
      ≡ steps_faults l.at l.fn.first l.others;
  kept : l.findings ≡ l.fn.findings;
}
