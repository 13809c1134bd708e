use Rattle.std.proofs.Common.{ap, ◌∙◌}
use Rattle.std.specs.List.{flat_map}
use Rattle.par_resolved.specs.Births.{birth_faults}
use Rattle.par_resolved.specs.Seen.{known_seen}
use Rattle.par_parts.specs.Gathered.{classes_of}
use Rattle.par_limits.proofs.Passes.{both}
use Rattle.par_limits.proofs.policies.first_of_table.Goals as goal

pub returns : goal.returns
returns c =
    let all =
    ap (λ cs. flat_map (λ d. birth_faults (known_seen c.args.known.now) d d.birth) (classes_of cs))
    c.as_slice-2.ensures.value
    ∙ ap (flat_map (λ d. birth_faults (known_seen c.args.known.now) d d.birth))
    c.in_ok-classes.ensures in
    c.first.ensures ∙ both _ _ _ _ _ _ c.new-findings.ensures c.in_ok-check_policies.ensures
    c.in_ok-check_births.ensures all
