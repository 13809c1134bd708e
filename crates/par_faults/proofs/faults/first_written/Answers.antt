use Rattle.std.proofs.Common.{ap, ◌∙◌}
use Rattle.std.specs.List.{flat_map}
use Rattle.par_refusals.specs.First.{first_of}
use Rattle.par_parts.specs.Gathered.{all_of}
use Rattle.par_limits.specs.par_resolved.Sizes.{literal_faults}
use Rattle.std.proofs.Common.{None}
use Rattle.par_faults.proofs.faults.first_written.Goals as goal

pub returns : goal.returns
returns c =
    c.first_literal.ensures
    ∙ ap (λ es. first_of None (flat_map literal_faults es))
    (ap all_of c.as_slice.ensures.value ∙ c.in_ok-exprs.ensures)
