use Rattle.std.proofs.Common.{ap, ◌∙◌}
use Rattle.std.specs.List.{position}
use Rattle.par_references.specs.Placed.{same_key}
use Rattle.par_references.proofs.keys.Keys.of.Goals as goal

pub invariant_of-result : goal.invariant_of-result
invariant_of-result c =
    record {
      placed = λ key.
          c.in_ok-firsts.ensures key ∙ ap (position (same_key key)) c.as_slice.ensures.value;
    }
