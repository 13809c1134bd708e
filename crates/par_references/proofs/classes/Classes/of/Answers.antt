use Rattle.std.proofs.Common.{ap, ◌∙◌}
use Rattle.std.specs.List.{position}
use Rattle.par_index.specs.Texts.{same_text}
use Rattle.par_references.proofs.classes.Classes.of.Goals as goal

pub invariant_of-result : goal.invariant_of-result
invariant_of-result c =
    record {
      few = c.requires;
      named = c.in_ok-names.ensures;
      placed = λ name.
          c.in_ok-firsts.ensures name ∙ ap (position (same_text name)) c.as_slice.ensures.value;
    }
