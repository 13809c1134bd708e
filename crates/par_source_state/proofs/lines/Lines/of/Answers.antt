use Rattle.std.proofs.Common.{◌≡◌, ap, ◌∙◌, take, arith}
use Rattle.std.proofs.lemmas.Grind.{common_steps}
use Rattle.std.specs.List.{position}
use Rattle.par_source_state.specs.Lined.{named, same_names}
use Rattle.par_source_state.proofs.Given.{place_of_names}
use Rattle.par_source_state.proofs.lines.Lines.of.Goals as goal

pub invariant_of-result : goal.invariant_of-result
invariant_of-result c =
    let all : take c.loop-line.line-index c.args.all.now
    ≡ c.args.all.now = grind (arith, common_steps) in
    record {
      placed = λ names.
          c.in_ok-places.ensures names
          ∙ ap (position (same_names names)) c.as_slice.ensures.value
          ∙ place_of_names names c.loop-line.names.items c.args.all.now
          (c.loop-line.invariant ∙ ap named all);
    }
