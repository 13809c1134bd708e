use Rattle.std.proofs.Common.{◌≡◌, ap, ◌∙◌, take, arith}
use Rattle.std.proofs.lemmas.Grind.{common_steps}
use Rattle.std.specs.List.{position}
use Rattle.par_source_state.specs.Held.{same_member}
use Rattle.par_source_state.specs.Bodied.{methods}
use Rattle.par_source_state.proofs.bodies.places.Goals as goal

pub returns : goal.returns
returns c = λ method.
    let all : take c.loop-body.body-index c.args.all.now
    ≡ c.args.all.now = grind (arith, common_steps) in
    c.in_ok-firsts.ensures method
    ∙ ap (position (same_member method))
    (c.as_slice.ensures.value ∙ c.loop-body.invariant ∙ ap methods all)
