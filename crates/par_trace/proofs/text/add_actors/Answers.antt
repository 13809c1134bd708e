use Rattle.std.proofs.Common.{◌++◌, ap, ◌∙◌, arith}
use Rattle.par_trace.specs.Texts.{actor_text}
use Rattle.par_event_lines.specs.Texts.{Text}
use Rattle.par_trace.proofs.Joined.{joined-all}
use Rattle.par_trace.proofs.text.add_actors.Goals as goal

pub returns : goal.returns
returns c =
    joined-all 44 (actor_text c.args.table.now) c.in-Some.first.now c.in-Some.rest.now
    c.args.actors.now _ _ _ c.loop-actor.actor-index
    c.in-Some.ensures.cases.0 (c.in_ok-extend_from_slice.ensures.items
    ∙ ap (λ (t : Text). c.args.text.now.items ++ t) c.actor_name.ensures)
    c.loop-actor.invariant (omega (arith, c.loop-actor-test.false))
