use Rattle.std.proofs.Common.{[], ◌∷◌, ◌++◌, ap, ◌∙◌}
use Rattle.par_table.specs.Parts.{made_lock}
use Rattle.par_table.proofs.Loops.{one_made}
use Rattle.par_table.proofs.locks.push_chosen.Goals as goal

pub loop-actors-preserved : goal.loop-actors-preserved
loop-actors-preserved c =
    let f = c.args.family.now in
    let g = made_lock f.policy c.args.queries.now c.args.count f.first f.decl.now in
    let lock = c.in_ok-chosen_lock.ensures ∙ ap g c.as_slice.ensures in
    one_made g c.args.choices.now c.loop-actors.actors-index c.actors-item.result
    c.loop-actors.found _ _ c.loop-actors-test.true c.actors-item.is
    (c.in_ok-push.ensures.ok ∙ ap (λ x. c.loop-actors.found ++ x ∷ []) lock) c.loop-actors.invariant
