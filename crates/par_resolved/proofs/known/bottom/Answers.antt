use Rattle.std.proofs.Common.{◌∙◌, ap, [], ◌∷◌, ◌++◌, ℕ, List}
use Rattle.par_typed.specs.par_policy.declared.clauses.Clause.{Clause}
use Rattle.par_resolved.proofs.Made.{range_mapped}
use Rattle.par_resolved.proofs.known.bottom.Goals as goal

pub loop-actor-preserved : goal.loop-actor-preserved
loop-actor-preserved c =
    let lockless : ℕ → Clause = λ a. record { actor = a; locks = [] } in
    let with : List ℕ → List Clause =
    λ ls. c.loop-actor.clauses.items ++ record { actor = c.loop-actor.actor; locks = ls } ∷ [] in
    c.in_ok-push.ensures.items ∙ ap with c.new.ensures
    ∙ range_mapped lockless c.loop-actor.actor c.loop-actor.clauses.items c.loop-actor.invariant
