use Rattle.std.proofs.Common.{◌≡◌, ◌++◌, ◌∷◌, take}
use Rattle.std.specs.List.{flat_map}
use Rattle.par_trace.specs.Texts.{actor_text}
use Rattle.par_trace.proofs.text.add_actors.Given as goal

abbrev pub invariant-loop-actor : goal.invariant-loop-actor
invariant-loop-actor l =
    l.text.items ≡ l.initial.text.items
    ++ flat_map (λ y. 44 ∷ actor_text l.table y) (take l.actor-index l.rest)
