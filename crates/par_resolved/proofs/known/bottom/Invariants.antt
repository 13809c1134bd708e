use Rattle.std.proofs.Common.{◌≡◌, [], map}
use Rattle.std.specs.List.{range_with_len}
use Rattle.par_resolved.proofs.known.bottom.Given as goal

abbrev pub invariant-loop-actor : goal.invariant-loop-actor
invariant-loop-actor l =
    l.clauses.items ≡ map (λ a. record { actor = a; locks = [] }) (range_with_len 0 l.actor)
