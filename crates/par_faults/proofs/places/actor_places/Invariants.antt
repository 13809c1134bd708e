use Rattle.std.proofs.Common.{◌≡◌, ◌++◌, drop}
use Rattle.par_tree.specs.Shown.{all_declared}
use Rattle.par_faults.specs.Limits as place
use Rattle.par_faults.proofs.places.actor_places.Given as goal

abbrev pub invariant-loop-decl : goal.invariant-loop-decl
invariant-loop-decl l =
    l.places.items ++ place.actor_places (all_declared (drop l.decl-index l.decls))
    ≡ place.actor_places (all_declared l.decls)
