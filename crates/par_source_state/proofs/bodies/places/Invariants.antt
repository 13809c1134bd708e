use Rattle.std.proofs.Common.{◌≡◌, take}
use Rattle.par_source_state.specs.Bodied.{methods}
use Rattle.par_source_state.proofs.bodies.places.Given as goal

abbrev pub invariant-loop-body : goal.invariant-loop-body
invariant-loop-body l = l.methods.items ≡ methods (take l.body-index l.all)
