use Rattle.std.proofs.Common.{◌≡◌, drop}
use Rattle.par_link.specs.Stops.{is_unlisted, first_stop}
use Rattle.par_link.proofs.walk.first_unlisted.Given as goal

abbrev pub invariant-loop-method : goal.invariant-loop-method
invariant-loop-method l =
    first_stop is_unlisted (drop l.method-index l.methods) ≡ first_stop is_unlisted l.methods
