use Rattle.std.proofs.Common.{◌≡◌, drop}
use Rattle.par_unwinding.proofs.landings.land.Given as goal

abbrev pub invariant-loop-dropped : goal.invariant-loop-dropped
invariant-loop-dropped l = l.stack ≡ drop l._dropped l.fn.stack
