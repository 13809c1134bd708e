use Rattle.std.proofs.Common.{◌≡◌, drop}
use Rattle.par_step_laws.specs.Handlers.{caught}
use Rattle.par_unwinding.specs.Shown.{frames_of}
use Rattle.par_unwinding.proofs.landings.landing_of.Given as goal

abbrev pub invariant-loop-above : goal.invariant-loop-above
invariant-loop-above l =
    caught l.linked l.thrown (frames_of l.stack)
    ≡ caught l.linked l.thrown (frames_of (drop l.above l.stack))
