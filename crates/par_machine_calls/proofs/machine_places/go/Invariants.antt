use Rattle.std.proofs.Common.{◌≡◌}
use Rattle.par_machine.specs.Machine.{steps_of}
use Rattle.par_machine_calls.proofs.machine_places.go.Given as goal

abbrev pub invariant-loop-step : goal.invariant-loop-step
invariant-loop-step l = steps_of l.machine ≡ l._step
