use Rattle.std.proofs.Common.{ℕ, ◌+◌, ◌≤◌, length}
use Rattle.par_heap.specs.Heap.{objects_of}
use Rattle.par_stack.specs.Frames.{running}
use Rattle.par_machine.specs.Quiet.{IsSameMethod, GoesOn}
use Rattle.par_machine.specs.Running.{state_in, IsSound}
use Rattle.par_machine.proofs.run.Running.go_on.Given as goal

abbrev pub invariant-loop-done : goal.invariant-loop-done
invariant-loop-done l =
    GoesOn l.area.files l.done (state_in l.area.files l.fn.self) (state_in l.area.files l.self)
    × IsSound l.area l.self
    × ((class : ℕ) → length (objects_of l.self.heap class)
    ≤ length (objects_of l.fn.self.heap class) + l.done)
    × IsSameMethod l.first (running l.self.stack).point
