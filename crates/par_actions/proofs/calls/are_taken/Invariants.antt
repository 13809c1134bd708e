use Rattle.std.proofs.Common.{◌≡◌, drop, reverse}
use Rattle.par_stack.specs.Frames.{running}
use Rattle.par_actions.specs.Callee.{accept_all}
use Rattle.par_actions.proofs.calls.are_taken.Given as goal

abbrev pub invariant-loop-after : goal.invariant-loop-after
invariant-loop-after l =
    accept_all (drop l.after (reverse l.takes)) (drop l.after (running l.stack).operands)
    ≡ accept_all (reverse l.takes) (running l.stack).operands
