use Rattle.std.proofs.Common.{◌≡◌, drop, map}
use Rattle.par_kinds.specs.Passes.{takes_fit}
use Rattle.par_frame_steps.specs.Marks.{asked_of, operands_of}
use Rattle.par_frame_steps.proofs.demands.takes_fit.Given as goal

-- what is left decides
abbrev pub invariant-loop-depth : goal.invariant-loop-depth
invariant-loop-depth l =
    takes_fit (map asked_of (drop l.depth l.takes)) (drop l.depth (operands_of l.stack))
    ≡ takes_fit (map asked_of l.takes) (operands_of l.stack)
