use Rattle.std.proofs.Common.{take}
use Rattle.par_verify.specs.Calls.{AreCalls}
use Rattle.par_verify.proofs.first.calls.Given as goal

-- those so far
abbrev pub invariant-loop-constant : goal.invariant-loop-constant
invariant-loop-constant l = AreCalls l.class (take l.constant-index l.entries) l.calls.items
