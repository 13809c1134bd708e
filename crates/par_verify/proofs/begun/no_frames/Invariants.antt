use Rattle.std.proofs.Common.{◌≡◌, None, replicate}
use Rattle.par_verify.proofs.begun.no_frames.Given as goal

abbrev pub invariant-loop-at : goal.invariant-loop-at
invariant-loop-at l = l.table.items ≡ replicate l._at None
