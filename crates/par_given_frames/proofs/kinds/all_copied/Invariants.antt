use Rattle.std.proofs.Common.{◌≡◌, take}
use Rattle.par_given_frames.proofs.kinds.all_copied.Given as goal

abbrev pub invariant-loop-kind : goal.invariant-loop-kind
invariant-loop-kind l = l.copies ≡ take l.kind-index l.kinds
