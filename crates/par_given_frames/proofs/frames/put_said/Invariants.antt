use Rattle.std.proofs.Common.{◌≡◌, ◌++◌, length, map}
use Rattle.par_kinds.specs.Kinds.{vkind}
use Rattle.par_given_frames.proofs.frames.put_said.Given as goal

abbrev pub invariant-loop-rest : goal.invariant-loop-rest
invariant-loop-rest l = l.kinds ++ map vkind l.rest ≡ l.initial.kinds ++ map vkind l.said

abbrev pub decreases-loop-rest : goal.decreases-loop-rest
decreases-loop-rest l = length l.rest
