use Rattle.std.proofs.Common.{take}
use Rattle.par_given_frames.specs.Takes.{AreCounts}
use Rattle.par_given_frames.proofs.takes.argument_counts.Given as goal

abbrev pub invariant-loop-constant : goal.invariant-loop-constant
invariant-loop-constant l = AreCounts (take l.constant-index l.entries) l.counts
