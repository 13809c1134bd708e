use Rattle.par_link.proofs.Spread.{AreAllIn}
use Rattle.par_link.proofs.channels.Channels.of.Given as goal

abbrev pub invariant-loop-class : goal.invariant-loop-class
invariant-loop-class l = AreAllIn l.files l.channels.buckets.items l.class
