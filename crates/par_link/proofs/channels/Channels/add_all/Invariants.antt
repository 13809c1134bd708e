use Rattle.par_link.specs.Channels.{Keeps, AreIn}
use Rattle.par_link.proofs.channels.Channels.add_all.Given as goal

abbrev pub invariant-loop-place : goal.invariant-loop-place
invariant-loop-place l =
    Keeps l.initial.self.buckets.items l.self.buckets.items
    × AreIn l.self.buckets.items l.class l.file l.place
