use Rattle.std.proofs.Common.{◌≡◌, length}
use Rattle.par_link.proofs.channels.Channels.new.Given as goal

abbrev pub invariant-loop : goal.invariant-loop
invariant-loop l = length l.buckets.items ≡ l.counter
