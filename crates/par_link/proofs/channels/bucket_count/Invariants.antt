use Rattle.std.proofs.Common.{◌<◌, ◌≤◌}
use Rattle.par_link.proofs.channels.bucket_count.Given as goal

abbrev pub invariant-loop-file : goal.invariant-loop-file
invariant-loop-file l = (0 < l.count) × (l.count ≤ 65536)
