use Rattle.std.proofs.Common.{ap}
use Rattle.par_bits.specs.Sets.{has}
use Rattle.par_asked.specs.Seen.{seen_locks}
use Rattle.par_check.proofs.LockSets.{tested_by}
use Rattle.par_check.proofs.locks.are_open.Goals as goal

pub returns-in-All : goal.returns-in-All
returns-in-All c =
    tested_by (seen_locks c.args.locks) (has c.args.opened.now) c.all_open.result c.in-All.set.now
    c.as_slice.result.now
    (ap seen_locks c.in-All.is) c.as_slice.ensures.locks c.all_open.ensures
