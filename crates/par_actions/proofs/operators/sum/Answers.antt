use Rattle.std.proofs.Common.{w8, w32}
use Rattle.std.proofs.Math.Facts.{sfits_widen}
use Rattle.std.proofs.lemmas.Int.{to_z-of_z, wrapping_add_is}
use Rattle.par_actions.proofs.operators.sum.Goals as goal

pub returns : goal.returns
returns c =
    rw (to_z-of_z w8 c.args.by c.ranges.by)
    (wrapping_add_is w32 c.args.number c.args.by c.ranges.number
    (sfits_widen {w = w8} {w' = w32} tt c.ranges.by))
