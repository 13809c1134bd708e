use Rattle.std.proofs.Common.{arith}
use Rattle.par_frames.proofs.Indexing.{last_is}
use Rattle.par_frames.proofs.pool_classes.last_types.Goals as goal

pub returns-in-len1-up : goal.returns-in-len1-up
returns-in-len1-up c =
    last_is c.args.placed.now _ c.i-item.result _ (omega (arith, c.in-len1-up.len_at_least))
    c.i-item.is c.as_slice.ensures
