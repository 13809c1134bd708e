use Rattle.std.proofs.Common.{arith}
use Rattle.par_framing.proofs.Joining.{last_is}
use Rattle.par_framing.proofs.offsets.ends_at.Goals as goal

pub returns-in-len1-up : goal.returns-in-len1-up
returns-in-len1-up c =
    last_is c.args.frames.now _ c.f-item.result c.args.offset
    (omega (arith, c.in-len1-up.len_at_least)) c.f-item.is
