use Rattle.std.proofs.Common.{sym, drop}
use Rattle.par_link.proofs.Stopping.{unlisted-not}
use Rattle.par_link.proofs.walk.is_unlisted.Goals as goal

-- an instruction stands there
pub returns-in-Ok : goal.returns-in-Ok
returns-in-Ok c =
    sym (unlisted-not (drop c.args.at c.args.code.now)
    (λ op is. absurd (cc ((c.in-Ok.ensures.unsupported op).1 is))))
