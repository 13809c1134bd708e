use Rattle.std.proofs.Common.{arith}
use Rattle.par_class.proofs.Members.{u2-long}
use Rattle.par_class.proofs.code.numbers.Goals as goal

pub returns-clause-long : goal.returns-clause-long
returns-clause-long c =
    let short = c.args.short in
    omega (
      arith,
      u2-long short c.args.bytes.now
          (c.in_ok-start.start, c.in_ok-start.rest.now) c.in_ok-start.ensures.read,
      u2-long short c.in_ok-start.rest.now
          (c.in_ok-end.end, c.in_ok-end.rest.now) c.in_ok-end.ensures.read,
      u2-long short c.in_ok-end.rest.now
          (c.in_ok-handler.handler, c.in_ok-handler.rest.now) c.in_ok-handler.ensures.read,
      u2-long short c.in_ok-handler.rest.now
          (c.in_ok-class.class, c.in_ok-class.rest.now) c.in_ok-class.ensures.read,
    )
