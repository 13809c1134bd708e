use Rattle.par_check.specs.Spots.{listed}
use Rattle.par_check.proofs.Spots.{last_point}
use Rattle.par_check.proofs.ways.last_point.Goals as goal

pub returns-in-Some : goal.returns-in-Some
returns-in-Some c = last_point (listed c.args.of) c.args.args.now c.in-Some.last.now
    c.in-Some.ensures.value
