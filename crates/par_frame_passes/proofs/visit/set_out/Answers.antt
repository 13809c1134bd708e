use Rattle.std.proofs.Common.{Ok, ap}
use Rattle.par_frame_passes.proofs.visit.set_out.Goals as goal

pub returns-clause-went : goal.returns-clause-went
returns-clause-went c = c.in_ok-aside.ensures.went

pub returns-clause-spared : goal.returns-clause-spared
returns-clause-spared c = λ start told spares kept meets calm.
    c.in_ok-aside.ensures.spared start told spares kept meets (ap Ok calm)

pub returns-clause-left : goal.returns-clause-left
returns-clause-left c = c.in_ok-flow.ensures
