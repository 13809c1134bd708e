use Rattle.par_observer.proofs.SpanLaw.{checks_lie}
use Rattle.par_observer.proofs.span_law.checks_lie_within.Goals as goal

pub returns : goal.returns
returns c = checks_lie
