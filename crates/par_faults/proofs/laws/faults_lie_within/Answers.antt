use Rattle.par_faults.proofs.FaultPlaces.{all_within}
use Rattle.par_faults.proofs.laws.faults_lie_within.Goals as goal

pub returns : goal.returns
returns c = all_within
