use Rattle.par_unwinding.proofs.First.{unmarked}
use Rattle.par_unwinding.proofs.catches.first_of_many.Goals as goal

pub first-requires : goal.first-requires
first-requires g c = λ named e. absurd (cc (unmarked g.row.N named, e))
