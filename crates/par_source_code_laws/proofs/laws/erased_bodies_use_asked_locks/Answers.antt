use Rattle.par_source_code_laws.proofs.Asked.{erased_bodies_use_asked_locks}
use Rattle.par_source_code_laws.proofs.laws.erased_bodies_use_asked_locks.Goals as goal

pub returns : goal.returns
returns c = erased_bodies_use_asked_locks
