use Rattle.par_source_code_laws.proofs.ItsLocks.{code_uses_its_locks}
use Rattle.par_source_code_laws.proofs.laws.code_uses_its_locks.Goals as goal

pub returns : goal.returns
returns c = code_uses_its_locks
