use Rattle.par_step_laws.proofs.Placing.{static_fields_apart, static_fields_stand, locks_stand}
use Rattle.par_step_laws.proofs.laws.static_fields_stand_apart.Goals as goal

pub returns-clause-apart : goal.returns-clause-apart
returns-clause-apart c = static_fields_apart

pub returns-clause-stand : goal.returns-clause-stand
returns-clause-stand c = static_fields_stand

pub returns-clause-locks : goal.returns-clause-locks
returns-clause-locks c = locks_stand
