use Rattle.par_step_laws.proofs.Placing.{own_fields_apart, own_fields_stand}
use Rattle.par_step_laws.proofs.laws.own_fields_stand_apart.Goals as goal

pub returns-clause-apart : goal.returns-clause-apart
returns-clause-apart c = own_fields_apart

pub returns-clause-stand : goal.returns-clause-stand
returns-clause-stand c = own_fields_stand
