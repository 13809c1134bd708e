use Rattle.par_instr.proofs.Spellings.{each_has_one, no_other_has_one}
use Rattle.par_instr.proofs.laws.spelling_is_one.Goals as goal

pub returns-clause-one : goal.returns-clause-one
returns-clause-one c = each_has_one

pub returns-clause-none_else : goal.returns-clause-none_else
returns-clause-none_else c = no_other_has_one
