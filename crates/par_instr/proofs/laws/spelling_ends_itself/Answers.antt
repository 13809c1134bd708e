use Rattle.par_instr.proofs.Spellings.{each_is_listed, none_begins_another}
use Rattle.par_instr.proofs.laws.spelling_ends_itself.Goals as goal

pub returns-clause-listed : goal.returns-clause-listed
returns-clause-listed c = each_is_listed

pub returns-clause-none_begins_another : goal.returns-clause-none_begins_another
returns-clause-none_begins_another c = none_begins_another
