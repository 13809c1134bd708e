use Rattle.par_lexer.proofs.Cuts.{tokens_or_fault, no_fault, one_reading, one_fault}
use Rattle.par_lexer.proofs.laws.sources_are_cut_one_way.Goals as goal

pub returns-clause-either : goal.returns-clause-either
returns-clause-either c = tokens_or_fault

pub returns-clause-never_both : goal.returns-clause-never_both
returns-clause-never_both c = no_fault

pub returns-clause-one_reading : goal.returns-clause-one_reading
returns-clause-one_reading c = one_reading

pub returns-clause-one_fault : goal.returns-clause-one_fault
returns-clause-one_fault c = one_fault
