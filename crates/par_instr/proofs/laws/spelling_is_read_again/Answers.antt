use Rattle.par_instr.proofs.Places.{read_again, written_again, one_stands}
use Rattle.par_instr.proofs.laws.spelling_is_read_again.Goals as goal

pub returns-clause-read : goal.returns-clause-read
returns-clause-read c = read_again

pub returns-clause-written : goal.returns-clause-written
returns-clause-written c = written_again

pub returns-clause-one : goal.returns-clause-one
returns-clause-one c = one_stands
