use Rattle.par_inputs.proofs.Refusals.{right_or_broken, no_broken_line, one_broken_line}
use Rattle.par_inputs.proofs.laws.files_are_right_or_broken.Goals as goal

pub returns-clause-either : goal.returns-clause-either
returns-clause-either c = right_or_broken

pub returns-clause-never_both : goal.returns-clause-never_both
returns-clause-never_both c = no_broken_line

pub returns-clause-one_broken : goal.returns-clause-one_broken
returns-clause-one_broken c = one_broken_line
