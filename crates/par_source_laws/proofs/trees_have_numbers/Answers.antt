use Rattle.par_source_laws.proofs.Numbers as numbers
use Rattle.par_source_laws.proofs.trees_have_numbers.Goals as goal

pub returns : goal.returns
returns c = numbers.trees_have_numbers
