use Rattle.par_code_laws.proofs.Whole as whole
use Rattle.par_code_laws.proofs.laws.labelled_code_shows.Goals as goal

pub returns : goal.returns
returns c = whole.labelled_code_shows
