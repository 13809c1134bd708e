use Rattle.par_link_laws.proofs.Whole as whole
use Rattle.par_link_laws.proofs.laws.parts_link.Goals as goal

pub returns : goal.returns
returns c = whole.parts_link
