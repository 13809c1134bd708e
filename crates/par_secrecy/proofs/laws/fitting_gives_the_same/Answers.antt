use Rattle.par_secrecy.proofs.Fitting as fitting
use Rattle.par_secrecy.proofs.laws.fitting_gives_the_same.Goals as goal

pub returns : goal.returns
returns c = fitting.fitting_gives_the_same
