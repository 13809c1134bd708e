use Rattle.par_placed_fit_laws.proofs.Placing.{placed_code_fits}
use Rattle.par_placed_fit_laws.proofs.laws.placed_code_fits.Goals as goal

pub returns : goal.returns
returns c = placed_code_fits
