use Rattle.par_verified_file_laws.proofs.FittingMethods.{loaded_methods_fit}
use Rattle.par_verified_file_laws.proofs.fit_laws.loaded_methods_fit.Goals as goal

pub returns : goal.returns
returns c = loaded_methods_fit
