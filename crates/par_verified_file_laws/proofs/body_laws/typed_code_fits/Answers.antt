use Rattle.par_verified_file_laws.proofs.Body.{typed_code_fits}
use Rattle.par_verified_file_laws.proofs.body_laws.typed_code_fits.Goals as goal

pub returns : goal.returns
returns c = typed_code_fits
