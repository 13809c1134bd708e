use Rattle.par_secure_laws.proofs.Secure.{differences_explained}
use Rattle.par_secure_laws.proofs.laws.differences_are_explained.Goals as goal

pub returns : goal.returns
returns c = differences_explained
