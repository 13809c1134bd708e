use Rattle.par_secure_laws.proofs.Secure.{accepted_is_secure}
use Rattle.par_secure_laws.proofs.laws.accepted_programs_are_secure.Goals as goal

pub returns : goal.returns
returns c = accepted_is_secure
