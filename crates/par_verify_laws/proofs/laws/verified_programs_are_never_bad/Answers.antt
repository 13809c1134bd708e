use Rattle.par_verify_laws.proofs.Never as never
use Rattle.par_verify_laws.proofs.laws.verified_programs_are_never_bad.Goals as goal

pub returns : goal.returns
returns c = never.verified_programs_are_never_bad
