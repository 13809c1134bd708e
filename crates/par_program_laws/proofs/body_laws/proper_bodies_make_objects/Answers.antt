use Rattle.par_program_laws.proofs.Parts as parts
use Rattle.par_program_laws.proofs.body_laws.proper_bodies_make_objects.Goals as goal

pub returns : goal.returns
returns c = parts.proper_bodies_make_objects
