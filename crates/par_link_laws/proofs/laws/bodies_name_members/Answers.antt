use Rattle.par_link_laws.proofs.Frames.{body-there}
use Rattle.par_link_laws.proofs.laws.bodies_name_members.Goals as goal

pub returns : goal.returns
returns c = body-there
