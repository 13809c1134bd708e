use Rattle.par_bits.proofs.Members.{has_none}
use Rattle.par_bits.proofs.bits.Bits.empty.Goals as goal

pub returns : goal.returns
returns g c = has_none g.row.W
