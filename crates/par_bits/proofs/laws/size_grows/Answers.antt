use Rattle.par_bits.proofs.Sizes.{size_grows}
use Rattle.par_bits.proofs.laws.size_grows.Goals as goal

pub returns : goal.returns
returns c = size_grows
