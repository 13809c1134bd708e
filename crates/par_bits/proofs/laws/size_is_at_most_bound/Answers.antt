use Rattle.par_bits.proofs.Sizes.{size_at_most}
use Rattle.par_bits.proofs.laws.size_is_at_most_bound.Goals as goal

pub returns : goal.returns
returns c = size_at_most
