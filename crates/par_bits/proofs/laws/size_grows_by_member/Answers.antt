use Rattle.par_bits.proofs.Sizes.{size_grows_by_member}
use Rattle.par_bits.proofs.laws.size_grows_by_member.Goals as goal

pub returns : goal.returns
returns c = size_grows_by_member
