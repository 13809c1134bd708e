use Rattle.par_bits.proofs.Sizes.{same_members}
use Rattle.par_bits.proofs.laws.same_members_are_equal.Goals as goal

pub returns : goal.returns
returns c = same_members
