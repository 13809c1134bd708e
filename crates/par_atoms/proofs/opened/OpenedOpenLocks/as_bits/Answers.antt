use Rattle.par_atoms.proofs.Listed.{has_listed}
use Rattle.par_atoms.proofs.opened.OpenedOpenLocks.as_bits.Goals as goal

pub returns : goal.returns
returns c = has_listed c.args.self.now.locks.now c.members_are_below.ensures
