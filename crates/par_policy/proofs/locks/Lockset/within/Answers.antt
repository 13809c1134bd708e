use Rattle.par_policy.proofs.Members.{within_iff}
use Rattle.par_policy.proofs.locks.Lockset.within.Goals as goal

pub returns-clause-subset : goal.returns-clause-subset
returns-clause-subset c = rw (c.is_part.ensures) (within_iff c.args.self.now c.args.other.now)
