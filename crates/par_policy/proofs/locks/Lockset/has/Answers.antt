use Rattle.par_policy.proofs.Members.{has_iff}
use Rattle.par_policy.proofs.locks.Lockset.has.Goals as goal

pub returns-clause-member : goal.returns-clause-member
returns-clause-member c = rw (c.holds.ensures.test) (has_iff c.args.self.now c.args.lock)
