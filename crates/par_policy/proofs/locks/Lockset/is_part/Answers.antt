use Rattle.par_policy.proofs.Marks.{marks_at, marks_within}
use Rattle.par_policy.proofs.locks.Lockset.is_part.Goals as goal

pub returns-in-Some-bits : goal.returns-in-Some-bits
returns-in-Some-bits c =
    marks_within c.in-Some.bits c.in-Some-bits.all c.args.self.now c.args.other.now c.within.result
    (marks_at c.self.inside.bits c.self.inside.locks c.args.self.now c.in-Some.bits
    c.self.invariant.1 c.in-Some.is c.self.view_is)
    (marks_at c.other.inside.bits c.other.inside.locks c.args.other.now c.in-Some-bits.all
    c.other.invariant.1 c.in-Some-bits.is c.other.view_is)
    c.within.ensures
