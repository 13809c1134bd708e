use Rattle.std.proofs.Common.{◌++◌, refl}
use Rattle.par_policy.proofs.Marks.{marks_at, marks_within}
use Rattle.par_policy.proofs.locks.Lockset.within_marked.Goals as goal

pub returns-in-Some-marks : goal.returns-in-Some-marks
returns-in-Some-marks g c =
    let outer = c.args.one.now ++ g.L.OpenLocks.locks c.args.opened.now in
    marks_within c.in-Some.bits c.in-Some-marks.all c.args.self.now outer c.within.result
    (marks_at c.self.inside.bits c.self.inside.locks c.args.self.now c.in-Some.bits
    c.self.invariant.1 c.in-Some.is c.self.view_is)
    (marks_at c.args.marks.now outer outer c.in-Some-marks.all c.requires c.in-Some-marks.is refl)
    c.within.ensures
