use Rattle.std.proofs.Common.{◌++◌, refl}
use Rattle.par_typed.proofs.par_policy.Marks.{marks_at, marks_within}
use Rattle.par_resolved.proofs.settled.has_only_locks_of.Goals as goal

pub returns-in-Some-as_bits : goal.returns-in-Some-as_bits
returns-in-Some-as_bits c =
    let inner = c.args.clause.now.locks in
    let outer = c.args.one.now.locks ++ c.args.other.now.locks in
    marks_within c.in-Some-as_bits.bits c.in-Some.marks inner outer c.within.result
    (marks_at c.as_bits.result inner inner c.in-Some-as_bits.bits c.as_bits.ensures
    c.in-Some-as_bits.is refl)
    (marks_at c.bits_of_both.result outer outer c.in-Some.marks c.bits_of_both.ensures
    c.in-Some.is refl)
    c.within.ensures
