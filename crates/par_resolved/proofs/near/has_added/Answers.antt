use Rattle.std.proofs.Common.{refl}
use Rattle.par_typed.proofs.par_policy.Marks.{marks_at}
use Rattle.par_resolved.proofs.Added.{added_within}
use Rattle.par_resolved.proofs.near.has_added.Goals as goal

pub returns-in-Some : goal.returns-in-Some
returns-in-Some c =
    let locks = c.args.other.now.locks in
    added_within c.args.near.now c.args.clause.now c.args.other.now c.args.added.now c.in-Some.bits
    c.within.result c.requires
    (marks_at c.as_bits.result locks locks c.in-Some.bits c.as_bits.ensures c.in-Some.is refl)
    c.within.ensures
