use Rattle.std.proofs.Common.{subst, sym, take, ◌+◌}
use Rattle.std.proofs.lemmas.List.{take_all}
use Rattle.par_typed.specs.par_policy.Lattice.{IsJoin}
use Rattle.par_resolved.proofs.Nearest.{join_more}
use Rattle.par_resolved.proofs.near.near_clauses.Goals as goal

pub loop-clause-preserved : goal.loop-clause-preserved
loop-clause-preserved c =
    subst
    (λ made. IsJoin made (take (c.loop-clause.clause-index + 1) c.args.p.now) c.args.q.now)
    (sym c.in_ok-push-in-Some.ensures.items)
    (join_more c.loop-clause.made.items c.args.p.now c.args.q.now c.clause-item.result
    c.in-Some.near.now c.in_ok-with_locks_of-in-Some.field-0 c.loop-clause.clause-index
    c.loop-clause-test.true c.clause-item.is c.loop-clause.invariant c.in-Some.ensures.seen
    c.in_ok-with_locks_of-in-Some.ensures)

pub returns : goal.returns
returns c =
    subst (λ cs. IsJoin c.loop-clause.made.items cs c.args.q.now)
    (take_all c.loop-clause.clause-index c.args.p.now c.loop-clause-test.false)
    c.loop-clause.invariant
