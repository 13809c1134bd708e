use Rattle.std.proofs.Common.{rules}
use Rattle.par_typed.specs.par_policy.Lattice.{IsJoin}
use Rattle.par_typed.specs.par_policy.Sees.{IsSeenAlike}
use Rattle.par_resolved.proofs.Nearest.{alike_join}
use Rattle.par_resolved.proofs.near.near_join.Goals as goal

pub returns-in_ok-policy-in-Some : goal.returns-in_ok-policy-in-Some
returns-in_ok-policy-in-Some c =
    let policy = c.in_ok-policy-in-Some.policy in
    let made = c.in-Some.clauses.items in
    let alike : IsSeenAlike policy made = search rules in
    let is : IsJoin made c.args.p.now c.args.q.now = search rules in
    alike_join policy made c.args.p.now c.args.q.now c.in_ok-policy-in-Some.ensures.normal alike is
