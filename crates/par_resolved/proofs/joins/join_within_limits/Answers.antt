use Rattle.std.proofs.Common.{◌<◌, ◌∙◌, length, sym, subst, arith}
use Rattle.std.specs.Prelude.{IsTrue}
use Rattle.std.specs.List.{list_all}
use Rattle.par_resolved.specs.declared.limits.TheConstants.{MOST_CLAUSES}
use Rattle.par_resolved.specs.Settled.{settled}
use Rattle.par_resolved.proofs.Stays.{front_exceeds}
use Rattle.par_resolved.proofs.joins.join_within_limits.Goals as goal

pub returns-then-are_settled : goal.returns-then-are_settled
returns-then-are_settled c =
    let front = c.in_ok-policy.policy in
    let p = c.args.p.now in
    let q = c.args.q.now in
    let all : IsTrue (list_all (settled p q) front) =
    subst (λ cs. IsTrue (list_all (settled p q) cs)) c.clauses-2.ensures.list
    (sym c.are_settled.ensures ∙ c.if-are_settled.true) in
    let many : MOST_CLAUSES < length front =
    subst (λ cs. MOST_CLAUSES < length cs) c.clauses.ensures.list
    (omega (arith, c.if-clauses-le-MOST_CLAUSES.false)) in
    front_exceeds front p q c.in_ok-policy.ensures.normal c.in_ok-policy.ensures.above all many
