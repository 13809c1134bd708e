use Rattle.std.proofs.Common.{◌≡◌, true, false, rules}
use Rattle.par_policy.specs.Sees.{sees_at}
use Rattle.par_policy.proofs.Allowed.{gains-covered, uncovered}
use Rattle.par_policy.proofs.lattice.keep_both.Goals as goal

pub returns-then-is_covered_by_both-clause-seen : goal.returns-then-is_covered_by_both-clause-seen
returns-then-is_covered_by_both-clause-seen c =
    let p = c.args.kept.now.items in let one = c.args.clause.now in let other = c.args.other.now in
    let covered : sees_at p other.locks one.actor one.locks ≡ true = search rules in
    let same : one.actor ≡ other.actor = search rules in
    gains-covered p one other same covered

pub put-requires-clause-uncovered : goal.put-requires-clause-uncovered
put-requires-clause-uncovered c =
    let p = c.args.kept.now.items in let one = c.args.clause.now in let other = c.args.other.now in
    let apart : sees_at p other.locks one.actor one.locks ≡ false = search rules in
    uncovered p one other c.in_ok-both.both c.in_ok-both.ensures.actor c.in_ok-both.ensures.locks
    apart
