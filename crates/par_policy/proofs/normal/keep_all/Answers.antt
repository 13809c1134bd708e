use Rattle.par_policy.proofs.Turns.{meet_more, meet_all}
use Rattle.par_policy.proofs.normal.keep_all.Goals as goal

pub loop-clause-preserved : goal.loop-clause-preserved
loop-clause-preserved c = record {
  normal = c.in_ok-keep.ensures.normal;
  seen =
      meet_more c.args.kept.now.items c.args.clauses.now c.loop-clause.clause-index
      c.clause-item.result c.loop-clause.kept.items c.keep.new.kept.items c.loop-clause-test.true
      c.clause-item.is c.in_ok-keep.ensures.alike c.loop-clause.invariant.seen;
}

pub returns-clause-seen : goal.returns-clause-seen
returns-clause-seen c =
    meet_all c.args.kept.now.items c.args.clauses.now c.loop-clause.clause-index
    c.loop-clause.kept.items c.loop-clause-test.false c.loop-clause.invariant.seen
