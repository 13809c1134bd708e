use Rattle.par_resolved.specs.declared.limits.TheConstants.{MOST_POLICIES}
use Rattle.par_limits.proofs.Within.{distinct_more}
use Rattle.par_limits.proofs.distinct.distinct_entries.Goals as goal

pub loop-entry-preserved : goal.loop-entry-preserved
loop-entry-preserved c =
    distinct_more MOST_POLICIES c.args.entries.now c.loop-entry.entry-index c.entry-item.result _ _
    c.loop-entry-test.true c.entry-item.is c.loop-entry.invariant
    c.in_ok-push_new.ensures
