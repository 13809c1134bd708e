use Rattle.std.proofs.Common.{◌∙◌, ap, sym, refl}
use Rattle.par_resolved.specs.Sets.{joined}
use Rattle.par_resolved.specs.Policies.{fits}
use Rattle.par_resolved.proofs.Loops.{drop_more, none_left}
use Rattle.par_resolved.proofs.Steps.{value_stops, value_goes_on, value_done, one_fits, none_fits}
use Rattle.par_resolved.proofs.joins.join_with.Goals as goal

pub returns-in-None : goal.returns-in-None
returns-in-None c =
    let left =
    drop_more c.args.others.now c.loop-other.other-index c.other-item.result c.loop-other-test.true
    c.other-item.is in
    let join = joined c.loop-other.policy c.other-item.result in
    let large = none_fits join (sym c.in-None.is ∙ c.in_ok-join_within_limits.ensures) in
    value_stops _ _ _ _ _ _ _ left refl large c.loop-other.invariant

pub loop-other-preserved : goal.loop-other-preserved
loop-other-preserved c =
    let left =
    drop_more c.args.others.now c.loop-other.other-index c.other-item.result c.loop-other-test.true
    c.other-item.is in
    let join = joined c.loop-other.policy c.other-item.result in
    let small = one_fits join _ (sym c.in-Some.is ∙ c.in_ok-join_within_limits.ensures) in
    value_goes_on _ _ _ _ _ _ _ left small.0 (ap fits small.0 ∙ small.1) c.loop-other.invariant

pub returns : goal.returns
returns c =
    value_done _ _ _ _ (none_left c.args.others.now c.loop-other.other-index
    c.loop-other-test.false) c.loop-other.invariant
