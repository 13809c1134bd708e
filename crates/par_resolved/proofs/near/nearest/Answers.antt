use Rattle.std.proofs.Common.{◌≡◌, ◌∙◌, sym, Contains, rules}
use Rattle.par_resolved.proofs.Nearest.{nearest_is}
use Rattle.par_resolved.proofs.near.nearest.Goals as goal

pub returns-then-is_nearest-clause-seen : goal.returns-then-is_nearest-clause-seen
returns-then-is_nearest-clause-seen c =
    let clause = c.args.clause.now in
    let near = c.in_ok-near.near.now in
    let same : clause.actor ≡ near.actor = search rules in
    let among : Contains c.args.others.now near = search rules in
    nearest_is c.args.others.now clause near same among
    (sym c.is_nearest.ensures ∙ c.if-is_nearest.true)
