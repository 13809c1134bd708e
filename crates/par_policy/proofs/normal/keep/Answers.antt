use Rattle.std.proofs.Common.{◌≡◌, true, rules}
use Rattle.std.specs.List.{list_any}
use Rattle.par_policy.specs.Normal.{covers}
use Rattle.par_policy.proofs.Kept.{alike-from_covered}
use Rattle.par_policy.proofs.normal.keep.Goals as goal

pub returns-then-is_covered-clause-alike : goal.returns-then-is_covered-clause-alike
returns-then-is_covered-clause-alike c =
    let covered : list_any (λ k. covers k c.args.clause.now) c.args.kept.now.items ≡ true =
    search rules in
    alike-from_covered c.args.kept.now.items c.args.clause.now covered
