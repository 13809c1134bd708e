use Rattle.std.proofs.Common.{rules}
use Rattle.par_policy.proofs.Kept.{IsNormal-kept, alike-kept}
use Rattle.par_policy.proofs.normal.put.Goals as goal

pub returns-clause-normal : goal.returns-clause-normal
returns-clause-normal c =
    rw (c.in_ok-insert.ensures.items)
    (IsNormal-kept c.args.kept.now.items c.drop_covered.new.kept.items c.position_of-place.result
    c.args.clause c.drop_covered.ensures (search rules)
    c.requires.normal c.requires.ascending c.requires.uncovered (search rules) (search rules))

pub returns-clause-alike : goal.returns-clause-alike
returns-clause-alike c =
    rw (c.in_ok-insert.ensures.items, c.drop_covered.ensures)
    (alike-kept c.args.kept.now.items c.position_of-place.result c.args.clause)
