use Rattle.std.proofs.Common.{sym}
use Rattle.par_place_kinds.specs.Marks.{names}
use Rattle.par_place_kinds.proofs.Lists.{all-differ}
use Rattle.par_place_kinds.proofs.kinds.all_into.Goals as goal

pub returns-then-kinds-others : goal.returns-then-kinds-others
returns-then-kinds-others c =
    sym (all-differ (names c.args.exceptions.now) c.args.kinds.now c.args.others.now
    c.if-kinds-others.true)
