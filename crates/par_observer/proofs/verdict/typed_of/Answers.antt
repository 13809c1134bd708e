use Rattle.std.proofs.Common.{rules}
use Rattle.par_observer.proofs.OfTree.{short_untyped}
use Rattle.par_observer.proofs.verdict.typed_of.Goals as goal

pub returns-clause-refused : goal.returns-clause-refused
returns-clause-refused c =
    short_untyped c.args.source.now c.type_short.result (search rules)
    c.type_short.ensures.refused
