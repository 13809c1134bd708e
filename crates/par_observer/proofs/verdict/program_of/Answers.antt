use Rattle.std.proofs.Common.{rules}
use Rattle.par_observer.proofs.OfTree.{short_refused}
use Rattle.par_observer.proofs.Securing.{some_secure}
use Rattle.par_observer.proofs.verdict.program_of.Goals as goal

pub returns-clause-refused : goal.returns-clause-refused
returns-clause-refused c =
    short_refused c.args.source.now c.program_short.result (search rules)
    c.program_short.ensures.refused

pub returns-clause-secure : goal.returns-clause-secure
returns-clause-secure c =
    some_secure c.program_short.result c.program_short.ensures.well_formed
    c.program_short.ensures.kept
