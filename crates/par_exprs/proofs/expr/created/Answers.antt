use Rattle.std.proofs.Common.{◌∙◌, sym}
use Rattle.par_reader.proofs.Alternatives.{opens, refuses}
use Rattle.par_tree.specs.Values.{paragon}
use Rattle.par_tree.proofs.Founded.{founded}
use Rattle.par_exprs.proofs.expr.created.Goals as goal

pub returns-then-sees-clause-read : goal.returns-then-sees-clause-read
returns-then-sees-clause-read c =
    opens paragon founded (rw (sym c.sees.ensures ∙ c.if-sees.true)) c.empty_parens.ensures.read

pub returns-else-sees-clause-read : goal.returns-else-sees-clause-read
returns-else-sees-clause-read c =
    refuses paragon founded (rw (sym c.sees.ensures ∙ c.if-sees.false))
