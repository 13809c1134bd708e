use Rattle.std.proofs.Common.{◌∙◌, sym}
use Rattle.par_policy_reader.proofs.par_reader.Alternatives.{opens, refuses}
use Rattle.par_tree.specs.Values.{paragon}
use Rattle.par_tree.proofs.Founded.{founded}
use Rattle.par_stmts.proofs.chain.after_this.Goals as goal

pub returns-then-sees-clause-read : goal.returns-then-sees-clause-read
returns-then-sees-clause-read c =
    opens paragon founded (rw (sym c.sees.ensures ∙ c.if-sees.true)) c.member.ensures.read

pub returns-else-sees-clause-read : goal.returns-else-sees-clause-read
returns-else-sees-clause-read c =
    refuses paragon founded (rw (sym c.sees.ensures ∙ c.if-sees.false))
