use Rattle.std.proofs.Common.{◌∙◌, sym}
use Rattle.par_stmts.proofs.par_reader.Alternatives.{opens}
use Rattle.par_tree.specs.Values.{paragon}
use Rattle.par_tree.proofs.Founded.{founded}
use Rattle.par_parser.proofs.member.plain_member.Goals as goal

pub returns-then-sees-clause-read : goal.returns-then-sees-clause-read
returns-then-sees-clause-read c =
    opens paragon founded (rw (sym c.sees.ensures ∙ c.if-sees.true)) c.input_channel.ensures.read

pub returns-then-sees-2-clause-read : goal.returns-then-sees-2-clause-read
returns-then-sees-2-clause-read c =
    opens paragon founded (rw (
      sym c.sees.ensures ∙ c.if-sees.false,
      sym c.sees-else-sees.ensures ∙ c.if-sees-2.true,
    )) c.output_channel.ensures.read

pub returns-else-sees-2-clause-read : goal.returns-else-sees-2-clause-read
returns-else-sees-2-clause-read c =
    opens paragon founded (rw (
      sym c.sees.ensures ∙ c.if-sees.false,
      sym c.sees-else-sees.ensures ∙ c.if-sees-2.false,
    )) c.field_or_method.ensures.read
