use Rattle.std.proofs.Common.{◌∙◌, sym}
use Rattle.par_reader.proofs.Alternatives.{opens, refuses}
use Rattle.par_tree.specs.Values.{paragon}
use Rattle.par_tree.proofs.Founded.{founded}
use Rattle.par_policy_reader.proofs.types.any_type.Goals as goal

pub returns-then-sees-clause-read : goal.returns-then-sees-clause-read
returns-then-sees-clause-read c =
    opens paragon founded (rw (sym c.sees.ensures ∙ c.if-sees.true)) c.int_type.ensures.read

pub returns-then-sees-2-clause-read : goal.returns-then-sees-2-clause-read
returns-then-sees-2-clause-read c =
    opens paragon founded (rw (
      sym c.sees.ensures ∙ c.if-sees.false,
      sym c.sees-else-sees.ensures ∙ c.if-sees-2.true,
    )) c.boolean_type.ensures.read

pub returns-then-sees-3-clause-read : goal.returns-then-sees-3-clause-read
returns-then-sees-3-clause-read c =
    opens paragon founded
    (rw (
      sym c.sees.ensures ∙ c.if-sees.false,
      sym c.sees-else-sees.ensures ∙ c.if-sees-2.false,
      sym c.sees-else-sees-2.ensures ∙ c.if-sees-3.true,
    )) c.class_type.ensures.read

pub returns-else-sees-3-clause-read : goal.returns-else-sees-3-clause-read
returns-else-sees-3-clause-read c =
    refuses paragon founded
    (rw (
      sym c.sees.ensures ∙ c.if-sees.false,
      sym c.sees-else-sees.ensures ∙ c.if-sees-2.false,
      sym c.sees-else-sees-2.ensures ∙ c.if-sees-3.false,
    ))
