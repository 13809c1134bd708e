use Rattle.std.proofs.Common.{◌∙◌, sym}
use Rattle.par_policy_reader.proofs.par_reader.Alternatives.{opens, refuses}
use Rattle.par_tree.specs.Values.{paragon}
use Rattle.par_tree.proofs.Founded.{founded}
use Rattle.par_stmts.proofs.chain.name_tail.Goals as goal

pub returns-then-sees-clause-read : goal.returns-then-sees-clause-read
returns-then-sees-clause-read c =
    opens paragon founded (rw (sym c.sees.ensures ∙ c.if-sees.true)) c.class_local.ensures.read

pub returns-then-sees-2-clause-read : goal.returns-then-sees-2-clause-read
returns-then-sees-2-clause-read c =
    opens paragon founded (rw (
      sym c.sees.ensures ∙ c.if-sees.false,
      sym c.sees-else-sees.ensures ∙ c.if-sees-2.true,
    )) c.variable_assigned.ensures.read

pub returns-then-sees-3-clause-read : goal.returns-then-sees-3-clause-read
returns-then-sees-3-clause-read c = opens paragon founded
    (rw (
      sym c.sees.ensures ∙ c.if-sees.false,
      sym c.sees-else-sees.ensures ∙ c.if-sees-2.false,
      sym c.sees-else-sees-2.ensures ∙ c.if-sees-3.true,
    ))
    c.variable_selected.ensures.read

pub returns-then-sees-4-clause-read : goal.returns-then-sees-4-clause-read
returns-then-sees-4-clause-read c = opens paragon founded
    (rw (
      sym c.sees.ensures ∙ c.if-sees.false,
      sym c.sees-else-sees.ensures ∙ c.if-sees-2.false,
      sym c.sees-else-sees-2.ensures ∙ c.if-sees-3.false,
      sym c.sees-else-sees-3.ensures ∙ c.if-sees-4.true,
    ))
    c.own_call.ensures.read

pub returns-else-sees-4-clause-read : goal.returns-else-sees-4-clause-read
returns-else-sees-4-clause-read c = refuses paragon founded
    (rw (
      sym c.sees.ensures ∙ c.if-sees.false,
      sym c.sees-else-sees.ensures ∙ c.if-sees-2.false,
      sym c.sees-else-sees-2.ensures ∙ c.if-sees-3.false,
      sym c.sees-else-sees-3.ensures ∙ c.if-sees-4.false,
    ))
