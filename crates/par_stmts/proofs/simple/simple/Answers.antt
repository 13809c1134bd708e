use Rattle.std.proofs.Common.{◌∙◌, sym}
use Rattle.par_policy_reader.proofs.par_reader.Alternatives.{opens, refuses}
use Rattle.par_tree.specs.Values.{paragon}
use Rattle.par_tree.proofs.Founded.{founded}
use Rattle.par_stmts.proofs.simple.simple.Goals as goal

pub returns-then-sees-clause-read : goal.returns-then-sees-clause-read
returns-then-sees-clause-read c = opens paragon founded
    (rw (
      c.requires.brace,
      c.requires.if_,
      c.requires.while_,
      c.requires.try_,
      c.requires.when_,
      sym c.sees.ensures ∙ c.if-sees.true,
    ))
    c.returned.ensures.read

pub returns-then-sees-2-clause-read : goal.returns-then-sees-2-clause-read
returns-then-sees-2-clause-read c = opens paragon founded
    (rw (
      c.requires.brace,
      c.requires.if_,
      c.requires.while_,
      c.requires.try_,
      c.requires.when_,
      sym c.sees.ensures ∙ c.if-sees.false,
      sym c.sees-else-sees.ensures ∙ c.if-sees-2.true,
    ))
    c.broken.ensures.read

pub returns-then-sees-3-clause-read : goal.returns-then-sees-3-clause-read
returns-then-sees-3-clause-read c = opens paragon founded
    (rw (
      c.requires.brace,
      c.requires.if_,
      c.requires.while_,
      c.requires.try_,
      c.requires.when_,
      sym c.sees.ensures ∙ c.if-sees.false,
      sym c.sees-else-sees.ensures ∙ c.if-sees-2.false,
      sym c.sees-else-sees-2.ensures ∙ c.if-sees-3.true,
    ))
    c.continued.ensures.read

pub returns-then-sees-4-clause-read : goal.returns-then-sees-4-clause-read
returns-then-sees-4-clause-read c = opens paragon founded
    (rw (
      c.requires.brace,
      c.requires.if_,
      c.requires.while_,
      c.requires.try_,
      c.requires.when_,
      sym c.sees.ensures ∙ c.if-sees.false,
      sym c.sees-else-sees.ensures ∙ c.if-sees-2.false,
      sym c.sees-else-sees-2.ensures ∙ c.if-sees-3.false,
      sym c.sees-else-sees-3.ensures ∙ c.if-sees-4.true,
    ))
    c.thrown.ensures.read

pub returns-then-sees-5-clause-read : goal.returns-then-sees-5-clause-read
returns-then-sees-5-clause-read c = opens paragon founded
    (rw (
      c.requires.brace,
      c.requires.if_,
      c.requires.while_,
      c.requires.try_,
      c.requires.when_,
      sym c.sees.ensures ∙ c.if-sees.false,
      sym c.sees-else-sees.ensures ∙ c.if-sees-2.false,
      sym c.sees-else-sees-2.ensures ∙ c.if-sees-3.false,
      sym c.sees-else-sees-3.ensures ∙ c.if-sees-4.false,
      sym c.sees-else-sees-4.ensures ∙ c.if-sees-5.true,
    ))
    c.opened.ensures.read

pub returns-then-sees-6-clause-read : goal.returns-then-sees-6-clause-read
returns-then-sees-6-clause-read c = opens paragon founded
    (rw (
      c.requires.brace,
      c.requires.if_,
      c.requires.while_,
      c.requires.try_,
      c.requires.when_,
      sym c.sees.ensures ∙ c.if-sees.false,
      sym c.sees-else-sees.ensures ∙ c.if-sees-2.false,
      sym c.sees-else-sees-2.ensures ∙ c.if-sees-3.false,
      sym c.sees-else-sees-3.ensures ∙ c.if-sees-4.false,
      sym c.sees-else-sees-4.ensures ∙ c.if-sees-5.false,
      sym c.sees-else-sees-5.ensures ∙ c.if-sees-6.true,
    ))
    c.closed.ensures.read

pub returns-then-sees-7-clause-read : goal.returns-then-sees-7-clause-read
returns-then-sees-7-clause-read c = opens paragon founded
    (rw (
      c.requires.brace,
      c.requires.if_,
      c.requires.while_,
      c.requires.try_,
      c.requires.when_,
      sym c.sees.ensures ∙ c.if-sees.false,
      sym c.sees-else-sees.ensures ∙ c.if-sees-2.false,
      sym c.sees-else-sees-2.ensures ∙ c.if-sees-3.false,
      sym c.sees-else-sees-3.ensures ∙ c.if-sees-4.false,
      sym c.sees-else-sees-4.ensures ∙ c.if-sees-5.false,
      sym c.sees-else-sees-5.ensures ∙ c.if-sees-6.false,
      sym c.sees-else-sees-6.ensures ∙ c.if-sees-7.true,
    ))
    c.policy_local.ensures.read

pub returns-then-sees-8-clause-read : goal.returns-then-sees-8-clause-read
returns-then-sees-8-clause-read c = opens paragon founded
    (rw (
      c.requires.brace,
      c.requires.if_,
      c.requires.while_,
      c.requires.try_,
      c.requires.when_,
      sym c.sees.ensures ∙ c.if-sees.false,
      sym c.sees-else-sees.ensures ∙ c.if-sees-2.false,
      sym c.sees-else-sees-2.ensures ∙ c.if-sees-3.false,
      sym c.sees-else-sees-3.ensures ∙ c.if-sees-4.false,
      sym c.sees-else-sees-4.ensures ∙ c.if-sees-5.false,
      sym c.sees-else-sees-5.ensures ∙ c.if-sees-6.false,
      sym c.sees-else-sees-6.ensures ∙ c.if-sees-7.false,
      sym c.sees-else-sees-7.ensures ∙ c.if-sees-8.true,
    ))
    c.notnull_local.ensures.read

pub returns-then-sees-9-clause-read : goal.returns-then-sees-9-clause-read
returns-then-sees-9-clause-read c = opens paragon founded
    (rw (
      c.requires.brace,
      c.requires.if_,
      c.requires.while_,
      c.requires.try_,
      c.requires.when_,
      sym c.sees.ensures ∙ c.if-sees.false,
      sym c.sees-else-sees.ensures ∙ c.if-sees-2.false,
      sym c.sees-else-sees-2.ensures ∙ c.if-sees-3.false,
      sym c.sees-else-sees-3.ensures ∙ c.if-sees-4.false,
      sym c.sees-else-sees-4.ensures ∙ c.if-sees-5.false,
      sym c.sees-else-sees-5.ensures ∙ c.if-sees-6.false,
      sym c.sees-else-sees-6.ensures ∙ c.if-sees-7.false,
      sym c.sees-else-sees-7.ensures ∙ c.if-sees-8.false,
      sym c.sees-else-sees-8.ensures ∙ c.if-sees-9.true,
    ))
    c.typed_local.ensures.read

pub returns-then-sees-10-clause-read : goal.returns-then-sees-10-clause-read
returns-then-sees-10-clause-read c = opens paragon founded
    (rw (
      c.requires.brace,
      c.requires.if_,
      c.requires.while_,
      c.requires.try_,
      c.requires.when_,
      sym c.sees.ensures ∙ c.if-sees.false,
      sym c.sees-else-sees.ensures ∙ c.if-sees-2.false,
      sym c.sees-else-sees-2.ensures ∙ c.if-sees-3.false,
      sym c.sees-else-sees-3.ensures ∙ c.if-sees-4.false,
      sym c.sees-else-sees-4.ensures ∙ c.if-sees-5.false,
      sym c.sees-else-sees-5.ensures ∙ c.if-sees-6.false,
      sym c.sees-else-sees-6.ensures ∙ c.if-sees-7.false,
      sym c.sees-else-sees-7.ensures ∙ c.if-sees-8.false,
      sym c.sees-else-sees-8.ensures ∙ c.if-sees-9.false,
      sym c.sees-else-sees-9.ensures ∙ c.if-sees-10.true,
    ))
    c.typed_local-then-sees-10.ensures.read

pub returns-then-sees-11-clause-read : goal.returns-then-sees-11-clause-read
returns-then-sees-11-clause-read c = opens paragon founded
    (rw (
      c.requires.brace,
      c.requires.if_,
      c.requires.while_,
      c.requires.try_,
      c.requires.when_,
      sym c.sees.ensures ∙ c.if-sees.false,
      sym c.sees-else-sees.ensures ∙ c.if-sees-2.false,
      sym c.sees-else-sees-2.ensures ∙ c.if-sees-3.false,
      sym c.sees-else-sees-3.ensures ∙ c.if-sees-4.false,
      sym c.sees-else-sees-4.ensures ∙ c.if-sees-5.false,
      sym c.sees-else-sees-5.ensures ∙ c.if-sees-6.false,
      sym c.sees-else-sees-6.ensures ∙ c.if-sees-7.false,
      sym c.sees-else-sees-7.ensures ∙ c.if-sees-8.false,
      sym c.sees-else-sees-8.ensures ∙ c.if-sees-9.false,
      sym c.sees-else-sees-9.ensures ∙ c.if-sees-10.false,
      sym c.sees-else-sees-10.ensures ∙ c.if-sees-11.true,
    ))
    c.effect_of_name.ensures.read

pub returns-then-sees-12-clause-read : goal.returns-then-sees-12-clause-read
returns-then-sees-12-clause-read c = opens paragon founded
    (rw (
      c.requires.brace,
      c.requires.if_,
      c.requires.while_,
      c.requires.try_,
      c.requires.when_,
      sym c.sees.ensures ∙ c.if-sees.false,
      sym c.sees-else-sees.ensures ∙ c.if-sees-2.false,
      sym c.sees-else-sees-2.ensures ∙ c.if-sees-3.false,
      sym c.sees-else-sees-3.ensures ∙ c.if-sees-4.false,
      sym c.sees-else-sees-4.ensures ∙ c.if-sees-5.false,
      sym c.sees-else-sees-5.ensures ∙ c.if-sees-6.false,
      sym c.sees-else-sees-6.ensures ∙ c.if-sees-7.false,
      sym c.sees-else-sees-7.ensures ∙ c.if-sees-8.false,
      sym c.sees-else-sees-8.ensures ∙ c.if-sees-9.false,
      sym c.sees-else-sees-9.ensures ∙ c.if-sees-10.false,
      sym c.sees-else-sees-10.ensures ∙ c.if-sees-11.false,
      sym c.sees-else-sees-11.ensures ∙ c.if-sees-12.true,
    ))
    c.effect_of_this.ensures.read

pub returns-else-sees-12-clause-read : goal.returns-else-sees-12-clause-read
returns-else-sees-12-clause-read c = refuses paragon founded
    (rw (
      c.requires.brace,
      c.requires.if_,
      c.requires.while_,
      c.requires.try_,
      c.requires.when_,
      sym c.sees.ensures ∙ c.if-sees.false,
      sym c.sees-else-sees.ensures ∙ c.if-sees-2.false,
      sym c.sees-else-sees-2.ensures ∙ c.if-sees-3.false,
      sym c.sees-else-sees-3.ensures ∙ c.if-sees-4.false,
      sym c.sees-else-sees-4.ensures ∙ c.if-sees-5.false,
      sym c.sees-else-sees-5.ensures ∙ c.if-sees-6.false,
      sym c.sees-else-sees-6.ensures ∙ c.if-sees-7.false,
      sym c.sees-else-sees-7.ensures ∙ c.if-sees-8.false,
      sym c.sees-else-sees-8.ensures ∙ c.if-sees-9.false,
      sym c.sees-else-sees-9.ensures ∙ c.if-sees-10.false,
      sym c.sees-else-sees-10.ensures ∙ c.if-sees-11.false,
      sym c.sees-else-sees-11.ensures ∙ c.if-sees-12.false,
    ))
