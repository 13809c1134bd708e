use Rattle.std.proofs.Common.{◌∙◌, refl, sym}
use Rattle.par_reader.proofs.Alternatives.{keeping, opens}
use Rattle.par_tree.specs.Values.{paragon}
use Rattle.par_tree.proofs.Founded.{founded}
use Rattle.par_policy_reader.proofs.lock.second_ident.Goals as goal

pub returns-then-sees-clause-read : goal.returns-then-sees-clause-read
returns-then-sees-clause-read c =
    opens paragon founded (rw (sym c.sees.ensures ∙ c.if-sees.true)) c.another_ident.ensures.read

pub returns-else-sees-clause-read : goal.returns-else-sees-clause-read
returns-else-sees-clause-read c =
    opens paragon founded (rw (sym c.sees.ensures ∙ c.if-sees.false))
    (keeping paragon founded (λ vs. refl))
