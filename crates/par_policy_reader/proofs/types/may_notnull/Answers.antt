use Rattle.std.proofs.Common.{◌∙◌, refl, sym}
use Rattle.par_reader.proofs.Alternatives.{building, opens}
use Rattle.par_tree.specs.Grammar as g
use Rattle.par_tree.specs.Values.{paragon}
use Rattle.par_tree.proofs.Founded.{founded}
use Rattle.par_policy_reader.proofs.types.may_notnull.Goals as goal

pub returns-then-sees-clause-read : goal.returns-then-sees-clause-read
returns-then-sees-clause-read c =
    opens paragon founded (rw (sym c.sees.ensures ∙ c.if-sees.true)) c.notnull.ensures.read

pub returns-else-sees-clause-read : goal.returns-else-sees-clause-read
returns-else-sees-clause-read c =
    opens paragon founded (rw (sym c.sees.ensures ∙ c.if-sees.false))
    (building paragon founded g.MayBeNull (λ vs. refl))
