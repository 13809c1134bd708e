use Rattle.std.proofs.Common.{◌∙◌, sym, refl}
use Rattle.par_policy_reader.proofs.par_reader.Alternatives.{opens, building}
use Rattle.par_tree.specs.Grammar as g
use Rattle.par_tree.specs.Values.{paragon}
use Rattle.par_tree.proofs.Founded.{founded}
use Rattle.par_stmts.proofs.simple.may_value.Goals as goal

pub returns-then-sees-clause-read : goal.returns-then-sees-clause-read
returns-then-sees-clause-read c =
    opens paragon founded (rw (sym c.sees.ensures ∙ c.if-sees.true))
    (building paragon founded g.NoValue (λ vs. refl))

pub returns-else-sees-clause-read : goal.returns-else-sees-clause-read
returns-else-sees-clause-read c =
    opens paragon founded (rw (sym c.sees.ensures ∙ c.if-sees.false)) c.some_value.ensures.read
