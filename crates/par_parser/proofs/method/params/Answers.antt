use Rattle.std.proofs.Common.{◌∙◌, ◌∷◌, ap, sym}
use Rattle.par_stmts.proofs.par_reader.Alternatives.{building, opens}
use Rattle.par_tree.specs.Grammar as g
use Rattle.par_tree.specs.Values as value
use Rattle.par_tree.specs.Values.{paragon}
use Rattle.par_tree.proofs.Founded.{founded}
use Rattle.par_parser.proofs.method.params.Goals as goal

pub returns-then-sees-clause-read : goal.returns-then-sees-clause-read
returns-then-sees-clause-read c =
    opens paragon founded (rw (sym c.sees.ensures ∙ c.if-sees.true))
    (building paragon founded g.NoParams
    (λ vs. ap (λ found. value.listed found ∷ vs) (sym c.new.ensures)))

pub returns-else-sees-clause-read : goal.returns-else-sees-clause-read
returns-else-sees-clause-read c =
    opens paragon founded (rw (sym c.sees.ensures ∙ c.if-sees.false)) c.some_params.ensures.read
