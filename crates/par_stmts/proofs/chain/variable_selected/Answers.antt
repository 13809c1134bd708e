use Rattle.std.proofs.Common.{◌∷◌, [], sym, ap}
use Rattle.par_tree.specs.Grammar as g
use Rattle.par_tree.specs.Shown.{shown}
use Rattle.par_tree.specs.Values.{exp}
use Rattle.par_stmts.proofs.Built.{behind}
use Rattle.par_stmts.proofs.chain.variable_selected.Goals as goal

pub returns-clause-read : goal.returns-clause-read
returns-clause-read c =
    behind g.Variable (g.selecting g.Chain) (exp (shown c.in_ok-of.of) ∷ [])
    (λ vs. ap (λ e. exp e ∷ vs) (sym c.in_ok-of.ensures)) c.member.ensures.read
