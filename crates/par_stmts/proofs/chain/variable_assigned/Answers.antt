use Rattle.std.proofs.Common.{◌∷◌, [], sym, ap}
use Rattle.par_grammar.specs.Grammar as symbol
use Rattle.par_grammar.specs.declared.sort.Sort.TheVariants as sort
use Rattle.par_lexer.specs.declared.sign.TheConstants as signs
use Rattle.par_tree.specs.Grammar as g
use Rattle.par_tree.specs.Shown.{shown}
use Rattle.par_tree.specs.Values.{exp}
use Rattle.par_stmts.proofs.Built.{behind}
use Rattle.par_stmts.proofs.chain.variable_assigned.Goals as goal

pub returns-clause-read : goal.returns-clause-read
returns-clause-read c =
    behind g.Variable (symbol.kept (sort.Sign signs.ASSIGN) ∷ g.expr ∷ g.sign_ signs.SEMICOLON
    ∷ symbol.builds g.AssignStmt ∷ []) (exp (shown c.in_ok-target.target) ∷ [])
    (λ vs. ap (λ e. exp e ∷ vs) (sym c.in_ok-target.ensures)) c.assigned.ensures.read
