use Rattle.std.proofs.Common.{◌∙◌, ◌∷◌, [], sym, ap}
use Rattle.par_policy_reader.proofs.par_reader.Alternatives.{opens, refuses}
use Rattle.par_tree.specs.Grammar as g
use Rattle.par_tree.specs.Shown.{shown}
use Rattle.par_tree.specs.Values.{paragon, exp}
use Rattle.par_tree.proofs.Founded.{founded}
use Rattle.par_stmts.proofs.Built.{behind}
use Rattle.par_stmts.proofs.chain.+chain.Goals as goal

pub chain-returns-then-sees-clause-read : goal.chain-returns-then-sees-clause-read
chain-returns-then-sees-clause-read t c =
    opens paragon founded (rw (sym c.sees.ensures ∙ c.if-sees.true)) c.member_assigned.ensures.read

pub chain-returns-then-sees-2-clause-read : goal.chain-returns-then-sees-2-clause-read
chain-returns-then-sees-2-clause-read t c =
    opens paragon founded (rw (
      sym c.sees.ensures ∙ c.if-sees.false,
      sym c.sees-else-sees.ensures ∙ c.if-sees-2.true,
    )) c.member_selected.ensures.read

pub chain-returns-then-sees-3-clause-read : goal.chain-returns-then-sees-3-clause-read
chain-returns-then-sees-3-clause-read t c = opens paragon founded
    (rw (
      sym c.sees.ensures ∙ c.if-sees.false,
      sym c.sees-else-sees.ensures ∙ c.if-sees-2.false,
      sym c.sees-else-sees-2.ensures ∙ c.if-sees-3.true,
    ))
    c.member_call.ensures.read

pub chain-returns-else-sees-3-clause-read : goal.chain-returns-else-sees-3-clause-read
chain-returns-else-sees-3-clause-read t c = refuses paragon founded
    (rw (
      sym c.sees.ensures ∙ c.if-sees.false,
      sym c.sees-else-sees.ensures ∙ c.if-sees-2.false,
      sym c.sees-else-sees-2.ensures ∙ c.if-sees-3.false,
    ))

pub member_selected-returns-clause-read : goal.member_selected-returns-clause-read
member_selected-returns-clause-read t c =
    behind g.Select (g.selecting g.Chain) (exp (shown c.in_ok-of.of) ∷ [])
    (λ vs. ap (λ e. exp e ∷ vs) (sym c.in_ok-of.ensures)) c.member.ensures.read

pub call_tail-returns-then-sees-clause-read : goal.call_tail-returns-then-sees-clause-read
call_tail-returns-then-sees-clause-read t c =
    opens paragon founded (rw (sym c.sees.ensures ∙ c.if-sees.true)) c.member.ensures.read

pub call_tail-returns-else-sees-clause-read : goal.call_tail-returns-else-sees-clause-read
call_tail-returns-else-sees-clause-read t c =
    opens paragon founded (rw (sym c.sees.ensures ∙ c.if-sees.false)) c.ended_call.ensures.read
