use Rattle.std.proofs.Common.{sym, ◌∙◌, arith}
use Rattle.par_bits.specs.Sets.{has}
use Rattle.par_audit.proofs.Released.{where_one, where_none}
use Rattle.par_audit.proofs.row.Row.ask_all.Goals as goal

pub returns-then-ask-clause-released : goal.returns-then-ask-clause-released
returns-then-ask-clause-released c =
    sym (where_one c.args.policies.now (has c.args.set.now) c.args.actor c.loop-number.number
    c.loop-number-test.true (sym c.has.ensures ∙ c.if-has.true) c.args.q.now
    (sym c.ask.ensures.released ∙ c.if-ask.true))

pub returns-clause-released : goal.returns-clause-released
returns-clause-released c =
    sym (where_none c.args.policies.now (has c.args.set.now) c.args.actor c.args.q.now
    (λ n less held. c.loop-number.invariant.1 n
    (omega (arith, less, c.loop-number-test.false)) held))
