use Rattle.std.proofs.Common.{◌+◌, ◌<◌, Bool, ◌&&◌, length, reverse, drop, sym, ap, ◌∙◌, arith}
use Rattle.par_stack.specs.Frames.{running}
use Rattle.par_actions.specs.declared.fit.Fit.TheVariants.{Number}
use Rattle.par_actions.specs.Callee.{accept_all}
use Rattle.par_actions.proofs.Calling.{one_step, no_more_operands}
use Rattle.par_actions.proofs.calls.are_taken.Goals as goal

pub returns-in_default : goal.returns-in_default
returns-in_default c =
    sym (no_more_operands (drop c.loop-after.after (reverse c.args.takes.now))
    (running c.args.stack.now).operands c.loop-after.after (sym c.in_default.ensures))
    ∙ c.loop-after.invariant

pub returns-then-not-accepts : goal.returns-then-not-accepts
returns-then-not-accepts c =
    let takes = c.args.takes.now in
    let vs = (running c.args.stack.now).operands in
    let after = c.loop-after.after in
    let within : after < length takes = omega arith in
    sym (
    one_step takes after Number within vs c.in-Some.value (sym c.in-Some.ensures)
    ∙ ap (λ (b : Bool). b && accept_all (drop (after + 1) (reverse takes)) (drop (after + 1) vs))
    (sym c.accepts.ensures ∙ c.if-not-accepts.true)
    ) ∙ c.loop-after.invariant

pub loop-after-preserved : goal.loop-after-preserved
loop-after-preserved c =
    let takes = c.args.takes.now in
    let vs = (running c.args.stack.now).operands in
    let after = c.loop-after.after in
    let within : after < length takes = omega arith in
    sym (
    one_step takes after Number within vs c.in-Some.value (sym c.in-Some.ensures)
    ∙ ap (λ (b : Bool). b && accept_all (drop (after + 1) (reverse takes)) (drop (after + 1) vs))
    (sym c.accepts.ensures ∙ c.if-not-accepts.false)
    ) ∙ c.loop-after.invariant
