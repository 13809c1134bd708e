use Rattle.std.proofs.Common.{add-one, sym, ◌∙◌, ap, drop, arith}
use Rattle.par_step_laws.specs.Handlers.{caught}
use Rattle.par_unwinding.specs.Shown.{frames_of}
use Rattle.par_unwinding.proofs.Passing.{passed, landed, passed_all, there, point_on}
use Rattle.par_unwinding.proofs.landings.landing_of.Goals as goal

pub returns-in-Some-handled-clause-taken : goal.returns-in-Some-handled-clause-taken
returns-in-Some-handled-clause-taken c =
    let at = sym c.in-Some.ensures in
    record {
      there = there c.args.stack.now c.loop-above.above c.in-Some.point at;
      point =
          point_on c.args.stack.now c.loop-above.above c.in-Some.point c.in-Some-handled.point.at at
          ∙ sym c.in-Some-handled.ensures.same;
      caught =
          c.loop-above.invariant
          ∙ landed c.args.linked.now c.args.thrown c.args.stack.now c.loop-above.above
          c.in-Some.point c.in-Some-handled.point.at at
          (sym c.in-Some-handled.ensures.at);
    }

pub loop-above-preserved : goal.loop-above-preserved
loop-above-preserved c =
    c.loop-above.invariant
    ∙ passed c.args.linked.now c.args.thrown c.args.stack.now c.loop-above.above c.in-Some.point
    (sym c.in-Some.ensures)
    (sym c.in_default-handled.ensures.at)
    ∙ ap (λ k. caught c.args.linked.now c.args.thrown (frames_of (drop k c.args.stack.now)))
    (sym (add-one c.loop-above.above))

pub returns-clause-uncaught : goal.returns-clause-uncaught
returns-clause-uncaught c =
    c.loop-above.invariant ∙ passed_all c.args.linked.now c.args.thrown c.args.stack.now
    c.loop-above.above (omega (arith, c.depth-above-end.ensures, c.loop-above.auto.above-end))
