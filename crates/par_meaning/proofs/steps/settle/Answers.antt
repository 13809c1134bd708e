use Rattle.par_meaning.specs.Onward.{setting}
use Rattle.std.proofs.Common.{◌∙◌}
use Rattle.par_meaning.proofs.Settled.{settled_goes, settled_waits, settled_over, resumed}
use Rattle.par_meaning.proofs.steps.settle.Goals as goal

pub returns-in-Goes : goal.returns-in-Goes
returns-in-Goes c = λ d n.
    settled_goes (setting c.args.program.now d) c.loop-then.work c.loop-then.machine
    c.loop-then.then _ n
    (c.loop-then.invariant d n) c.in-Goes.next c.in-Goes.is

pub returns-in-Waits : goal.returns-in-Waits
returns-in-Waits c = λ d n.
    settled_waits (setting c.args.program.now d) c.loop-then.work c.loop-then.machine
    c.loop-then.then _ n
    (c.loop-then.invariant d n) c.push.new.self c.in-Waits.waiting c.in-Waits.next c.in-Waits.is
    c.in_ok-push-in-Waits.ensures

pub returns-in-None : goal.returns-in-None
returns-in-None c = λ d n.
    settled_over (setting c.args.program.now d) c.loop-then.work c.loop-then.machine
    c.loop-then.then _ n
    (c.loop-then.invariant d n) c.pop.new.self c.in-Ends.completion c.in-Ends.is c.in-None.ensures

pub loop-then-preserved : goal.loop-then-preserved
loop-then-preserved c = λ d n.
    resumed c.args.program.now c.loop-then.work c.pop.new.self c.loop-then.machine
    c.resume.new.machine
    c.loop-then.then c.in_ok-then-in-Some.then c.in-Some.waiting c.in-Ends.completion
    c.in-Ends.is c.in-Some.ensures c.in_ok-then-in-Some.ensures d n
    ∙ c.loop-then.invariant d n
