use Rattle.std.proofs.Common.{◌∙◌, sym}
use Rattle.par_link.specs.Stops.{is_cut}
use Rattle.par_link.proofs.Stopping.{stop-found, stop-past, stop-ended}
use Rattle.par_link.proofs.walk.first_cut.Goals as goal

pub returns-in-Some : goal.returns-in-Some
returns-in-Some c =
    sym (stop-found is_cut c.args.methods.now c.loop-method.method-index c.method-item.result
    c.in-Some.at c.loop-method-test.true c.method-item.is c.in-Some.ensures)
    ∙ c.loop-method.invariant

pub loop-method-preserved : goal.loop-method-preserved
loop-method-preserved c =
    stop-past is_cut c.args.methods.now c.loop-method.method-index c.method-item.result
    c.loop-method-test.true c.method-item.is c.in-None.ensures
    ∙ c.loop-method.invariant

pub returns : goal.returns
returns c =
    sym (stop-ended is_cut c.args.methods.now c.loop-method.method-index c.loop-method-test.false)
    ∙ c.loop-method.invariant
