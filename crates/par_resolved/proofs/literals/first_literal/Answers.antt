use Rattle.std.proofs.Common.{◌∙◌}
use Rattle.par_resolved.specs.Sizes.{literal_faults}
use Rattle.par_resolved.proofs.Found.{note_more, noted_all}
use Rattle.par_resolved.proofs.literals.first_literal.Goals as goal

pub loop-e-preserved : goal.loop-e-preserved
loop-e-preserved c =
    note_more literal_faults c.args.exprs.now c.loop-e.e-index c.e-item.result c.loop-e.findings
    c.check_literals.new.findings _ c.loop-e-test.true c.e-item.is
    c.check_literals.ensures c.loop-e.invariant

pub returns : goal.returns
returns c =
    c.first.ensures ∙ noted_all literal_faults c.args.exprs.now c.loop-e.e-index c.loop-e.findings _
    c.loop-e-test.false c.loop-e.invariant
