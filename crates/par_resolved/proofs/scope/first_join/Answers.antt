use Rattle.std.proofs.Common.{◌∙◌}
use Rattle.par_resolved.specs.Sizes.{expression_faults}
use Rattle.par_resolved.specs.Seen.{known_seen}
use Rattle.par_resolved.proofs.Found.{note_more, noted_all}
use Rattle.par_resolved.proofs.scope.first_join.Goals as goal

pub loop-e-preserved : goal.loop-e-preserved
loop-e-preserved c =
    note_more (expression_faults (known_seen c.args.known.now)) c.args.exprs.now c.loop-e.e-index
    c.e-item.result c.loop-e.findings c.note_first.new.findings _ c.loop-e-test.true c.e-item.is
    c.in_ok-note_first.ensures c.loop-e.invariant

pub returns : goal.returns
returns c =
    c.first.ensures
    ∙ noted_all (expression_faults (known_seen c.args.known.now)) c.args.exprs.now c.loop-e.e-index
    c.loop-e.findings _ c.loop-e-test.false c.loop-e.invariant
