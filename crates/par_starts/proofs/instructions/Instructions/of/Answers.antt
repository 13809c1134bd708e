use Rattle.std.proofs.Common.{arith}
use Rattle.par_starts.proofs.Rows.{one_more, all_rows}
use Rattle.par_starts.proofs.instructions.Instructions.of.Goals as goal

pub loop-at-preserved : goal.loop-at-preserved
loop-at-preserved c =
    one_more c.args.code.now c.loop-at.rows.items _ c.loop-at.at c.row.result
    c.in_ok-push.ensures.items c.loop-at.invariant c.row.ensures

pub returns : goal.returns
returns c =
    all_rows c.args.code.now c.loop-at.rows.items c.loop-at.at c.loop-at.invariant (omega arith)
