use Rattle.std.proofs.Common.{◌∙◌, ap, map}
use Rattle.std.proofs.lemmas.List.{take_all}
use Rattle.par_locks.proofs.Open.{entered, rows_entered}
use Rattle.par_locks.proofs.locks.all_entering.Goals as goal

pub returns : goal.returns
returns c =
    rows_entered c.loop-row.locks.items c.args.rows.now
    (c.loop-row.invariant ∙ ap (map entered)
    (take_all c.loop-row.row-index c.args.rows.now c.loop-row-test.false))
