use Rattle.std.proofs.Common.{◌≡◌, take}
use Rattle.par_source_state.specs.Lined.{rows_of, rows_shown}
use Rattle.par_source_state.proofs.lines.each_row.Given as goal

abbrev pub invariant-loop-class : goal.invariant-loop-class
invariant-loop-class l =
    rows_shown l.rows ≡ rows_of l.lines.all.now (take l.class-index l.classes)
