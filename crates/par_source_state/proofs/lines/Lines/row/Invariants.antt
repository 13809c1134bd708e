use Rattle.std.proofs.Common.{◌≡◌, take}
use Rattle.par_source_state.specs.Lined.{row_of, row_shown}
use Rattle.par_source_state.proofs.lines.Lines.row.Given as goal

abbrev pub invariant-loop-channel : goal.invariant-loop-channel
invariant-loop-channel l =
    row_shown l.row ≡ row_of l.self.all.now l.class (take l.channel-index l.channels)
