use Rattle.std.proofs.Common.{◌≡◌, map, take, is_some}
use Rattle.par_frame_passes.specs.Tables.{table_of}
use Rattle.par_frame_passes.proofs.told_frames.standing.Given as goal

-- those of the frames so far are told
abbrev pub invariant-loop-frame : goal.invariant-loop-frame
invariant-loop-frame l =
    l.marks.items ≡ map is_some (table_of (take l.frame-index l.table))
